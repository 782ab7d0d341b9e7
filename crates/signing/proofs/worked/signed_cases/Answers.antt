use Rattle.signing.proofs.SignedCases.{signed_cases}
use Rattle.signing.proofs.worked.signed_cases.Goals as goal

pub returns : goal.returns
returns c = signed_cases
