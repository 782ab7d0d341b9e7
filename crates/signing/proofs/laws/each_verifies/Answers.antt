use Rattle.signing.proofs.VerifiedBytes.{each_verifies_lem}
use Rattle.signing.proofs.laws.each_verifies.Goals as goal

pub returns : goal.returns
returns g c = each_verifies_lem (g.R.Ring.ring c.args.ring.now) (g.met.R.Ring.laws c.args.ring.now)
