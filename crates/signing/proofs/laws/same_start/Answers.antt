use Rattle.signing.proofs.SignatureLaws.{same_start}
use Rattle.signing.proofs.laws.same_start.Goals as goal

pub returns : goal.returns
returns g c = same_start (g.R.Ring.ring c.args.ring.now) (g.met.R.Ring.laws c.args.ring.now)
