use Rattle.signing.proofs.SignatureLaws.{starts_are_good_lem}
use Rattle.signing.proofs.laws.starts_are_good.Goals as goal

pub returns : goal.returns
returns g c = starts_are_good_lem (g.F.Ring.ring c.args.field.now) (g.met.F.Ring.laws c.args.field.now)
