use Rattle.signing.proofs.SignatureLaws.{exactly_one_lem}
use Rattle.signing.proofs.laws.exactly_one.Goals as goal

pub returns : goal.returns
returns g c = exactly_one_lem (g.F.Ring.ring c.args.field.now) (g.met.F.Ring.laws c.args.field.now) (g.F.Field.inv c.args.field.now) (g.met.F.Field.inverses c.args.field.now)
