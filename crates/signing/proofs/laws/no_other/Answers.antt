use Rattle.signing.proofs.VerifiedBytes.{no_other}
use Rattle.signing.proofs.laws.no_other.Goals as goal

pub returns : goal.returns
returns g c = no_other (g.F.Ring.ring c.args.field.now) (g.met.F.Ring.laws c.args.field.now) (g.F.Field.inv c.args.field.now) (g.met.F.Field.inverses c.args.field.now)
