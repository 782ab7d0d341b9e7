use Rattle.matrices.proofs.Columns.{determined}
use Rattle.matrices.proofs.elimination.answer_is_fixed.Goals as goal

pub returns : goal.returns
returns g c = determined (g.F.Ring.ring c.args.field.now)
