use Rattle.matrices.proofs.Columns.{solves_one_lem}
use Rattle.matrices.proofs.systems.solve.Goals as goal

pub returns : goal.returns
returns g c =
    solves_one_lem (g.F.Ring.ring c.args.field.now) c.args.rows.now c.args.order c.eliminate.result c.eliminate.new.rows c.eliminate.ensures
