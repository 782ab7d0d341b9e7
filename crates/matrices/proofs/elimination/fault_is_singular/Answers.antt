use Rattle.matrices.proofs.Columns.{faults_are_singular_lem}
use Rattle.matrices.proofs.elimination.fault_is_singular.Goals as goal

pub returns : goal.returns
returns g c = faults_are_singular_lem (g.F.Ring.ring c.args.field.now)
