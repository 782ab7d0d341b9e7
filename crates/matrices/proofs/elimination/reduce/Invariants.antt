use Rattle.std.proofs.Common.{◌+◌}
use Rattle.matrices.specs.Arrays.{Codes, entry}
use Rattle.algebra.proofs.Systems.{Kept}
use Rattle.matrices.proofs.elimination.reduce.Given as goal

abbrev pub invariant-loop-column : goal.invariant-loop-column
invariant-loop-column g l = Codes (g.F.Ring.ring l.field) l.rows × Kept (g.F.Ring.ring l.field) (g.met.F.Ring.laws l.field) l.order (l.order + l.right) l.column (entry l.initial.rows (l.order + l.right)) (entry l.rows (l.order + l.right))
