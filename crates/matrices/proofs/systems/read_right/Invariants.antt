use Rattle.matrices.specs.Arrays.{RightOf}
use Rattle.matrices.proofs.systems.read_right.Given as goal

abbrev pub invariant-loop-i : goal.invariant-loop-i
invariant-loop-i l = RightOf l.rows l.block l.order l.i
