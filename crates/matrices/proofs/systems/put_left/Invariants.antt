use Rattle.matrices.specs.Arrays.{LeftFrom}
use Rattle.matrices.proofs.systems.put_left.Given as goal

abbrev pub invariant-loop-i : goal.invariant-loop-i
invariant-loop-i l = LeftFrom l.system l.rows l.order l.i
