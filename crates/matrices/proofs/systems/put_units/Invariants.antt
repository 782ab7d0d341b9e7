use Rattle.matrices.specs.Arrays.{UnitsBeside}
use Rattle.matrices.proofs.systems.put_units.Given as goal

abbrev pub invariant-loop-i : goal.invariant-loop-i
invariant-loop-i l = UnitsBeside l.initial.rows l.rows l.order l.i
