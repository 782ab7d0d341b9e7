use Rattle.std.proofs.Common.{ℕ, ◌<◌}
use Rattle.matrices.specs.Arrays.{entry}
use Rattle.maps.proofs.squares.fill_square.Given as goal

abbrev pub invariant-loop-i : goal.invariant-loop-i
invariant-loop-i g l = (r j : ℕ) → r < l.i-counter → j < l.n → goal.F-post g l.code r j (entry l.matrix l.n r j)
