use Rattle.std.proofs.Common.{◌≡◌, ℕ, ◌<◌, ◌≤◌}
use Rattle.matrices.specs.Arrays.{entry}
use Rattle.matrices.proofs.elimination.pivot.Given as goal

abbrev pub invariant-loop-row : goal.invariant-loop-row
invariant-loop-row g l = (i : ℕ) → l.column ≤ i → i < l.row → entry l.rows l.width i l.column ≡ 0
