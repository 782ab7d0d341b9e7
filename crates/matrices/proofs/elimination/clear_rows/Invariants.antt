use Rattle.std.proofs.Common.{ℕ, ◌≤◌, List}
use Rattle.matrices.specs.Arrays.{Cleared}
use Rattle.matrices.proofs.elimination.clear_rows.Given as goal

abbrev pub invariant-loop-row : goal.invariant-loop-row
invariant-loop-row g l = (begun : List ℕ) → Cleared (g.R.Ring.ring l.ring) begun l.initial.rows l.first l.width l.column → l.first ≤ l.row → Cleared (g.R.Ring.ring l.ring) begun l.rows l.row l.width l.column
