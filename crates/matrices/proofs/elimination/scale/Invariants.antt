use Rattle.std.proofs.Common.{◌≡◌, ℕ, ◌<◌, ◌≤◌, get_or}
use Rattle.matrices.proofs.elimination.scale.Given as goal

abbrev pub invariant-loop-code : goal.invariant-loop-code
invariant-loop-code g l = record {
  done : (k : ℕ) → k < l.code-index → get_or l.row k 0 ≡ (g.R.Ring.ring l.ring).mul l.factor (get_or l.initial.row k 0);
  rest : (k : ℕ) → l.code-index ≤ k → get_or l.row k 0 ≡ get_or l.initial.row k 0;
}
