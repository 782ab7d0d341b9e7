use Rattle.std.proofs.Common.{◌≡◌, ℕ, ◌<◌, length, get_or}
use Rattle.algebra.specs.Sums.{dot_of}
use Rattle.matrices.specs.Arrays.{entry}
use Rattle.matrices.proofs.products.combine.Given as goal

abbrev pub invariant-loop-k : goal.invariant-loop-k
invariant-loop-k g l = (j : ℕ) → j < length l.initial.row → get_or l.row j 0 ≡ dot_of (g.R.Ring.ring l.ring) l.k (λ t. get_or l.factors t 0) (λ t. entry l.b (length l.initial.row) t j)
