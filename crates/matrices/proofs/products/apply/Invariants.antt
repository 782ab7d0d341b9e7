use Rattle.std.proofs.Common.{◌≡◌, ℕ, ◌<◌, length, get_or}
use Rattle.algebra.specs.Sums.{dot_of}
use Rattle.matrices.specs.Arrays.{entry}
use Rattle.matrices.proofs.products.apply.Given as goal

abbrev pub invariant-loop-i : goal.invariant-loop-i
invariant-loop-i g l = (k : ℕ) → k < l.i → get_or l.image k 0 ≡ dot_of (g.R.Ring.ring l.ring) (length l.vector) (entry l.matrix (length l.vector) k) (λ j. get_or l.vector j 0)
