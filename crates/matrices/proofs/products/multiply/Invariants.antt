use Rattle.std.proofs.Common.{◌≡◌, ℕ, ◌<◌}
use Rattle.algebra.specs.Sums.{dot_of}
use Rattle.matrices.specs.Arrays.{entry}
use Rattle.matrices.proofs.products.multiply.Given as goal

abbrev pub invariant-loop-i : goal.invariant-loop-i
invariant-loop-i g l = (r j : ℕ) → r < l.i → j < l.columns → entry l.product l.columns r j ≡ dot_of (g.R.Ring.ring l.ring) l.inner (entry l.a l.inner r) (λ t. entry l.b l.columns t j)
