use Rattle.std.proofs.Common.{◌≡◌, length, get_or}
use Rattle.algebra.specs.Sums.{dot_of}
use Rattle.matrices.proofs.dots.dot.Given as goal

abbrev pub invariant-loop-x : goal.invariant-loop-x
invariant-loop-x g l = l.s ≡ dot_of (g.R.Ring.ring l.ring) (length l.yielded) (λ k. get_or l.a k 0) (λ k. get_or l.b k 0)
