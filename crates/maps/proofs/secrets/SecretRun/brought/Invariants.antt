use Rattle.std.proofs.Common.{◌≡◌, get_or}
use Rattle.algebra.specs.Sums.{dot_of}
use Rattle.maps.specs.SecretKeys.{mask_inverse}
use Rattle.maps.proofs.secrets.SecretRun.brought.Given as goal

abbrev pub invariant-loop-j : goal.invariant-loop-j
invariant-loop-j g l = l.s ≡ dot_of (g.R.Ring.ring l.self.ring.now) l.j (mask_inverse l.mask (g.R.Ring.ring l.self.ring.now) l.self.run.now l.self.shape l.i) (λ j. get_or l.x j 0)
