use Rattle.std.proofs.Common.{◌≡◌}
use Rattle.algebra.specs.Sums.{dot_of}
use Rattle.maps.specs.SecretKeys.{block_t1, block_t3}
use Rattle.maps.proofs.secrets.SecretRun.second_code.Given as goal

abbrev pub invariant-loop-k : goal.invariant-loop-k
invariant-loop-k g l = l.s ≡ dot_of (g.R.Ring.ring l.self.ring.now) l.k (block_t1 (g.R.Ring.ring l.self.ring.now).q l.self.run.now l.self.shape l.i) (λ k. block_t3 (g.R.Ring.ring l.self.ring.now).q l.self.run.now l.self.shape k l.j)
