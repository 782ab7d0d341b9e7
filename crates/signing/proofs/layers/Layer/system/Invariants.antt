use Rattle.std.proofs.Common.{◌≡◌, ℕ, ◌<◌, ◌≤◌, get_or}
use Rattle.matrices.specs.Arrays.{entry}
use Rattle.maps.specs.SecretKeys.{group_size}
use Rattle.signing.specs.Layers.{system_entry}
use Rattle.signing.proofs.layers.Layer.system.Given as goal

abbrev pub invariant-loop-c : goal.invariant-loop-c
invariant-loop-c g l =
    ((r k : ℕ) → r < group_size l.self.secret.now.shape l.self.number → k < l.c → entry l.rows l.width r k ≡ system_entry (g.R.Ring.ring l.self.secret.now.ring.now) l.self.secret.now.run.now l.self.secret.now.shape l.self.number (λ i. get_or l.self.x.now i 0) r k)
    × ((r k : ℕ) → l.c ≤ k → k < l.width → entry l.rows l.width r k ≡ entry l.initial.rows l.width r k)
