use Rattle.std.proofs.Common.{◌≡◌, ℕ, ◌<◌, get_or}
use Rattle.algebra.specs.Sums.{sum}
use Rattle.maps.specs.SecretKeys.{group_size}
use Rattle.signing.specs.Layers.{layer_forms}
use Rattle.signing.proofs.layers.Layer.add_pairs.Given as goal

abbrev pub invariant-loop-j : goal.invariant-loop-j
invariant-loop-j g l =
    let R = g.R.Ring.ring l.self.secret.now.ring.now in
    (r : ℕ) → r < group_size l.self.secret.now.shape l.self.number
    → get_or l.sums r 0 ≡ R.add (get_or l.initial.sums r 0) (sum R l.j (λ k. R.mul (layer_forms R.q l.self.secret.now.run.now l.self.secret.now.shape l.self.number r l.i k) (R.mul (get_or l.self.x.now l.i 0) (get_or l.self.x.now k 0))))
