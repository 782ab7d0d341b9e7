use Rattle.std.proofs.Common.{◌≡◌, ℕ, ◌<◌, get_or}
use Rattle.algebra.specs.Sums.{sum}
use Rattle.maps.specs.SecretKeys.{group_size}
use Rattle.signing.specs.Layers.{layer_forms}
use Rattle.signing.proofs.layers.Layer.sum_column.Given as goal

abbrev pub invariant-loop-i : goal.invariant-loop-i
invariant-loop-i g l =
    let R = g.R.Ring.ring l.self.secret.now.ring.now in
    (r : ℕ) → r < group_size l.self.secret.now.shape l.self.number → get_or l.column r 0 ≡ sum R l.i (λ k. R.mul (layer_forms R.q l.self.secret.now.run.now l.self.secret.now.shape l.self.number r k l.j) (get_or l.self.x.now k 0))
