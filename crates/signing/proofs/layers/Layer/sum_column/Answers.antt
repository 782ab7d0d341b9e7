use Rattle.std.proofs.Common.{◌≡◌, ℕ, ◌+◌, ◌<◌, length, get_or, ◌∙◌, ap₂, arith}
use Rattle.algebra.specs.Sums.{sum}
use Rattle.algebra.specs.Layers.{layer_entry}
use Rattle.signing.specs.Layers.{layer_forms}
use Rattle.signing.proofs.LayerSums.{column_sum}
use Rattle.signing.proofs.layers.Layer.sum_column.Goals as goal

pub loop-i-preserved : goal.loop-i-preserved
loop-i-preserved g c r h =
    let R = g.R.Ring.ring c.args.self.now.secret.now.ring.now in
    let L = g.met.R.Ring.laws c.args.self.now.secret.now.ring.now in
    let lc : r < length c.loop-i.column = omega arith in
    let lr : r < length c.read_row.new.row = omega arith in
    column_sum R L (λ k. layer_forms R.q c.args.self.now.secret.now.run.now c.args.self.now.secret.now.shape c.args.self.now.number r k (length c.args.self.now.x.now + c.args.c)) c.args.self.now.x.now r c.loop-i.i c.loop-i.column c.read_row.new.row c.add_multiple.new.acc c.add_multiple.ensures lc lr (c.read_row.ensures r h) (c.loop-i.invariant r h)

pub returns : goal.returns
unfolding layer_entry
returns g c r h =
    let R = g.R.Ring.ring c.args.self.now.secret.now.ring.now in
    let all : c.loop-i.i ≡ length c.args.self.now.x.now = omega arith in
    c.loop-i.invariant r h
    ∙ ap₂ (λ (n m : ℕ). sum R n (λ k. R.mul (layer_forms R.q c.args.self.now.secret.now.run.now c.args.self.now.secret.now.shape c.args.self.now.number r k (m + c.args.c)) (get_or c.args.self.now.x.now k 0))) (all ∙ c.requires.layer.values) c.requires.layer.values
