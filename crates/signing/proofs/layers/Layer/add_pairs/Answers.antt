use Rattle.std.proofs.Common.{◌<◌, length, arith}
use Rattle.signing.specs.Layers.{layer_forms}
use Rattle.signing.proofs.LayerSums.{central_below, pairs_start, pairs_more}
use Rattle.signing.proofs.layers.Layer.add_pairs.Goals as goal

pub loop-j-init : goal.loop-j-init
loop-j-init g c r h =
    let R = g.R.Ring.ring c.args.self.now.secret.now.ring.now in
    let L = g.met.R.Ring.laws c.args.self.now.secret.now.ring.now in
    pairs_start R L (layer_forms R.q c.args.self.now.secret.now.run.now c.args.self.now.secret.now.shape c.args.self.now.number) c.args.self.now.x.now r c.args.i _ (λ j l. central_below R.q c.args.self.now.secret.now.run.now c.args.self.now.secret.now.shape _ c.args.i j l) (c.requires.codes r)

pub loop-j-preserved : goal.loop-j-preserved
loop-j-preserved g c r h =
    let R = g.R.Ring.ring c.args.self.now.secret.now.ring.now in
    let L = g.met.R.Ring.laws c.args.self.now.secret.now.ring.now in
    let lc : r < length c.loop-j.sums = omega arith in
    let lr : r < length c.read_row.new.row = omega arith in
    pairs_more R L (layer_forms R.q c.args.self.now.secret.now.run.now c.args.self.now.secret.now.shape c.args.self.now.number) c.args.self.now.x.now r c.args.i c.loop-j.j _ c.product.result c.loop-j.sums c.read_row.new.row c.add_multiple.new.acc c.add_multiple.ensures lc lr c.product.ensures (c.read_row.ensures r h) (c.requires.codes r) (c.loop-j.invariant r h)
