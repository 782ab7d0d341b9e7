use Rattle.std.proofs.Common.{arith}
use Rattle.matrices.proofs.RowWrites.{row_room}
use Rattle.matrices.proofs.RowSums.{multiply_more}
use Rattle.matrices.proofs.products.multiply.Goals as goal

pub loop-i-preserved : goal.loop-i-preserved
loop-i-preserved g c =
    let i = c.loop-i.i in
    let k = c.args.inner in
    let m = c.args.columns in
    let la = row_room i c.args.rows k _ c.in_ok-fit.ensures c.loop-i-test.true in
    let lo = row_room i c.args.rows m _ c.in_ok-fit-3.ensures c.loop-i-test.true in
    multiply_more (g.R.Ring.ring c.args.ring.now) c.args.a.now c.args.b.now c.loop-i.product c.combine.new.row i k m _ (omega arith) (omega arith) (omega arith) c.combine.auto.row c.combine.ensures c.loop-i.invariant
