use Rattle.std.proofs.Common.{◌≡◌, length, arith}
use Rattle.matrices.specs.Arrays.{entry}
use Rattle.matrices.proofs.RowWrites.{row_room}
use Rattle.matrices.proofs.RowSums.{product_more}
use Rattle.matrices.proofs.products.multiply_transposed.Goals as goal

pub slice_bounds-combine-end : goal.slice_bounds-combine-end
slice_bounds-combine-end g c = omega (arith, row_room c.loop-i.i c.args.rows c.args.columns _ c.in_ok-fit-3.ensures c.loop-i-test.true)

pub loop-i-preserved : goal.loop-i-preserved
loop-i-preserved g c =
    let i = c.loop-i.i in
    let n = c.args.rows in
    let k = c.args.inner in
    let m = c.args.columns in
    let a = c.args.a.now in
    let lo = row_room i n m _ c.in_ok-fit-3.ensures c.loop-i-test.true in
    let len : length c.read_column.new.column ≡ k = omega arith in
    (omega arith, product_more (g.R.Ring.ring c.args.ring.now) (λ r t. entry a n t r) c.read_column.new.column c.args.b.now c.loop-i.product c.combine.new.row i k m _ (omega arith) len (λ t s. c.read_column.ensures t (omega arith)) (omega arith) c.combine.auto.row c.combine.ensures c.loop-i.invariant.1)
