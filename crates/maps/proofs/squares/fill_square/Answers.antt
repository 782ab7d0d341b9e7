use Rattle.std.proofs.Common.{◌+◌, ◌*◌, ◌≤◌, length, arith}
use Rattle.matrices.proofs.RowWrites.{row_below}
use Rattle.maps.proofs.RowFills.{fill_more}
use Rattle.maps.proofs.squares.fill_square.Goals as goal

pub loop-i-preserved : goal.loop-i-preserved
loop-i-preserved g c =
    let i = c.loop-i.i-counter in
    let n = c.args.n in
    let l = row_below i n n c.loop-i-test.true in
    let room : i * n + n ≤ length c.loop-i.matrix = omega arith in
    fill_more (goal.F-post g c.args.code) c.loop-i.matrix c.fill_row.new.row i n _ (omega arith) room c.fill_row.auto.row c.fill_row.ensures c.loop-i.invariant
