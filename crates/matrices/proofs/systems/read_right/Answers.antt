use Rattle.std.proofs.Common.{◌+◌, ◌*◌, arith}
use Rattle.std.proofs.lemmas.List.Edits.{length-between}
use Rattle.matrices.proofs.RowWrites.{row_below}
use Rattle.matrices.proofs.Blocks.{row_written, right_more}
use Rattle.matrices.proofs.systems.read_right.Goals as goal

pub loop-i-preserved : goal.loop-i-preserved
loop-i-preserved c =
    let i = c.loop-i.i in
    let n = c.args.order in
    let a = row_below i n n c.loop-i-test.true in
    let b = row_below i n (n + n) c.loop-i-test.true in
    let l = length-between c.args.rows.now (i * (n + n) + n) (i * (n + n) + n + n) (omega arith) in
    right_more c.args.rows.now c.loop-i.block _ n i (omega arith) c.loop-i.invariant (row_written c.loop-i.block c.copy_from_slice.new.self _ (i * n) _ c.copy_from_slice.ensures.after (omega arith) (omega arith))
