use Rattle.std.proofs.Common.{◌+◌, ◌*◌, ◌<◌, length, refl, arith}
use Rattle.matrices.proofs.RowWrites.{row_below}
use Rattle.signing.proofs.Columns.{column_more}
use Rattle.signing.proofs.layers.put_column.Goals as goal

pub loop-r-preserved : goal.loop-r-preserved
loop-r-preserved c =
    let b = row_below c.loop-r.r (length c.args.column.now) c.args.width c.loop-r-test.true in
    let l : c.loop-r.r * c.args.width + c.args.c < length c.loop-r.rows = omega arith in
    column_more c.args.width c.args.c c.loop-r.r _ c.args.rows.now c.loop-r.rows _ c.requires.inside l refl c.loop-r.invariant
