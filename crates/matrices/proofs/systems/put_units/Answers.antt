use Rattle.std.proofs.Common.{◌+◌, ◌*◌, arith}
use Rattle.matrices.proofs.RowWrites.{row_below}
use Rattle.matrices.proofs.Blocks.{unit_written}
use Rattle.matrices.proofs.Units.{units_more}
use Rattle.matrices.proofs.systems.put_units.Goals as goal

pub loop-i-preserved : goal.loop-i-preserved
loop-i-preserved c =
    let i = c.loop-i.i in
    let n = c.args.order in
    let b = row_below i n (n + n) c.loop-i-test.true in
    units_more c.args.rows.now c.loop-i.rows _ n i c.loop-i.invariant (unit_written c.loop-i.rows c.fill.new.self n (i * (n + n) + n) i _ (omega arith) (omega arith) (c.fill.ensures.after (λ y e. e)) c.loop-i-test.true)
