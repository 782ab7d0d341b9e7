use Rattle.std.proofs.Common.{refl, arith}
use Rattle.matrices.proofs.RowWrites.{cleared_none, cleared_skip}
use Rattle.matrices.proofs.elimination.clear_column.Goals as goal

pub returns : goal.returns
returns g c =
    let R = g.R.Ring.ring c.args.ring.now in
    let old = c.args.rows.now in
    let w = c.args.width in
    let k = c.args.column in
    c.clear_rows-2.ensures old (cleared_skip R old c.clear_rows.new.rows k w k refl (c.clear_rows.ensures old (cleared_none R old w k) (omega arith))) (omega arith)
