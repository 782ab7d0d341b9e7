use Rattle.std.proofs.Common.{arith}
use Rattle.matrices.proofs.RowWrites.{added_front, added_back}
use Rattle.matrices.proofs.elimination.add_row.Goals as goal

pub returns-then-to-from : goal.returns-then-to-from
returns-then-to-from g c =
    added_front (g.R.Ring.ring c.args.ring.now) c.args.rows.now c.split_at_mut-above.result.0.now c.split_at_mut-above.result.1.now c.add_multiple.new.acc c.args.width _ c.args.to c.args.from c.args.factor c.split_at_mut-above.ensures.value c.split_at_mut-above.ensures.front_len (omega arith) c.requires.inside.1 (omega arith) c.add_multiple.ensures

pub returns-else-to-from : goal.returns-else-to-from
returns-else-to-from g c =
    added_back (g.R.Ring.ring c.args.ring.now) c.args.rows.now c.split_at_mut-above-else-to-from.result.0.now c.split_at_mut-above-else-to-from.result.1.now c.add_multiple-else-to-from.new.acc c.args.width c.args.to c.args.from c.args.factor c.split_at_mut-above-else-to-from.ensures.value c.split_at_mut-above-else-to-from.ensures.front_len (omega arith) c.requires.inside.0 c.add_multiple-else-to-from.ensures
