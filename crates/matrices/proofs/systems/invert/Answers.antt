use Rattle.std.proofs.Common.{◌≡◌, ◌*◌, length, arith, length-take-le, true-eqb}
use Rattle.matrices.proofs.Blocks.{both_blocks}
use Rattle.matrices.proofs.Units.{inverts}
use Rattle.matrices.proofs.systems.invert.Goals as goal

pub returns-clause-inverse : goal.returns-clause-inverse
returns-clause-inverse g c =
    let n = c.args.order in
    let a : length c.args.system.now ≡ n * n = true-eqb _ _ c.if-not-fills.ensures in
    let b : length c.args.inverse.now ≡ n * n = true-eqb _ _ c.if-not-fills-2.ensures in
    let t = length-take-le (2 * length c.args.system.now) c.args.work.now (omega arith) in
    let d = both_blocks n in
    inverts (g.F.Ring.ring c.args.field.now) (g.met.F.Ring.laws c.args.field.now) c.args.system.now c.put_left.new.rows n (length c.args.work.now) c.args.inverse.now c.invert_rows.result c.invert_rows.new.inverse a (omega arith) (record { places = omega arith; inverse = b }) c.put_left.ensures c.invert_rows.ensures
