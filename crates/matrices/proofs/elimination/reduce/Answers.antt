use Rattle.std.proofs.Common.{◌≡◌, ◌≢◌, ◌+◌, ◌-◌, ◌*◌, ap, subst, inl, inr, arith}
use native.Mathlib.Decide.{ℕ_discrete}
use Rattle.matrices.proofs.RowWrites.{row_below, scaled_row}
use Rattle.algebra.proofs.Systems.{Kept, kept_none, dependent}
use Rattle.matrices.specs.Arrays.{entry}
use Rattle.matrices.proofs.Columns.{column_done, all_done}
use Rattle.matrices.proofs.elimination.reduce.Goals as goal

pub loop-column-init : goal.loop-column-init
loop-column-init g c =
    let R = g.F.Ring.ring c.args.field.now in
    let L = g.met.F.Ring.laws c.args.field.now in
    let w = c.args.order + c.args.right in
    let h = c.requires.codes in
    (h, kept_none R L c.args.order w (entry c.args.rows.now w) (λ i j. h (i * w + j)))

pub returns-in_default : goal.returns-in_default
returns-in_default g c =
    let R = g.F.Ring.ring c.args.field.now in
    let L = g.met.F.Ring.laws c.args.field.now in
    let w = c.args.order + c.args.right in
    (dependent R L c.args.order c.args.right c.loop-column.column (entry c.args.rows.now w) (entry c.loop-column.rows w) c.loop-column-test.true c.loop-column.invariant.1 c.in_default.ensures, c.loop-column.invariant.0)

pub swap_rows-requires-clause-order : goal.swap_rows-requires-clause-order
swap_rows-requires-clause-order g c =
    let w = c.args.order + c.args.right in
    let k = c.loop-column.column in
    let r = c.in-Some.found.row in
    elim (ℕ_discrete k r) [ yes e ↦ inl (ap (λ t. t * w) e) | no e ↦ let ne : k ≢ r = e in let l = c.in-Some.ensures.low in inr (row_below k r w (omega arith)) ]

pub loop-column-preserved : goal.loop-column-preserved
loop-column-preserved g c =
    let R = g.F.Ring.ring c.args.field.now in
    let L = g.met.F.Ring.laws c.args.field.now in
    let n = c.args.order in
    let w = n + c.args.right in
    let k = c.loop-column.column in
    let b = row_below k n w c.loop-column-test.true in
    let scaled = scaled_row R c.swap_rows.new.rows c.scale.new.row w (k * w + w - k * w) (k * w) c.in-Some.found.inverse (omega arith) (omega arith) c.scale.auto.row c.scale.ensures in
    column_done R L n w k c.args.rows.now c.loop-column.rows c.swap_rows.new.rows _ c.clear_column.new.rows c.in-Some.found c.loop-column-test.true (omega arith) c.loop-column.invariant.0 c.loop-column.invariant.1 c.in-Some.ensures c.swap_rows.ensures scaled c.clear_column.ensures

pub returns : goal.returns
returns g c =
    let R = g.F.Ring.ring c.args.field.now in
    let L = g.met.F.Ring.laws c.args.field.now in
    let n = c.args.order in
    let w = n + c.args.right in
    let e : c.loop-column.column ≡ n = omega arith in
    all_done R L n c.args.right c.args.rows.now c.loop-column.rows c.loop-column.invariant.0
    (subst (λ k. Kept R L n w k (entry c.args.rows.now w) (entry c.loop-column.rows w)) e c.loop-column.invariant.1)
