use Rattle.std.proofs.Common.{◌≡◌, ◌*◌, ◌≤◌, subst, inl, inr, arith}
use Rattle.matrices.specs.Arrays.{Added}
use Rattle.matrices.proofs.RowWrites.{cleared_more}
use Rattle.matrices.proofs.elimination.clear_rows.Goals as goal

pub loop-row-preserved : goal.loop-row-preserved
loop-row-preserved g c = λ begun done l.
    let R = g.R.Ring.ring c.args.ring.now in
    let L = g.met.R.Ring.laws c.args.ring.now in
    let mid = c.loop-row.rows in
    let new = c.add_row.new.rows in
    let t = c.loop-row.row in
    let w = c.args.width in
    let k = c.args.column in
    let from : c.args.first ≤ t = omega arith in
    let apart : t ≡ k → ⊥ = λ e. elim c.requires.apart [ inl a ↦ omega arith | inr a ↦ omega arith ] in
    cleared_more R L begun mid new t w k apart c.requires.column (c.loop-row.invariant begun done from)
    (subst (λ f. Added R mid new w (t * w) (k * w) f) c.negative-factor.ensures c.add_row.ensures)
