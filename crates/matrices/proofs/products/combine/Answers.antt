use Rattle.std.proofs.Common.{◌≡◌, ◌*◌, length, get_or, refl, ap, ◌∙◌, arith}
use Rattle.matrices.proofs.RowWrites.{row_below}
use Rattle.matrices.proofs.RowSums.{combine_more, combine_skip}
use Rattle.matrices.proofs.products.combine.Goals as goal
use Rattle.matrices.proofs.products.combine.Goals.{then-factor-ne0, else-factor-ne0}

pub loop-k-preserved : goal.loop-k-preserved
loop-k-preserved g c j l =
    let R = g.R.Ring.ring c.args.ring.now in
    let fs = c.args.factors.now in
    let b = c.args.b.now in
    let k = c.loop-k.k in
    let n = length fs in
    let w = length c.fill.new.self in
    let r = row_below k n w c.loop-k-test.true in
    let e : w ≡ length c.args.row.now = omega arith in
    let m = ap (λ t. n * t) e in
    elim c.if-factor-ne0.branch [
      | then-factor-ne0 p ↦ combine_more R c.loop-k.row c.if-factor-ne0.row b fs k w w j refl (p.row-is ∙ p.add_multiple.ensures) (omega arith) (omega arith) l (c.loop-k.invariant j l)
      | else-factor-ne0 p ↦ ap (λ xs. get_or xs j 0) p.row-is ∙ combine_skip R (g.met.R.Ring.laws c.args.ring.now) b fs (get_or c.loop-k.row j 0) k w j p.if-factor-ne0.false (c.loop-k.invariant j l)
    ]
