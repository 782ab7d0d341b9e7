use Rattle.std.proofs.Common.{◌≡◌, ℕ, ◌+◌, ◌*◌, ◌<◌, ◌≤◌, length, get_or, set, sym, refl, ◌∙◌, subst, arith}
use Rattle.std.proofs.lemmas.List.Edits.{fill_by_more}
use Rattle.algebra.specs.Sums.{dot_of}
use Rattle.matrices.specs.Arrays.{entry}
use Rattle.matrices.proofs.RowWrites.{row_below}
use Rattle.matrices.proofs.RowSums.{dot_row}
use Rattle.matrices.proofs.products.apply.Goals as goal

pub loop-i-preserved : goal.loop-i-preserved
loop-i-preserved g c =
    let R = g.R.Ring.ring c.args.ring.now in
    let m = c.args.matrix.now in
    let x = c.args.vector.now in
    let i = c.loop-i.i in
    let e = c.in_ok-fit.ensures in
    let l = row_below i (length c.args.image.now) (length x) c.loop-i-test.true in
    let f : ℕ → ℕ = λ k. dot_of R (length x) (entry m (length x) k) (λ j. get_or x j 0) in
    let h : i * length x + length x ≤ length m = omega arith in
    let v : c.dot.result ≡ f i = c.dot.ensures ∙ dot_row R m x i (length x) refl h in
    subst (λ y. (k : ℕ) → k < i + 1 → get_or (set c.loop-i.image i y) k 0 ≡ f k) (sym v) (fill_by_more f c.loop-i.image i 0 (omega arith) c.loop-i.invariant)
