use Rattle.std.proofs.Common.{◌≡◌, ℕ, ◌+◌, ◌-◌, ◌*◌, ◌≤◌, ◌<◌, suc, length, get_or, sym, ap, ◌∙◌, ap₂, add-zero, add-mul, arith}
use Rattle.algebra.specs.Sums.{sum}
use Rattle.fields.specs.Packing.{codes_from}
use Rattle.matrices.specs.QuadraticSystems.{pairs_before, term_of}
use Rattle.matrices.proofs.Terms.{place_small, place_later, later, length_later, term_below, sum_start, term_step, terms_of_lem}
use Rattle.matrices.proofs.forms.add_terms.Goals as goal

pub loop-k-init : goal.loop-k-init
loop-k-init g c =
    let R = g.R.Ring.ring c.args.ring.now in
    let L = g.met.R.Ring.laws c.args.ring.now in
    let i = c.args.i in
    let z = add-zero i in
    (c.requires.row_len, λ e h. rw z (sum_start R L _ i (term_of R c.args.run.now c.args.x.now (length c.args.values.now) e i) (c.requires.codes e) (λ k l. term_below R L c.args.run.now c.args.x.now (length c.args.values.now) e i k l)))

pub overflow_add-at : goal.overflow_add-at
overflow_add-at g c =
    let n = length c.args.x.now in
    let i = c.args.i in
    let k = c.loop-k.k in
    let m = length c.loop-k.row in
    let s = length_later c.args.x.now i in
    let hi : i ≤ n = omega arith in
    let hm : m ≤ 1024 = omega arith in
    let hk : k ≤ n = omega arith in
    let b = place_small n m i k hi c.requires.few.0 hm hk in
    let p = add-mul (pairs_before n i) k m in
    let q : pairs_before n i * m ≡ c.args.at = ap (λ (t : ℕ). pairs_before n i * t) (omega arith) ∙ sym c.requires.place in
    omega arith

pub loop-k-preserved : goal.loop-k-preserved
loop-k-preserved g c =
    let R = g.R.Ring.ring c.args.ring.now in
    let L = g.met.R.Ring.laws c.args.ring.now in
    let x = c.args.x.now in
    let run = c.args.run.now in
    let i = c.args.i in
    let k = c.loop-k.k in
    let m = length c.loop-k.values in
    let s = length_later x i in
    let inside : i + k < length x = omega arith in
    let row_is : length c.read_codes.new.codes ≡ m = omega arith in
    let new_is : length c.add_multiple.new.acc ≡ m = omega arith in
    let from : c.args.at + k * length c.loop-k.row ≡ (pairs_before (length x) i + ((i + k) - i)) * m = ap (λ (t : ℕ). c.args.at + k * t) c.loop-k.invariant.0 ∙ place_later (length x) i k c.args.at m (c.requires.place ∙ ap (λ (t : ℕ). pairs_before (length x) i * t) (omega arith)) in
    let row : c.read_codes.new.codes ≡ codes_from R.q run (c.args.at + k * length c.loop-k.row) m = c.read_codes.ensures ∙ ap (codes_from R.q run (c.args.at + k * length c.loop-k.row)) c.loop-k.invariant.0 in
    let factor : c.product.result ≡ R.mul (get_or x i 0) (get_or x (i + k) 0) = c.product.ensures ∙ ap (R.mul (get_or x i 0)) (later x i k inside) in
    let next : i + (k + 1) ≡ suc (i + k) = omega arith in (
      row_is ∙ sym new_is,
      λ e l. rw (new_is, next) (term_step R L run x i (i + k) (c.args.at + k * length c.loop-k.row) c.product.result c.args.values.now c.loop-k.values c.read_codes.new.codes c.add_multiple.new.acc (omega arith) from factor row c.add_multiple.ensures c.requires.codes c.loop-k.invariant.1 e (omega arith)),
    )

pub returns : goal.returns
returns g c e l =
    let R = g.R.Ring.ring c.args.ring.now in
    let x = c.args.x.now in
    let m = length c.args.values.now in
    let s = length_later x c.args.i in
    let j_is : c.args.i + c.loop-k.k ≡ length x = omega arith in
    let m_is : length c.loop-k.values ≡ m = omega arith in
    c.loop-k.invariant.1 e (omega arith) ∙ ap₂ (λ (n k : ℕ). R.add (get_or c.args.values.now e 0) (sum R n (term_of R c.args.run.now x k e c.args.i))) j_is m_is
    ∙ ap (R.add (get_or c.args.values.now e 0)) (terms_of_lem R (g.met.R.Ring.laws c.args.ring.now) c.args.run.now x m e c.args.i)
