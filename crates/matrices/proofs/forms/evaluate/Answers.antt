use Rattle.std.proofs.Common.{◌≡◌, ℕ, ◌-◌, ◌≤◌, List, length, get_or, take, replicate, ap, ◌∙◌, ap₂, add-one, arith}
use native.Mathlib.Decide.{dec_lt}
use Rattle.std.proofs.lemmas.List.FromFn.{fill_by_all}
use Rattle.std.proofs.lemmas.List.{get_or_past, length-replicate, length-take-le, get_or-replicate}
use Rattle.algebra.specs.Sums.{sum}
use Rattle.algebra.proofs.Codes.{sum_code, nil_code}
use Rattle.matrices.specs.QuadraticSystems.{pairs_before, terms_of, form_value}
use Rattle.matrices.proofs.Terms.{place_small, area_next, area_none, form_value_lem}
use Rattle.matrices.proofs.forms.evaluate.Goals as goal

pub loop-i-init : goal.loop-i-init
loop-i-init g c =
    let m = length c.args.values.now in
    let long : length c.zeros-buffer.result ≡ 1024 = ap length c.zeros-buffer.ensures ∙ length-replicate {A = ℕ} 1024 0 in
    let row : length (take (m - 0) c.zeros-buffer.result) ≡ m - 0 = length-take-le (m - 0) c.zeros-buffer.result (omega arith) in
    let filled : c.fill.new.self ≡ replicate m 0 = c.fill.ensures.after (λ y e. e) in
    (omega arith, area_none _ _, λ e h. ap (λ (xs : List ℕ). get_or xs e 0) filled ∙ get_or-replicate m e 0 0 (omega arith))

pub add_terms-requires : goal.add_terms-requires
add_terms-requires g c =
    let R = g.R.Ring.ring c.args.ring.now in
    let L = g.met.R.Ring.laws c.args.ring.now in
    record {
      inside = c.loop-i-test.true;
      few = (omega arith, omega arith);
      row_len = c.loop-i.invariant.0;
      place = c.loop-i.invariant.1;
      codes = λ e.
          elim (dec_lt e (length c.loop-i.values)) [
            | yes h ↦ let s = c.loop-i.invariant.2 e h in let k = sum_code R L c.loop-i.i (terms_of R c.args.run.now c.args.x.now (length c.loop-i.values) e) in omega arith
            | no h ↦ let s = get_or_past c.loop-i.values e 0 (omega arith) in let k = nil_code R L in omega arith
          ];
    }

pub overflow_add-at : goal.overflow_add-at
overflow_add-at g c =
    let n = length c.args.x.now in
    let i = c.loop-i.i in
    let m = length c.loop-i.values in
    let hi : i ≤ n = omega arith in
    let hn : n ≤ 1024 = omega arith in
    let hm : m ≤ 1024 = omega arith in
    let hd : n - i ≤ n = omega arith in
    let b = place_small n m i (n - i) hi hn hm hd in
    let e = native.Mathlib.Nat.add-mul (pairs_before n i) (n - i) m in
    let s : length c.add_terms.new.values ≡ m = omega arith in
    rw s (omega arith)

pub loop-i-preserved : goal.loop-i-preserved
loop-i-preserved g c =
    let R = g.R.Ring.ring c.args.ring.now in
    let i = c.loop-i.i in
    let m = length c.loop-i.values in
    let s : length c.add_terms.new.values ≡ m = omega arith in (
      omega arith,
      rw (s, add-one) (area_next (length c.args.x.now) i c.loop-i.at m c.loop-i.invariant.1),
      λ e l. rw (s, add-one) (c.add_terms.ensures e (omega arith) ∙ ap (λ (t : ℕ). R.add t (terms_of R c.args.run.now c.args.x.now m e i)) (c.loop-i.invariant.2 e (omega arith))),
    )

pub returns : goal.returns
returns g c =
    let R = g.R.Ring.ring c.args.ring.now in
    let L = g.met.R.Ring.laws c.args.ring.now in
    let x = c.args.x.now in
    let m = length c.args.values.now in
    let i_is : c.loop-i.i ≡ length x = omega arith in
    let m_is : length c.loop-i.values ≡ m = omega arith in (
      record { variables = omega arith; forms = omega arith },
      fill_by_all (form_value R c.args.run.now x m) c.loop-i.values m 0 m_is (λ e l.
          c.loop-i.invariant.2 e (omega arith) ∙ ap₂ (λ (n k : ℕ). sum R n (terms_of R c.args.run.now x k e)) i_is m_is ∙ form_value_lem R L c.args.run.now x m e),
    )
