-- Sums of the terms of a quadratic form, in the order in which they are added up. Assumes nothing.
use Rattle.std.proofs.Common.{◌≡◌, ℕ, zero, suc, ◌+◌, ◌-◌, ◌*◌, ◌<◌, ◌≤◌, leb, List, length, get_or, take, drop, length-take-le, sym, refl, ap, ◌∙◌, ap₂, suc-mul, mul_comm, add-mul, mul-le-mul, zero-add, zero-mul, arith, le-leb}
use borrow.Author.Tests.{lt-leb}
use Rattle.std.proofs.lemmas.Bool.{cond-true, cond-false}
use Rattle.std.proofs.lemmas.List.{get_or-take, get_or-drop, length-drop}
use Rattle.algebra.specs.Rings.{Ring, RingLaws}
use Rattle.algebra.specs.Sums.{sum}
use Rattle.algebra.proofs.Codes.{zero_mul, sum_code}
use Rattle.algebra.proofs.SumLaws.{sum_zeros}
use Rattle.fields.specs.Packing.{code_at, codes_from}
use Rattle.fields.specs.Rows.{plus_times}
use Rattle.fields.proofs.Additions.{get_or_plus}
use Rattle.fields.proofs.Runs.{length_from, get_or_from}
use Rattle.matrices.specs.QuadraticSystems.{pairs_before, pair_at, coefficient, term_of, terms_of, form_value}

pub pairs_before_lem : (n k : ℕ) → k ≤ n → pairs_before n k ≤ k * n
unfolding pairs_before
pairs_before_lem n zero h = omega arith
pairs_before_lem n (suc k) h = let l = pairs_before_lem n k (omega arith) in let e = suc-mul k n in omega arith

pub pairs_more : (n k : ℕ) → pairs_before n (suc k) ≡ pairs_before n k + (n - k)
unfolding pairs_before
pairs_more n k = refl

pub coefficient_there : (q : ℕ) (run : List ℕ) (n m e i j : ℕ) → i ≤ j → coefficient q run n m e i j ≡ code_at q run ((pairs_before n i + (j - i)) * m + e)
unfolding coefficient pair_at
coefficient_there q run n m e i j h = cond-true (leb i j) _ _ (le-leb i j h)

pub coefficient_below : (q : ℕ) (run : List ℕ) (n m e i j : ℕ) → j < i → coefficient q run n m e i j ≡ 0
unfolding coefficient
coefficient_below q run n m e i j h = cond-false (leb i j) _ _ (lt-leb i j h)

module _ (R : Ring) (L : RingLaws R) where
  pub term_below : (run x : List ℕ) (m e i j : ℕ) → j < i → term_of R run x m e i j ≡ 0
  unfolding term_of
  term_below run x m e i j h = ap (λ t. R.mul t (R.mul (get_or x i 0) (get_or x j 0))) (coefficient_below R.q run (length x) m e i j h) ∙ zero_mul R L _

  -- v + (s + t) is what adding t to v + s gives
  pub sum_more : (v n : ℕ) (f : ℕ → ℕ) → v < R.q → f n < R.q → R.add (R.add v (sum R n f)) (f n) ≡ R.add v (sum R (suc n) f)
  sum_more v n f hv hf = L.add_assoc v (sum R n f) (f n) hv (sum_code R L n f) hf

  pub sum_start : (v n : ℕ) (f : ℕ → ℕ) → v < R.q → ((k : ℕ) → k < n → f k ≡ 0) → v ≡ R.add v (sum R n f)
  sum_start v n f hv h = sym (ap (R.add v) (sum_zeros R L n f h) ∙ L.add_zero v hv)

  pub term_code : (run x : List ℕ) (m e i j : ℕ) → term_of R run x m e i j < R.q
  unfolding term_of
  term_code run x m e i j = L.mul_code _ _

  pub term_there : (run x : List ℕ) (m e i j at : ℕ) → i ≤ j → at ≡ (pairs_before (length x) i + (j - i)) * m → R.mul (R.mul (get_or x i 0) (get_or x j 0)) (code_at R.q run (at + e)) ≡ term_of R run x m e i j
  unfolding term_of
  term_there run x m e i j at h p =
      L.mul_comm _ _
      ∙ ap (λ t. R.mul t (R.mul (get_or x i 0) (get_or x j 0))) (ap (λ t. code_at R.q run (t + e)) p ∙ sym (coefficient_there R.q run (length x) m e i j h))

-- a place among so few coefficients is a small number
pub place_small : (n m i d : ℕ) → i ≤ n → n ≤ 1024 → m ≤ 1024 → d ≤ n → (pairs_before n i + d) * m ≤ 1049600 * 1024
place_small n m i d hi hn hm hd =
    let a = pairs_before_lem n i hi in
    let k : i ≤ 1024 = omega arith in
    let b : i * n ≤ 1024 * 1024 = mul-le-mul k hn in
    let s : pairs_before n i + d ≤ 1049600 = omega arith in
    mul-le-mul s hm

pub place_later : (n i k at m : ℕ) → at ≡ pairs_before n i * m → at + k * m ≡ (pairs_before n i + ((i + k) - i)) * m
place_later n i k at m e =
    let s : (i + k) - i ≡ k = omega arith in
    let t = add-mul (pairs_before n i) k m in
    rw s (omega arith)

pub later : (xs : List ℕ) (i k : ℕ) → i + k < length xs → get_or (take (length xs - i) (drop i xs)) k 0 ≡ get_or xs (i + k) 0
later xs i k h = get_or-take (length xs - i) (drop i xs) k 0 (omega arith) ∙ get_or-drop i xs k 0

pub length_later : (xs : List ℕ) (i : ℕ) → length (take (length xs - i) (drop i xs)) ≡ length xs - i
length_later xs i = let d = length-drop i xs in length-take-le (length xs - i) (drop i xs) (omega arith)

-- One turn of the loop over j: row holds the coefficients of x(i) x(j), and t is x(i) x(j).
module _ (R : Ring) (L : RingLaws R) (run x : List ℕ) where
  pub term_step : (i j at t : ℕ) (old cur row new : List ℕ) → i ≤ j → at ≡ (pairs_before (length x) i + (j - i)) * length cur → t ≡ R.mul (get_or x i 0) (get_or x j 0) → row ≡ codes_from R.q run at (length cur) → new ≡ plus_times R t cur row → ((e : ℕ) → get_or old e 0 < R.q) → ((e : ℕ) → e < length cur → get_or cur e 0 ≡ R.add (get_or old e 0) (sum R j (term_of R run x (length cur) e i))) → (e : ℕ) → e < length cur → get_or new e 0 ≡ R.add (get_or old e 0) (sum R (suc j) (term_of R run x (length cur) e i))
  term_step i j at t old cur row new h p q r w c ih e l =
      let long : length row ≡ length cur = ap length r ∙ length_from R.q run at (length cur) in
      let code : get_or row e 0 ≡ code_at R.q run (at + e) = ap (λ (z : List ℕ). get_or z e 0) r ∙ get_or_from R.q run at (length cur) e l in
      let term : R.mul t (get_or row e 0) ≡ term_of R run x (length cur) e i j = ap₂ R.mul q code ∙ term_there R L run x (length cur) e i j at h p in
      let within : e < length row = omega arith in
      ap (λ (z : List ℕ). get_or z e 0) w ∙ get_or_plus R t cur row e l within ∙ ap₂ R.add (ih e l) term
      ∙ sum_more R L (get_or old e 0) j (term_of R run x (length cur) e i) (c e) (term_code R L run x (length cur) e i j)

  pub terms_of_lem : (m e i : ℕ) → sum R (length x) (term_of R run x m e i) ≡ terms_of R run x m e i
  unfolding terms_of
  terms_of_lem m e i = refl

  pub form_value_lem : (m e : ℕ) → sum R (length x) (terms_of R run x m e) ≡ form_value R run x m e
  unfolding terms_of term_of
  form_value_lem m e = refl

pub area_next : (n i at m : ℕ) → at ≡ pairs_before n i * m → at + (n - i) * m ≡ pairs_before n (suc i) * m
area_next n i at m e = rw (pairs_more n i) (ap (λ (t : ℕ). t + (n - i) * m) e ∙ sym (add-mul (pairs_before n i) (n - i) m))

pub area_none : (n m : ℕ) → 0 ≡ pairs_before n 0 * m
unfolding pairs_before
area_none n m = sym (zero-mul m)

triangle : (d : ℕ) → (d + 1) * (d + 1 + 1) ≡ d * (d + 1) + 2 * (d + 1)
triangle d = let e : d + 1 + 1 ≡ d + 2 = omega arith in mul_comm (d + 1) (d + 1 + 1) ∙ ap (λ (t : ℕ). t * (d + 1)) e ∙ add-mul d 2 (d + 1)

triangles : (n k : ℕ) → k ≤ n → 2 * pairs_before n k + (n - k) * (n - k + 1) ≡ n * (n + 1)
unfolding pairs_before
triangles n zero h = let e : n - 0 ≡ n = omega arith in rw e (zero-add (n * (n + 1)))
triangles n (suc k) h =
    let ih = triangles n k (omega arith) in
    let e : n - k ≡ n - suc k + 1 = omega arith in
    let t = triangle (n - suc k) in
    let s : (n - k) * (n - k + 1) ≡ (n - suc k + 1) * (n - suc k + 1 + 1) = ap (λ (d : ℕ). d * (d + 1)) e in
    omega arith

-- n (n + 1) / 2 pairs
pub pairs_closed : (n : ℕ) → n * (n + 1) ≡ 2 * pairs_before n n
pairs_closed n =
    let e : n - n ≡ 0 = omega arith in
    let z : (n - n) * (n - n + 1) ≡ 0 = ap (λ (d : ℕ). d * (d + 1)) e in
    let t = triangles n n (omega arith) in
    omega arith
