-- The places of a public key's codes, written one after the other. Assumes nothing.
use Rattle.std.proofs.Common.{◌≡◌, ℕ, zero, suc, ◌+◌, ◌-◌, ◌*◌, ◌/◌, ◌%◌, ◌<◌, ◌≤◌, true, Ok, Err, Result, cond, eqb, ltb, ◌≢◌, List, length, get_or, replicate, sym, refl, ap, ◌∙◌, subst, ap₂, inl, inr, not-suc-le-zero, mul-le-mul_right, suc-mul, mul-le-mul, arith}
use Rattle.std.proofs.lemmas.Bool.{cases_lt, cases_eq, cases_order, cond_both}
use Rattle.std.proofs.lemmas.Bool.Decides.{nat_tests}
use Rattle.std.proofs.lemmas.List.{get_or-replicate, get_or_past, length-replicate}
use Rattle.algebra.specs.Rings.{Ring, RingLaws}
use Rattle.algebra.specs.Sums.{sum, dot_of}
use Rattle.algebra.specs.Matrices.{folded, product, transposed, pulled, public_form}
use Rattle.algebra.proofs.Codes.{sum_code}
use Rattle.algebra.proofs.SumLaws.{sum_ext}
use Rattle.fields.specs.declared.packing.Misfit.{Misfit}
use Rattle.fields.specs.Packing.{packed_length, half, code_at}
use Rattle.fields.proofs.Runs.{wide_at, narrow_at, wide_length, narrow_length}
use Rattle.matrices.specs.Arrays.{entry}
use Rattle.matrices.specs.MatrixProducts.{Multiplied, TransposedMultiplied}
use Rattle.matrices.specs.QuadraticSystems.{pairs_before, pairs, pair_at}
use Rattle.matrices.proofs.Terms.{pairs_more, pairs_closed}
use Rattle.keys.specs.declared.shapes.Shape.{Shape}
use Rattle.keys.specs.Shapes.{variables, equations, public_codes, within}
use Rattle.maps.specs.SecretKeys.{outer_mask, inner_mask, central}
use Rattle.maps.specs.PublicKeys.{HasPlace, CodePut, FormPut, RowMixed, Mixed, central_form, public_entry, PublicRun}

pub packed_more : (q a b : ℕ) → a ≤ b → packed_length q a ≤ packed_length q b
packed_more q a b h =
    elim (cases_lt 16 q) [
      | inl w ↦ let x = wide_length q a w in let y = wide_length q b w in omega arith
      | inr w ↦ let x = narrow_length q a w in let y = narrow_length q b w in omega arith
    ]

-- rows of m places
pub place_below : (t p m f : ℕ) → t < p → f < m → t * m + f < p * m
place_below t p m f h l = let e = suc-mul t m in let k = mul-le-mul_right m h in omega arith

pub place_same : (t p m f : ℕ) → f < m → t * m + f ≡ p * m + f → t ≡ p
place_same t p m f l e =
    elim (cases_order t p) [
      | inl s ↦ s
      | inr s ↦ absurd (elim s [ inl h ↦ let k = place_below t p m f h l in omega arith | inr h ↦ let k = place_below p t m f h l in omega arith ])
    ]

pub place_other : (t p m f g : ℕ) → f < m → g < m → t * m + f ≡ p * m + g → f ≡ g
place_other t p m f g hf hg e =
    elim (cases_order t p) [
      | inl s ↦ let k : t * m ≡ p * m = ap (λ (x : ℕ). x * m) s in omega arith
      | inr s ↦ absurd (elim s [ inl h ↦ let k = place_below t p m f h hf in omega arith | inr h ↦ let k = place_below p t m g h hg in omega arith ])
    ]

-- pairs i ≤ j below n, in their order
pub rows_order : (n i k : ℕ) → i < k → pairs_before n (suc i) ≤ pairs_before n k
unfolding pairs_before
rows_order n i zero h = absurd (not-suc-le-zero h)
rows_order n i (suc k) h =
    elim (cases_eq i k) [
      | inl e ↦ let s : pairs_before n (suc i) ≡ pairs_before n (suc k) = ap (λ (x : ℕ). pairs_before n (suc x)) e in omega arith
      | inr e ↦ let ne : i ≢ k = e in let l = rows_order n i k (omega arith) in omega arith
    ]

at_is : (n i j : ℕ) → pair_at n i j ≡ pairs_before n i + (j - i)
unfolding pair_at
at_is n i j = refl

pub pair_first : (n : ℕ) → pair_at n 0 0 ≡ 0
unfolding pair_at pairs_before
pair_first n = refl

pub pair_last : (n : ℕ) → pair_at n n n ≡ pairs n
pair_last n = let e = at_is n n n in omega arith

pub pairs_few : (n : ℕ) → n ≤ 256 → pairs n ≤ 32896
pairs_few n h = let e = pairs_closed n in let k : n + 1 ≤ 257 = omega arith in let m = mul-le-mul h k in omega arith

pub pair_below : (n i j : ℕ) → i ≤ j → j < n → pair_at n i j < pairs n
pair_below n i j h l =
    let e = at_is n i j in
    let r = pairs_more n i in
    let o = rows_order n i n (omega arith) in
    omega arith

pub pair_next : (n i j : ℕ) → i ≤ j → pair_at n i (j + 1) ≡ pair_at n i j + 1
pair_next n i j h = let d = at_is n i j in let e = at_is n i (j + 1) in omega arith

pub pair_turn : (n i : ℕ) → pair_at n (i + 1) (i + 1) ≡ pair_at n i n
pair_turn n i =
    let d = at_is n i n in
    let e = at_is n (i + 1) (i + 1) in
    let s : pairs_before n (i + 1) ≡ pairs_before n (suc i) = ap (pairs_before n) (omega arith) in
    let r = pairs_more n i in
    omega arith

row_of : (n i j k l : ℕ) → i ≤ j → j < n → k ≤ l → i < k → pair_at n i j ≡ pair_at n k l → ⊥
row_of n i j k l h b g o e =
    let d = at_is n i j in
    let c = at_is n k l in
    let r = pairs_more n i in
    let s = rows_order n i k o in
    omega arith

pub pair_same : (n i j k l : ℕ) → i ≤ j → j < n → k ≤ l → l < n → pair_at n i j ≡ pair_at n k l → (i ≡ k) × (j ≡ l)
pair_same n i j k l h b g d e =
    elim (cases_order i k) [
      | inl s ↦
          let x = at_is n i j in
          let y = at_is n k l in
          let z : pairs_before n i ≡ pairs_before n k = ap (pairs_before n) s in
          (s, omega arith)
      | inr s ↦ absurd (elim s [ inl o ↦ row_of n i j k l h b g o e | inr o ↦ row_of n k l i j g d h o (sym e) ])
    ]

-- one more code of equation f
module _ (q n m f : ℕ) (A : ℕ → ℕ → ℕ) (lf : f < m) where
  pub form_none : (old : List ℕ) → FormPut q n m f (pair_at n 0 0) A old old
  form_none old = let e = pair_first n in record { done = λ i j h l k. absurd (omega arith); kept = λ k h. refl }

  pub form_next : (i j p c : ℕ) (old mid new : List ℕ) → p ≡ pair_at n i j → c ≡ A i j → i ≤ j → j < n → FormPut q n m f (pair_at n i j) A old mid → CodePut q mid new (p * m + f) c → FormPut q n m f (pair_at n i (j + 1)) A old new
  form_next i j p c old mid new e ec h l F C = record { done = done; kept = λ k s. C.other k (s p (omega (arith, next))) ∙ F.kept k (λ t b. s t (omega (arith, next))) }
    where
      next : pair_at n i (j + 1) ≡ pair_at n i j + 1
      next = pair_next n i j h

      done : (i' j' : ℕ) → i' ≤ j' → j' < n → pair_at n i' j' < pair_at n i (j + 1) → code_at q new (pair_at n i' j' * m + f) ≡ A i' j'
      done i' j' h' l' k =
          elim (cases_eq (pair_at n i' j') p) [
            | inl s ↦
                let w = pair_same n i' j' i j h' l' h l (s ∙ e) in
                ap (λ (t : ℕ). code_at q new (t * m + f)) s ∙ C.here ∙ ec ∙ sym (ap₂ A w.0 w.1)
            | inr s ↦
                let ne : pair_at n i' j' ≢ p = s in
                C.other (pair_at n i' j' * m + f) (λ x. s (place_same (pair_at n i' j') p m f lf x)) ∙ F.done i' j' h' l' (omega (arith, next))
          ]

-- one more row multiplied
module _ (R : Ring) (m : ℕ) (A : ℕ → ℕ → ℕ) where
  pub mixed_next : (p : ℕ) (old mid new : List ℕ) → Mixed R m p A old mid → RowMixed R m (p * m) A mid new → Mixed R m (p + 1) A old new
  mixed_next p old mid new M W = record { done = done; kept = kept }
    where
      kept : (k : ℕ) → (p + 1) * m ≤ k → code_at R.q new k ≡ code_at R.q old k
      kept k h =
          let s : (p + 1) * m ≡ suc p * m = ap (λ (x : ℕ). x * m) (omega arith) in
          let e = suc-mul p m in
          W.kept k (inr (omega arith)) ∙ M.kept k (omega arith)

      done : (t e : ℕ) → t < p + 1 → e < m → code_at R.q new (t * m + e) ≡ sum R m (λ f. R.mul (A e f) (code_at R.q old (t * m + f)))
      done t e h l =
          elim (cases_eq t p) [
            | inl s ↦
                subst (λ (x : ℕ). code_at R.q new (x * m + e) ≡ sum R m (λ f. R.mul (A e f) (code_at R.q old (x * m + f)))) (sym s)
                (W.done e l ∙ sum_ext R m _ _ (λ f b. ap (R.mul (A e f)) (M.kept (p * m + f) (omega arith))))
            | inr s ↦
                let ne : t ≢ p = s in
                let b : t < p = omega arith in
                W.kept (t * m + e) (inl (place_below t p m e b l)) ∙ M.done t e b l
          ]

pub folded_code : (R : Ring) → RingLaws R → (A : ℕ → ℕ → ℕ) (i j : ℕ) → A i j < R.q → folded R A i j < R.q
unfolding folded
folded_code R L A i j h =
    cond_both (ltb i j) (R.add (A i j) (A j i)) (cond (eqb i j) (A i j) 0) (λ (x : ℕ). x < R.q) (λ _. L.add_code (A i j) (A j i))
    (λ _. cond_both (eqb i j) (A i j) 0 (λ (x : ℕ). x < R.q) (λ _. h) (λ _. let k = L.q_low in omega arith))

-- the place of code f of a pair is there
pub pair_there : (q n m f i j : ℕ) (run : List ℕ) → length run ≡ packed_length q (pairs n * m) → i ≤ j → j < n → f < m → HasPlace q run (pair_at n i j * m + f)
pair_there q n m f i j run e h g l =
    let b = place_below (pair_at n i j) (pairs n) m f (pair_below n i j h g) l in
    let k = packed_more q (pair_at n i j * m + f + 1) (pairs n * m) (omega arith) in
    omega arith

-- the limits of a shape
pub variables_few : (s : Shape) → within s ≡ true → variables s ≤ 256
variables_few s h = grind (arith, nat_tests)

-- the same form, entry by entry
pub form_like : (q n m f p : ℕ) (A B : ℕ → ℕ → ℕ) (old new : List ℕ) → ((i j : ℕ) → i ≤ j → j < n → A i j ≡ B i j) → FormPut q n m f p A old new → FormPut q n m f p B old new
form_like q n m f p A B old new h F = record { done = λ i j a b k. F.done i j a b k ∙ h i j a b; kept = F.kept }

folded_like : (R : Ring) (n : ℕ) (A B : ℕ → ℕ → ℕ) → ((i j : ℕ) → i < n → j < n → A i j ≡ B i j) → (i j : ℕ) → i < n → j < n → folded R A i j ≡ folded R B i j
unfolding folded
folded_like R n A B h i j hi hj =
    ap₂ (λ (x y : ℕ). cond (ltb i j) x y) (ap₂ R.add (h i j hi hj) (h j i hj hi)) (ap (λ (x : ℕ). cond (eqb i j) x 0) (h i j hi hj))

module _ (R : Ring) (n : ℕ) (F T : ℕ → ℕ → ℕ) where
  -- T transposed times F times T, in two steps
  pub pulled_there : (G H : ℕ → ℕ → ℕ) → ((i j : ℕ) → i < n → j < n → G i j ≡ dot_of R n (F i) (λ t. T t j)) → ((i j : ℕ) → i < n → j < n → H i j ≡ dot_of R n (λ t. T t i) (λ t. G t j)) → (i j : ℕ) → i < n → j < n → H i j ≡ pulled R n F T i j
  unfolding pulled product transposed
  pulled_there G H g h i j hi hj = h i j hi hj ∙ sum_ext R n _ _ (λ t b. ap (R.mul (T t i)) (g t j b hj))

pub pulled_like : (R : Ring) (n : ℕ) (F T F' T' : ℕ → ℕ → ℕ) → ((i j : ℕ) → i < n → j < n → F i j ≡ F' i j) → ((i j : ℕ) → i < n → j < n → T i j ≡ T' i j) → (i j : ℕ) → i < n → j < n → pulled R n F T i j ≡ pulled R n F' T' i j
unfolding pulled product transposed
pulled_like R n F T F' T' f t i j hi hj =
    sum_ext R n _ _ (λ k b. ap₂ R.mul (t k i b hi) (sum_ext R n _ _ (λ u d. ap₂ R.mul (f k u b d) (t u j d hj))))

-- Q(f) from the matrices that were worked out
pub central_there : (R : Ring) (run : List ℕ) (s : Shape) (f : ℕ) (A T G H : ℕ → ℕ → ℕ) → ((i j : ℕ) → i < variables s → j < variables s → A i j ≡ central R.q run s f i j) → ((i j : ℕ) → i < variables s → j < variables s → T i j ≡ inner_mask R run s i j) → ((i j : ℕ) → i < variables s → j < variables s → G i j ≡ dot_of R (variables s) (A i) (λ t. T t j)) → ((i j : ℕ) → i < variables s → j < variables s → H i j ≡ dot_of R (variables s) (λ t. T t i) (λ t. G t j)) → (i j : ℕ) → i ≤ j → j < variables s → folded R H i j ≡ central_form R run s f i j
unfolding central_form
central_there R run s f A T G H a t g h i j o l =
    folded_like R (variables s) H (pulled R (variables s) (central R.q run s f) (inner_mask R run s))
    (λ x y hx hy. pulled_there R (variables s) A T G H g h x y hx hy ∙ pulled_like R (variables s) A T (central R.q run s f) (inner_mask R run s) a t x y hx hy) i j (omega arith) l

-- all codes of a cleared run are 0
pub code_zeros : (q len k : ℕ) → code_at q (replicate len 0) k ≡ 0
code_zeros q len k =
    elim (cases_lt 16 q) [
      | inl h ↦ wide_at q (replicate len 0) k h ∙ zero_there len k
      | inr h ↦ narrow_at q (replicate len 0) k h ∙ ap (half k) (zero_there len (k / 2)) ∙ half_zero k
    ]
  where
    zero_there : (n i : ℕ) → ◌≡◌ {A = ℕ} (get_or (replicate n 0) i 0) 0
    zero_there n i = elim (cases_lt i n) [ inl h ↦ get_or-replicate n i 0 0 h | inr h ↦ get_or_past (replicate n 0) i 0 (let e = length-replicate {A = ℕ} n 0 in omega arith) ]

    half_zero : (i : ℕ) → half i 0 ≡ 0
    half_zero i = cond_both (eqb (i % 2) 0) (0 % 16) (0 / 16) (λ (x : ℕ). x ≡ 0) (λ _. refl) (λ _. refl)

-- one more equation
module _ (R : Ring) (run : List ℕ) (s : Shape) (f : ℕ) (lf : f < equations s) where
  pub forms_next : (old new : List ℕ) → FormPut R.q (variables s) (equations s) f (pairs (variables s)) (central_form R run s f) old new → ((g i j : ℕ) → g < f → i ≤ j → j < variables s → code_at R.q old (pair_at (variables s) i j * equations s + g) ≡ central_form R run s g i j) → (g i j : ℕ) → g < f + 1 → i ≤ j → j < variables s → code_at R.q new (pair_at (variables s) i j * equations s + g) ≡ central_form R run s g i j
  forms_next old new F ih g i j h o l =
      elim (cases_eq g f) [
        | inl e ↦ subst (λ (x : ℕ). code_at R.q new (pair_at (variables s) i j * equations s + x) ≡ central_form R run s x i j) (sym e) (F.done i j o l (pair_below (variables s) i j o l))
        | inr e ↦
            let ne : g ≢ f = e in
            let lg : g < equations s = omega arith in
            F.kept (pair_at (variables s) i j * equations s + g) (λ t b x. e (place_other (pair_at (variables s) i j) t (equations s) g f lg lf x)) ∙ ih g i j (omega arith) o l
      ]

  pub over_next : (old new : List ℕ) → FormPut R.q (variables s) (equations s) f (pairs (variables s)) (central_form R run s f) old new → code_at R.q old (pairs (variables s) * equations s) ≡ 0 → code_at R.q new (pairs (variables s) * equations s) ≡ 0
  over_next old new F e = F.kept (pairs (variables s) * equations s) (λ t b x. let k = place_below t (pairs (variables s)) (equations s) f b lf in omega arith) ∙ e

-- the same matrix, entry by entry
pub mixed_like : (R : Ring) (m p : ℕ) (A B : ℕ → ℕ → ℕ) (old new : List ℕ) → ((e f : ℕ) → e < m → f < m → A e f ≡ B e f) → Mixed R m p A old new → Mixed R m p B old new
mixed_like R m p A B old new h M = record { done = λ t e a b. M.done t e a b ∙ sum_ext R m _ _ (λ f d. ap (λ (x : ℕ). R.mul x (code_at R.q old (t * m + f))) (h e f b d)); kept = M.kept }

-- the run after S
pub public_run : (R : Ring) (run : List ℕ) (s : Shape) (old new : List ℕ) → ((g i j : ℕ) → g < equations s → i ≤ j → j < variables s → code_at R.q old (pair_at (variables s) i j * equations s + g) ≡ central_form R run s g i j) → code_at R.q old (pairs (variables s) * equations s) ≡ 0 → Mixed R (equations s) (pairs (variables s)) (outer_mask R run s) old new → PublicRun R run s new
unfolding public_codes public_entry public_form central_form
public_run R run s old new ih z M = record {
  entries = λ e i j le o l.
      M.done (pair_at (variables s) i j) e (pair_below (variables s) i j o l) le
      ∙ sum_ext R (equations s) _ _ (λ f b. ap (R.mul (outer_mask R run s e f)) (ih f i j b o l));
  over = M.kept (pairs (variables s) * equations s) (omega arith) ∙ z;
}

-- Q(f) from the arrays that were worked out: F(f) in a, T in t, then F(f) T in p and its product with T transposed in h
module _ (R : Ring) (run : List ℕ) (s : Shape) (f n : ℕ) (n_is : n ≡ variables s) (inside : within s ≡ true) (a t old p h : List ℕ) (r u : Result Unit Misfit) (la : length a ≡ variables s * variables s) (lt : length t ≡ variables s * variables s) (lo : length old ≡ variables s * variables s) (lp : length p ≡ length old) (first : Multiplied R a t n n n old r p) (second : TransposedMultiplied R t p n n n a u h) where
  first_there : (i j : ℕ) → i < variables s → j < variables s → entry p (variables s) i j ≡ dot_of R (variables s) (entry a (variables s) i) (λ k. entry t (variables s) k j)
  first_there = there r (rw n_is at first)
    where
      there : (b : Result Unit Misfit) → Multiplied R a t (variables s) (variables s) (variables s) old b p → (i j : ℕ) → i < variables s → j < variables s → entry p (variables s) i j ≡ dot_of R (variables s) (entry a (variables s) i) (λ k. entry t (variables s) k j)
      there (Ok _) M = M.1
      there (Err _) M = absurd (M.0 (record { left = la; right = lt; out = lo }))

  second_there : (i j : ℕ) → i < variables s → j < variables s → entry h (variables s) i j ≡ dot_of R (variables s) (λ k. entry t (variables s) k i) (λ k. entry p (variables s) k j)
  second_there = there u (rw n_is at second)
    where
      there : (b : Result Unit Misfit) → TransposedMultiplied R t p (variables s) (variables s) (variables s) a b h → (i j : ℕ) → i < variables s → j < variables s → entry h (variables s) i j ≡ dot_of R (variables s) (λ k. entry t (variables s) k i) (λ k. entry p (variables s) k j)
      there (Ok _) M = M.1
      there (Err _) M = absurd (M.0 (record { left = lt; right = lp ∙ lo; out = la; few = omega (arith, variables_few s inside) }))

  pub pulled_small : RingLaws R → (i j : ℕ) → i < n → j < n → entry h n i j < R.q
  pulled_small L =
      rw n_is (λ i j hi hj.
      let e = second_there i j hi hj in
      let k = sum_code R L (variables s) (λ k. R.mul (entry t (variables s) k i) (entry p (variables s) k j)) in
      omega arith)

  pub central_put : ((i j : ℕ) → i < variables s → j < variables s → entry a (variables s) i j ≡ central R.q run s f i j) → ((i j : ℕ) → i < variables s → j < variables s → entry t (variables s) i j ≡ inner_mask R run s i j) → (old new : List ℕ) (m : ℕ) → m ≡ equations s → FormPut R.q n m f (pairs n) (folded R (entry h n)) old new → FormPut R.q (variables s) (equations s) f (pairs (variables s)) (central_form R run s f) old new
  central_put is_f is_t old new m m_is F =
      form_like R.q (variables s) (equations s) f (pairs (variables s)) (folded R (entry h (variables s))) (central_form R run s f) old new
      (central_there R run s f (entry a (variables s)) (entry t (variables s)) (entry p (variables s)) (entry h (variables s)) is_f is_t first_there second_there) (rw (n_is, m_is) at F)
