-- Packed runs of codes, read and written. Assumes nothing.
use Rattle.std.proofs.Common.{◌≡◌, ℕ, zero, suc, ◌+◌, ◌*◌, ◌/◌, ◌%◌, ◌<◌, ◌≤◌, min, cond, eqb, ltb, ◌≢◌, ◌⊎◌, List, [], ◌∷◌, length, get_or, drop, set, Some, None, Option, sym, refl, ap, ◌∙◌, subst, ap₂, inl, inr, le_of_suc-le-suc, not-suc-le-zero, add-zero, zero-add, arith, w8, Fits, le-ltb, lt-ltb, eq-eqb, ne_eqb}
use Rattle.std.specs.List.{AllByRecursion}
use Rattle.std.proofs.Math.Nat.{min_comm}
use Rattle.std.proofs.lemmas.List.{get_or-drop, get_or_past, drop_min, ext_get_or, length-set, get_or-set_same, get_or-set_other, set_past}
use Rattle.std.proofs.lemmas.Bool.{cond-true, cond-false, cases_lt, cases_eq}
use Rattle.std.proofs.lemmas.List.FromFn.{length-map-range_with_len, get_or-map-range_with_len}
use Rattle.fields.specs.Packing.{packed_length, half, code_at, byte_at, with_half, put_code, codes_from, in_pairs, packed, or_else, first_foreign, RunsReadBack}

pub wide_at : (q : ℕ) (run : List ℕ) (k : ℕ) → 16 < q → code_at q run k ≡ get_or run k 0
unfolding code_at
wide_at q run k h = cond-true (ltb 16 q) _ _ (lt-ltb 16 q h)

pub narrow_at : (q : ℕ) (run : List ℕ) (k : ℕ) → q ≤ 16 → code_at q run k ≡ half k (get_or run (k / 2) 0)
unfolding code_at
narrow_at q run k h = cond-false (ltb 16 q) _ _ (le-ltb 16 q h)

pub half_low : (k b : ℕ) → k % 2 ≡ 0 → half k b ≡ b % 16
half_low k b e = cond-true (eqb (k % 2) 0) _ _ (eq-eqb (k % 2) 0 e)

pub half_high : (k b : ℕ) → (k % 2 ≡ 0 → ⊥) → half k b ≡ b / 16
half_high k b e = cond-false (eqb (k % 2) 0) _ _ (ne_eqb (k % 2) 0 e)

-- A run without its first bytes has the codes from there on.
pub wide_drop : (q : ℕ) (run : List ℕ) (a i : ℕ) → 16 < q → code_at q (drop a run) i ≡ code_at q run (a + i)
wide_drop q run a i h = wide_at q (drop a run) i h ∙ get_or-drop a run i 0 ∙ sym (wide_at q run (a + i) h)

pub narrow_drop : (q : ℕ) (run : List ℕ) (a i : ℕ) → q ≤ 16 → code_at q (drop a run) i ≡ code_at q run (2 * a + i)
narrow_drop q run a i h =
    let at : a + i / 2 ≡ (2 * a + i) / 2 = omega arith in
    let odd : i % 2 ≡ (2 * a + i) % 2 = omega arith in
    narrow_at q (drop a run) i h ∙ ap (half i) (get_or-drop a run (i / 2) 0)
    ∙ ap₂ (λ r b. cond (eqb r 0) (b % 16) (b / 16)) odd (ap (λ t. get_or run t 0) at)
    ∙ sym (narrow_at q run (2 * a + i) h)

-- a place that is foreign stays the first one
pub foreign_more : (q : ℕ) (f : ℕ → ℕ) (k : ℕ) → first_foreign q f k ≡ None → f k < q → first_foreign q f (suc k) ≡ None
unfolding first_foreign
foreign_more q f k e h = ap (λ (o : Option ℕ). or_else o (cond (ltb (f k) q) None (Some (suc k)))) e ∙ cond-true (ltb (f k) q) None (Some (suc k)) (lt-ltb (f k) q h)

pub foreign_here : (q : ℕ) (f : ℕ → ℕ) (k : ℕ) → first_foreign q f k ≡ None → q ≤ f k → first_foreign q f (suc k) ≡ Some (suc k)
unfolding first_foreign
foreign_here q f k e h = ap (λ (o : Option ℕ). or_else o (cond (ltb (f k) q) None (Some (suc k)))) e ∙ cond-false (ltb (f k) q) None (Some (suc k)) (le-ltb (f k) q h)

pub foreign_found : (q : ℕ) (f : ℕ → ℕ) (k n : ℕ) → first_foreign q f k ≡ None → q ≤ f k → k < n → first_foreign q f n ≡ Some (suc k)
unfolding first_foreign
foreign_found q f k zero e h l = absurd (omega arith)
foreign_found q f k (suc n) e h l =
    elim (cases_eq k n) [
      | inl s ↦ subst (λ (m : ℕ). first_foreign q f (suc m) ≡ Some (suc k)) s (foreign_here q f k e h)
      | inr s ↦
          let ne : k ≢ n = s in
          ap (λ (o : Option ℕ). or_else o (cond (ltb (f n) q) None (Some (suc n)))) (foreign_found q f k n e h (omega arith))
    ]

-- a run of codes has no foreign one
pub none_foreign : (q : ℕ) (f : ℕ → ℕ) (n : ℕ) → ((k : ℕ) → k < n → f k < q) → first_foreign q f n ≡ None
unfolding first_foreign
none_foreign q f zero h = refl
none_foreign q f (suc n) h = foreign_more q f n (none_foreign q f n (λ k l. h k (omega arith))) (h n (omega arith))

-- every byte is a run of codes where q is 16 or 256
pub full_16 : (q : ℕ) (run : List ℕ) → q ≡ 16 → ((i : ℕ) → Fits w8 (get_or run i 0)) → (k : ℕ) → code_at q run k < q
full_16 q run e h k =
    elim (cases_eq (k % 2) 0) [
      | inl z ↦ let l = narrow_at q run k (omega arith) ∙ half_low k _ z in omega arith
      | inr z ↦ let l = narrow_at q run k (omega arith) ∙ half_high k _ z in let b = h (k / 2) in omega arith
    ]

pub full_256 : (q : ℕ) (run : List ℕ) → q ≡ 256 → ((i : ℕ) → Fits w8 (get_or run i 0)) → (k : ℕ) → code_at q run k < q
full_256 q run e h k = let l = wide_at q run k (omega arith) in let b = h k in omega arith

-- codes that were read
pub length_from : (q : ℕ) (run : List ℕ) (at n : ℕ) → length (codes_from q run at n) ≡ n
unfolding codes_from
length_from q run at n = length-map-range_with_len (λ i. code_at q run (at + i)) 0 n

pub get_or_from : (q : ℕ) (run : List ℕ) (at n k : ℕ) → k < n → get_or (codes_from q run at n) k 0 ≡ code_at q run (at + k)
unfolding codes_from
get_or_from q run at n k h = get_or-map-range_with_len (λ i. code_at q run (at + i)) 0 n k k 0 h (zero-add k)

pub get_or_read : (q : ℕ) (run xs : List ℕ) (n k : ℕ) → xs ≡ codes_from q run 0 n → k < n → get_or xs k 0 ≡ code_at q run k
get_or_read q run xs n k e h = ap (λ (ys : List ℕ). get_or ys k 0) e ∙ get_or_from q run 0 n k h ∙ ap (code_at q run) (zero-add k)

past_min : (xs : List ℕ) (a : ℕ) → drop (min (length xs) a) xs ≡ drop a xs
past_min xs a = ap (λ (n : ℕ). drop n xs) (min_comm (length xs) a) ∙ drop_min a xs

-- A run without the bytes before place `from`.
pub rest_wide : (q : ℕ) (run : List ℕ) (from i : ℕ) → 16 < q → code_at q (drop (min (length run) (from / 1)) run) (from % 1 + i) ≡ code_at q run (from + i)
rest_wide q run from i h =
    let e : from / 1 + (from % 1 + i) ≡ from + i = omega arith in
    ap (λ (r : List ℕ). code_at q r (from % 1 + i)) (past_min run (from / 1)) ∙ wide_drop q run (from / 1) (from % 1 + i) h ∙ ap (code_at q run) e

pub rest_narrow : (q : ℕ) (run : List ℕ) (from i : ℕ) → q ≤ 16 → code_at q (drop (min (length run) (from / 2)) run) (from % 2 + i) ≡ code_at q run (from + i)
rest_narrow q run from i h =
    let e : 2 * (from / 2) + (from % 2 + i) ≡ from + i = omega arith in
    ap (λ (r : List ℕ). code_at q r (from % 2 + i)) (past_min run (from / 2)) ∙ narrow_drop q run (from / 2) (from % 2 + i) h ∙ ap (code_at q run) e

pub all_at : (q : ℕ) (cs : List ℕ) → AllByRecursion (λ c. c < q) cs → (k : ℕ) → k < length cs → get_or cs k 0 < q
all_at q [] a k h = absurd (not-suc-le-zero h)
all_at q (c ∷ cs) a zero h = a.0
all_at q (c ∷ cs) a (suc k) h = all_at q cs a.1 k (le_of_suc-le-suc h)

-- Two codes a byte.
pub pair_at_lem : (cs : List ℕ) (i : ℕ) → get_or (in_pairs cs) i 0 ≡ get_or cs (2 * i) 0 % 16 + 16 * (get_or cs (2 * i + 1) 0 % 16)
pair_at_lem [] i = refl
pair_at_lem (a ∷ []) zero = sym (add-zero (a % 16))
pair_at_lem (a ∷ []) (suc i) =
    let e : suc (suc (2 * i)) ≡ 2 * suc i = omega arith in
    let f : suc (suc (2 * i + 1)) ≡ 2 * suc i + 1 = omega arith in
    ap₂ (λ x y. get_or (a ∷ []) x 0 % 16 + 16 * (get_or (a ∷ []) y 0 % 16)) e f
pair_at_lem (a ∷ b ∷ cs) zero = refl
pair_at_lem (a ∷ b ∷ cs) (suc i) =
    let e : suc (suc (2 * i)) ≡ 2 * suc i = omega arith in
    let f : suc (suc (2 * i + 1)) ≡ 2 * suc i + 1 = omega arith in
    pair_at_lem cs i ∙ ap₂ (λ x y. get_or (a ∷ b ∷ cs) x 0 % 16 + 16 * (get_or (a ∷ b ∷ cs) y 0 % 16)) e f

pub length_pairs : (cs : List ℕ) → length (in_pairs cs) ≡ (length cs + 1) / 2
length_pairs [] = refl
length_pairs (a ∷ []) = refl
length_pairs (a ∷ b ∷ cs) = let h = length_pairs cs in omega arith

pub wide_length : (q n : ℕ) → 16 < q → packed_length q n ≡ n
unfolding packed_length
wide_length q n h = cond-true (ltb 16 q) _ _ (lt-ltb 16 q h)

pub narrow_length : (q n : ℕ) → q ≤ 16 → packed_length q n ≡ (n + 1) / 2
unfolding packed_length
narrow_length q n h = cond-false (ltb 16 q) _ _ (le-ltb 16 q h)

pub wide_packed : (q : ℕ) (cs : List ℕ) → 16 < q → packed q cs ≡ cs
unfolding packed
wide_packed q cs h = cond-true (ltb 16 q) _ _ (lt-ltb 16 q h)

pub narrow_packed : (q : ℕ) (cs : List ℕ) → q ≤ 16 → packed q cs ≡ in_pairs cs
unfolding packed
narrow_packed q cs h = cond-false (ltb 16 q) _ _ (le-ltb 16 q h)

pub length_packed : (q : ℕ) (cs : List ℕ) → length (packed q cs) ≡ packed_length q (length cs)
length_packed q cs =
    elim (cases_lt 16 q) [
      | inl h ↦ ap length (wide_packed q cs h) ∙ sym (wide_length q (length cs) h)
      | inr h ↦ ap length (narrow_packed q cs h) ∙ length_pairs cs ∙ sym (narrow_length q (length cs) h)
    ]

-- what a place of a pair of codes reads as
halved : (cs : List ℕ) (k : ℕ) → half k (get_or (in_pairs cs) (k / 2) 0) ≡ get_or cs k 0 % 16
halved cs k =
    let p = pair_at_lem cs (k / 2) in
    elim (cases_eq (k % 2) 0) [
      | inl z ↦
          let e : 2 * (k / 2) ≡ k = omega arith in
          half_low k _ z ∙ low (get_or cs (2 * (k / 2)) 0) (get_or cs (2 * (k / 2) + 1) 0) _ p ∙ ap (λ t. get_or cs t 0 % 16) e
      | inr z ↦
          let ne : (k % 2) ≢ 0 = z in
          let e : 2 * (k / 2) + 1 ≡ k = omega arith in
          half_high k _ z ∙ high (get_or cs (2 * (k / 2)) 0) (get_or cs (2 * (k / 2) + 1) 0) _ p ∙ ap (λ t. get_or cs t 0 % 16) e
    ]
  where
    low : (x y b : ℕ) → b ≡ x % 16 + 16 * (y % 16) → b % 16 ≡ x % 16
    low x y b e = omega arith

    high : (x y b : ℕ) → b ≡ x % 16 + 16 * (y % 16) → b / 16 ≡ y % 16
    high x y b e = omega arith

pub code_back : (q : ℕ) (cs : List ℕ) → AllByRecursion (λ c. c < q) cs → (k : ℕ) → k < length cs → code_at q (packed q cs) k ≡ get_or cs k 0
code_back q cs a k l =
    elim (cases_lt 16 q) [
      | inl h ↦ wide_at q (packed q cs) k h ∙ ap (λ (xs : List ℕ). get_or xs k 0) (wide_packed q cs h)
      | inr h ↦
          let small = all_at q cs a k l in
          narrow_at q (packed q cs) k h ∙ ap (λ (xs : List ℕ). half k (get_or xs (k / 2) 0)) (narrow_packed q cs h) ∙ halved cs k ∙ omega arith
    ]

pub read_back : (q : ℕ) → RunsReadBack q
read_back q cs a =
    let e = length_from q (packed q cs) 0 (length cs) in
    record {
      codes =
          ext_get_or 0 (codes_from q (packed q cs) 0 (length cs)) cs e
          (λ k h. let l : k < length cs = omega arith in get_or_read q (packed q cs) _ (length cs) k refl l ∙ code_back q cs a k l);
      bytes = length_packed q cs;
    }

-- A code written at its place.
pub wide_byte : (q k : ℕ) → 16 < q → byte_at q k ≡ k
unfolding byte_at
wide_byte q k h = cond-true (ltb 16 q) _ _ (lt-ltb 16 q h)

pub narrow_byte : (q k : ℕ) → q ≤ 16 → byte_at q k ≡ k / 2
unfolding byte_at
narrow_byte q k h = cond-false (ltb 16 q) _ _ (le-ltb 16 q h)

-- the byte of a place within a run of n codes
pub byte_within : (q k n : ℕ) → k < n → byte_at q k < packed_length q n
byte_within q k n l =
    elim (cases_lt 16 q) [
      | inl h ↦ let b = wide_byte q k h in let p = wide_length q n h in omega arith
      | inr h ↦ let b = narrow_byte q k h in let p = narrow_length q n h in omega arith
    ]

pub with_low : (k c b : ℕ) → k % 2 ≡ 0 → with_half k c b ≡ b / 16 * 16 + c % 16
with_low k c b e = cond-true (eqb (k % 2) 0) _ _ (eq-eqb (k % 2) 0 e)

pub with_high : (k c b : ℕ) → (k % 2 ≡ 0 → ⊥) → with_half k c b ≡ b % 16 + 16 * (c % 16)
with_high k c b e = cond-false (eqb (k % 2) 0) _ _ (ne_eqb (k % 2) 0 e)

pub wide_put : (q : ℕ) (run : List ℕ) (k c : ℕ) → 16 < q → put_code q run k c ≡ set run k c
unfolding put_code
wide_put q run k c h = ap₂ (set run) (wide_byte q k h) (cond-true (ltb 16 q) _ _ (lt-ltb 16 q h))

pub narrow_put : (q : ℕ) (run : List ℕ) (k c : ℕ) → q ≤ 16 → put_code q run k c ≡ set run (k / 2) (with_half k c (get_or run (k / 2) 0))
unfolding put_code
narrow_put q run k c h =
    ap₂ (set run) (narrow_byte q k h) (cond-false (ltb 16 q) _ _ (le-ltb 16 q h) ∙ ap (λ t. with_half k c (get_or run t 0)) (narrow_byte q k h))

pub put_past : (q : ℕ) (run : List ℕ) (k c : ℕ) → length run ≤ byte_at q k → put_code q run k c ≡ run
unfolding put_code
put_past q run k c h = set_past run (byte_at q k) _ h

pub length_put : (q : ℕ) (run : List ℕ) (k c : ℕ) → length (put_code q run k c) ≡ length run
unfolding put_code
length_put q run k c = length-set run (byte_at q k) _

half_same : (k c b : ℕ) → c < 16 → half k (with_half k c b) ≡ c
half_same k c b l =
    elim (cases_eq (k % 2) 0) [
      | inl z ↦ half_low k _ z ∙ ap (λ t. t % 16) (with_low k c b z) ∙ omega arith
      | inr z ↦ half_high k _ z ∙ ap (λ t. t / 16) (with_high k c b z) ∙ omega arith
    ]

half_other : (k j c b : ℕ) → j / 2 ≡ k / 2 → (j ≡ k → ⊥) → half j (with_half k c b) ≡ half j b
half_other k j c b e n =
    let ne : j ≢ k = n in
    elim (cases_eq (k % 2) 0) [
      | inl z ↦
          let o : j % 2 ≡ 0 → ⊥ = λ i. omega arith in
          half_high j _ o ∙ ap (λ t. t / 16) (with_low k c b z) ∙ omega arith ∙ sym (half_high j b o)
      | inr z ↦
          let nz : (k % 2) ≢ 0 = z in
          let o : j % 2 ≡ 0 = omega arith in
          half_low j _ o ∙ ap (λ t. t % 16) (with_high k c b z) ∙ omega arith ∙ sym (half_low j b o)
    ]

pub put_there : (q : ℕ) (run : List ℕ) (k c : ℕ) → byte_at q k < length run → (c < 16) ⊎ (16 < q) → code_at q (put_code q run k c) k ≡ c
put_there q run k c l s =
    elim (cases_lt 16 q) [
      | inl h ↦
          let e = wide_byte q k h in
          wide_at q (put_code q run k c) k h ∙ ap (λ (xs : List ℕ). get_or xs k 0) (wide_put q run k c h) ∙ get_or-set_same run k c 0 (omega arith)
      | inr h ↦
          let e = narrow_byte q k h in
          let small : c < 16 = elim s [ inl t ↦ t | inr t ↦ absurd (omega arith) ] in
          narrow_at q (put_code q run k c) k h ∙ ap (λ (xs : List ℕ). half k (get_or xs (k / 2) 0)) (narrow_put q run k c h)
          ∙ ap (half k) (get_or-set_same run (k / 2) _ 0 (omega arith)) ∙ half_same k c _ small
    ]

pub put_other : (q : ℕ) (run : List ℕ) (k j c : ℕ) → (j ≡ k → ⊥) → code_at q (put_code q run k c) j ≡ code_at q run j
put_other q run k j c n =
    elim (cases_lt (byte_at q k) (length run)) [
      | inr p ↦ ap (λ (xs : List ℕ). code_at q xs j) (put_past q run k c p)
      | inl l ↦ elim (cases_lt 16 q) [
        | inl h ↦ wide_at q (put_code q run k c) j h ∙ ap (λ (xs : List ℕ). get_or xs j 0) (wide_put q run k c h) ∙ get_or-set_other run k j c 0 n ∙ sym (wide_at q run j h)
        | inr h ↦ narrow_at q (put_code q run k c) j h ∙ ap (λ (xs : List ℕ). half j (get_or xs (j / 2) 0)) (narrow_put q run k c h) ∙ narrow (let e = narrow_byte q k h in omega arith) ∙ sym (narrow_at q run j h)
      ]
    ]
  where
    new : ℕ
    new = with_half k c (get_or run (k / 2) 0)

    narrow : k / 2 < length run → half j (get_or (set run (k / 2) new) (j / 2) 0) ≡ half j (get_or run (j / 2) 0)
    narrow l =
        elim (cases_eq (j / 2) (k / 2)) [
          | inl e ↦ ap (λ t. half j (get_or (set run (k / 2) new) t 0)) e ∙ ap (half j) (get_or-set_same run (k / 2) new 0 l) ∙ half_other k j c (get_or run (k / 2) 0) e n ∙ ap (λ t. half j (get_or run t 0)) (sym e)
          | inr e ↦ ap (half j) (get_or-set_other run (k / 2) (j / 2) new 0 e)
        ]

-- A run is fixed by its codes; the half byte over is 0.
pub run_from_codes : (q : ℕ) (run cs : List ℕ) → length run ≡ packed_length q (length cs) → AllByRecursion (λ c. c < q) cs → ((k : ℕ) → k < length cs → code_at q run k ≡ get_or cs k 0) → (q ≤ 16 → code_at q run (length cs) ≡ 0) → run ≡ packed q cs
run_from_codes q run cs len small same over =
    elim (cases_lt 16 q) [
      | inl h ↦
          let e : length run ≡ length cs = len ∙ wide_length q (length cs) h in
          ext_get_or 0 run cs e (λ i l. sym (wide_at q run i h) ∙ same i (omega arith)) ∙ sym (wide_packed q cs h)
      | inr h ↦
          let n = narrow_length q (length cs) h in
          let e : length run ≡ length (in_pairs cs) = len ∙ n ∙ sym (length_pairs cs) in
          ext_get_or 0 run (in_pairs cs) e (λ i l. byte h i (omega arith) ∙ sym (pair_at_lem cs i)) ∙ sym (narrow_packed q cs h)
    ]
  where
    code : (k : ℕ) → q ≤ 16 → k < length cs + 1 → (code_at q run k ≡ get_or cs k 0) × (get_or cs k 0 < 16)
    code k h l =
        elim (cases_lt k (length cs)) [
          | inl g ↦ let s = all_at q cs small k g in (same k g, omega arith)
          | inr g ↦
              let e : length cs ≡ k = omega arith in
              let z = get_or_past cs k 0 g in
              (ap (code_at q run) (sym e) ∙ over h ∙ sym z, omega arith)
        ]

    byte : q ≤ 16 → (i : ℕ) → 2 * i < length cs → get_or run i 0 ≡ get_or cs (2 * i) 0 % 16 + 16 * (get_or cs (2 * i + 1) 0 % 16)
    byte h i l =
        let (x, lx) = code (2 * i) h (omega arith) in
        let (y, ly) = code (2 * i + 1) h (omega arith) in
        let ex : 2 * i / 2 ≡ i = omega arith in
        let ey : (2 * i + 1) / 2 ≡ i = omega arith in
        let low : get_or run i 0 % 16 ≡ get_or cs (2 * i) 0 = ap (λ t. get_or run t 0 % 16) (sym ex) ∙ sym (half_low (2 * i) _ (omega arith)) ∙ sym (narrow_at q run (2 * i) h) ∙ x in
        let high : get_or run i 0 / 16 ≡ get_or cs (2 * i + 1) 0 = ap (λ t. get_or run t 0 / 16) (sym ey) ∙ sym (half_high (2 * i + 1) _ (λ o. omega arith)) ∙ sym (narrow_at q run (2 * i + 1) h) ∙ y in
        omega arith
