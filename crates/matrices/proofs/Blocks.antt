-- Arrays of two blocks of n columns. Assumes nothing.
use Rattle.std.proofs.Common.{◌≡◌, ℕ, zero, suc, ◌+◌, ◌-◌, ◌*◌, ◌<◌, ◌≤◌, List, length, get_or, set, replicate, sym, refl, ap, ◌∙◌, subst, inl, suc-mul, mul-add, arith}
use native.Mathlib.Decide.{dec_lt, ℕ_discrete}
use lib.ListN.{length-replicate}
use Rattle.std.proofs.Math.ListN.{length-set}
use borrow.Rule.Slice.PartMut.{put_mid}
use Rattle.std.specs.List.{between}
use Rattle.std.proofs.lemmas.List.Edits.{length-between, get_or-between}
use Rattle.std.proofs.lemmas.List.{get_or_past, get_or-set_same, get_or-set_other, get_or-replicate}
use Rattle.algebra.specs.Rings.{Ring, RingLaws}
use Rattle.algebra.specs.Systems.{unit_matrix}
use Rattle.algebra.proofs.Systems.{unit_here, unit_off}
use Rattle.matrices.specs.Arrays.{entry, Codes, Written, LeftFrom, RightOf}
use Rattle.matrices.proofs.RowWrites.{row_below, put_written, written_as}

-- the row and the column of a place
pub located : (n w k : ℕ) → k < n * w → (i : ℕ) × ((j : ℕ) × ((i < n) × ((j < w) × (k ≡ i * w + j))))
located zero w k l = absurd (omega arith)
located (suc n) w k l =
    elim (dec_lt k (n * w)) [
      | yes h ↦ let (i, (j, (a, (b, e)))) = located n w k h in (i, (j, (omega arith, (b, e))))
      | no h ↦ let s = suc-mul n w in (n, (k - n * w, (omega arith, (omega arith, omega arith))))
    ]

-- codes in every row and column are codes in every place
pub codes_from_lem : (R : Ring) (L : RingLaws R) (rows : List ℕ) (n w : ℕ) → length rows ≡ n * w → ((i j : ℕ) → i < n → j < w → entry rows w i j < R.q) → Codes R rows
codes_from_lem R L rows n w e h k =
    elim (dec_lt k (n * w)) [
      | yes l ↦ let (i, (j, (a, (b, p)))) = located n w k l in subst (λ t. get_or rows t 0 < R.q) (sym p) (h i j a b)
      | no l ↦ let z = get_or_past rows k 0 (omega arith) in let low = L.q_low in omega arith
    ]

-- a row is copied
pub row_written : (xs ys zs : List ℕ) (a k : ℕ) → ys ≡ zs → k ≡ length zs → a + length zs ≤ length xs → Written xs (put_mid a k xs ys) (length zs) a (λ i. get_or zs i 0)
row_written xs ys zs a k e q h =
    subst (λ t. Written xs (put_mid a k xs t) (length zs) a (λ i. get_or zs i 0)) (sym e)
    (subst (λ t. Written xs (put_mid a t xs zs) (length zs) a (λ i. get_or zs i 0)) (sym q) (put_written xs zs a (length zs) h refl))

-- a row of zeros, with a one in it
pub unit_written : (xs zs : List ℕ) (n a i k : ℕ) → k ≡ n → a + n ≤ length xs → zs ≡ replicate (length (between a (a + n) xs)) 0 → i < n → Written xs (put_mid a k xs (set zs i 1)) n a (unit_matrix i)
unit_written xs zs n a i k e h z l =
    subst (λ t. Written xs (put_mid a t xs (set zs i 1)) n a (unit_matrix i)) (sym e)
    (written_as xs (put_mid a n xs (set zs i 1)) n a (λ t. get_or (set zs i 1) t 0) (unit_matrix i) each (put_written xs (set zs i 1) a n h (length-set zs i 1 ∙ long)))
  where
    len : length (between a (a + n) xs) ≡ n
    len = length-between xs a (a + n) h ∙ omega arith

    long : length zs ≡ n
    long = ap length z ∙ length-replicate (length (between a (a + n) xs)) 0 ∙ len

    each : (t : ℕ) → t < n → get_or (set zs i 1) t 0 ≡ unit_matrix i t
    each t g =
        elim (ℕ_discrete i t) [
          | yes p ↦ ap (λ u. get_or (set zs u 1) t 0) p ∙ get_or-set_same zs t 1 0 (omega (arith, long)) ∙ sym (unit_here t) ∙ ap (λ u. unit_matrix u t) (sym p)
          | no p ↦ get_or-set_other zs i t 1 0 (λ q. p (omega arith)) ∙ ap (λ us. get_or us t 0) z ∙ get_or-replicate (length (between a (a + n) xs)) t 0 0 (omega (arith, len)) ∙ sym (unit_off i t p)
        ]

-- row t of the system is written into its left block
pub left_more : (a old new : List ℕ) (n t : ℕ) → t * n + n ≤ length a → LeftFrom a old n t → Written old new (length (between (t * n) (t * n + n) a)) (t * (n + n)) (λ k. get_or (between (t * n) (t * n + n) a) k 0) → LeftFrom a new n (t + 1)
left_more a old new n t l A W i j h g =
    elim (dec_lt i t) [
      | yes s ↦ let b = row_below i t (n + n) s in W.rest (i * (n + n) + j) (inl (omega arith)) ∙ A i j s g
      | no s ↦ let e : i ≡ t = omega arith in
          let len : length (between (t * n) (t * n + n) a) ≡ n = length-between a (t * n) (t * n + n) l ∙ omega arith in
          ap (λ u. entry new (n + n) u j) e ∙ W.here j (omega arith)
          ∙ get_or-between a (t * n) (t * n + n) j 0 (omega arith) ∙ ap (λ u. entry a n u j) (sym e)
    ]

-- row t of the right block is read
pub right_more : (rows old new : List ℕ) (n t : ℕ) → t * (n + n) + n + n ≤ length rows → RightOf rows old n t → Written old new (length (between (t * (n + n) + n) (t * (n + n) + n + n) rows)) (t * n) (λ k. get_or (between (t * (n + n) + n) (t * (n + n) + n + n) rows) k 0) → RightOf rows new n (t + 1)
right_more rows old new n t l A W i k h g =
    elim (dec_lt i t) [
      | yes s ↦ let b = row_below i t n s in W.rest (i * n + k) (inl (omega arith)) ∙ A i k s g
      | no s ↦ let e : i ≡ t = omega arith in
          let len : length (between (t * (n + n) + n) (t * (n + n) + n + n) rows) ≡ n = length-between rows (t * (n + n) + n) (t * (n + n) + n + n) l ∙ omega arith in
          ap (λ u. entry new n u k) e ∙ W.here k (omega arith)
          ∙ get_or-between rows (t * (n + n) + n) (t * (n + n) + n + n) k 0 (omega arith) ∙ ap (λ u. get_or rows u 0) (omega arith) ∙ ap (λ u. entry rows (n + n) u (n + k)) (sym e)
    ]

pub both_blocks : (n : ℕ) → 2 * (n * n) ≡ n * (n + n)
both_blocks n = let e = mul-add n n n in omega arith
