-- Sums of products, a row at a time. Assumes nothing.
use Rattle.std.proofs.Common.{◌≡◌, ℕ, zero, suc, ◌+◌, ◌*◌, ◌<◌, ◌≤◌, ◌≢◌, min, ◌⊎◌, Ok, Err, Result, List, length, get_or, sym, refl, ap, ◌∙◌, subst, ap₂, add-one, arith}
use native.Mathlib.Decide.{dec_lt, ℕ_discrete}
use borrow.Rule.Slice.PartMut.{put_mid}
use Rattle.std.specs.List.{between}
use Rattle.std.proofs.lemmas.List.Edits.{length-between, get_or-between}
use Rattle.algebra.specs.Rings.{Ring, RingLaws}
use Rattle.algebra.specs.Sums.{dot_of}
use Rattle.algebra.proofs.Codes.{zero_mul, sum_code}
use Rattle.algebra.proofs.SumLaws.{sum_zeros}
use Rattle.algebra.proofs.Systems.{dot_ext}
use Rattle.fields.specs.declared.packing.Misfit.{Misfit}
use Rattle.fields.specs.Rows.{plus_times}
use Rattle.fields.proofs.Additions.{get_or_plus}
use Rattle.matrices.specs.Arrays.{entry, Written}
use Rattle.matrices.specs.MatrixProducts.{Applied}
use Rattle.matrices.proofs.RowWrites.{row_off, put_written}

-- a product whose lengths fit
pub applied_there : (R : Ring) (a x old new : List ℕ) (n k : ℕ) (r : Result Unit Misfit) → length a ≡ n * k → length x ≡ k → length old ≡ n → Applied R a x old r new → (i : ℕ) → i < n → get_or new i 0 ≡ dot_of R k (entry a k i) (λ j. get_or x j 0)
applied_there R a x old new n k (Ok _) f e o A i l = A.1 i (omega arith) ∙ ap (λ (m : ℕ). dot_of R m (entry a m i) (λ j. get_or x j 0)) e
applied_there R a x old new n k (Err _) f e o A i l = absurd (A.0 (f ∙ ap₂ ◌*◌ (sym o) (sym e)))

-- row i of m times x
pub dot_row : (R : Ring) (m x : List ℕ) (i w : ℕ) → w ≡ length x → i * w + w ≤ length m → dot_of R (min (length (between (i * w) (i * w + w) m)) (length x)) (λ t. get_or (between (i * w) (i * w + w) m) t 0) (λ t. get_or x t 0) ≡ dot_of R (length x) (entry m (length x) i) (λ t. get_or x t 0)
dot_row R m x i w e h =
    let p = between (i * w) (i * w + w) m in
    let len : length p ≡ w = length-between m (i * w) (i * w + w) h ∙ omega arith in
    let n : min (length p) (length x) ≡ length x = omega arith in
    ap (λ k. dot_of R k (λ t. get_or p t 0) (λ t. get_or x t 0)) n
    ∙ dot_ext R (length x) (λ t. get_or p t 0) (entry m (length x) i) (λ t. get_or x t 0) (λ t. get_or x t 0) (λ j l. get_or-between m (i * w) (i * w + w) j 0 (omega arith) ∙ ap (λ s. get_or m (i * s + j) 0) e) (λ j l. refl)

-- row k of b, times its factor, is added to the sum of those before it
pub combine_more : (R : Ring) (acc new b fs : List ℕ) (k w v j : ℕ) → w ≡ v → new ≡ plus_times R (get_or fs k 0) acc (between (k * w) (k * w + w) b) → k * w + w ≤ length b → length acc ≡ w → j < w → get_or acc j 0 ≡ dot_of R k (λ t. get_or fs t 0) (λ t. entry b v t j) → get_or new j 0 ≡ dot_of R (k + 1) (λ t. get_or fs t 0) (λ t. entry b v t j)
combine_more R acc new b fs k w v j e h le len l was =
    let lb : length (between (k * w) (k * w + w) b) ≡ w = length-between b (k * w) (k * w + w) le ∙ omega arith in
    rw add-one
    (ap (λ xs. get_or xs j 0) h ∙ get_or_plus R (get_or fs k 0) acc (between (k * w) (k * w + w) b) j (omega arith) (omega arith)
    ∙ ap₂ (λ x y. R.add x (R.mul (get_or fs k 0) y)) was (get_or-between b (k * w) (k * w + w) j 0 (omega arith) ∙ ap (λ s. get_or b (k * s + j) 0) e))

-- a sum of products of which only one has a first factor that is not 0
pub dot_single : (R : Ring) → RingLaws R → (x y : ℕ → ℕ) (i k : ℕ) → i < k → ((j : ℕ) → j < k → (i ≡ j → ⊥) → x j ≡ 0) → dot_of R k x y ≡ R.mul (x i) (y i)
dot_single R L x y i zero h z = absurd (omega arith)
dot_single R L x y i (suc k) h z =
    elim (ℕ_discrete i k) [
      | yes e ↦
          ap (λ s. R.add s (R.mul (x k) (y k))) (sum_zeros R L k (λ j. R.mul (x j) (y j)) (λ j l. ap (λ f. R.mul f (y j)) (z j (omega arith) (λ p. omega arith)) ∙ zero_mul R L (y j)))
          ∙ L.add_comm 0 (R.mul (x k) (y k)) ∙ L.add_zero (R.mul (x k) (y k)) (L.mul_code (x k) (y k)) ∙ ap (λ t. R.mul (x t) (y t)) (sym e)
      | no e ↦
          ap (R.add (dot_of R k x y)) (ap (λ f. R.mul f (y k)) (z k (omega arith) e) ∙ zero_mul R L (y k))
          ∙ L.add_zero (dot_of R k x y) (sum_code R L k (λ t. R.mul (x t) (y t)))
          ∙ (let n : i ≢ k = e in dot_single R L x y i k (omega arith) (λ j l p. z j (omega arith) p))
    ]

-- row k of b is left out where its factor is 0
pub combine_skip : (R : Ring) → RingLaws R → (b fs : List ℕ) (s k w j : ℕ) → get_or fs k 0 ≡ 0 → s ≡ dot_of R k (λ t. get_or fs t 0) (λ t. entry b w t j) → s ≡ dot_of R (k + 1) (λ t. get_or fs t 0) (λ t. entry b w t j)
combine_skip R L b fs s k w j z was =
    let old = dot_of R k (λ t. get_or fs t 0) (λ t. entry b w t j) in
    rw add-one
    (was ∙ sym (L.add_zero old (sum_code R L k (λ t. R.mul (get_or fs t 0) (entry b w t j))))
    ∙ ap (R.add old) (sym (ap (λ f. R.mul f (entry b w k j)) z ∙ zero_mul R L (entry b w k j))))

-- row i of the product of x and b is written, where fs is row i of x
pub product_more : (R : Ring) (x : ℕ → ℕ → ℕ) (fs b old row : List ℕ) (i k m w : ℕ) → w ≡ m → length fs ≡ k → ((t : ℕ) → t < k → get_or fs t 0 ≡ x i t) → i * m + m ≤ length old → length row ≡ length (between (i * m) (i * m + m) old) → ((j : ℕ) → j < length (between (i * m) (i * m + m) old) → get_or row j 0 ≡ dot_of R (length fs) (λ t. get_or fs t 0) (λ t. entry b (length (between (i * m) (i * m + m) old)) t j)) → ((r j : ℕ) → r < i → j < m → entry old m r j ≡ dot_of R k (x r) (λ t. entry b m t j)) → (r j : ℕ) → r < i + 1 → j < m → entry (put_mid (i * m) w old row) m r j ≡ dot_of R k (x r) (λ t. entry b m t j)
product_more R x fs b old row i k m w e inner same lo lr h was r j l g =
    elim (dec_lt r i) [
      | yes s ↦ W.rest (r * m + j) (subst (λ n. (r * m + j < i * m) ⊎ (i * m + n ≤ r * m + j)) (sym e) (row_off r i m j (λ t. omega arith) g)) ∙ was r j s g
      | no s ↦ let q : r ≡ i = omega arith in
          subst (λ t. entry (put_mid (i * m) w old row) m t j ≡ dot_of R k (x t) (λ t. entry b m t j)) (sym q) here
    ]
  where
    len : length (between (i * m) (i * m + m) old) ≡ m
    len = length-between old (i * m) (i * m + m) lo ∙ omega arith

    W : Written old (put_mid (i * m) w old row) w (i * m) (λ t. get_or row t 0)
    W = put_written old row (i * m) w (omega arith) (lr ∙ len ∙ sym e)

    here : entry (put_mid (i * m) w old row) m i j ≡ dot_of R k (x i) (λ t. entry b m t j)
    here =
        W.here j (omega arith) ∙ h j (omega (arith, len))
        ∙ ap₂ (λ n v. dot_of R n (λ t. get_or fs t 0) (λ t. entry b v t j)) inner len
        ∙ dot_ext R k _ _ _ _ same (λ t s. refl)

-- row i of the product is written
pub multiply_more : (R : Ring) (a b old row : List ℕ) (i k m w : ℕ) → w ≡ m → i * k + k ≤ length a → i * m + m ≤ length old → length row ≡ length (between (i * m) (i * m + m) old) → ((j : ℕ) → j < length (between (i * m) (i * m + m) old) → get_or row j 0 ≡ dot_of R (length (between (i * k) (i * k + k) a)) (λ t. get_or (between (i * k) (i * k + k) a) t 0) (λ t. entry b (length (between (i * m) (i * m + m) old)) t j)) → ((r j : ℕ) → r < i → j < m → entry old m r j ≡ dot_of R k (entry a k r) (λ t. entry b m t j)) → (r j : ℕ) → r < i + 1 → j < m → entry (put_mid (i * m) w old row) m r j ≡ dot_of R k (entry a k r) (λ t. entry b m t j)
multiply_more R a b old row i k m w e la =
    product_more R (entry a k) (between (i * k) (i * k + k) a) b old row i k m w e (length-between a (i * k) (i * k + k) la ∙ omega arith) (λ t s. get_or-between a (i * k) (i * k + k) t 0 (omega arith))
