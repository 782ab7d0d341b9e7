-- A form whose terms have a first variable below v and a second below v + o, as a constant and a linear part. Assumes nothing.
use Rattle.std.proofs.Common.{◌≡◌, ℕ, ◌+◌, ◌<◌, ◌≤◌, ◌⊎◌, sym, ap, ◌∙◌, ap₂, inl, inr, arith}
use Rattle.algebra.specs.Commutative.{Commutative, total, value}
use Rattle.algebra.specs.Rings.{Ring, RingLaws}
use Rattle.algebra.specs.Forms.{form_at}
use Rattle.algebra.specs.Layers.{layer_entry, layer_constant, layer_value}
use Rattle.algebra.proofs.Laws.{nil_mul}
use Rattle.algebra.proofs.Totals.{total_ext, total_add, total_swap, total_mul_right, value_pairs}
use Rattle.algebra.proofs.Totals.{total_split}
use Rattle.algebra.proofs.Places.{total_none}
use Rattle.algebra.proofs.Codes.{codes, code, code_known, nil_code, sum_code}
use Rattle.algebra.proofs.Bridge.{vector, matrix, code_back, mul_of, sum_of, form_of}

module _ {A : Type 0} (S : Commutative A) where
  -- places from n on that are nil do not count
  total_head : (n k : ℕ) (f : ℕ → A) → ((i : ℕ) → n ≤ i → i < n + k → f i ≡ S.nil) → total S (n + k) f ≡ total S n f
  total_head n k f h = total_split S n k f ∙ ap (S.add (total S n f)) (total_none S k _ (λ j l. h (n + j) (omega arith) (omega arith))) ∙ S.add_nil _

  -- the linear part
  abbrev linear : ℕ → ℕ → (ℕ → ℕ → A) → (ℕ → A) → A
  linear v o F x = total S o (λ c. S.mul (total S v (λ i. S.mul (F i (v + c)) (x i))) (x (v + c)))

  pub value_layer : (v o p : ℕ) (F : ℕ → ℕ → A) (x : ℕ → A) → ((i j : ℕ) → j < v + o + p → (v ≤ i) ⊎ (v + o ≤ j) → F i j ≡ S.nil) → value S (v + o + p) F x ≡ S.add (value S v F x) (linear v o F x)
  value_layer v o p F x h =
      value_pairs S (v + o + p) F x
      ∙ total_head (v + o) p row (λ i l g. total_none S (v + o + p) (f i) (λ j m. gone i j m (inl (omega arith))))
      ∙ total_head v o row (λ i l g. total_none S (v + o + p) (f i) (λ j m. gone i j m (inl l)))
      ∙ total_ext S v _ _ (λ i l. total_head (v + o) p (f i) (λ j g m. gone i j m (inr g)) ∙ total_split S v o (f i))
      ∙ total_add S v (λ i. total S v (f i)) (λ i. total S o (λ c. f i (v + c)))
      ∙ ap₂ S.add (sym (value_pairs S v F x))
      (total_swap S v o (λ i c. f i (v + c))
      ∙ total_ext S o _ _ (λ c l. total_ext S v _ _ (λ i m. sym (S.mul_assoc (F i (v + c)) (x i) (x (v + c)))) ∙ total_mul_right S v (x (v + c)) (λ i. S.mul (F i (v + c)) (x i))))
    where
      f : ℕ → ℕ → A
      f i j = S.mul (F i j) (S.mul (x i) (x j))

      row : ℕ → A
      row i = total S (v + o + p) (f i)

      gone : (i j : ℕ) → j < v + o + p → (v ≤ i) ⊎ (v + o ≤ j) → f i j ≡ S.nil
      gone i j m e = ap (λ t. S.mul t (S.mul (x i) (x j))) (h i j m e) ∙ nil_mul S _

module _ (R : Ring) (L : RingLaws R) where
  pub entry_code : (v : ℕ) (F : ℕ → ℕ → ℕ → ℕ) (x : ℕ → ℕ) (r c : ℕ) → layer_entry R v F x r c < R.q
  unfolding layer_entry
  entry_code v F x r c = sum_code R L v _

  pub constant_code : (v : ℕ) (F : ℕ → ℕ → ℕ → ℕ) (x : ℕ → ℕ) (r : ℕ) → layer_constant R v F x r < R.q
  unfolding layer_constant
  constant_code v F x r = sum_code R L v _

  entry_of : (v : ℕ) (F : ℕ → ℕ → ℕ → ℕ) (x : ℕ → ℕ) (r c : ℕ) → layer_entry R v F x r c ≡ (total (codes R L) v (λ i. (codes R L).mul (matrix R L (F r) i (v + c)) (vector R L x i))).0
  unfolding layer_entry
  entry_of v F x r c = sum_of R L v _ _ (λ i. mul_of R L (F r i (v + c)) (x i))

  -- the value of form r at x
  pub layer_value_lem : (v o p : ℕ) (F : ℕ → ℕ → ℕ → ℕ) (x : ℕ → ℕ) (r : ℕ) → ((i j : ℕ) → j < v + o + p → (v ≤ i) ⊎ (v + o ≤ j) → F r i j ≡ 0) → form_at R (v + o + p) (F r) x ≡ layer_value R v o F x r
  unfolding layer_constant
  layer_value_lem v o p F x r h =
      form_of R L (v + o + p) (F r) x
      ∙ ap (λ t. t.0) (value_layer (codes R L) v o p (matrix R L (F r)) (vector R L x) (λ i j m e. ap (code R L) (h i j m e) ∙ code_known R L 0 (nil_code R L)))
      ∙ ap₂ R.add (sym (form_of R L v (F r) x)) (sym (sum_of R L o _ _ (λ c.
      mul_of R L (layer_entry R v F x r c) (x (v + c))
      ∙ ap (λ t. ((codes R L).mul t (vector R L x (v + c))).0) (code_back R L _ (total (codes R L) v (λ i. (codes R L).mul (matrix R L (F r) i (v + c)) (vector R L x i))) (entry_of v F x r c)))))
