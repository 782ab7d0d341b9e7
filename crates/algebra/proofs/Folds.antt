-- Folding a form's matrix to an upper triangular one, and combining forms linearly, over a commutative ring. Assumes nothing.
use Rattle.std.proofs.Common.{◌≡◌, ℕ, Bool, true, false, cond, eqb, ltb, sym, refl, ap, ◌∙◌, arith, le-ltb, lt-ltb, eq-eqb, ne_eqb}
use mathlib.Core.Path.{fun_ext}
use native.Mathlib.Decide.{dec_lt}
use Rattle.algebra.specs.Commutative.{Commutative, total, value}
use Rattle.algebra.proofs.Laws.{add_mul, nil_add, nil_mul}
use Rattle.algebra.proofs.Totals.{total_add, total_mul, total_mul_right, total_swap, value_pairs}

module _ {A : Type 0} (S : Commutative A) where
  -- each entry below the diagonal added to its mirror above, and cleared
  unfoldable pub fold : (ℕ → ℕ → A) → ℕ → ℕ → A
  fold F i j = cond (ltb i j) (S.add (F i j) (F j i)) (cond (eqb i j) (F i j) S.nil)

  -- the part below the diagonal, and the rest
  abbrev lower : (ℕ → ℕ → A) → ℕ → ℕ → A
  lower F i j = cond (ltb j i) (F i j) S.nil

  abbrev upper : (ℕ → ℕ → A) → ℕ → ℕ → A
  upper F i j = cond (ltb j i) S.nil (F i j)

  parts : (F : ℕ → ℕ → A) (i j : ℕ) → F i j ≡ S.add (upper F i j) (lower F i j)
  parts F i j = go (ltb j i)
    where
      go : (b : Bool) → F i j ≡ S.add (cond b S.nil (F i j)) (cond b (F i j) S.nil)
      go true = sym (nil_add S (F i j))
      go false = sym (S.add_nil (F i j))

  fold_parts : (F : ℕ → ℕ → A) (i j : ℕ) → fold F i j ≡ S.add (upper F i j) (lower F j i)
  unfolding fold
  fold_parts F i j =
      elim (dec_lt i j) [
        | yes h ↦ rw (lt-ltb i j h, le-ltb j i (omega arith))
        | no h ↦ elim (dec_lt j i) [
          | yes k ↦ rw (le-ltb i j (omega arith), lt-ltb j i k, ne_eqb i j (λ e. absurd (omega arith))) (sym (S.add_nil S.nil))
          | no k ↦ rw (le-ltb i j (omega arith), le-ltb j i (omega arith), eq-eqb i j (omega arith)) (sym (S.add_nil (F i j)))
        ]
      ]

  pairs_add : (n : ℕ) (F G : ℕ → ℕ → A) → total S n (λ i. total S n (λ j. S.add (F i j) (G i j))) ≡ S.add (total S n (λ i. total S n (F i))) (total S n (λ i. total S n (G i)))
  pairs_add n F G =
      ap (total S n) (fun_ext (λ i. total_add S n (F i) (G i)))
      ∙ total_add S n (λ i. total S n (F i)) (λ i. total S n (G i))

  -- a fold keeps the sum over the pairs
  pub fold_total : (n : ℕ) (F : ℕ → ℕ → A) → total S n (λ i. total S n (fold F i)) ≡ total S n (λ i. total S n (F i))
  fold_total n F =
      ap (total S n) (fun_ext (λ i. ap (total S n) (fun_ext (fold_parts F i))))
      ∙ pairs_add n (upper F) (λ i j. lower F j i)
      ∙ ap (S.add (total S n (λ i. total S n (upper F i)))) (total_swap S n n (λ i j. lower F j i))
      ∙ sym (pairs_add n (upper F) (lower F))
      ∙ ap (total S n) (fun_ext (λ i. ap (total S n) (fun_ext (λ j. sym (parts F i j)))))

  fold_mul : (F : ℕ → ℕ → A) (x : ℕ → A) (i j : ℕ) → S.mul (fold F i j) (S.mul (x i) (x j)) ≡ fold (λ i j. S.mul (F i j) (S.mul (x i) (x j))) i j
  unfolding fold
  fold_mul F x i j = go (ltb i j) (eqb i j)
    where
      w : A
      w = S.mul (x i) (x j)

      go : (b c : Bool) → S.mul (cond b (S.add (F i j) (F j i)) (cond c (F i j) S.nil)) w ≡ cond b (S.add (S.mul (F i j) w) (S.mul (F j i) (S.mul (x j) (x i)))) (cond c (S.mul (F i j) w) S.nil)
      go true c = add_mul S (F i j) (F j i) w ∙ ap (λ t. S.add (S.mul (F i j) w) (S.mul (F j i) t)) (S.mul_comm (x i) (x j))
      go false true = refl
      go false false = nil_mul S w

  -- a fold keeps the form's value
  pub value_fold : (n : ℕ) (F : ℕ → ℕ → A) (x : ℕ → A) → value S n (fold F) x ≡ value S n F x
  value_fold n F x =
      value_pairs S n (fold F) x
      ∙ ap (total S n) (fun_ext (λ i. ap (total S n) (fun_ext (fold_mul F x i))))
      ∙ fold_total n (λ i j. S.mul (F i j) (S.mul (x i) (x j)))
      ∙ sym (value_pairs S n F x)

  -- the value of a linear combination of m forms
  pub value_combined : (n m : ℕ) (s : ℕ → A) (Q : ℕ → ℕ → ℕ → A) (x : ℕ → A) → value S n (λ i j. total S m (λ f. S.mul (s f) (Q f i j))) x ≡ total S m (λ f. S.mul (s f) (value S n (Q f) x))
  value_combined n m s Q x =
      value_pairs S n (λ i j. total S m (λ f. S.mul (s f) (Q f i j))) x
      ∙ ap (total S n) (fun_ext (λ i. ap (total S n) (fun_ext (λ j. sym (total_mul_right S m (w i j) (λ f. S.mul (s f) (Q f i j))) ∙ ap (total S m) (fun_ext (λ f. S.mul_assoc (s f) (Q f i j) (w i j)))))))
      ∙ ap (total S n) (fun_ext (λ i. total_swap S n m (λ j f. S.mul (s f) (S.mul (Q f i j) (w i j))) ∙ ap (total S m) (fun_ext (λ f. total_mul S n (s f) (λ j. S.mul (Q f i j) (w i j))))))
      ∙ total_swap S n m (λ i f. S.mul (s f) (total S n (λ j. S.mul (Q f i j) (w i j))))
      ∙ ap (total S m) (fun_ext (λ f. total_mul S n (s f) (λ i. total S n (λ j. S.mul (Q f i j) (w i j))) ∙ ap (S.mul (s f)) (sym (value_pairs S n (Q f) x))))
    where
      w : ℕ → ℕ → A
      w i j = S.mul (x i) (x j)
