-- The inverses of unit upper triangular block matrices over codes. Assumes nothing.
use Rattle.std.proofs.Common.{◌≡◌, ℕ, ◌+◌, ◌-◌, Bool, true, false, cond, eqb, ltb, sym, refl, ap, ◌∙◌, subst, ap₂, subst₂, zero-le, zero-add, le-ltb}
use mathlib.Core.Path.{fun_ext}
use native.Mathlib.Nat.{sub-zero}
use Rattle.algebra.specs.Commutative.{Commutative, total, apply}
use Rattle.algebra.specs.Rings.{Ring, RingLaws}
use Rattle.algebra.specs.Matrices.{applied}
use Rattle.algebra.specs.Masks.{mask_s, mask_t, negated, second_of, Undoes, MaskSInverse, MaskTInverse}
use Rattle.algebra.proofs.Laws.{add_left, nil_mul, neg_cancel, mul_neg, neg_mul, neg_only}
use Rattle.algebra.proofs.Totals.{total_nil, total_add}
use Rattle.algebra.proofs.Codes.{Code, codes, code, code_known, nil_code, one_code}
use Rattle.algebra.proofs.Bridge.{vector, matrix, code_back, code_number, mul_of, neg_of, sum_of, applied_of, applied_vector}
use Rattle.algebra.proofs.Blocks.{blocks, Cancel, undone}

module _ {A : Type 0} (S : Commutative A) where
  neg_add : (a : A) → S.add (S.neg a) a ≡ S.nil
  neg_add a = S.add_comm (S.neg a) a ∙ S.add_neg a

  total_neg : (n : ℕ) (f : ℕ → A) → total S n (λ k. S.neg (f k)) ≡ S.neg (total S n f)
  total_neg n f =
      neg_only S (total S n f) (total S n (λ k. S.neg (f k))) (sym (total_add S n f (λ k. S.neg (f k))) ∙ ap (total S n) (fun_ext (λ k. S.add_neg (f k))) ∙ total_nil S n)

  -- the blocks P, P K - D and K against -P, D and -K
  cancel_after : (o : ℕ) (P K D : ℕ → ℕ → A) → Cancel S o P (λ i l. S.add (total S o (λ k. S.mul (P i k) (K k l))) (S.neg (D i l))) K (λ i k. S.neg (P i k)) D (λ i k. S.neg (K i k))
  cancel_after o P K D = record {
    one_two = λ i k. neg_add (P i k);
    two_three = λ i k. neg_add (K i k);
    one_three = λ i l.
        let x = total S o (λ k. S.mul (P i k) (K k l)) in
        let d = D i l in
        ap (λ t. S.add (S.add d t) (S.add x (S.neg d))) (ap (total S o) (fun_ext (λ k. mul_neg S (P i k) (K k l))) ∙ total_neg o (λ k. S.mul (P i k) (K k l)))
        ∙ S.add_assoc d (S.neg x) (S.add x (S.neg d))
        ∙ ap (S.add d) (add_left S (S.neg x) x (S.neg d) ∙ neg_cancel S x (S.neg d))
        ∙ S.add_neg d;
  }

  -- and the other way round
  cancel_before : (o : ℕ) (P K D : ℕ → ℕ → A) → Cancel S o (λ i k. S.neg (P i k)) D (λ i k. S.neg (K i k)) P (λ i l. S.add (total S o (λ k. S.mul (P i k) (K k l))) (S.neg (D i l))) K
  cancel_before o P K D = record {
    one_two = λ i k. S.add_neg (P i k);
    two_three = λ i k. S.add_neg (K i k);
    one_three = λ i l.
        let x = total S o (λ k. S.mul (P i k) (K k l)) in
        let d = D i l in
        ap (λ t. S.add (S.add (S.add x (S.neg d)) t) d) (ap (total S o) (fun_ext (λ k. neg_mul S (P i k) (K k l))) ∙ total_neg o (λ k. S.mul (P i k) (K k l)))
        ∙ S.add_assoc (S.add x (S.neg d)) (S.neg x) d
        ∙ ap (λ t. S.add t (S.add (S.neg x) d)) (S.add_comm x (S.neg d))
        ∙ S.add_assoc (S.neg d) x (S.add (S.neg x) d)
        ∙ ap (S.add (S.neg d)) (neg_cancel S x d)
        ∙ neg_add d;
  }

module _ (R : Ring) (L : RingLaws R) where
  code_cond : (b : Bool) (s t : ℕ) {x y : Code R} → code R L s ≡ x → code R L t ≡ y → code R L (cond b s t) ≡ cond b x y
  code_cond true s t p q = p
  code_cond false s t p q = q

  is : (a : ℕ) → code R L a ≡ code R L a
  is a = refl

  nil_is : code R L 0 ≡ (codes R L).nil
  nil_is = code_known R L 0 (nil_code R L)

  mask_matrix : (v o : ℕ) (P Q K : ℕ → ℕ → ℕ) → matrix R L (mask_t v o P Q K) ≡ blocks (codes R L) v o (matrix R L P) (matrix R L Q) (matrix R L K)
  unfolding mask_t blocks
  mask_matrix v o P Q K =
      fun_ext (λ i. fun_ext (λ j.
      code_cond (eqb i j) _ _ (code_known R L 1 (one_code R L)) (code_cond (ltb i v) _ _
      (code_cond (ltb j v) _ _ nil_is (code_cond (ltb j (v + o)) _ _ (is (P i (j - v))) (is (Q i (j - (v + o))))))
      (code_cond (ltb i (v + o)) _ _ (code_cond (ltb j (v + o)) _ _ nil_is (is (K (i - v) (j - (v + o))))) nil_is))))

  negated_code : (B : ℕ → ℕ → ℕ) (i j : ℕ) → code R L (negated R B i j) ≡ (codes R L).neg (code R L (B i j))
  unfolding negated
  negated_code B i j = code_back R L _ _ (neg_of R L (B i j))

  negated_matrix : (B : ℕ → ℕ → ℕ) → matrix R L (negated R B) ≡ (λ i j. (codes R L).neg (code R L (B i j)))
  negated_matrix B = fun_ext (λ i. fun_ext (negated_code B i))

  second_matrix : (o : ℕ) (P K D : ℕ → ℕ → ℕ) → matrix R L (second_of R o P K D) ≡ (λ i l. (codes R L).add (total (codes R L) o (λ k. (codes R L).mul (code R L (P i k)) (code R L (K k l)))) ((codes R L).neg (code R L (D i l))))
  unfolding second_of
  second_matrix o P K D =
      fun_ext (λ i. fun_ext (λ l. code_back R L _ _ (ap₂ R.add (sum_of R L o _ _ (λ k. mul_of R L (P i k) (K k l))) (neg_of R L (D i l)))))

  masks_undone : (v o p : ℕ) (P Q K P' Q' K' : ℕ → ℕ → ℕ) → Cancel (codes R L) o (matrix R L P) (matrix R L Q) (matrix R L K) (matrix R L P') (matrix R L Q') (matrix R L K') → Undoes R (v + o + p) (mask_t v o P Q K) (mask_t v o P' Q' K')
  masks_undone v o p P Q K P' Q' K' C y h i l =
      let n = v + o + p in
      applied_of R L n (mask_t v o P Q K) (applied R n (mask_t v o P' Q' K') y) i
      ∙ ap₂ (λ M z. (apply (codes R L) n M z i).0) (mask_matrix v o P Q K) (applied_vector R L n (mask_t v o P' Q' K') y ∙ ap (λ M. apply (codes R L) n M (vector R L y)) (mask_matrix v o P' Q' K'))
      ∙ ap (λ t. t.0) (undone (codes R L) v o p (matrix R L P) (matrix R L Q) (matrix R L K) (matrix R L P') (matrix R L Q') (matrix R L K') C (vector R L y) i l)
      ∙ code_number R L (y i) (h i l)

  pub mask_t_inverse : MaskTInverse R
  mask_t_inverse v o p P K D = record {
    after = masks_undone v o p P (second_of R o P K D) K (negated R P) D (negated R K)
        (rw (second_matrix o P K D, negated_matrix P, negated_matrix K) (cancel_after (codes R L) o (matrix R L P) (matrix R L K) (matrix R L D)));
    before = masks_undone v o p (negated R P) D (negated R K) P (second_of R o P K D) K
        (rw (second_matrix o P K D, negated_matrix P, negated_matrix K) (cancel_before (codes R L) o (matrix R L P) (matrix R L K) (matrix R L D)));
  }

  -- a block with no entries
  abbrev none : ℕ → ℕ → ℕ
  none i j = 0

  -- one block is the last of three, with no rows before it
  mask_s_t : (o : ℕ) (B : ℕ → ℕ → ℕ) → mask_t 0 o none none B ≡ mask_s o B
  unfolding mask_t mask_s
  mask_s_t o B = fun_ext (λ i. fun_ext (λ j. rw (le-ltb i 0 zero-le, zero-add o, sub-zero i)))

  -- the other two blocks empty
  none_cancel : (o : ℕ) (B B' : ℕ → ℕ → ℕ) → ((i k : ℕ) → (codes R L).add (matrix R L B' i k) (matrix R L B i k) ≡ (codes R L).nil) → Cancel (codes R L) o (matrix R L none) (matrix R L none) (matrix R L B) (matrix R L none) (matrix R L none) (matrix R L B')
  none_cancel o B B' h =
      let nils = (codes R L).add_nil (codes R L).nil in
      record {
        one_two = λ i k. rw nil_is nils;
        two_three = h;
        one_three = λ i l.
            rw nil_is ((codes R L).add_nil _ ∙ ap ((codes R L).add (codes R L).nil) (ap (total (codes R L) o) (fun_ext (λ k. nil_mul (codes R L) (matrix R L B' k l))) ∙ total_nil (codes R L) o) ∙ nils);
      }

  mask_s_undone : (o p : ℕ) (B B' : ℕ → ℕ → ℕ) → ((i k : ℕ) → (codes R L).add (matrix R L B' i k) (matrix R L B i k) ≡ (codes R L).nil) → Undoes R (o + p) (mask_s o B) (mask_s o B')
  mask_s_undone o p B B' h =
      subst (λ n. Undoes R (n + p) (mask_s o B) (mask_s o B')) (zero-add o)
      (subst₂ (Undoes R (0 + o + p)) (mask_s_t o B) (mask_s_t o B') (masks_undone 0 o p none none B none none B' (none_cancel o B B' h)))

  pub mask_s_inverse : MaskSInverse R
  mask_s_inverse o p B = record {
    after = mask_s_undone o p B (negated R B) (λ i k. ap (λ t. (codes R L).add t (matrix R L B i k)) (negated_code B i k) ∙ neg_add (codes R L) (matrix R L B i k));
    before = mask_s_undone o p (negated R B) B (λ i k. ap ((codes R L).add (matrix R L B i k)) (negated_code B i k) ∙ (codes R L).add_neg (matrix R L B i k));
  }
