-- Sums in which few places count. Assumes nothing.
use Rattle.std.proofs.Common.{◌≡◌, ℕ, zero, suc, ◌+◌, ◌<◌, ◌≤◌, ◌≢◌, sym, ap, ◌∙◌, ap₂, arith}
use native.Mathlib.Decide.{ℕ_discrete}
use Rattle.algebra.specs.Commutative.{Commutative, total, apply}
use Rattle.algebra.proofs.Laws.{nil_add, mul_nil, neg_only, neg_neg, mul_neg}
use Rattle.algebra.proofs.Totals.{total_ext, total_nil, total_add, total_split}

module _ {A : Type 0} (S : Commutative A) where
  -- no place counts
  pub total_none : (n : ℕ) (f : ℕ → A) → ((j : ℕ) → j < n → f j ≡ S.nil) → total S n f ≡ S.nil
  total_none n f h = total_ext S n f (λ _. S.nil) h ∙ total_nil S n

  -- one place counts
  pub total_one : (n : ℕ) (f : ℕ → A) (k : ℕ) → k < n → ((j : ℕ) → j < n → (j ≡ k → ⊥) → f j ≡ S.nil) → total S n f ≡ f k
  unfolding total
  total_one zero f k l h = absurd (omega arith)
  total_one (suc n) f k l h =
      elim (ℕ_discrete k n) [
        | yes e ↦ ap (λ t. S.add t (f n)) (total_none n f (λ j g. h j (omega arith) (λ d. omega arith))) ∙ nil_add S (f n) ∙ ap f (sym e)
        | no e ↦ let ne : k ≢ n = e in
            ap₂ S.add (total_one n f k (omega arith) (λ j g. h j (omega arith))) (h n (omega arith) (λ d. e (sym d))) ∙ S.add_nil (f k)
      ]

  -- two places count
  pub total_two : (n : ℕ) (f : ℕ → A) (i d : ℕ) → i < d → d < n → ((j : ℕ) → j < n → (j ≡ i → ⊥) → (j ≡ d → ⊥) → f j ≡ S.nil) → total S n f ≡ S.add (f i) (f d)
  unfolding total
  total_two zero f i d l m h = absurd (omega arith)
  total_two (suc n) f i d l m h =
      elim (ℕ_discrete d n) [
        | yes e ↦ ap₂ S.add (total_one n f i (omega arith) (λ j g p. h j (omega arith) p (λ q. omega arith))) (ap f (sym e))
        | no e ↦ let ne : d ≢ n = e in
            ap₂ S.add (total_two n f i d l (omega arith) (λ j g. h j (omega arith))) (h n (omega arith) (λ q. omega arith) (λ q. e (sym q))) ∙ S.add_nil (S.add (f i) (f d))
      ]

  pub total_neg : (n : ℕ) (f : ℕ → A) → total S n (λ j. S.neg (f j)) ≡ S.neg (total S n f)
  total_neg n f =
      neg_only S (total S n f) (total S n (λ j. S.neg (f j))) (sym (total_add S n f (λ j. S.neg (f j))) ∙ total_none n _ (λ j l. S.add_neg (f j)))

  pub difference : (s r : A) → S.add s (S.neg r) ≡ S.nil → s ≡ r
  difference s r e = sym (neg_neg S s) ∙ ap S.neg (sym (neg_only S s (S.neg r) e)) ∙ neg_neg S r

  -- columns where the vector is nil do not count
  pub apply_short : (n m : ℕ) (M : ℕ → ℕ → A) (z : ℕ → A) (i : ℕ) → ((j : ℕ) → n ≤ j → z j ≡ S.nil) → apply S (n + m) M z i ≡ apply S n M z i
  unfolding apply
  apply_short n m M z i h =
      total_split S n m (λ j. S.mul (M i j) (z j))
      ∙ ap (S.add (total S n (λ j. S.mul (M i j) (z j)))) (total_none m _ (λ k l. ap (S.mul (M i (n + k))) (h (n + k) (omega arith)) ∙ mul_nil S _))
      ∙ S.add_nil _

  pub apply_minus : (n : ℕ) (M : ℕ → ℕ → A) (y z : ℕ → A) (i : ℕ) → apply S n M (λ j. S.add (y j) (S.neg (z j))) i ≡ S.add (apply S n M y i) (S.neg (apply S n M z i))
  unfolding apply
  apply_minus n M y z i =
      total_ext S n _ _ (λ j l. S.mul_add (M i j) (y j) (S.neg (z j)) ∙ ap (S.add (S.mul (M i j) (y j))) (mul_neg S (M i j) (z j)))
      ∙ total_add S n (λ j. S.mul (M i j) (y j)) (λ j. S.neg (S.mul (M i j) (z j)))
      ∙ ap (S.add (total S n (λ j. S.mul (M i j) (y j)))) (total_neg n (λ j. S.mul (M i j) (z j)))
