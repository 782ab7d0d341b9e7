-- Sums, matrix products and quadratic forms over a commutative ring. Assumes nothing.
use Rattle.std.proofs.Common.{◌≡◌, ℕ, zero, suc, ◌+◌, ◌<◌, sym, refl, ap, ◌∙◌, ap₂, add-zero, add-suc, arith}
use mathlib.Core.Path.{fun_ext}
use Rattle.algebra.specs.Commutative.{Commutative, total, apply, dot, value, times, transposed}
use Rattle.algebra.proofs.Laws.{add_left, mul_left, mul_nil}

module _ {A : Type 0} (S : Commutative A) where
  medial : (a b c d : A) → S.add (S.add a b) (S.add c d) ≡ S.add (S.add a c) (S.add b d)
  medial a b c d = simp S.add_assoc (ap (S.add a) (add_left S b c d))

  pub total_ext : (n : ℕ) (f g : ℕ → A) → ((i : ℕ) → i < n → f i ≡ g i) → total S n f ≡ total S n g
  unfolding total
  total_ext zero f g h = refl
  total_ext (suc n) f g h = ap₂ S.add (total_ext n f g (λ i l. h i (omega arith))) (h n (omega arith))

  pub total_nil : (n : ℕ) → total S n (λ _. S.nil) ≡ S.nil
  unfolding total
  total_nil zero = refl
  total_nil (suc n) = S.add_nil _ ∙ total_nil n

  pub total_add : (n : ℕ) (f g : ℕ → A) → total S n (λ i. S.add (f i) (g i)) ≡ S.add (total S n f) (total S n g)
  unfolding total
  total_add zero f g = sym (S.add_nil S.nil)
  total_add (suc n) f g = ap (λ s. S.add s (S.add (f n) (g n))) (total_add n f g) ∙ medial (total S n f) (total S n g) (f n) (g n)

  pub total_split : (n m : ℕ) (f : ℕ → A) → total S (n + m) f ≡ S.add (total S n f) (total S m (λ k. f (n + k)))
  unfolding total
  total_split n zero f = rw add-zero (sym (S.add_nil (total S n f)))
  total_split n (suc m) f = rw add-suc (ap (λ t. S.add t (f (n + m))) (total_split n m f) ∙ S.add_assoc (total S n f) (total S m (λ k. f (n + k))) (f (n + m)))

  pub total_mul : (n : ℕ) (a : A) (f : ℕ → A) → total S n (λ i. S.mul a (f i)) ≡ S.mul a (total S n f)
  unfolding total
  total_mul zero a f = sym (mul_nil S a)
  total_mul (suc n) a f = ap (λ s. S.add s (S.mul a (f n))) (total_mul n a f) ∙ sym (S.mul_add a (total S n f) (f n))

  pub total_mul_right : (n : ℕ) (a : A) (f : ℕ → A) → total S n (λ i. S.mul (f i) a) ≡ S.mul (total S n f) a
  total_mul_right n a f = ap (total S n) (fun_ext (λ i. S.mul_comm (f i) a)) ∙ total_mul n a f ∙ S.mul_comm a (total S n f)

  pub total_swap : (n m : ℕ) (f : ℕ → ℕ → A) → total S n (λ i. total S m (λ j. f i j)) ≡ total S m (λ j. total S n (λ i. f i j))
  unfolding total
  total_swap zero m f = sym (total_nil m)
  total_swap (suc n) m f = ap (λ s. S.add s (total S m (λ j. f n j))) (total_swap n m f) ∙ sym (total_add m (λ j. total S n (λ i. f i j)) (λ j. f n j))

  pub times_apply : (n : ℕ) (M N : ℕ → ℕ → A) (x : ℕ → A) (i : ℕ) → apply S n (times S n M N) x i ≡ apply S n M (apply S n N x) i
  unfolding apply times
  times_apply n M N x i =
      ap (total S n) (fun_ext (λ j. sym (total_mul_right n (x j) (λ k. S.mul (M i k) (N k j)))))
      ∙ total_swap n n (λ j k. S.mul (S.mul (M i k) (N k j)) (x j))
      ∙ ap (total S n) (fun_ext (λ k. ap (total S n) (fun_ext (λ j. S.mul_assoc (M i k) (N k j) (x j))) ∙ total_mul n (M i k) (λ j. S.mul (N k j) (x j))))

  -- z · (T transposed y) = (T z) · y
  pub adjoint : (n : ℕ) (T : ℕ → ℕ → A) (z y : ℕ → A) → dot S n z (apply S n (transposed S T) y) ≡ dot S n (apply S n T z) y
  unfolding apply dot transposed
  adjoint n T z y =
      ap (total S n) (fun_ext (λ k. sym (total_mul n (z k) (λ i. S.mul (T i k) (y i)))))
      ∙ total_swap n n (λ k i. S.mul (z k) (S.mul (T i k) (y i)))
      ∙ ap (total S n) (fun_ext (λ i. ap (total S n) (fun_ext (λ k. sym (S.mul_assoc (z k) (T i k) (y i)) ∙ ap (λ x. S.mul x (y i)) (S.mul_comm (z k) (T i k)))) ∙ total_mul_right n (y i) (λ k. S.mul (T i k) (z k))))

  -- T transposed times F times T at z is F at T z
  pub value_pulled : (n : ℕ) (F T : ℕ → ℕ → A) (z : ℕ → A) → value S n (times S n (transposed S T) (times S n F T)) z ≡ value S n F (apply S n T z)
  unfolding value
  value_pulled n F T z =
      ap (dot S n z) (fun_ext (times_apply n (transposed S T) (times S n F T) z))
      ∙ ap (λ v. dot S n z (apply S n (transposed S T) v)) (fun_ext (times_apply n F T z))
      ∙ adjoint n T z (apply S n F (apply S n T z))

  -- the value as one sum over the pairs
  pub value_pairs : (n : ℕ) (F : ℕ → ℕ → A) (x : ℕ → A) → value S n F x ≡ total S n (λ i. total S n (λ j. S.mul (F i j) (S.mul (x i) (x j))))
  unfolding value dot apply
  value_pairs n F x =
      ap (total S n) (fun_ext (λ i. sym (total_mul n (x i) (λ j. S.mul (F i j) (x j))) ∙ ap (total S n) (fun_ext (λ j. mul_left S (x i) (F i j) (x j)))))
