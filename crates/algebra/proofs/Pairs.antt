-- The pairs low + high e, with e e = e + c, over a commutative ring. Assumes nothing.
use Rattle.std.proofs.Common.{◌≡◌, ◌⊎◌, sym, refl, ap, ◌∙◌, inl, inr}
use Rattle.algebra.specs.Commutative.{Commutative}
use Rattle.algebra.proofs.Laws.{add_left, mul_left, add_mul, nil_add, neg_cancel, neg_only, mul_nil, nil_mul, mul_neg, neg_mul, neg_neg, neg_nil, cancel_two}

-- the low part of (l + h e) (m + k e)
abbrev pub low : {A : Type 0} → Commutative A → A → A → A → A → A → A
low S c l h m k = S.add (S.mul l m) (S.mul c (S.mul h k))

-- and its high part
abbrev pub high : {A : Type 0} → Commutative A → A → A → A → A → A
high S l h m k = S.add (S.add (S.mul l k) (S.mul h m)) (S.mul h k)

-- the norm of l + h e
abbrev pub norm : {A : Type 0} → Commutative A → A → A → A → A
norm S c l h = S.add (S.add (S.mul l l) (S.mul l h)) (S.neg (S.mul c (S.mul h h)))

module _ {A : Type 0} (S : Commutative A) (c : A) where
  pub low_assoc : (l h m k n j : A) → low S c (low S c l h m k) (high S l h m k) n j ≡ low S c l h (low S c m k n j) (high S m k n j)
  low_assoc l h m k n j = simp (low, high, S.mul_add, add_mul S, S.mul_assoc, S.add_assoc, mul_left S, add_left S)

  pub high_assoc : (l h m k n j : A) → high S (low S c l h m k) (high S l h m k) n j ≡ high S l h (low S c m k n j) (high S m k n j)
  high_assoc l h m k n j = simp (low, high, S.mul_add, add_mul S, S.mul_assoc, S.add_assoc, mul_left S, S.add_comm, add_left S)

  pub low_comm : (l h m k : A) → low S c l h m k ≡ low S c m k l h
  low_comm l h m k = simp (low, S.mul_comm)

  pub high_comm : (l h m k : A) → high S l h m k ≡ high S m k l h
  high_comm l h m k = simp (high, S.add_assoc, S.mul_comm, S.add_comm)

  pub low_add : (l h m k n j : A) → low S c l h (S.add m n) (S.add k j) ≡ S.add (low S c l h m k) (low S c l h n j)
  low_add l h m k n j = simp (low, S.mul_add, S.add_assoc, add_left S)

  pub high_add : (l h m k n j : A) → high S l h (S.add m n) (S.add k j) ≡ S.add (high S l h m k) (high S l h n j)
  high_add l h m k n j = simp (high, S.mul_add, S.add_assoc, add_left S)

  pub low_one : (l h : A) → low S c l h S.one S.nil ≡ l
  low_one l h = simp (low, S.mul_one, mul_nil S, S.add_nil)

  pub high_one : (l h : A) → high S l h S.one S.nil ≡ h
  high_one l h = simp (high, S.mul_one, mul_nil S, S.add_nil, nil_add S)

  -- (l + h) n - h n e is the inverse of l + h e, where n is that of the norm
  pub low_inverse : (l h n : A) → S.mul (norm S c l h) n ≡ S.one → low S c l h (S.mul (S.add l h) n) (S.mul (S.neg h) n) ≡ S.one
  low_inverse l h n e =
      simp (low, norm, S.mul_add, add_mul S, neg_mul S, mul_neg S, S.add_assoc)
      (simp (low, norm, add_mul S, neg_mul S, S.mul_assoc, S.add_assoc) at e)

  pub high_inverse : (l h n : A) → high S l h (S.mul (S.add l h) n) (S.mul (S.neg h) n) ≡ S.nil
  high_inverse l h n =
      simp (high, S.mul_add, add_mul S, neg_mul S, mul_neg S, S.add_assoc, mul_left S, S.add_comm, add_left S)
      (cancel_two S (S.mul l (S.mul h n)) (S.mul h (S.mul h n)))

  pub norm_of_nil : norm S c S.nil S.nil ≡ S.nil
  norm_of_nil = simp (norm, mul_nil S, neg_nil S, S.add_nil)

  -- Where the ring is a field and t t = t + c has no root, the norm is nil only of nil.
  module _ (nil? : (a : A) → (a ≡ S.nil) ⊎ (a ≡ S.nil → ⊥)) (inverse : (a : A) → (a ≡ S.nil → ⊥) → (b : A) × (S.mul a b ≡ S.one)) (rootless : (t : A) → S.mul t t ≡ S.add t c → ⊥) where
    square_nil : (l : A) → S.mul l l ≡ S.nil → l ≡ S.nil
    square_nil l e =
        elim (nil? l) [
          | inl z ↦ z
          | inr z ↦
              let (k, u) = inverse l z in
              sym (S.mul_one l) ∙ ap (S.mul l) (sym u) ∙ sym (S.mul_assoc l l k) ∙ ap (λ t. S.mul t k) e ∙ nil_mul S k
        ]

    -- h is a unit: then - l / h is a root
    root : (l h k : A) → S.mul h k ≡ S.one → norm S c l h ≡ S.nil → S.mul (S.neg (S.mul l k)) (S.neg (S.mul l k)) ≡ S.add (S.neg (S.mul l k)) c
    root l h k u e =
        let x = S.mul l k in
        let s1 : S.mul c (S.mul h h) ≡ S.add (S.mul l l) (S.mul l h) =
        sym (neg_neg S (S.mul c (S.mul h h))) ∙ ap S.neg (neg_only S (S.add (S.mul l l) (S.mul l h)) (S.neg (S.mul c (S.mul h h))) e)
        ∙ neg_neg S (S.add (S.mul l l) (S.mul l h)) in
        let s2 : S.mul (S.mul c (S.mul h h)) (S.mul k k) ≡ S.mul c (S.mul (S.mul h k) (S.mul h k)) = simp (S.mul_assoc, mul_left S) in
        let s3 : S.mul c (S.mul (S.mul h k) (S.mul h k)) ≡ c = rw (u, S.mul_one, S.mul_one) refl in
        let s4 : S.mul (S.add (S.mul l l) (S.mul l h)) (S.mul k k) ≡ S.add (S.mul x x) (S.mul x (S.mul h k)) = simp (add_mul S, S.mul_assoc, mul_left S) in
        let s5 : c ≡ S.add (S.mul x x) x =
        sym (s2 ∙ s3) ∙ ap (λ t. S.mul t (S.mul k k)) s1 ∙ s4 ∙ ap (S.add (S.mul x x)) (ap (S.mul x) u ∙ S.mul_one x) in
        neg_mul S x (S.neg x) ∙ ap S.neg (mul_neg S x x) ∙ neg_neg S (S.mul x x)
        ∙ sym (ap (S.add (S.neg x)) (s5 ∙ S.add_comm (S.mul x x) x) ∙ add_left S (S.neg x) x (S.mul x x) ∙ neg_cancel S x (S.mul x x))

    pub norm_nil : (l h : A) → norm S c l h ≡ S.nil → (l ≡ S.nil) × (h ≡ S.nil)
    norm_nil l h e =
        elim (nil? h) [
          | inl z ↦ (square_nil l (simp (norm, z, mul_nil S, neg_nil S, S.add_nil) at e), z)
          | inr z ↦ let (k, u) = inverse h z in absurd (rootless (S.neg (S.mul l k)) (root l h k u e))
        ]
