-- Unit upper triangular block matrices over a commutative ring, and their inverses. Assumes nothing.
use Rattle.std.proofs.Common.{◌≡◌, ℕ, zero, suc, ◌+◌, ◌-◌, ◌<◌, ◌≤◌, cond, eqb, ltb, sym, ap, ◌∙◌, ap₂, arith, le-ltb, lt-ltb, eq-eqb, ne_eqb}
use mathlib.Core.Path.{fun_ext}
use native.Mathlib.Decide.{dec_lt}
use Rattle.algebra.specs.Commutative.{Commutative, total, apply}
use Rattle.algebra.proofs.Laws.{add_left, add_mul, nil_add, one_mul, nil_mul}
use Rattle.algebra.proofs.Totals.{total_ext, total_nil, total_add, total_split, total_mul, total_mul_right, total_swap}

module _ {A : Type 0} (S : Commutative A) where
  -- the identity matrix
  abbrev pub unit : ℕ → ℕ → A
  unit i j = cond (eqb i j) S.one S.nil

  unit_off : (i j : ℕ) (a : A) → (i ≡ j → ⊥) → S.mul (unit i j) a ≡ S.nil
  unit_off i j a h = rw (ne_eqb i j h) (nil_mul S a)

  pub total_unit : (n i : ℕ) (x : ℕ → A) → i < n → total S n (λ j. S.mul (unit i j) (x j)) ≡ x i
  unfolding total
  total_unit zero i x h = absurd (omega arith)
  total_unit (suc n) i x h =
      elim (dec_lt i n) [
        | yes l ↦ ap₂ S.add (total_unit n i x l) (unit_off i n (x n) (λ e. absurd (omega arith))) ∙ S.add_nil (x i)
        | no l ↦ let e : i ≡ n = omega arith in ap₂ S.add (total_ext S n _ (λ _. S.nil) (λ j k. unit_off i j (x j) (λ d. absurd (omega arith))) ∙ total_nil S n) (rw (eq-eqb i n e, ← e) (one_mul S (x i))) ∙ nil_add S (x i)
      ]

  -- the sums of two rows
  rows_add : (n : ℕ) (f g x : ℕ → A) → S.add (total S n (λ k. S.mul (f k) (x k))) (total S n (λ k. S.mul (g k) (x k))) ≡ total S n (λ k. S.mul (S.add (f k) (g k)) (x k))
  rows_add n f g x =
      sym (total_add S n (λ k. S.mul (f k) (x k)) (λ k. S.mul (g k) (x k))) ∙ ap (total S n) (fun_ext (λ k. sym (add_mul S (f k) (g k) (x k))))

  rows_cancel : (n : ℕ) (f g x : ℕ → A) → ((k : ℕ) → S.add (f k) (g k) ≡ S.nil) → S.add (total S n (λ k. S.mul (f k) (x k))) (total S n (λ k. S.mul (g k) (x k))) ≡ S.nil
  rows_cancel n f g x h =
      rows_add n f g x ∙ ap (total S n) (fun_ext (λ k. ap (λ t. S.mul t (x k)) (h k) ∙ nil_mul S (x k))) ∙ total_nil S n

  -- a row of o entries times a matrix of p columns times a vector
  row_times : (o p : ℕ) (r : ℕ → A) (M : ℕ → ℕ → A) (x : ℕ → A) → total S o (λ k. S.mul (r k) (total S p (λ l. S.mul (M k l) (x l)))) ≡ total S p (λ l. S.mul (total S o (λ k. S.mul (r k) (M k l))) (x l))
  row_times o p r M x =
      ap (total S o) (fun_ext (λ k. sym (total_mul S p (r k) (λ l. S.mul (M k l) (x l)))))
      ∙ total_swap S o p (λ k l. S.mul (r k) (S.mul (M k l) (x l)))
      ∙ ap (total S p) (fun_ext (λ l. ap (total S o) (fun_ext (λ k. sym (S.mul_assoc (r k) (M k l) (x l)))) ∙ total_mul_right S o (x l) (λ k. S.mul (r k) (M k l))))

  -- rows that agree on their first n entries
  entry : (n : ℕ) (r s x : ℕ → A) → ((k : ℕ) → k < n → r k ≡ s k) → total S n (λ k. S.mul (r k) (x k)) ≡ total S n (λ k. S.mul (s k) (x k))
  entry n r s x h = total_ext S n _ _ (λ k l. ap (λ t. S.mul t (x k)) (h k l))

  -- the identity, with the blocks P and Q in the first v rows, P of o columns, and K in the next o rows, under Q
  unfoldable pub blocks : ℕ → ℕ → (ℕ → ℕ → A) → (ℕ → ℕ → A) → (ℕ → ℕ → A) → ℕ → ℕ → A
  blocks v o P Q K i j =
      cond (eqb i j) S.one (cond (ltb i v)
      (cond (ltb j v) S.nil (cond (ltb j (v + o)) (P i (j - v)) (Q i (j - (v + o)))))
      (cond (ltb i (v + o)) (cond (ltb j (v + o)) S.nil (K (i - v) (j - (v + o)))) S.nil))

  module _ (v o p : ℕ) (P Q K : ℕ → ℕ → A) where
    abbrev B : ℕ → ℕ → A
    B = blocks v o P Q K

    first_unit : (i j : ℕ) → i < v → j < v → B i j ≡ unit i j
    unfolding blocks
    first_unit i j h k = rw (lt-ltb i v h, lt-ltb j v k)

    first_p : (i k : ℕ) → i < v → k < o → B i (v + k) ≡ P i k
    unfolding blocks
    first_p i k h l =
        let e : v + k - v ≡ k = omega arith in
        rw (ne_eqb i (v + k) (λ d. absurd (omega arith)), lt-ltb i v h, le-ltb (v + k) v (omega arith), lt-ltb (v + k) (v + o) (omega arith), e)

    first_q : (i k : ℕ) → i < v → B i (v + o + k) ≡ Q i k
    unfolding blocks
    first_q i k h =
        let e : v + o + k - (v + o) ≡ k = omega arith in
        rw (ne_eqb i (v + o + k) (λ d. absurd (omega arith)), lt-ltb i v h, le-ltb (v + o + k) v (omega arith), le-ltb (v + o + k) (v + o) (omega arith), e)

    next_unit : (i j : ℕ) → v ≤ i → i < v + o → j < v + o → B i j ≡ unit i j
    unfolding blocks
    next_unit i j h l k = rw (le-ltb i v h, lt-ltb i (v + o) l, lt-ltb j (v + o) k)

    next_k : (i k : ℕ) → v ≤ i → i < v + o → B i (v + o + k) ≡ K (i - v) k
    unfolding blocks
    next_k i k h l =
        let e : v + o + k - (v + o) ≡ k = omega arith in
        rw (ne_eqb i (v + o + k) (λ d. absurd (omega arith)), le-ltb i v h, lt-ltb i (v + o) l, le-ltb (v + o + k) (v + o) (omega arith), e)

    last_unit : (i j : ℕ) → v + o ≤ i → B i j ≡ unit i j
    unfolding blocks
    last_unit i j h = rw (le-ltb i v (omega arith), le-ltb i (v + o) h)

    first_row : (z : ℕ → A) (i : ℕ) → i < v → apply S (v + o + p) B z i ≡ S.add (S.add (z i) (total S o (λ k. S.mul (P i k) (z (v + k))))) (total S p (λ k. S.mul (Q i k) (z (v + o + k))))
    unfolding apply
    first_row z i h =
        total_split S (v + o) p (λ j. S.mul (B i j) (z j))
        ∙ ap₂ S.add
        (total_split S v o (λ j. S.mul (B i j) (z j)) ∙ ap₂ S.add (entry v (B i) (unit i) z (λ j k. first_unit i j h k) ∙ total_unit v i z h) (entry o (λ k. B i (v + k)) (P i) (λ k. z (v + k)) (λ k l. first_p i k h l)))
        (entry p (λ k. B i (v + o + k)) (Q i) (λ k. z (v + o + k)) (λ k l. first_q i k h))

    next_row : (z : ℕ → A) (i : ℕ) → v ≤ i → i < v + o → apply S (v + o + p) B z i ≡ S.add (z i) (total S p (λ k. S.mul (K (i - v) k) (z (v + o + k))))
    unfolding apply
    next_row z i h l =
        total_split S (v + o) p (λ j. S.mul (B i j) (z j))
        ∙ ap₂ S.add
        (entry (v + o) (B i) (unit i) z (λ j k. next_unit i j h l k) ∙ total_unit (v + o) i z l)
        (entry p (λ k. B i (v + o + k)) (K (i - v)) (λ k. z (v + o + k)) (λ k m. next_k i k h l))

    last_row : (z : ℕ → A) (i : ℕ) → v + o ≤ i → i < v + o + p → apply S (v + o + p) B z i ≡ z i
    unfolding apply
    last_row z i h l = entry (v + o + p) (B i) (unit i) z (λ j k. last_unit i j h) ∙ total_unit (v + o + p) i z l

  regroup : (y b c a d e : A) → S.add (S.add (S.add (S.add y b) c) (S.add a d)) e ≡ S.add (S.add y (S.add b a)) (S.add (S.add c d) e)
  regroup y b c a d e = simp S.add_assoc (ap (λ t. S.add y (S.add b t)) (add_left S c a (S.add d e)))

  -- two such matrices whose product has no block left
  pub record Cancel (o : ℕ) (P Q K P' Q' K' : ℕ → ℕ → A) : Type 0 where
    pub one_two : (i k : ℕ) → S.add (P' i k) (P i k) ≡ S.nil
    pub two_three : (i k : ℕ) → S.add (K' i k) (K i k) ≡ S.nil
    pub one_three : (i l : ℕ) → S.add (S.add (Q' i l) (total S o (λ k. S.mul (P i k) (K' k l)))) (Q i l) ≡ S.nil

  module _ (v o p : ℕ) (P Q K P' Q' K' : ℕ → ℕ → A) (C : Cancel o P Q K P' Q' K') (y : ℕ → A) where
    abbrev z : ℕ → A
    z = apply S (v + o + p) (blocks v o P' Q' K') y

    abbrev w : ℕ → A
    w k = y (v + o + k)

    z_last : (k : ℕ) → k < p → z (v + o + k) ≡ w k
    z_last k l = last_row v o p P' Q' K' y (v + o + k) (omega arith) (omega arith)

    z_next : (k : ℕ) → k < o → z (v + k) ≡ S.add (y (v + k)) (total S p (λ l. S.mul (K' k l) (w l)))
    z_next k l =
        let e : v + k - v ≡ k = omega arith in
        rw e at (next_row v o p P' Q' K' y (v + k) (omega arith) (omega arith))

    last_back : (M : ℕ → ℕ → A) (i : ℕ) → total S p (λ k. S.mul (M i k) (z (v + o + k))) ≡ total S p (λ k. S.mul (M i k) (w k))
    last_back M i = total_ext S p _ _ (λ k l. ap (S.mul (M i k)) (z_last k l))

    next_back : (i : ℕ) → total S o (λ k. S.mul (P i k) (z (v + k))) ≡ S.add (total S o (λ k. S.mul (P i k) (y (v + k)))) (total S p (λ l. S.mul (total S o (λ k. S.mul (P i k) (K' k l))) (w l)))
    next_back i =
        total_ext S o _ _ (λ k l. ap (S.mul (P i k)) (z_next k l) ∙ S.mul_add (P i k) (y (v + k)) (total S p (λ l. S.mul (K' k l) (w l))))
        ∙ total_add S o (λ k. S.mul (P i k) (y (v + k))) (λ k. S.mul (P i k) (total S p (λ l. S.mul (K' k l) (w l))))
        ∙ ap (S.add (total S o (λ k. S.mul (P i k) (y (v + k))))) (row_times o p (P i) K' w)

    undone_first : (i : ℕ) → i < v → apply S (v + o + p) (blocks v o P Q K) z i ≡ y i
    undone_first i h =
        first_row v o p P Q K z i h
        ∙ ap₂ S.add (ap₂ S.add (first_row v o p P' Q' K' y i h) (next_back i)) (last_back Q i)
        ∙ regroup (y i) _ _ _ _ _
        ∙ ap₂ (λ s t. S.add (S.add (y i) s) t)
        (rows_cancel o (P' i) (P i) (λ k. y (v + k)) (C.one_two i))
        (ap (λ s. S.add s (total S p (λ k. S.mul (Q i k) (w k)))) (rows_add p (Q' i) (λ l. total S o (λ k. S.mul (P i k) (K' k l))) w) ∙ rows_cancel p (λ l. S.add (Q' i l) (total S o (λ k. S.mul (P i k) (K' k l)))) (Q i) w (C.one_three i))
        ∙ S.add_nil (S.add (y i) S.nil)
        ∙ S.add_nil (y i)

    undone_next : (i : ℕ) → v ≤ i → i < v + o → apply S (v + o + p) (blocks v o P Q K) z i ≡ y i
    undone_next i h l =
        next_row v o p P Q K z i h l
        ∙ ap₂ S.add (next_row v o p P' Q' K' y i h l) (last_back K (i - v))
        ∙ S.add_assoc (y i) _ _
        ∙ ap (S.add (y i)) (rows_cancel p (K' (i - v)) (K (i - v)) w (C.two_three (i - v)))
        ∙ S.add_nil (y i)

    pub undone : (i : ℕ) → i < v + o + p → apply S (v + o + p) (blocks v o P Q K) (apply S (v + o + p) (blocks v o P' Q' K') y) i ≡ y i
    undone i l =
        elim (dec_lt i v) [
          | yes h ↦ undone_first i h
          | no h ↦ elim (dec_lt i (v + o)) [
            | yes k ↦ undone_next i (omega arith) k
            | no k ↦ last_row v o p P Q K z i (omega arith) l ∙ last_row v o p P' Q' K' y i (omega arith) l
          ]
        ]
