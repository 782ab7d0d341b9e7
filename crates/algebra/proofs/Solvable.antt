-- Over a field a square matrix of codes is singular or has an inverse; what an inverse solves. Assumes nothing.
use Rattle.std.proofs.Common.{◌≡◌, ℕ, zero, suc, ◌+◌, ◌-◌, ◌<◌, ◌≤◌, ◌≢◌, ◌⊎◌, Option, sym, refl, ap, ◌∙◌, inl, inr, add-one, arith}
use native.Mathlib.Decide.{dec_lt, ℕ_discrete}
use Rattle.algebra.specs.Commutative.{Commutative, apply, times}
use Rattle.algebra.specs.Rings.{Ring, RingLaws, IsInverse}
use Rattle.algebra.specs.Sums.{dot_of}
use Rattle.algebra.specs.Systems.{Vector, Solves, unit_matrix, Singular, Regular, Inverse}
use Rattle.algebra.proofs.Laws.{one_mul, nil_mul}
use Rattle.algebra.proofs.Totals.{times_apply, total_nil}
use Rattle.algebra.proofs.Codes.{Code, codes, code, mul_zero, sum_code}
use Rattle.algebra.proofs.Places.{total_one}
use Rattle.algebra.proofs.Bridge.{code_back, code_number, mul_of, mul_by, sum_of}
use Rattle.algebra.proofs.Elimination.{pick, pick_yes, pick_no}
use Rattle.algebra.proofs.Systems.{Filled, RowsSwapped, RowScaled, ColumnCleared, Kept, kept_none, kept_more, kept_solution, dependent, dependent_ext, dependent_singular, solution_ext, dot_ext, unit_here, unit_off, unit_code, inverse}

-- what holds of both holds of the one picked
picked : {A P : Type 0} (Q : A → Type 0) (d : Dec P) (a b : A) → Q a → Q b → Q (pick d a b)
picked Q (yes p) a b x y = rw (pick_yes (yes p) a b p) x
picked Q (no p) a b x y = rw (pick_no (no p) a b p) y

-- rows c and p change places
swap_rows : ℕ → ℕ → (ℕ → ℕ → ℕ) → ℕ → ℕ → ℕ
swap_rows c p B i j = pick (ℕ_discrete i c) (B p j) (pick (ℕ_discrete i p) (B c j) (B i j))

rows_swapped : (n w c p : ℕ) (B : ℕ → ℕ → ℕ) → RowsSwapped n w c p B (swap_rows c p B)
unfolding swap_rows
rows_swapped n w c p B = record {
  one = λ j l. elim (ℕ_discrete p c) [ yes e ↦ pick_yes (ℕ_discrete p c) _ _ e ∙ ap (λ t. B t j) e | no e ↦ pick_no (ℕ_discrete p c) _ _ e ∙ pick_yes (ℕ_discrete p p) _ _ refl ];
  two = λ j l. pick_yes (ℕ_discrete c c) _ _ refl;
  rest = λ i j l m g h. pick_no (ℕ_discrete i c) _ _ g ∙ pick_no (ℕ_discrete i p) _ _ h;
}

-- row c times u
scale_row : Ring → ℕ → ℕ → (ℕ → ℕ → ℕ) → ℕ → ℕ → ℕ
scale_row R c u B i j = pick (ℕ_discrete i c) (R.mul u (B c j)) (B i j)

row_scaled : (R : Ring) (n w c u : ℕ) (B : ℕ → ℕ → ℕ) → RowScaled R n w c u B (scale_row R c u B)
unfolding scale_row
row_scaled R n w c u B = record { here = λ j l. pick_yes (ℕ_discrete c c) _ _ refl; rest = λ i j l m g. pick_no (ℕ_discrete i c) _ _ g }

-- from each row but c its entry in column c times row c is taken
clear_column : Ring → ℕ → (ℕ → ℕ → ℕ) → ℕ → ℕ → ℕ
clear_column R c B i j = pick (ℕ_discrete i c) (B c j) (R.add (B i j) (R.mul (R.neg (B i c)) (B c j)))

column_cleared : (R : Ring) (n w c : ℕ) (B : ℕ → ℕ → ℕ) → ColumnCleared R n w c B (clear_column R c B)
unfolding clear_column
column_cleared R n w c B = record { here = λ j l. pick_yes (ℕ_discrete c c) _ _ refl; rest = λ i j l m g. pick_no (ℕ_discrete i c) _ _ g }

-- [A | 1], A being n columns
beside : ℕ → (ℕ → ℕ → ℕ) → ℕ → ℕ → ℕ
beside n A i j = pick (dec_lt j n) (A i j) (unit_matrix i (j - n))

beside_left : (n : ℕ) (A : ℕ → ℕ → ℕ) (i j : ℕ) → j < n → beside n A i j ≡ A i j
unfolding beside
beside_left n A i j l = pick_yes (dec_lt j n) _ _ l

beside_right : (n : ℕ) (A : ℕ → ℕ → ℕ) (i k : ℕ) → beside n A i (n + k) ≡ unit_matrix i k
unfolding beside
beside_right n A i k = pick_no (dec_lt (n + k) n) _ _ (λ l. omega arith) ∙ ap (unit_matrix i) (omega arith)

module _ (R : Ring) (L : RingLaws R) where
  swap_filled : (c p : ℕ) (B : ℕ → ℕ → ℕ) → Filled R B → Filled R (swap_rows c p B)
  unfolding swap_rows
  swap_filled c p B h i j = picked (λ x. x < R.q) (ℕ_discrete i c) _ _ (h p j) (picked (λ x. x < R.q) (ℕ_discrete i p) _ _ (h c j) (h i j))

  scale_filled : (c u : ℕ) (B : ℕ → ℕ → ℕ) → Filled R B → Filled R (scale_row R c u B)
  unfolding scale_row
  scale_filled c u B h i j = picked (λ x. x < R.q) (ℕ_discrete i c) _ _ (L.mul_code u (B c j)) (h i j)

  clear_filled : (c : ℕ) (B : ℕ → ℕ → ℕ) → Filled R B → Filled R (clear_column R c B)
  unfolding clear_column
  clear_filled c B h i j = picked (λ x. x < R.q) (ℕ_discrete i c) _ _ (h c j) (L.add_code _ _)

  beside_filled : (n : ℕ) (A : ℕ → ℕ → ℕ) → Filled R A → Filled R (beside n A)
  unfolding beside
  beside_filled n A h i j = picked (λ x. x < R.q) (dec_lt j n) _ _ (h i j) (unit_code R L i (j - n))

  -- a (B x) = (a B) x, where nothing need be a code
  pub dot_times : (n : ℕ) (a : ℕ → ℕ) (B : ℕ → ℕ → ℕ) (x : ℕ → ℕ) → dot_of R n a (λ k. dot_of R n (B k) x) ≡ dot_of R n (λ j. dot_of R n a (λ k. B k j)) x
  unfolding apply times
  dot_times n a B x =
      sum_of R L n _ _ (λ k. mul_by R L (a k) _ (apply S n B' z k) (sum_of R L n _ _ (λ j. mul_of R L (B k j) (x j))))
      ∙ ap (λ t. t.0) (sym (times_apply S n A' B' z 0))
      ∙ sym (sum_of R L n _ _ (λ j. mul_of R L _ (x j) ∙ ap (λ t. (S.mul t (z j)).0) (code_back R L _ (times S n A' B' 0 j) (sum_of R L n _ _ (λ k. mul_of R L (a k) (B k j))))))
    where
      S : Commutative (Code R)
      S = codes R L

      A' : ℕ → ℕ → Code R
      A' _ k = code R L (a k)

      B' : ℕ → ℕ → Code R
      B' k j = code R L (B k j)

      z : ℕ → Code R
      z j = code R L (x j)

  -- row i of the unit matrix picks place i
  pub dot_unit : (n i : ℕ) (x : ℕ → ℕ) → i < n → x i < R.q → dot_of R n (unit_matrix i) x ≡ x i
  dot_unit n i x l h =
      sum_of R L n _ (λ j. S.mul (U j) (z j)) (λ j. mul_of R L (unit_matrix i j) (x j))
      ∙ ap (λ t. t.0) (total_one S n (λ j. S.mul (U j) (z j)) i l (λ j g e. ap (λ t. S.mul t (z j)) (code_back R L _ S.nil (unit_off i j (λ d. e (sym d)))) ∙ nil_mul S (z j)) ∙ ap (λ t. S.mul t (z i)) (code_back R L _ S.one (unit_here i)) ∙ one_mul S (z i))
      ∙ code_number R L (x i) h
    where
      S : Commutative (Code R)
      S = codes R L

      U : ℕ → Code R
      U j = code R L (unit_matrix i j)

      z : ℕ → Code R
      z j = code R L (x j)

  -- X b solves A x = b
  pub inverse_solves : (n : ℕ) (A X : ℕ → ℕ → ℕ) (b : ℕ → ℕ) → Inverse R n A X → Vector R n b → Solves R n A b (λ k. dot_of R n (X k) b)
  inverse_solves n A X b V h i l =
      dot_times n (A i) X b ∙ dot_ext R n _ (unit_matrix i) b b (λ j g. V.right i j l g) (λ j g. refl) ∙ dot_unit n i b l (h i l)

  -- and nothing else does
  pub inverse_only : (n : ℕ) (A X : ℕ → ℕ → ℕ) (b : ℕ → ℕ) → Inverse R n A X → (y : ℕ → ℕ) → Vector R n y → Solves R n A b y → (k : ℕ) → k < n → y k ≡ dot_of R n (X k) b
  inverse_only n A X b V y h s k l =
      sym (dot_times n (X k) A y ∙ dot_ext R n _ (unit_matrix k) y y (λ j g. V.left k j l g) (λ j g. refl) ∙ dot_unit n k y l (h k l))
      ∙ dot_ext R n (X k) (X k) _ b (λ j g. refl) s

  -- a matrix with an inverse takes nothing but 0 to 0
  pub inverse_regular : (n : ℕ) (A X : ℕ → ℕ → ℕ) → Inverse R n A X → Regular R n A
  inverse_regular n A X V y h s j l =
      inverse_only n A X (λ _. 0) V y h s j l ∙ sum_of R L n _ (λ _. (codes R L).nil) (λ k. mul_zero R L (X j k)) ∙ ap (λ t. t.0) (total_nil (codes R L) n)

-- In the first m rows, from row c on: a row that is not 0 in column c, with the inverse of what stands there.
record Pivot (R : Ring) (m c : ℕ) (B : ℕ → ℕ → ℕ) : Type 0 where
  row : ℕ
  low : c ≤ row
  high : row < m
  inverse : ℕ
  code : inverse < R.q
  one : R.mul (B row c) inverse ≡ 1

module _ (R : Ring) (L : RingLaws R) (inv : ℕ → Option ℕ) (I : (a : ℕ) → IsInverse R a (inv a)) where
  find : (m c : ℕ) (B : ℕ → ℕ → ℕ) → Filled R B → Pivot R m c B ⊎ ((i : ℕ) → c ≤ i → i < m → B i c ≡ 0)
  find zero c B h = inr (λ i l g. absurd (omega arith))
  find (suc m) c B h =
      elim (find m c B h) [
        | inl P ↦ inl (record { row = P.row; low = P.low; high = let l = P.high in omega arith; inverse = P.inverse; code = P.code; one = P.one })
        | inr z ↦ elim (dec_lt m c) [
          | yes l ↦ inr (λ i a b. absurd (omega arith))
          | no l ↦ elim (ℕ_discrete (B m c) 0) [
            | yes e ↦ inr (λ i a b. elim (ℕ_discrete i m) [ yes d ↦ ap (λ t. B t c) d ∙ e | no d ↦ let ne : i ≢ m = d in z i a (omega arith) ])
            | no e ↦ let u = (I (B m c)).some e (h m c) in inl (record { row = m; low = omega arith; high = omega arith; inverse = u.0; code = u.2; one = u.3 })
          ]
        ]
      ]

  module _ (n : ℕ) (A : ℕ → ℕ → ℕ) (h : Filled R A) (s : Singular R n A → ⊥) where
    Reached : ℕ → Type 0
    Reached c = (B : ℕ → ℕ → ℕ) × Kept R L n (n + n) c (beside n A) B

    next : (c : ℕ) → c < n → (B : ℕ → ℕ → ℕ) → Kept R L n (n + n) c (beside n A) B → Pivot R n c B ⊎ ((i : ℕ) → c ≤ i → i < n → B i c ≡ 0) → Reached (suc c)
    unfolding Reached
    next c l B K (inl P) =
        let p = P.row in
        let u = P.inverse in
        let D = swap_rows c p B in
        let E = scale_row R c u D in
        let d = swap_filled R L c p B K.after in
        let e = scale_filled R L c u D d in
        (clear_column R c E, rw add-one at (kept_more R L n (n + n) c p u (beside n A) B D E (clear_column R c E) l (omega arith) P.low P.high P.code P.one d e (clear_filled R L c E e) K (rows_swapped n (n + n) c p B) (row_scaled R n (n + n) c u D) (column_cleared R n (n + n) c E)))
    next c l B K (inr z) =
        absurd (s (dependent_singular R n A (c + 1) (dependent_ext R n (c + 1) (beside n A) A (λ i j p g. beside_left n A i j g) (dependent R L n n c (beside n A) B l K z))))

    reach : (c : ℕ) → c ≤ n → Reached c
    unfolding Reached
    reach zero l = (beside n A, kept_none R L n (n + n) (beside n A) (beside_filled R L n A h))
    reach (suc c) l = let (B, K) = reach c (omega arith) in next c l B K (find n c B K.after)

    -- A matrix that is not singular has an inverse.
    pub invertible : (X : ℕ → ℕ → ℕ) × (Filled R X × Inverse R n A X)
    unfolding Reached
    invertible =
        let (B, K) = reach n (omega arith) in
        let X : ℕ → ℕ → ℕ = λ i k. B i (n + k) in
        let f : Filled R X = λ i k. K.after i (n + k) in
        (X, (f, inverse R L n A X h f (solution_ext R n n (beside n A) (λ i k. beside n A i (n + k)) X A unit_matrix X (λ i j p g. beside_left n A i j g) (λ i k p g. beside_right n A i k) (λ i k p g. refl) (kept_solution R L n n (beside n A) B K))))

  pub solvable : (n : ℕ) (A : ℕ → ℕ → ℕ) (b : ℕ → ℕ) → Filled R A → Vector R n b → (Singular R n A → ⊥) → (x : ℕ → ℕ) × (Vector R n x × Solves R n A b x)
  solvable n A b h v s =
      let (X, (f, V)) = invertible n A h s in
      (λ k. dot_of R n (X k) b, ((λ k l. sum_code R L n _), inverse_solves R L n A X b V v))
