-- Square systems over codes: what elimination keeps, and what it ends with. Assumes nothing.
use Rattle.std.proofs.Common.{◌≡◌, ℕ, suc, ◌+◌, ◌<◌, ◌≤◌, eqb, sym, refl, ap, ◌∙◌, ap₂, add-one, arith, eq-eqb, ne_eqb}
use native.Mathlib.Decide.{dec_lt, ℕ_discrete}
use Rattle.std.proofs.lemmas.Bool.{cond-true, cond-false}
use Rattle.algebra.specs.Commutative.{Commutative, apply, times}
use Rattle.algebra.specs.Rings.{Ring, RingLaws}
use Rattle.algebra.specs.Sums.{dot_of}
use Rattle.algebra.specs.Systems.{Vector, ZeroFrom, Solves, Annuls, unit_matrix, Singular, Regular, FirstDependent, Solution, Inverse}
use Rattle.algebra.proofs.Laws.{one_mul, nil_mul}
use Rattle.algebra.proofs.Codes.{Code, same, codes, sum_total, nil_code, one_code}
use Rattle.algebra.proofs.SumLaws.{sum_ext}
use Rattle.algebra.proofs.Places.{total_one, apply_short}
use Rattle.algebra.proofs.Elimination.{Kernel, Going, going_none, Swap, going_swap, Scale, going_scale, Clear, going_clear, relation, relation_at, relation_else, relation_kernel, only_nil, solution, solution_only, both_sides}

-- Every entry is a code.
abbrev pub Filled : Ring → (ℕ → ℕ → ℕ) → Type 0
Filled R M = (i j : ℕ) → M i j < R.q

-- Of n rows of w codes, rows c and p change places.
pub record RowsSwapped (n w c p : ℕ) (B D : ℕ → ℕ → ℕ) : Type 0 where
  pub one : (j : ℕ) → j < w → D p j ≡ B c j
  pub two : (j : ℕ) → j < w → D c j ≡ B p j
  pub rest : (i j : ℕ) → i < n → j < w → (i ≡ c → ⊥) → (i ≡ p → ⊥) → D i j ≡ B i j

-- Row c is multiplied by u.
pub record RowScaled (R : Ring) (n w c u : ℕ) (B D : ℕ → ℕ → ℕ) : Type 0 where
  pub here : (j : ℕ) → j < w → D c j ≡ R.mul u (B c j)
  pub rest : (i j : ℕ) → i < n → j < w → (i ≡ c → ⊥) → D i j ≡ B i j

-- From each row but row c its entry in column c, times row c, is taken.
pub record ColumnCleared (R : Ring) (n w c : ℕ) (B D : ℕ → ℕ → ℕ) : Type 0 where
  pub here : (j : ℕ) → j < w → D c j ≡ B c j
  pub rest : (i j : ℕ) → i < n → j < w → (i ≡ c → ⊥) → D i j ≡ R.add (B i j) (R.mul (R.neg (B i c)) (B c j))

pub unit_here : (i : ℕ) → unit_matrix i i ≡ 1
unfolding unit_matrix
unit_here i = cond-true (eqb i i) 1 0 (eq-eqb i i refl)

pub unit_off : (i j : ℕ) → (i ≡ j → ⊥) → unit_matrix i j ≡ 0
unfolding unit_matrix
unit_off i j h = cond-false (eqb i j) 1 0 (ne_eqb i j h)

module _ (R : Ring) where
  pub dot_ext : (n : ℕ) (a b x y : ℕ → ℕ) → ((j : ℕ) → j < n → a j ≡ b j) → ((j : ℕ) → j < n → x j ≡ y j) → dot_of R n a x ≡ dot_of R n b y
  dot_ext n a b x y h g = sum_ext R n _ _ (λ j l. ap₂ R.mul (h j l) (g j l))

  abbrev lift : (M : ℕ → ℕ → ℕ) → Filled R M → ℕ → ℕ → Code R
  lift M h i j = (M i j, h i j)

  -- a column that depends makes the matrix singular
  pub dependent_singular : (n : ℕ) (A : ℕ → ℕ → ℕ) (c : ℕ) → FirstDependent R n A c → Singular R n A
  dependent_singular n A c D = record {
    vector = D.vector;
    codes = D.codes;
    some = let (j, (l, h)) = D.some in let k = D.high in (j, (omega arith, h));
    annuls = D.annuls;
  }

  pub not_both : (n : ℕ) (A : ℕ → ℕ → ℕ) → Regular R n A → Singular R n A → ⊥
  not_both n A r S = let (j, (l, h)) = S.some in h (r S.vector S.codes S.annuls j l)

  not_before : (n : ℕ) (A : ℕ → ℕ → ℕ) (c d : ℕ) → FirstDependent R n A c → FirstDependent R n A d → c < d → ⊥
  not_before n A c d C D l = let (j, (g, h)) = C.some in let k = C.high in h (D.first c l C.vector C.codes C.past C.annuls j (omega arith))

  pub same_column : (n : ℕ) (A : ℕ → ℕ → ℕ) (c d : ℕ) → FirstDependent R n A c → FirstDependent R n A d → c ≡ d
  same_column n A c d C D = let p = not_before n A c d C D in let q = not_before n A d c D C in omega (arith, p, q)

  pub same_solution : (n m : ℕ) (A B X Y : ℕ → ℕ → ℕ) → Solution R n m A B X → Solution R n m A B Y → (j k : ℕ) → j < n → k < m → X j k ≡ Y j k
  same_solution n m A B X Y P Q j k l g = Q.only k g (λ i. X i k) (P.codes k g) (P.solves k g) j l

  -- only the entries count
  pub solution_ext : (n m : ℕ) (A B X C D Y : ℕ → ℕ → ℕ) → ((i j : ℕ) → i < n → j < n → A i j ≡ C i j) → ((i k : ℕ) → i < n → k < m → B i k ≡ D i k) → ((j k : ℕ) → j < n → k < m → X j k ≡ Y j k) → Solution R n m A B X → Solution R n m C D Y
  solution_ext n m A B X C D Y a b x P = record {
    codes = λ k g j l. let e = x j k l g in let h = P.codes k g j l in omega arith;
    solves = λ k g i l. dot_ext n _ _ _ _ (λ j h. sym (a i j l h)) (λ j h. sym (x j k h g)) ∙ P.solves k g i l ∙ b i k l g;
    only = λ k g y v s j l. P.only k g y v (λ i p. dot_ext n _ _ y y (λ j h. a i j p h) (λ j h. refl) ∙ s i p ∙ sym (b i k p g)) j l ∙ x j k l g;
    regular = λ y v s. P.regular y v (λ i p. dot_ext n _ _ y y (λ j h. a i j p h) (λ j h. refl) ∙ s i p);
  }

  pub dependent_ext : (n c : ℕ) (A C : ℕ → ℕ → ℕ) → ((i j : ℕ) → i < n → j < n → A i j ≡ C i j) → FirstDependent R n A c → FirstDependent R n C c
  dependent_ext n c A C a D = record {
    low = D.low;
    high = D.high;
    vector = D.vector;
    codes = D.codes;
    some = D.some;
    past = D.past;
    annuls = λ i p. dot_ext n _ _ D.vector D.vector (λ j h. sym (a i j p h)) (λ j h. refl) ∙ D.annuls i p;
    first = λ d l x v z s. D.first d l x v z (λ i p. dot_ext n _ _ x x (λ j h. a i j p h) (λ j h. refl) ∙ s i p);
  }

  pub inverse_ext : (n : ℕ) (A C X Y : ℕ → ℕ → ℕ) → ((i j : ℕ) → i < n → j < n → A i j ≡ C i j) → ((i j : ℕ) → i < n → j < n → X i j ≡ Y i j) → Inverse R n A X → Inverse R n C Y
  inverse_ext n A C X Y h k V = record {
    codes = λ i j l g. let e = k i j l g in let c = V.codes i j l g in omega arith;
    right = λ i j l g. dot_ext n _ _ _ _ (λ t p. sym (h i t l p)) (λ t p. sym (k t j p g)) ∙ V.right i j l g;
    left = λ i j l g. dot_ext n _ _ _ _ (λ t p. sym (k i t l p)) (λ t p. sym (h t j p g)) ∙ V.left i j l g;
  }

module _ (R : Ring) (L : RingLaws R) where
  pub unit_code : Filled R unit_matrix
  unit_code i j =
      elim (ℕ_discrete i j) [
        | yes e ↦ let h : unit_matrix i j ≡ 1 = ap (unit_matrix i) (sym e) ∙ unit_here i in let o = one_code R L in omega arith
        | no e ↦ let h = unit_off i j e in let o = nil_code R L in omega arith
      ]

  -- x as codes, nil from n on
  choose : (n : ℕ) (x : ℕ → ℕ) → Vector R n x → (j : ℕ) → Dec (j < n) → Code R
  choose n x v j (yes l) = (x j, v j l)
  choose n x v j (no l) = (codes R L).nil

  choose_below : (n : ℕ) (x : ℕ → ℕ) (v : Vector R n x) (j : ℕ) (d : Dec (j < n)) → j < n → (choose n x v j d).0 ≡ x j
  unfolding choose
  choose_below n x v j (yes h) l = refl
  choose_below n x v j (no h) l = absurd (h l)

  choose_past : (n : ℕ) (x : ℕ → ℕ) (v : Vector R n x) (j : ℕ) (d : Dec (j < n)) → n ≤ j → choose n x v j d ≡ (codes R L).nil
  unfolding choose
  choose_past n x v j (yes h) l = absurd (omega arith)
  choose_past n x v j (no h) l = refl

  abbrev cut : (n : ℕ) (x : ℕ → ℕ) → Vector R n x → ℕ → Code R
  cut n x v j = choose n x v j (dec_lt j n)

  cut_below : (n : ℕ) (x : ℕ → ℕ) (v : Vector R n x) (j : ℕ) → j < n → (cut n x v j).0 ≡ x j
  cut_below n x v j = choose_below n x v j (dec_lt j n)

  cut_past : (n : ℕ) (x : ℕ → ℕ) (v : Vector R n x) (j : ℕ) → n ≤ j → cut n x v j ≡ (codes R L).nil
  cut_past n x v j = choose_past n x v j (dec_lt j n)

  -- a product over codes, in numbers
  down : (n : ℕ) (M : ℕ → ℕ → ℕ) (h : Filled R M) (z : ℕ → Code R) (i : ℕ) → (apply (codes R L) n (lift R M h) z i).0 ≡ dot_of R n (M i) (λ j. (z j).0)
  unfolding apply
  down n M h z i = sym (sum_total R L n (λ j. (codes R L).mul (lift R M h i j) (z j)))

  cut_dot : (n : ℕ) (M : ℕ → ℕ → ℕ) (h : Filled R M) (x : ℕ → ℕ) (v : Vector R n x) (i : ℕ) → (apply (codes R L) n (lift R M h) (cut n x v) i).0 ≡ dot_of R n (M i) x
  cut_dot n M h x v i = down n M h (cut n x v) i ∙ dot_ext R n _ _ _ _ (λ j l. refl) (cut_below n x v)

  -- After c columns of n rows of w codes.
  pub record Kept (n w c : ℕ) (M B : ℕ → ℕ → ℕ) : Type 0 where
    pub before : Filled R M
    pub after : Filled R B
    pub going : Going (codes R L) n w c (lift R M before) (lift R B after)

  pub kept_none : (n w : ℕ) (M : ℕ → ℕ → ℕ) → Filled R M → Kept n w 0 M M
  kept_none n w M h = record { before = h; after = h; going = going_none (codes R L) n w (lift R M h) }

  -- One column more: v, in row p, is brought to row c, which is multiplied by its inverse u, and the column is cleared.
  pub kept_more : (n w c p u : ℕ) (M B D E N : ℕ → ℕ → ℕ) → c < n → c < w → c ≤ p → p < n → u < R.q → R.mul (B p c) u ≡ 1 → Filled R D → Filled R E → Filled R N → Kept n w c M B → RowsSwapped n w c p B D → RowScaled R n w c u D E → ColumnCleared R n w c E N → Kept n w (c + 1) M N
  kept_more n w c p u M B D E N lc lw lo lp lu inv hd he hn K W V C = record { before = K.before; after = hn; going = rw add-one cleared }
    where
      S : Commutative (Code R)
      S = codes R L

      swap : Swap S n w c p (lift R B K.after) (lift R D hd)
      swap = record { one = λ j l. same R _ _ (W.one j l); two = λ j l. same R _ _ (W.two j l); rest = λ i j l m g h. same R _ _ (W.rest i j l m g h) }

      swapped : Going S n w c (lift R M K.before) (lift R D hd)
      swapped = going_swap S n w c p _ _ _ lc lw lo lp swap K.going

      scale : Scale S n w c (u, lu) (lift R D hd) (lift R E he)
      scale = record { here = λ j l. same R _ _ (V.here j l); rest = λ i j l m g. same R _ _ (V.rest i j l m g) }

      scaled : Going S n w c (lift R M K.before) (lift R E he)
      scaled = going_scale S n w c (u, lu) (lift R B K.after p c) _ _ _ lc lw (same R _ _ (L.mul_comm _ _ ∙ inv)) scale swapped

      unit : lift R E he c c ≡ S.one
      unit = same R _ _ (V.here c lw ∙ ap (R.mul u) (W.two c lw) ∙ L.mul_comm _ _ ∙ inv)

      clear : Clear S n w c (lift R E he) (lift R N hn)
      clear = record { here = λ j l. same R _ _ (C.here j l); rest = λ i j l m g. same R _ _ (C.rest i j l m g) }

      cleared : Going S n w (suc c) (lift R M K.before) (lift R N hn)
      cleared = going_clear S n w c _ _ _ lc lw unit clear scaled

  module _ (n m : ℕ) (M : ℕ → ℕ → ℕ) (h : Filled R M) where
    annuls : (z : ℕ → Code R) → ((j : ℕ) → n ≤ j → z j ≡ (codes R L).nil) → Kernel (codes R L) n (n + m) (lift R M h) z → Annuls R n M (λ j. (z j).0)
    annuls z p K i l = sym (down n M h z i) ∙ ap (λ t. t.0) (sym (apply_short (codes R L) n m (lift R M h) z i p) ∙ K i l)

    kernel : (x : ℕ → ℕ) (v : Vector R n x) → Annuls R n M x → Kernel (codes R L) n (n + m) (lift R M h) (cut n x v)
    kernel x v a i l = apply_short (codes R L) n m (lift R M h) (cut n x v) i (cut_past n x v) ∙ same R _ _ (cut_dot n M h x v i ∙ a i l)

  -- No pivot in column c.
  pub dependent : (n m c : ℕ) (M B : ℕ → ℕ → ℕ) → c < n → Kept n (n + m) c M B → ((i : ℕ) → c ≤ i → i < n → B i c ≡ 0) → FirstDependent R n M (c + 1)
  dependent n m c M B lc K h = record {
    low = omega arith;
    high = omega arith;
    vector = λ j. (z j).0;
    codes = λ j l. (z j).1;
    some = (c, (omega arith, λ e. nonzero (sym (ap (λ t. t.0) (relation_at S n w c c B' le)) ∙ e)));
    past = λ j g l. ap (λ t. t.0) (past j g);
    annuls = annuls n m M K.before z (λ j l. past j (omega arith)) (relation_kernel S n w c c _ B' le (omega arith) (λ i l g. same R _ _ (h i g l)) K.going);
    first = first;
  }
    where
      S : Commutative (Code R)
      S = codes R L

      w : ℕ
      w = n + m

      B' : ℕ → ℕ → Code R
      B' = lift R B K.after

      z : ℕ → Code R
      z = relation S n w c c B'

      le : c ≤ c
      le = omega arith

      past : (j : ℕ) → c + 1 ≤ j → z j ≡ S.nil
      past j l = relation_else S n w c c B' j (omega arith) (omega arith)

      nonzero : R.neg 1 ≡ 0 → ⊥
      nonzero e =
          let o = one_code R L in
          let t : R.add 1 0 ≡ 0 = ap (R.add 1) (sym e) ∙ L.add_neg 1 o in
          let i = L.add_zero 1 o in
          omega arith

      first : (d : ℕ) → d < c + 1 → (x : ℕ → ℕ) → Vector R n x → ZeroFrom d n x → Annuls R n M x → (j : ℕ) → j < n → x j ≡ 0
      first d l x v p q j g =
          sym (cut_below n x v j g)
          ∙ ap (λ t. t.0) (only_nil S n w c _ B' (omega arith) (omega arith) K.going (cut n x v) rest (kernel n m M K.before x v q) j)
        where
          rest : (i : ℕ) → c ≤ i → cut n x v i ≡ S.nil
          rest i b = elim (dec_lt i n) [ yes s ↦ same R _ _ (cut_below n x v i s ∙ p i (omega arith) s) | no s ↦ cut_past n x v i (omega arith) ]

  -- All columns done: the left block is the unit matrix.
  pub kept_unit : (n w : ℕ) (M B : ℕ → ℕ → ℕ) → Kept n w n M B → (i j : ℕ) → i < n → j < n → B i j ≡ unit_matrix i j
  kept_unit n w M B K i j l g =
      elim (ℕ_discrete i j) [
        | yes e ↦ ap (B i) (sym e) ∙ ap (λ t. t.0) (K.going.diagonal i l) ∙ sym (unit_here i) ∙ ap (unit_matrix i) e
        | no e ↦ ap (λ t. t.0) (K.going.off i j l g e) ∙ sym (unit_off i j e)
      ]

  -- The right block is the one solution.
  pub kept_solution : (n m : ℕ) (M B : ℕ → ℕ → ℕ) → Kept n (n + m) n M B → Solution R n m M (λ i k. M i (n + k)) (λ i k. B i (n + k))
  unfolding apply
  kept_solution n m M B K = record {
    codes = λ k g j l. K.after j (n + k);
    solves = λ k g i l. sum_total R L n (λ j. S.mul (M' i j) (B' j (n + k))) ∙ ap (λ t. t.0) (solution S n m M' B' K.going i k l g);
    only = only;
    regular = λ x v a j l. sym (cut_below n x v j l) ∙ ap (λ t. t.0) (only_nil S n (n + m) n M' B' (omega arith) (omega arith) K.going (cut n x v) (cut_past n x v) (kernel n m M K.before x v a) j);
  }
    where
      S : Commutative (Code R)
      S = codes R L

      M' : ℕ → ℕ → Code R
      M' = lift R M K.before

      B' : ℕ → ℕ → Code R
      B' = lift R B K.after

      only : (k : ℕ) → k < m → (y : ℕ → ℕ) → Vector R n y → Solves R n M (λ i. M i (n + k)) y → (j : ℕ) → j < n → y j ≡ B j (n + k)
      only k g y v s j l =
          sym (cut_below n y v j l)
          ∙ ap (λ t. t.0) (solution_only S n m M' B' K.going (cut n y v) k g (λ i p. same R _ _ (cut_dot n M K.before y v i ∙ s i p)) j l)

  -- the only x with 1 x = 0 is 0
  pub unit_regular : (n : ℕ) → Regular R n unit_matrix
  unfolding apply
  unit_regular n x v a i l =
      sym (cut_below n x v i l)
      ∙ ap (λ t. t.0) (sym (one_mul S (z i)) ∙ ap (λ t. S.mul t (z i)) (sym here) ∙ sym (total_one S n (λ j. S.mul (U i j) (z j)) i l other))
      ∙ cut_dot n unit_matrix unit_code x v i ∙ a i l
    where
      S : Commutative (Code R)
      S = codes R L

      U : ℕ → ℕ → Code R
      U = lift R unit_matrix unit_code

      z : ℕ → Code R
      z = cut n x v

      here : U i i ≡ S.one
      here = same R _ _ (unit_here i)

      other : (j : ℕ) → j < n → (j ≡ i → ⊥) → S.mul (U i j) (z j) ≡ S.nil
      other j g h = ap (λ t. S.mul t (z j)) (same R (U i j) S.nil (unit_off i j (λ e. h (sym e)))) ∙ nil_mul S (z j)

  -- the one solution of A X = 1 is the inverse
  pub inverse : (n : ℕ) (A X : ℕ → ℕ → ℕ) → Filled R A → Filled R X → Solution R n n A unit_matrix X → Inverse R n A X
  unfolding times
  inverse n A X ha hx P = record {
    codes = λ i j l g. hx i j;
    right = λ i j l g. P.solves j g i l;
    left = λ i j l g. sum_total R L n (λ k. S.mul (X' i k) (A' k j)) ∙ ap (λ t. t.0) (both_sides S n A' X' U (λ i. same R _ _ (unit_here i)) (λ i j h. same R _ _ (unit_off i j h)) kernel' right i j l g);
  }
    where
      S : Commutative (Code R)
      S = codes R L

      A' : ℕ → ℕ → Code R
      A' = lift R A ha

      X' : ℕ → ℕ → Code R
      X' = lift R X hx

      U : ℕ → ℕ → Code R
      U = lift R unit_matrix unit_code

      kernel' : (x : ℕ → Code R) → Kernel S n n A' x → (j : ℕ) → j < n → x j ≡ S.nil
      kernel' x K j l = same R _ _ (P.regular (λ k. (x k).0) (λ k g. (x k).1) (λ i g. sym (down n A ha x i) ∙ ap (λ t. t.0) (K i g)) j l)

      right : (i j : ℕ) → i < n → j < n → times S n A' X' i j ≡ U i j
      right i j l g = same R _ _ (sym (sum_total R L n (λ k. S.mul (A' i k) (X' k j))) ∙ P.solves j g i l)
