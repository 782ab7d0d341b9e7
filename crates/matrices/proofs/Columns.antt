-- One column of an array after the other. Assumes nothing.
use Rattle.std.proofs.Common.{◌≡◌, ℕ, ◌+◌, ◌-◌, ◌*◌, ◌<◌, List, Some, None, Ok, Err, Option, Result, sym, refl, ap, ◌∙◌, subst, inl, inr, add-zero, arith}
use native.Mathlib.Decide.{dec_lt}
use Rattle.algebra.specs.Rings.{Ring, RingLaws}
use Rattle.algebra.specs.Systems.{Vector, Solves, FirstDependent, Solution}
use Rattle.algebra.proofs.Systems.{Kept, kept_more, kept_unit, kept_solution, dependent_singular, not_both, same_column, same_solution}
use Rattle.matrices.specs.declared.elimination.Dependent.{Dependent}
use Rattle.matrices.specs.declared.elimination.Lead.{Lead}
use Rattle.matrices.specs.Arrays.{entry, Codes, Swapped, Cleared}
use Rattle.matrices.specs.Linear.{Found, Fits, Misfit, Solved, Eliminated, Determined, FaultsAreSingular, Solving, SolvesOne}
use Rattle.matrices.proofs.RowWrites.{Scaled, row_off, written_codes, swapped_codes}

pub column_done : (R : Ring) (L : RingLaws R) (n w c : ℕ) (old rows a b new : List ℕ) (p : Lead) → c < n → c < w → Codes R rows → Kept R L n w c (entry old w) (entry rows w) → Found R rows n w c c p → Swapped rows a w (c * w) (p.row * w) → Scaled R a b w (c * w) p.inverse → Cleared R b new n w c → Codes R new × Kept R L n w (c + 1) (entry old w) (entry new w)
column_done R L n w c old rows a b new p lc lw h K F W V C =
    let ha : Codes R a = swapped_codes R rows a w (c * w) (p.row * w) W h in
    let hb : Codes R b = written_codes R a b w (c * w) _ V (λ k. L.mul_code _ _) ha in
    let hn : Codes R new = C.codes hb in
    (hn, kept_more R L n w c p.row p.inverse (entry old w) (entry rows w) (entry a w) (entry b w) (entry new w) lc lw F.low F.high F.code F.inverse (λ i j. ha (i * w + j)) (λ i j. hb (i * w + j)) (λ i j. hn (i * w + j)) K (record { one = W.two; two = W.one; rest = λ i j l m g s. W.rest (i * w + j) (row_off i c w j g m) (row_off i p.row w j s m) }) (record { here = V.here; rest = λ i j l m g. V.rest (i * w + j) (row_off i c w j g m) }) (record { here = C.here; rest = C.other }))

pub all_done : (R : Ring) (L : RingLaws R) (n m : ℕ) (old new : List ℕ) → Codes R new → Kept R L n (n + m) n (entry old (n + m)) (entry new (n + m)) → Solved R old n m new
all_done R L n m old new h K = record { codes = h; left = kept_unit R L n (n + m) (entry old (n + m)) (entry new (n + m)) K; right = kept_solution R L n m (entry old (n + m)) (entry new (n + m)) K }

module _ (R : Ring) (old : List ℕ) (n m : ℕ) where
  pub apart : Fits R old n m → Misfit R old n m → ⊥
  apart F (inl h) = h F.places
  apart F (inr (k, (l, g))) = let h = F.codes k in omega arith

  same_array : (a b : List ℕ) → Solved R old n m a → Solved R old n m b → (i j : ℕ) → i < n → j < n + m → entry a (n + m) i j ≡ entry b (n + m) i j
  same_array a b A B i j l g =
      elim (dec_lt j n) [
        | yes h ↦ A.left i j l h ∙ sym (B.left i j l h)
        | no h ↦
            let k = j - n in
            let e : j ≡ n + k = omega arith in
            ap (λ t. entry a (n + m) i t) e ∙ same_solution R n m _ _ _ _ A.right B.right i k l (omega arith) ∙ ap (λ t. entry b (n + m) i t) (sym e)
      ]

  never : (a : List ℕ) (c : ℕ) → Solved R old n m a → FirstDependent R n (entry old (n + m)) c → ⊥
  never a c S D = not_both R n _ S.right.regular (dependent_singular R n _ c D)

pub determined : (R : Ring) → Determined R
determined R old n m None None a b A B = (refl, A.1 ∙ sym B.1)
determined R old n m None (Some s) a b A B = absurd (apart R old n m B.0 A.0)
determined R old n m (Some r) None a b A B = absurd (apart R old n m A.0 B.0)
determined R old n m (Some (Ok x)) (Some (Ok y)) a b A B = (refl, same_array R old n m a b A.1 B.1)
determined R old n m (Some (Ok x)) (Some (Err e)) a b A B = absurd (never R old n m a e.column A.1 B.1.0)
determined R old n m (Some (Err e)) (Some (Ok x)) a b A B = absurd (never R old n m b e.column B.1 A.1.0)
determined R old n m (Some (Err e)) (Some (Err f)) a b A B = (ap (λ t. Some (Err (record { column = t }))) (same_column R n _ e.column f.column A.1.0 B.1.0), tt)

pub faults_are_singular_lem : (R : Ring) → FaultsAreSingular R
faults_are_singular_lem R old n m (Ok x) new E = not_both R n _ E.1.right.regular
faults_are_singular_lem R old n m (Err e) new E = dependent_singular R n _ e.column E.1.0

-- one right side
pub solving : (R : Ring) (old : List ℕ) (n : ℕ) (new : List ℕ) → Solved R old n 1 new → Solving R old n new
solving R old n new S =
    let P : Solution R n 1 (entry old (n + 1)) (λ i k. entry old (n + 1) i (n + k)) (λ i k. entry new (n + 1) i (n + k)) = S.right in
    let z = add-zero n in
    let l : 0 < 1 = omega arith in
    record {
      codes = subst (λ t. Vector R n (λ j. entry new (n + 1) j t)) z (P.codes 0 l);
      solves = subst (λ t. Solves R n (entry old (n + 1)) (λ i. entry old (n + 1) i t) (λ j. entry new (n + 1) j t)) z (P.solves 0 l);
      only = subst (λ t. (y : ℕ → ℕ) → Vector R n y → Solves R n (entry old (n + 1)) (λ i. entry old (n + 1) i t) y → (j : ℕ) → j < n → y j ≡ entry new (n + 1) j t) z (P.only 0 l);
      regular = P.regular;
    }

pub solves_one_lem : (R : Ring) (old : List ℕ) (n : ℕ) (r : Option (Result Unit Dependent)) (new : List ℕ) → Eliminated R old n 1 r new → SolvesOne R old n r new
solves_one_lem R old n None new E = E
solves_one_lem R old n (Some (Ok x)) new E = (E.0, solving R old n new E.1)
solves_one_lem R old n (Some (Err e)) new E = (E.0, E.1.0)
