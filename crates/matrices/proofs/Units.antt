-- The unit matrix beside the left blocks of rows of n + n codes, and what elimination then leaves. Assumes nothing.
use Rattle.std.proofs.Common.{◌≡◌, ℕ, ◌+◌, ◌-◌, ◌*◌, ◌<◌, ◌≤◌, List, length, Some, None, Ok, Err, Option, Result, is_ok, true, false, get_or, sym, refl, ap, ◌∙◌, inl, inr, mul-le-mul_right, arith}
use native.Mathlib.Decide.{dec_lt}
use Rattle.algebra.specs.Rings.{Ring, RingLaws}
use Rattle.algebra.specs.Systems.{unit_matrix, FirstDependent}
use Rattle.algebra.proofs.Systems.{unit_code, solution_ext, dependent_ext, inverse_ext, inverse}
use Rattle.matrices.specs.Arrays.{entry, Codes, Off, Written, LeftFrom, UnitsBeside, RightOf}
use Rattle.matrices.specs.declared.elimination.Dependent.{Dependent}
use Rattle.matrices.specs.Linear.{LeftCodes, Solved, Reduced, Room, LeftFits, LeftInverted, LeftInverts, InverseFits, Inverts}
use Rattle.matrices.proofs.RowWrites.{row_below}
use Rattle.matrices.proofs.Blocks.{codes_from_lem}

-- row t of the unit matrix is written
pub units_more : (old mid new : List ℕ) (n t : ℕ) → UnitsBeside old mid n t → Written mid new n (t * (n + n) + n) (unit_matrix t) → UnitsBeside old new n (t + 1)
units_more old mid new n t A W = record { left = λ i j g. W.rest (i * (n + n) + j) (off i j g) ∙ A.left i j g; right = right }
  where
    off : (i j : ℕ) → j < n → Off (t * (n + n) + n) n (i * (n + n) + j)
    off i j g =
        elim (dec_lt t i) [
          | yes s ↦ let b = row_below t i (n + n) s in inr (omega arith)
          | no s ↦ let q : i ≤ t = omega arith in let b = mul-le-mul_right (n + n) q in inl (omega arith)
        ]

    right : (i k : ℕ) → i < t + 1 → k < n → entry new (n + n) i (n + k) ≡ unit_matrix i k
    right i k h g =
        elim (dec_lt i t) [
          | yes s ↦ let b = row_below i t (n + n) s in W.rest (i * (n + n) + (n + k)) (inl (omega arith)) ∙ A.right i k s g
          | no s ↦ let e : i ≡ t = omega arith in
              ap (λ u. entry new (n + n) u (n + k)) e ∙ ap (λ u. get_or new u 0) (omega arith) ∙ W.here k g ∙ ap (λ u. unit_matrix u k) (sym e)
        ]

module _ (R : Ring) (L : RingLaws R) (old rows : List ℕ) (n : ℕ) (A : UnitsBeside old rows n n) where
  same_left : (i j : ℕ) → i < n → j < n → entry rows (n + n) i j ≡ entry old (n + n) i j
  same_left i j l g = A.left i j g

  pub units_codes : length rows ≡ n * (n + n) → LeftCodes R old n → Codes R rows
  units_codes lr h = codes_from_lem R L rows n (n + n) lr each
    where
      each : (i j : ℕ) → i < n → j < n + n → entry rows (n + n) i j < R.q
      each i j l g =
          elim (dec_lt j n) [
            | yes s ↦ let e = A.left i j s in let c = h i j l s in omega arith
            | no s ↦
                let k = j - n in
                let p : j ≡ n + k = omega arith in
                let e : entry rows (n + n) i j ≡ unit_matrix i k = ap (entry rows (n + n) i) p ∙ A.right i k l (omega arith) in
                let c = unit_code R L i k in
                omega arith
          ]

  pub codes_left : Codes R rows → LeftCodes R old n
  codes_left h i j l g = let e = A.left i j g in let c = h (i * (n + n) + j) in omega arith

  pub units_dependent : (c : ℕ) → FirstDependent R n (entry rows (n + n)) c → FirstDependent R n (entry old (n + n)) c
  units_dependent c = dependent_ext R n c (entry rows (n + n)) (entry old (n + n)) same_left

  pub units_inverse : (new block : List ℕ) → length block ≡ n * n → Codes R rows → Solved R rows n n new → RightOf new block n n → LeftInverted R old n block
  units_inverse new block lb h S Q =
      let c : Codes R block = codes_from_lem R L block n n lb (λ i j l g. let e = Q i j l g in let d = S.codes (i * (n + n) + (n + j)) in omega arith) in
      let same : (i j : ℕ) → i < n → j < n → entry rows (n + n) i j ≡ entry rows (n + n) i j = λ i j l g. refl in
      record {
        codes = c;
        inverse = inverse_ext R n (entry rows (n + n)) (entry old (n + n)) (entry block n) (entry block n) same_left (λ i j l g. refl)
            (inverse R L n (entry rows (n + n)) (entry block n) (λ i j. h (i * (n + n) + j)) (λ i j. c (i * n + j))
            (solution_ext R n n (entry rows (n + n)) (λ i k. entry rows (n + n) i (n + k)) (λ i k. entry new (n + n) i (n + k)) (entry rows (n + n)) unit_matrix (entry block n) same A.right (λ i k l g. sym (Q i k l g)) S.right));
      }

-- what elimination answers of the rows, read back
pub left_inverts : (R : Ring) → RingLaws R → (old rows new : List ℕ) (n : ℕ) (r : Result Unit Dependent) (was block : List ℕ) → Room old n (length was) → UnitsBeside old rows n n → Codes R rows → Reduced R rows n n r new → length block ≡ n * n → (is_ok r ≡ true → RightOf new block n n) → (is_ok r ≡ false → block ≡ was) → LeftInverts R old n was (Some r) block
left_inverts R L old rows new n (Ok x) was block m A h S e Q P = (record { room = m; codes = codes_left R L old rows n A h }, units_inverse R L old rows n A new block e h S (Q refl))
left_inverts R L old rows new n (Err f) was block m A h S e Q P = (record { room = m; codes = codes_left R L old rows n A h }, (units_dependent R L old rows n A f.column S.0, P refl))

-- an inverse of the left blocks is one of the system that stood there
system_fits : (R : Ring) (L : RingLaws R) (system rows : List ℕ) (n lent out : ℕ) → length system ≡ n * n → 2 * (n * n) ≤ lent → LeftFrom system rows n n → LeftFits R rows n out → InverseFits R system n lent out
system_fits R L system rows n lent out a b l F = record {
  places = a;
  codes = codes_from_lem R L system n n a (λ i j h g. let e = l i j h g in let c = F.codes i j h g in omega arith);
  work = b;
  room = F.room.inverse;
}

pub inverts : (R : Ring) → RingLaws R → (system rows : List ℕ) (n lent : ℕ) (old : List ℕ) (r : Option (Result Unit Dependent)) (new : List ℕ) → length system ≡ n * n → 2 * (n * n) ≤ lent → Room rows n (length old) → LeftFrom system rows n n → LeftInverts R rows n old r new → Inverts R system n lent old r new
inverts R L system rows n lent old None new a b m l I = ((λ F. I.0 (record { room = m; codes = λ i j h g. let e = l i j h g in let c = F.codes (i * n + j) in omega arith })), I.1)
inverts R L system rows n lent old (Some (Ok x)) new a b m l I =
    (system_fits R L system rows n lent (length old) a b l I.0, record { codes = I.1.codes; inverse = inverse_ext R n (entry rows (n + n)) (entry system n) (entry new n) (entry new n) l (λ i j p g. refl) I.1.inverse })
inverts R L system rows n lent old (Some (Err e)) new a b m l I =
    (system_fits R L system rows n lent (length old) a b l I.0, (dependent_ext R n e.column (entry rows (n + n)) (entry system n) l I.1.0, I.1.1))
