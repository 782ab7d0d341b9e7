-- The parts of a place, and the systems that are formed for it. Assumes nothing.
use Rattle.std.proofs.Common.{◌≡◌, ℕ, ◌+◌, ◌*◌, ◌<◌, ◌≤◌, Result, Some, None, Option, List, length, get_or, take, drop, sym, refl, ap, ◌∙◌, subst, inl, inr, zero-add, arith, ◌++◌, length-append, length-drop, length-take-le}
use borrow.Rule.Slice.PartMut.{put_mid}
use Rattle.algebra.specs.Rings.{Ring, RingLaws}
use Rattle.algebra.specs.Systems.{Inverse, FirstDependent}
use Rattle.algebra.proofs.Systems.{dependent_ext, inverse_ext}
use Rattle.algebra.proofs.LayerForms.{entry_code}
use Rattle.algebra.proofs.Layers.{entry_ext, constant_ext}
use Rattle.matrices.specs.Arrays.{entry, Written}
use Rattle.matrices.specs.Linear.{LeftCodes, LeftFits, LeftInverts}
use Rattle.matrices.specs.declared.elimination.Dependent.{Dependent}
use Rattle.std.specs.Option.{IsSome}
use Rattle.matrices.proofs.RowWrites.{row_below}
use Rattle.keys.specs.declared.shapes.Shape.{Shape}
use Rattle.maps.specs.SecretKeys.{group_size}
use Rattle.signing.specs.Layers.{system_entry, system_constant, layer_forms, SystemIn}
use Rattle.signing.specs.Starts.{Holds, place_inverse}

-- a list of which a part was written is as long as it was
pub put_length : (a k : ℕ) (xs ys : List ℕ) → a + k ≤ length xs → length ys ≡ k → length (put_mid a k xs ys) ≡ length xs
put_length a k xs ys h e =
    omega (arith, length-append (take a xs) (ys ++ drop k (drop a xs)), length-append ys (drop k (drop a xs)), length-take-le a xs (omega arith), length-drop a xs, length-drop k (drop a xs))

-- a left block that fits has an answer
pub inverse_answers : (R : Ring) (rows old new : List ℕ) (n : ℕ) (r : Option (Result Unit Dependent)) → LeftFits R rows n (length old) → LeftInverts R rows n old r new → IsSome r
inverse_answers R rows old new n (Some r) F V = refl
inverse_answers R rows old new n None F V = absurd (V.0 F)

module _ (R : Ring) (L : RingLaws R) (run : List ℕ) (s : Shape) where
  -- a system formed in rows is codes
  pub left_codes_lem : (x : ℕ → ℕ) (old new : List ℕ) → SystemIn R run s 1 x (s.o1 + s.o1) old new → LeftCodes R new s.o1
  left_codes_lem x old new F i j l g = subst (λ t. t < R.q) (sym (F.entries i j l g)) (entry_code R L s.v1 (layer_forms R.q run s 1) x i j)

  -- a fault of rows is one of the system at the same values
  pub system_fault : (l n width c : ℕ) (x w : ℕ → ℕ) (old new : List ℕ) → n ≡ group_size s l → ((r k : ℕ) → system_entry R run s l x r k ≡ system_entry R run s l w r k) → SystemIn R run s l x width old new → FirstDependent R n (entry new width) c → FirstDependent R n (system_entry R run s l w) c
  system_fault l n width c x w old new e h F D = dependent_ext R n c (entry new width) (system_entry R run s l w) (λ i j p q. F.entries i j (omega arith) (omega arith) ∙ h i j) D

  -- the three parts of a place, written one after the other: inverse, vinegar, constants
  pub place_holds : (w : ℕ → ℕ) (p1 p2 p3 rows rows' block x cs : List ℕ) (place : List ℕ)
      → length x ≡ s.v1 → length cs ≡ s.o1
      → ((i : ℕ) → i < s.v1 → get_or x i 0 ≡ w i)
      → ((r : ℕ) → r < s.o1 → get_or cs r 0 ≡ system_constant R run s 1 (λ i. get_or x i 0) r)
      → SystemIn R run s 1 (λ i. get_or x i 0) (s.o1 + s.o1) rows rows'
      → Inverse R s.o1 (entry rows' (s.o1 + s.o1)) (entry block s.o1)
      → length block ≡ s.o1 * s.o1
      → Written place p1 (length block) (s.v1 + s.o1) (λ k. get_or block k 0)
      → Written p1 p2 (length x) 0 (λ k. get_or x k 0)
      → Written p2 p3 (length cs) s.v1 (λ k. get_or cs k 0)
      → Holds R run s w p3
  place_holds w p1 p2 p3 rows rows' block x cs place lx lc hx hc F V lb W1 W2 W3 = record {
    vinegar = λ i l.
        W3.rest i (inl l) ∙ ap (λ t. get_or p2 t 0) (sym (zero-add i)) ∙ W2.here i (omega arith) ∙ hx i l;
    constants = λ r l. W3.here r (omega arith) ∙ hc r l ∙ constant_ext R s.v1 (layer_forms R.q run s 1) (λ i. get_or x i 0) w r hx;
    inverse = inverse_ext R s.o1 _ (system_entry R run s 1 w) _ (place_inverse s p3) (λ i j l g. F.entries i j l g ∙ entry_ext R s.v1 (layer_forms R.q run s 1) (λ t. get_or x t 0) w i j hx) (λ i j l g. sym (there i j l g)) V;
  }
    where
      there : (i j : ℕ) → i < s.o1 → j < s.o1 → place_inverse s p3 i j ≡ entry block s.o1 i j
      there i j l g =
          let b = row_below i s.o1 s.o1 l in
          W3.rest _ (inr (omega arith)) ∙ W2.rest _ (inr (omega arith)) ∙ W1.here (i * s.o1 + j) (omega arith)
