-- The steps from a place and a digest to a signature. Assumes nothing.
use Rattle.std.proofs.Common.{◌≡◌, ℕ, ◌+◌, ◌-◌, ◌*◌, ◌<◌, ◌≤◌, Ok, Err, Result, Some, None, Option, cond, ltb, List, map, length, get_or, sym, refl, ap, ◌∙◌, subst, ap₂, inl, inr, zero-add, arith}
use native.Mathlib.Decide.{dec_lt}
use borrow.Rule.Slice.PartMut.{put_mid}
use Rattle.std.specs.List.{range_with_len, between}
use Rattle.std.proofs.lemmas.List.{same_lists, get_or_default}
use Rattle.std.proofs.lemmas.List.Edits.{length-between, get_or-between}
use Rattle.std.proofs.lemmas.List.FromFn.{length-map-range_with_len, get_or-map-range_with_len}
use Rattle.algebra.specs.Rings.{Ring, RingLaws}
use Rattle.algebra.specs.Matrices.{applied}
use Rattle.algebra.specs.Systems.{Solves, Regular, FirstDependent}
use Rattle.algebra.specs.Layers.{joined}
use Rattle.algebra.proofs.Systems.{dot_ext, dependent_ext}
use Rattle.algebra.proofs.LayerForms.{entry_code}
use Rattle.algebra.proofs.Layers.{joined_low, joined_high, entry_ext, constant_ext, applied_ext}
use Rattle.fields.specs.Packing.{packed, packed_length, CodesWritten}
use Rattle.fields.specs.declared.packing.Misfit.{Misfit}
use Rattle.matrices.specs.Arrays.{entry, Written}
use Rattle.matrices.specs.MatrixProducts.{Applied}
use Rattle.matrices.specs.Linear.{Fits, Solving, SolvesOne}
use Rattle.matrices.specs.declared.elimination.Dependent.{Dependent}
use Rattle.std.specs.Option.{IsSome}
use Rattle.matrices.proofs.RowWrites.{row_below, put_written}
use Rattle.matrices.proofs.RowSums.{applied_there}
use Rattle.matrices.proofs.Blocks.{codes_from_lem}
use Rattle.keys.specs.declared.shapes.Shape.{Shape}
use Rattle.keys.specs.Shapes.{variables, equations, place_length}
use Rattle.maps.specs.SecretKeys.{inner_inverse, mask_side, mask_inverse, BroughtBack}
use Rattle.maps.specs.declared.mask_backs.Mask.{Mask}
use Rattle.signing.specs.Layers.{system_entry, system_constant, layer_forms}
use Rattle.signing.specs.Starts.{TakenAway, SecondRows, SecondSolved, Finished, place_vinegar, place_constant, first_oil, half_point, unmixed, packed_vector}

pub brought_there : (R : Ring) (run : List ℕ) (s : Shape) (k : Mask) (x old new : List ℕ) (b : Result Unit Misfit) → length x ≡ mask_side k s → length old ≡ mask_side k s → BroughtBack R run s k x old b new → (i : ℕ) → i < mask_side k s → get_or new i 0 ≡ applied R (mask_side k s) (mask_inverse k R run s) (λ j. get_or x j 0) i
brought_there R run s k x old new (Ok _) e f B = B.1
brought_there R run s k x old new (Err _) e f B = absurd (B.0 e f)

-- a list by its places
pub as_vector : (n : ℕ) (xs : List ℕ) (f : ℕ → ℕ) → length xs ≡ n → ((i : ℕ) → i < n → get_or xs i 0 ≡ f i) → xs ≡ map f (range_with_len 0 n)
as_vector n xs f e h =
    same_lists xs (map f (range_with_len 0 n)) (e ∙ sym (length-map-range_with_len f 0 n))
    (λ k d l. get_or_default xs k d 0 l ∙ h k (omega arith) ∙ sym (get_or-map-range_with_len f 0 n k k d (omega arith) (zero-add k)))

pub signature_written : (q n : ℕ) (f : ℕ → ℕ) (z old new : List ℕ) (r : Result Unit Misfit) → length z ≡ n → length old ≡ packed_length q n → ((i : ℕ) → i < n → get_or z i 0 ≡ f i) → CodesWritten q z old r new → new ≡ packed_vector q n f
signature_written q n f z old new (Ok _) e l h w = w.1 ∙ ap (packed q) (as_vector n z f e h)
signature_written q n f z old new (Err _) e l h w = absurd (w.0 (l ∙ ap (packed_length q) (sym e)))

-- w below place v, and y from there on
pub joined_as : (v n : ℕ) (w y f : ℕ → ℕ) → ((i : ℕ) → i < v → f i ≡ w i) → ((c : ℕ) → v + c < n → f (v + c) ≡ y c) → (i : ℕ) → i < n → f i ≡ joined v w y i
joined_as v n w y f low high i l =
    elim (dec_lt i v) [
      | yes h ↦ low i h ∙ sym (joined_low v w y i h)
      | no h ↦ let e : v + (i - v) ≡ i = omega arith in subst (λ t. f t ≡ joined v w y t) e (high (i - v) (omega arith) ∙ sym (joined_high v w y (i - v)))
    ]

-- vinegar at the front, and behind it the first layer's variables
pub half_known : (R : Ring) (s : Shape) (place b b' point oil point' : List ℕ) (r : Result Unit Misfit)
    → length place ≡ place_length s → length b' ≡ equations s → length point ≡ variables s → length oil ≡ s.v1 + s.o1 - s.v1
    → TakenAway R (between s.v1 (s.v1 + s.o1) place) b b' (length (between s.v1 (s.v1 + s.o1) place))
    → Applied R (between (s.v1 + s.o1) (length place) place) (between 0 s.o1 b') (between s.v1 (s.v1 + s.o1) point) r oil
    → Written (put_mid s.v1 (s.v1 + s.o1 - s.v1) point oil) point' (length (between 0 s.v1 place)) 0 (λ k. get_or (between 0 s.v1 place) k 0)
    → (i : ℕ) → i < s.v1 + s.o1 → get_or point' i 0 ≡ joined s.v1 (place_vinegar place) (first_oil R s place (λ j. get_or b j 0)) i
half_known R s place b b' point oil point' r lp lb lx lo T A W =
    joined_as s.v1 (s.v1 + s.o1) (place_vinegar place) (first_oil R s place (λ j. get_or b j 0)) (λ i. get_or point' i 0)
    (λ i h. ap (λ t. get_or point' t 0) (sym (zero-add i)) ∙ W.here i (omega (arith, front)) ∙ get_or-between place 0 s.v1 i 0 (omega arith) ∙ ap (λ t. get_or place t 0) (zero-add i))
    (λ k g. there k (omega arith))
  where
    front : length (between 0 s.v1 place) ≡ s.v1
    front = length-between place 0 s.v1 (omega arith) ∙ omega arith

    taken : length (between s.v1 (s.v1 + s.o1) place) ≡ s.v1 + s.o1 - s.v1
    taken = length-between place s.v1 (s.v1 + s.o1) (omega arith)

    there : (k : ℕ) → k < s.o1 → get_or point' (s.v1 + k) 0 ≡ first_oil R s place (λ j. get_or b j 0) k
    there k g =
        W.rest (s.v1 + k) (inr (omega (arith, front)))
        ∙ (put_written point oil s.v1 (s.v1 + s.o1 - s.v1) (omega arith) lo).here k (omega arith)
        ∙ applied_there R (between (s.v1 + s.o1) (length place) place) (between 0 s.o1 b') (between s.v1 (s.v1 + s.o1) point) oil s.o1 s.o1 r
        (length-between place (s.v1 + s.o1) (length place) (omega arith) ∙ omega arith) (length-between b' 0 s.o1 (omega arith) ∙ omega arith) (length-between point s.v1 (s.v1 + s.o1) (omega arith) ∙ omega arith) A k g
        ∙ dot_ext R s.o1 _ _ _ _ (λ j p. let q = row_below k s.o1 s.o1 g in get_or-between place (s.v1 + s.o1) (length place) (k * s.o1 + j) 0 (omega arith))
        (λ j p. get_or-between b' 0 s.o1 j 0 (omega arith) ∙ ap (λ t. get_or b' t 0) (zero-add j) ∙ T.less j (omega (arith, taken)) ∙ ap (λ t. R.add (get_or b j 0) (R.neg t)) (get_or-between place s.v1 (s.v1 + s.o1) j 0 (omega arith)))

-- rows that fit have an answer
pub solve_answers : (R : Ring) (rows new : List ℕ) (n : ℕ) (r : Option (Result Unit Dependent)) → Fits R rows n 1 → SolvesOne R rows n r new → IsSome r
solve_answers R rows new n (Some r) F S = refl
solve_answers R rows new n None F S = elim S.0 [ inl h ↦ absurd (h F.places) | inr f ↦ let below = F.codes f.0 in absurd (omega (arith, f.1.1)) ]

-- only the entries count, of the system, its right side and the solution
pub solves_ext : (R : Ring) (n : ℕ) (A C : ℕ → ℕ → ℕ) (b d x y : ℕ → ℕ) → ((i j : ℕ) → i < n → j < n → A i j ≡ C i j) → ((i : ℕ) → i < n → b i ≡ d i) → ((j : ℕ) → j < n → x j ≡ y j) → Solves R n A b x → Solves R n C d y
solves_ext R n A C b d x y h k m S i l = dot_ext R n _ _ _ _ (λ j g. sym (h i j l g)) (λ j g. sym (m j g)) ∙ S i l ∙ k i l

pub regular_ext : (R : Ring) (n : ℕ) (A C : ℕ → ℕ → ℕ) → ((i j : ℕ) → i < n → j < n → A i j ≡ C i j) → Regular R n A → Regular R n C
regular_ext R n A C h V x v S = V x v (solves_ext R n C A (λ _. 0) (λ _. 0) x x (λ i j l g. sym (h i j l g)) (λ _ _. refl) (λ _ _. refl) S)

module _ (R : Ring) (run : List ℕ) (s : Shape) where
  module _ (x y : ℕ → ℕ) (h : (i : ℕ) → i < s.v1 + s.o1 → x i ≡ y i) where
    pub at_same : (r c : ℕ) → system_entry R run s 2 x r c ≡ system_entry R run s 2 y r c
    at_same r c = entry_ext R (s.v1 + s.o1) (layer_forms R.q run s 2) x y r c h

    -- b less the constants, only the values counting
    pub less_same : (a b r : ℕ) → a ≡ b → R.add a (R.neg (system_constant R run s 2 x r)) ≡ R.add b (R.neg (system_constant R run s 2 y r))
    less_same a b r e = ap₂ (λ (t u : ℕ). R.add t (R.neg u)) e (constant_ext R (s.v1 + s.o1) (layer_forms R.q run s 2) x y r h)

  -- what is formed from parts is formed from the whole
  pub rows_whole : (b point rows : List ℕ) → length b ≡ equations s → SecondRows R run s (λ r. get_or (between s.o1 (length b) b) r 0) (λ i. get_or (between 0 (s.v1 + s.o1) point) i 0) rows → SecondRows R run s (λ r. get_or b (s.o1 + r) 0) (λ i. get_or point i 0) rows
  rows_whole b point rows e S = record {
    system = λ r c l g. S.system r c l g ∙ at_same _ _ part r c;
    side = λ r l. S.side r l ∙ less_same _ _ part _ _ r (get_or-between b s.o1 (length b) r 0 (omega arith));
  }
    where
      part : (i : ℕ) → i < s.v1 + s.o1 → get_or (between 0 (s.v1 + s.o1) point) i 0 ≡ get_or point i 0
      part i l = get_or-between point 0 (s.v1 + s.o1) i 0 (omega arith) ∙ ap (λ t. get_or point t 0) (zero-add i)

  pub rows_fit : RingLaws R → (b x : ℕ → ℕ) (rows : List ℕ) → length rows ≡ s.o2 * (s.o2 + 1) → SecondRows R run s b x rows → Fits R rows s.o2 1
  rows_fit L b x rows e S = record { places = e; codes = codes_from_lem R L rows s.o2 (s.o2 + 1) e each }
    where
      each : (i j : ℕ) → i < s.o2 → j < s.o2 + 1 → entry rows (s.o2 + 1) i j < R.q
      each i j l g =
          elim (dec_lt j s.o2) [
            | yes h ↦ subst (λ t. t < R.q) (sym (S.system i j l h)) (entry_code R L (s.v1 + s.o1) (layer_forms R.q run s 2) x i j)
            | no h ↦ let last : j ≡ s.o2 = omega arith in subst (λ t. t < R.q) (sym (ap (entry rows (s.o2 + 1) i) last ∙ S.side i l)) (L.add_code _ _)
          ]

  -- a solution in the last column, read to the places behind the known values
  pub second_solved : (b : ℕ → ℕ) (old new point column : List ℕ) → length point ≡ variables s → length column ≡ length point - (s.v1 + s.o1)
      → SecondRows R run s (λ r. b (s.o1 + r)) (λ i. get_or point i 0) old
      → Solving R old s.o2 new
      → ((c : ℕ) → c < s.o2 → get_or column c 0 ≡ entry new (s.o2 + 1) c s.o2)
      → SecondSolved R run s b (λ i. get_or point i 0) (put_mid (s.v1 + s.o1) (length point - (s.v1 + s.o1)) point column)
  second_solved b old new point column lp lc S V h = record {
    known = λ i l. W.rest i (inl l);
    codes = λ c l. subst (λ t. t < R.q) (there c l) (V.codes c l);
    solves = solves_ext R s.o2 _ _ _ _ _ _ (λ r c l g. S.system r c l g) (λ r l. S.side r l) there V.solves;
    regular = regular_ext R s.o2 _ _ (λ r c l g. S.system r c l g) V.regular;
  }
    where
      W : Written point (put_mid (s.v1 + s.o1) (length point - (s.v1 + s.o1)) point column) (length point - (s.v1 + s.o1)) (s.v1 + s.o1) (λ k. get_or column k 0)
      W = put_written point column (s.v1 + s.o1) (length point - (s.v1 + s.o1)) (omega arith) lc

      there : (c : ℕ) → c < s.o2 → entry new (s.o2 + 1) c s.o2 ≡ get_or (put_mid (s.v1 + s.o1) (length point - (s.v1 + s.o1)) point column) (s.v1 + s.o1 + c) 0
      there c l = sym (W.here c (omega arith) ∙ h c l)

  module _ (place : List ℕ) (d : ℕ → ℕ) (b : List ℕ) (B : (e : ℕ) → e < equations s → get_or b e 0 ≡ unmixed R run s d e) where
    -- the half point, from the values that b holds
    half_there : (point : List ℕ) → ((i : ℕ) → i < s.v1 + s.o1 → get_or point i 0 ≡ joined s.v1 (place_vinegar place) (first_oil R s place (λ j. get_or b j 0)) i) → (i : ℕ) → i < s.v1 + s.o1 → get_or point i 0 ≡ half_point R run s place d i
    unfolding joined
    half_there point h i l = h i l ∙ ap (cond (ltb i s.v1) (place_vinegar place i)) (dot_ext R s.o1 _ _ _ _ (λ j g. refl) (λ j g. ap (λ t. R.add t (R.neg (place_constant s place j))) (B j (omega arith))))

    -- a fault found at the half point that was made is one at the half point
    pub half_fault : (point : List ℕ) (c : ℕ) → ((i : ℕ) → i < s.v1 + s.o1 → get_or point i 0 ≡ joined s.v1 (place_vinegar place) (first_oil R s place (λ j. get_or b j 0)) i) → FirstDependent R s.o2 (system_entry R run s 2 (λ i. get_or point i 0)) c → FirstDependent R s.o2 (system_entry R run s 2 (half_point R run s place d)) c
    half_fault point c h = dependent_ext R s.o2 c _ _ (λ i j _ _. at_same _ _ (half_there point h) i j)

    pub finished : (b' point new : List ℕ) → ((i : ℕ) → i < s.v1 + s.o1 → get_or point i 0 ≡ joined s.v1 (place_vinegar place) (first_oil R s place (λ j. get_or b j 0)) i) → ((r : ℕ) → s.o1 ≤ r → get_or b' r 0 ≡ get_or b r 0)
        → SecondSolved R run s (λ r. get_or b' r 0) (λ i. get_or point i 0) new
        → Finished R run s place d (applied R (variables s) (inner_inverse R run s) (λ i. get_or new i 0))
    finished b' point new known e S = record {
      oil = oil;
      codes = S.codes;
      solves = solves_ext R s.o2 _ _ _ _ oil oil (λ r c _ _. at_same _ _ h r c) (λ r l. less_same _ _ h _ _ r (e (s.o1 + r) (omega arith) ∙ B (s.o1 + r) (omega arith))) (λ _ _. refl) S.solves;
      regular = regular_ext R s.o2 _ _ (λ r c _ _. at_same _ _ h r c) S.regular;
      image = λ i l. applied_ext R (variables s) (inner_inverse R run s) _ _ i (joined_as (s.v1 + s.o1) (variables s) (half_point R run s place d) oil (λ j. get_or new j 0) (λ j g. S.known j g ∙ h j g) (λ _ _. refl));
    }
      where
        h : (i : ℕ) → i < s.v1 + s.o1 → get_or point i 0 ≡ half_point R run s place d i
        h = half_there point known

        oil : ℕ → ℕ
        oil c = get_or new (s.v1 + s.o1 + c) 0
