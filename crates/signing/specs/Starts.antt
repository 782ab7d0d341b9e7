-- Starts and what they end in, apart from any shelf. A place holds vinegar, constants, and the inverse of the first layer's system row by row, one code a byte.
use Rattle.std.specs.Prelude.{◌≡◌, ℕ, ◌+◌, ◌*◌, ◌<◌, ◌≤◌, true, List, map, length, Some, None, Ok, Err, Option, Result, slice_index}
use Rattle.std.specs.List.{range_with_len}
use Rattle.algebra.specs.Rings.{Ring}
use Rattle.algebra.specs.Sums.{dot_of}
use Rattle.algebra.specs.Matrices.{applied}
use Rattle.algebra.specs.Systems.{Vector, Solves, Regular, FirstDependent, Inverse}
use Rattle.algebra.specs.Layers.{joined}
use Rattle.fields.specs.Packing.{packed_length, packed, code_at}
use Rattle.matrices.specs.Arrays.{entry}
use Rattle.matrices.specs.declared.elimination.Dependent.{Dependent}
use Rattle.keys.specs.declared.shapes.Shape.{Shape}
use Rattle.keys.specs.declared.faults.LayerFault.{LayerFault}
use Rattle.keys.specs.Shapes.{variables, equations, within, place_length, sign_workspace}
use Rattle.maps.specs.SecretKeys.{outer_inverse, inner_inverse}
use Rattle.signing.specs.Layers.{system_entry, system_constant}

abbrev pub place_vinegar : List ℕ → ℕ → ℕ
place_vinegar place i = slice_index place i

abbrev pub place_constant : Shape → List ℕ → ℕ → ℕ
place_constant s place r = slice_index place (s.v1 + r)

abbrev pub place_inverse : Shape → List ℕ → ℕ → ℕ → ℕ
place_inverse s place i j = slice_index place (s.v1 + s.o1 + (i * s.o1 + j))

-- A place holds the start of the vinegar w.
pub record Holds (R : Ring) (run : List ℕ) (s : Shape) (w : ℕ → ℕ) (place : List ℕ) : Type 0 where
  pub vinegar : (i : ℕ) → i < s.v1 → place_vinegar place i ≡ w i
  pub constants : (r : ℕ) → r < s.o1 → place_constant s place r ≡ system_constant R run s 1 w r
  pub inverse : Inverse R s.o1 (system_entry R run s 1 w) (place_inverse s place)

-- What the making of a start answers where the lengths fit, and leaves in the place.
abbrev pub Opened : Ring → List ℕ → Shape → List ℕ → List ℕ → Result Unit (LayerFault 1) → List ℕ → Type 0
Opened R run s vinegar old (Ok _) new = Holds R run s (code_at R.q vinegar) new
Opened R run s vinegar old (Err f) new = FirstDependent R s.o1 (system_entry R run s 1 (code_at R.q vinegar)) f.fault.column × (new ≡ old)

-- the lengths that a start takes
pub record StartFits (q : ℕ) (s : Shape) (vinegar place work : ℕ) : Type 0 where
  pub shape : within s ≡ true
  pub vinegar_len : vinegar ≡ packed_length q s.v1
  pub place_len : place ≡ place_length s
  pub room : sign_workspace s ≤ work

-- What the making of a start answers, and leaves in the place: none exactly where a length does not fit; a fault is the first layer's, and leaves the place as it was.
abbrev pub Started : Ring → List ℕ → Shape → List ℕ → ℕ → List ℕ → Option (Result Unit (LayerFault 1)) → List ℕ → Type 0
Started R run s vinegar work old None new = (StartFits R.q s (length vinegar) (length old) work → ⊥) × (new ≡ old)
Started R run s vinegar work old (Some r) new = StartFits R.q s (length vinegar) (length old) work × Opened R run s vinegar old r new

-- S inverse times the digest
abbrev pub unmixed : Ring → List ℕ → Shape → (ℕ → ℕ) → ℕ → ℕ
unmixed R run s d = applied R (equations s) (outer_inverse R run s) d

-- the first layer's variables: the place's inverse times b less the place's constants
abbrev pub first_oil : Ring → Shape → List ℕ → (ℕ → ℕ) → ℕ → ℕ
first_oil R s place b k = dot_of R s.o1 (place_inverse s place k) (λ j. R.add (b j) (R.neg (place_constant s place j)))

-- the place's vinegar and the first layer's variables
abbrev pub half_point : Ring → List ℕ → Shape → List ℕ → (ℕ → ℕ) → ℕ → ℕ
half_point R run s place d = joined s.v1 (place_vinegar place) (first_oil R s place (unmixed R run s d))

-- z is what the codes of a place and the digest d determine: the second layer's system at the half point is regular, and T inverse takes that point with its solution to z.
pub record Finished (R : Ring) (run : List ℕ) (s : Shape) (place : List ℕ) (d z : ℕ → ℕ) : Type 0 where
  pub oil : ℕ → ℕ
  pub codes : Vector R s.o2 oil
  pub solves : Solves R s.o2 (system_entry R run s 2 (half_point R run s place d)) (λ r. R.add (unmixed R run s d (s.o1 + r)) (R.neg (system_constant R run s 2 (half_point R run s place d) r))) oil
  pub regular : Regular R s.o2 (system_entry R run s 2 (half_point R run s place d))
  pub image : (i : ℕ) → i < variables s → z i ≡ applied R (variables s) (inner_inverse R run s) (joined (s.v1 + s.o1) (half_point R run s place d) oil) i

-- the lengths that the end of a start takes
pub record FinishFits (q : ℕ) (s : Shape) (place digest signature work : ℕ) : Type 0 where
  pub shape : within s ≡ true
  pub place_len : place ≡ place_length s
  pub digest_len : digest ≡ packed_length q (equations s)
  pub signature_len : signature ≡ packed_length q (variables s)
  pub room : sign_workspace s ≤ work

-- the packed run of the first n places of z
abbrev pub packed_vector : ℕ → ℕ → (ℕ → ℕ) → List ℕ
packed_vector q n z = packed q (map z (range_with_len 0 n))

-- What the end of a start answers where the lengths fit, and leaves in the signature.
abbrev pub Closed : Ring → List ℕ → Shape → List ℕ → List ℕ → List ℕ → Result Unit (LayerFault 2) → List ℕ → Type 0
Closed R run s place digest old (Ok _) new = (z : ℕ → ℕ) × (Finished R run s place (code_at R.q digest) z × (new ≡ packed_vector R.q (variables s) z))
Closed R run s place digest old (Err f) new = FirstDependent R s.o2 (system_entry R run s 2 (half_point R run s place (code_at R.q digest))) f.fault.column × (new ≡ old)

-- What the end of a start answers, and leaves in the signature: none exactly where a length does not fit; a fault is the second layer's, and leaves the signature as it was.
abbrev pub Ended : Ring → List ℕ → Shape → List ℕ → List ℕ → ℕ → List ℕ → Option (Result Unit (LayerFault 2)) → List ℕ → Type 0
Ended R run s place digest work old None new = (FinishFits R.q s (length place) (length digest) (length old) work → ⊥) × (new ≡ old)
Ended R run s place digest work old (Some r) new = FinishFits R.q s (length place) (length digest) (length old) work × Closed R run s place digest old r new

-- What the first c places of b were, less c, and all other places as they were.
pub record TakenAway (R : Ring) (c old new : List ℕ) (t : ℕ) : Type 0 where
  pub less : (r : ℕ) → r < t → slice_index new r ≡ R.add (slice_index old r) (R.neg (slice_index c r))
  pub rest : (r : ℕ) → t ≤ r → slice_index new r ≡ slice_index old r

-- The rows of the second layer's system at x, and as their last column what b has over its constants.
pub record SecondRows (R : Ring) (run : List ℕ) (s : Shape) (b x : ℕ → ℕ) (rows : List ℕ) : Type 0 where
  pub system : (r c : ℕ) → r < s.o2 → c < s.o2 → entry rows (s.o2 + 1) r c ≡ system_entry R run s 2 x r c
  pub side : (r : ℕ) → r < s.o2 → entry rows (s.o2 + 1) r s.o2 ≡ R.add (b r) (R.neg (system_constant R run s 2 x r))

-- The second layer at a point of v1 + o1 known values, for the values b of its forms: solved behind those values, or the first dependent column.
pub record SecondSolved (R : Ring) (run : List ℕ) (s : Shape) (b x : ℕ → ℕ) (new : List ℕ) : Type 0 where
  pub known : (i : ℕ) → i < s.v1 + s.o1 → slice_index new i ≡ x i
  pub codes : Vector R s.o2 (λ c. slice_index new (s.v1 + s.o1 + c))
  pub solves : Solves R s.o2 (system_entry R run s 2 x) (λ r. R.add (b (s.o1 + r)) (R.neg (system_constant R run s 2 x r))) (λ c. slice_index new (s.v1 + s.o1 + c))
  pub regular : Regular R s.o2 (system_entry R run s 2 x)

abbrev pub SecondAnswered : Ring → List ℕ → Shape → (ℕ → ℕ) → (ℕ → ℕ) → Result Unit Dependent → List ℕ → Type 0
SecondAnswered R run s b x (Ok _) new = SecondSolved R run s b x new
SecondAnswered R run s b x (Err e) new = FirstDependent R s.o2 (system_entry R run s 2 x) e.column
