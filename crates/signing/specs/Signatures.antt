-- What a signature is. Vinegar w, digest d and signature z are vectors of codes; keys and byte strings are lists.
use Rattle.std.specs.Prelude.{◌≡◌, ℕ, ◌<◌, true, ◌↔◌, List, length, drop, Ok}
use Rattle.algebra.specs.Rings.{Ring}
use Rattle.algebra.specs.Forms.{form_at}
use Rattle.algebra.specs.Matrices.{applied}
use Rattle.algebra.specs.Systems.{Vector, Singular}
use Rattle.algebra.specs.Layers.{minus, Signs}
use Rattle.algebra.specs.Layers.{SecondSingular as SingularAfter}
use Rattle.fields.specs.Packing.{packed_length, code_at}
use Rattle.matrices.specs.QuadraticSystems.{coefficient}
use Rattle.keys.specs.Shapes.{variables, equations}
use Rattle.keys.specs.Heads.{shape_of, head_of}
use Rattle.maps.specs.SecretKeys.{outer_mask, inner_mask, central}
use Rattle.maps.specs.Verdicts.{Verdict}
use Rattle.maps.specs.PublicKeys.{Published, PublicMade}
use Rattle.signing.specs.Layers.{system_entry}
use Rattle.signing.specs.Starts.{Holds, Finished, half_point, unmixed, packed_vector}

-- a key's run, after its head
abbrev pub run_of : List ℕ → List ℕ
run_of key = drop (head_of key).len key

-- z's image under T begins with w.
abbrev pub BeginsWith : Ring → List ℕ → (ℕ → ℕ) → (ℕ → ℕ) → Type 0
BeginsWith R key w z = (i : ℕ) → i < (shape_of key).v1 → applied R (variables (shape_of key)) (inner_mask R (run_of key) (shape_of key)) z i ≡ w i

-- z is the signature for a secret key, the vinegar w and the digest d: z is n codes, T z begins with w, and S F (T z) is d.
abbrev pub IsSignature : Ring → List ℕ → (ℕ → ℕ) → (ℕ → ℕ) → (ℕ → ℕ) → Type 0
IsSignature R key = Signs R (shape_of key).v1 (shape_of key).o1 (shape_of key).o2 (outer_mask R (run_of key) (shape_of key)) (central R.q (run_of key) (shape_of key)) (inner_mask R (run_of key) (shape_of key))

-- The first layer's system at w takes some non-zero vector to zero.
abbrev pub FirstSingular : Ring → List ℕ → (ℕ → ℕ) → Type 0
FirstSingular R key w = Singular R (shape_of key).o1 (system_entry R (run_of key) (shape_of key) 1 w)

-- The second layer's does, at a point that begins with w and solves the first layer for the first codes of S inverse times d.
abbrev pub SecondSingular : Ring → List ℕ → (ℕ → ℕ) → (ℕ → ℕ) → Type 0
SecondSingular R key w d = SingularAfter R (shape_of key).v1 (shape_of key).o1 (shape_of key).o2 (central R.q (run_of key) (shape_of key)) w (unmixed R (run_of key) (shape_of key) d)

-- There is one signature.
pub record OneSignature (R : Ring) (key : List ℕ) (w d : ℕ → ℕ) : Type 0 where
  pub signature : ℕ → ℕ
  pub is : IsSignature R key w d signature
  pub only : (y : ℕ → ℕ) → IsSignature R key w d y → (i : ℕ) → i < variables (shape_of key) → y i ≡ signature i

-- Where neither layer's system takes a non-zero vector to zero, there is exactly one signature.
abbrev pub ExactlyOne : Ring → Type 0
ExactlyOne R =
    (key : List ℕ) (w d : ℕ → ℕ) → Vector R (shape_of key).v1 w → Vector R (equations (shape_of key)) d
    → (FirstSingular R key w → ⊥) → (SecondSingular R key w d → ⊥) → OneSignature R key w d

-- A signature fixes its vinegar and its digest.
pub record Agree (key : List ℕ) (w d u e : ℕ → ℕ) : Type 0 where
  pub vinegar : (i : ℕ) → i < (shape_of key).v1 → w i ≡ u i
  pub digest : (f : ℕ) → f < equations (shape_of key) → d f ≡ e f

abbrev pub Fixed : Ring → Type 0
Fixed R = (key : List ℕ) (w d u e z : ℕ → ℕ) → IsSignature R key w d z → IsSignature R key u e z → Agree key w d u e

-- equation e of a public key at z
abbrev pub public_value : Ring → List ℕ → (ℕ → ℕ) → ℕ → ℕ
public_value R public z e = form_at R (variables (shape_of public)) (coefficient R.q (run_of public) (variables (shape_of public)) (equations (shape_of public)) e) z

-- The public key made from the secret one has the digest as its value at a signature, and verify says yes to the signature's bytes.
pub record Verified (R : Ring) (key public digest : List ℕ) (z : ℕ → ℕ) : Type 0 where
  pub value : (e : ℕ) → e < equations (shape_of key) → public_value R public z e ≡ code_at R.q digest e
  pub yes : Verdict R public digest (packed_vector R.q (variables (shape_of key)) z) (Ok true)

-- The buffer for it keeps its length.
abbrev pub EachVerifies : Ring → Type 0
EachVerifies R =
    (key old work public left digest : List ℕ) (w z : ℕ → ℕ) → PublicMade R key old work (Ok tt) public left → length public ≡ length old → length digest ≡ packed_length R.q (equations (shape_of key))
    → IsSignature R key w (code_at R.q digest) z → Verified R key public digest z

-- All byte strings that verify says yes to, and whose images begin alike, have the same codes.
abbrev pub NoOther : Ring → Type 0
NoOther R =
    (key old work public left digest bytes : List ℕ) (w z : ℕ → ℕ) → PublicMade R key old work (Ok tt) public left
    → (FirstSingular R key w → ⊥) → (SecondSingular R key w (code_at R.q digest) → ⊥) → IsSignature R key w (code_at R.q digest) z
    → Verdict R public digest bytes (Ok true) → BeginsWith R key w (code_at R.q bytes) → (i : ℕ) → i < variables (shape_of key) → code_at R.q bytes i ≡ z i

-- What a place that holds the start of w is good for, with a digest d.
pub record Good (R : Ring) (key : List ℕ) (w d : ℕ → ℕ) (place : List ℕ) : Type 0 where
  pub regular : FirstSingular R key w → ⊥
  pub singular : Singular R (shape_of key).o2 (system_entry R (run_of key) (shape_of key) 2 (half_point R (run_of key) (shape_of key) place d)) ↔ SecondSingular R key w d
  pub signs : (z : ℕ → ℕ) → Finished R (run_of key) (shape_of key) place d z → IsSignature R key w d z

abbrev pub StartsAreGood : Ring → Type 0
StartsAreGood R =
    (key : List ℕ) (w d : ℕ → ℕ) (place : List ℕ) → Vector R (shape_of key).v1 w → Vector R (equations (shape_of key)) d
    → Holds R (run_of key) (shape_of key) w place → Good R key w d place

-- Why once: at the difference of two signatures with the same vinegar, the first o1 codes of S inverse times the public key's value are 0.
abbrev pub SameStart : Ring → Type 0
SameStart R =
    (key public : List ℕ) (w d e y z : ℕ → ℕ) → Published R key public → IsSignature R key w d y → IsSignature R key w e z
    → (r : ℕ) → r < (shape_of key).o1 → unmixed R (run_of key) (shape_of key) (public_value R public (minus R y z)) r ≡ 0
