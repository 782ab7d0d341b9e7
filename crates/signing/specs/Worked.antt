-- Cases worked by hand, in one statement: those of the maps, and signatures.
use Rattle.std.specs.Prelude.{◌≡◌, ℕ, List, [], ◌∷◌, slice_index}
use Rattle.algebra.specs.Rings.{Ring}
use Rattle.algebra.specs.Modular.{modular}
use Rattle.algebra.specs.Tower.{gf16}
use Rattle.algebra.specs.Systems.{FirstDependent}
use Rattle.algebra.specs.Layers.{Halfway}
use Rattle.fields.specs.Packing.{code_at}
use Rattle.keys.specs.Heads.{shape_of}
use Rattle.maps.specs.SecretKeys.{central}
use Rattle.maps.specs.Worked.{WorkedCases, secret_key31}
use Rattle.signing.specs.Layers.{system_entry}
use Rattle.signing.specs.Starts.{unmixed, packed_vector}
use Rattle.signing.specs.Signatures.{run_of, IsSignature}

-- a list's codes as a vector
abbrev pub vector_of : List ℕ → ℕ → ℕ
vector_of codes i = slice_index codes i

-- a secret key over GF(16) of the shape 1, 1, 1
abbrev pub secret_key16 : List ℕ
secret_key16 = 15 ∷ 1 ∷ 1 ∷ 1 ∷ 50 ∷ 73 ∷ 17 ∷ 0 ∷ 1 ∷ 1 ∷ []

-- Column c, from 1, of the first layer's system at w is the first that depends on those before it.
abbrev pub FirstFaulty : Ring → List ℕ → (ℕ → ℕ) → ℕ → Type 0
FirstFaulty R key w = FirstDependent R (shape_of key).o1 (system_entry R (run_of key) (shape_of key) 1 w)

-- Column c of the second layer's is, at a point that begins with w and solves the first layer for the first codes of S inverse times d.
pub record SecondFaulty (R : Ring) (key : List ℕ) (w d : ℕ → ℕ) (c : ℕ) : Type 0 where
  pub point : ℕ → ℕ
  pub halfway : Halfway R (shape_of key).v1 (shape_of key).o1 (central R.q (run_of key) (shape_of key)) w (unmixed R (run_of key) (shape_of key) d) point
  pub dependent : FirstDependent R (shape_of key).o2 (system_entry R (run_of key) (shape_of key) 2 point) c

pub record SignedCases : Type 0 where
  pub maps : WorkedCases
  -- modulo 31, the vinegar 1 and the digest 10 4 have the signature 12 24 2
  pub signed31 : IsSignature (modular 31) secret_key31 (vector_of (1 ∷ [])) (vector_of (10 ∷ 4 ∷ [])) (vector_of (12 ∷ 24 ∷ 2 ∷ []))
  pub bytes31 : packed_vector 31 3 (vector_of (12 ∷ 24 ∷ 2 ∷ [])) ≡ 12 ∷ 24 ∷ 2 ∷ []
  -- with the vinegar 0 the first layer is singular in column 1
  pub first31 : FirstFaulty (modular 31) secret_key31 (vector_of (0 ∷ [])) 1
  -- with the vinegar 1 and the digest 8 4 the second layer is singular in column 1
  pub second31 : SecondFaulty (modular 31) secret_key31 (vector_of (1 ∷ [])) (vector_of (8 ∷ 4 ∷ [])) 1
  -- over GF(16), the vinegar 1 and the digest byte 67, codes 3 4, have the signature 159 10, codes 15 9 10
  pub signed16 : IsSignature gf16 secret_key16 (vector_of (1 ∷ [])) (code_at 16 (67 ∷ [])) (code_at 16 (159 ∷ 10 ∷ []))
  pub bytes16 : packed_vector 16 3 (code_at 16 (159 ∷ 10 ∷ [])) ≡ 159 ∷ 10 ∷ []
