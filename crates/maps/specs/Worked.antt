-- Cases worked by hand, in one statement.
use Rattle.std.specs.Prelude.{◌≡◌, ℕ, true, List, [], ◌∷◌, Ok}
use Rattle.algebra.specs.Modular.{modular}
use Rattle.algebra.specs.Tower.{TowerCases}
use Rattle.fields.specs.Packing.{packed_length, codes_from}
use Rattle.keys.specs.declared.sets.Set.{Set}
use Rattle.keys.specs.Shapes.{variables, equations, secret_codes, public_codes}
use Rattle.keys.specs.Heads.{key_length}
use Rattle.keys.specs.Sets.{set_of}
use Rattle.maps.specs.Verdicts.{Verdict}
use Rattle.maps.specs.PublicKeys.{Published}

-- a public key modulo 31 of the shape 1, 1, 1
abbrev pub public_key31 : List ℕ
public_key31 = 30 ∷ 1 ∷ 1 ∷ 1 ∷ 1 ∷ 0 ∷ 7 ∷ 0 ∷ 16 ∷ 1 ∷ 12 ∷ 0 ∷ 24 ∷ 4 ∷ 1 ∷ 9 ∷ []

-- a secret key modulo 31 of that shape
abbrev pub secret_key31 : List ℕ
secret_key31 = 30 ∷ 1 ∷ 1 ∷ 1 ∷ 2 ∷ 3 ∷ 7 ∷ 4 ∷ 1 ∷ 1 ∷ 0 ∷ 0 ∷ 1 ∷ 0 ∷ 1 ∷ []

-- the lengths of a set's secret key, public key, signature and digest
pub record Sizes (s : Set) (secret public signature digest : ℕ) : Type 0 where
  pub secret_is : key_length 4 s.q (secret_codes s.shape) ≡ secret
  pub public_is : key_length 4 s.q (public_codes s.shape) ≡ public
  pub signature_is : packed_length s.q (variables s.shape) ≡ signature
  pub digest_is : packed_length s.q (equations s.shape) ≡ digest

pub record WorkedCases : Type 0 where
  -- modulo 31, 5 * 25 = 1
  pub product31 : (modular 31).mul 5 25 ≡ 1
  -- products and inverses in GF(4), GF(16) and GF(256)
  pub tower : TowerCases
  -- GF(16), three codes: the half byte over is ignored
  pub half_zero : codes_from 16 (159 ∷ 10 ∷ []) 0 3 ≡ 15 ∷ 9 ∷ 10 ∷ []
  pub half_one : codes_from 16 (159 ∷ 26 ∷ []) 0 3 ≡ 15 ∷ 9 ∷ 10 ∷ []
  -- that key is the public key of the secret one
  pub public31 : Published (modular 31) secret_key31 public_key31
  -- that key says yes to the signature 12 24 2 for the digest 10 4
  pub verdict31 : Verdict (modular 31) public_key31 (10 ∷ 4 ∷ []) (12 ∷ 24 ∷ 2 ∷ []) (Ok true)
  -- the four named sets
  pub ia : Sizes (set_of 16 32 32 32) 92932 148996 48 32
  pub iiic : Sizes (set_of 256 68 36 36) 511420 710644 140 72
  pub vc : Sizes (set_of 256 92 48 48) 1227076 1705540 188 96
  pub k31 : Sizes (set_of 31 1 1 1) 15 16 3 2
