-- The public key of a secret key.
use Rattle.std.specs.Prelude.{◌≡◌, ℕ, ◌+◌, ◌*◌, ◌<◌, ◌≤◌, true, false, ◌⊎◌, ◌↔◌, List, [], ◌∷◌, ◌++◌, map, length, take, drop, replicate, is_some, is_err, Option, Result, ◌==◌, ◌≢◌, nat_le}
use Rattle.algebra.specs.Rings.{Ring}
use Rattle.algebra.specs.Sums.{sum}
use Rattle.algebra.specs.Forms.{form_at}
use Rattle.algebra.specs.Matrices.{applied, folded, pulled, public_form}
use Rattle.fields.specs.Packing.{packed_length, code_at}
use Rattle.matrices.specs.QuadraticSystems.{pair_at, coefficient}
use Rattle.keys.specs.declared.shapes.Shape.{Shape}
use Rattle.keys.specs.Shapes.{variables, equations, secret_codes, public_codes, key_workspace}
use Rattle.keys.specs.declared.refusals.Buffer.TheVariants.{Key, PublicKey, Workspace}
use Rattle.keys.specs.declared.refusals.Refusal.{Refusal}
use Rattle.keys.specs.Refusals.{Told, Lent, first, packed_run, space, length_test, buffer_tests, Answers}
use Rattle.keys.specs.Heads.{shape_of, head_of, head_tests, key_length}
use Rattle.maps.specs.Verdicts.{Valid}
use Rattle.maps.specs.SecretKeys.{outer_mask, inner_mask, central}

-- the entry i, j of Q(f), the upper triangular matrix of the central equation f after T
unfoldable pub central_form : Ring → List ℕ → Shape → ℕ → ℕ → ℕ → ℕ
central_form R run s f i j = folded R (pulled R (variables s) (central R.q run s f) (inner_mask R run s)) i j

-- the entry i, j of P(e), the sum over f of S(e, f) Q(f), for the run of a secret key after its head
unfoldable pub public_entry : Ring → List ℕ → Shape → ℕ → ℕ → ℕ → ℕ
public_entry R run s e i j = public_form R (variables s) (equations s) (outer_mask R run s) (central R.q run s) (inner_mask R run s) e i j

-- A run has a byte for its code k.
abbrev pub HasPlace : ℕ → List ℕ → ℕ → Type 0
HasPlace q run k = packed_length q (k + 1) ≤ length run

-- One code of a run changed.
pub record CodePut (q : ℕ) (old new : List ℕ) (k c : ℕ) : Type 0 where
  pub here : code_at q new k ≡ c
  pub other : (j : ℕ) → (j ≢ k) → code_at q new j ≡ code_at q old j

-- The codes of equation f at the first p pairs are those of the matrix A, and every other code is as it was.
pub record FormPut (q n m f p : ℕ) (A : ℕ → ℕ → ℕ) (old new : List ℕ) : Type 0 where
  pub done : (i j : ℕ) → i ≤ j → j < n → pair_at n i j < p → code_at q new (pair_at n i j * m + f) ≡ A i j
  pub kept : (k : ℕ) → ((t : ℕ) → t < p → k ≢ t * m + f) → code_at q new k ≡ code_at q old k

-- The m codes from a place on are multiplied by the m by m matrix A.
pub record RowMixed (R : Ring) (m at : ℕ) (A : ℕ → ℕ → ℕ) (old new : List ℕ) : Type 0 where
  pub done : (e : ℕ) → e < m → code_at R.q new (at + e) ≡ sum R m (λ f. R.mul (A e f) (code_at R.q old (at + f)))
  pub kept : (k : ℕ) → (k < at) ⊎ (at + m ≤ k) → code_at R.q new k ≡ code_at R.q old k

-- The codes of each of the first p pairs, a vector of m, are multiplied by the m by m matrix A.
pub record Mixed (R : Ring) (m p : ℕ) (A : ℕ → ℕ → ℕ) (old new : List ℕ) : Type 0 where
  pub done : (t e : ℕ) → t < p → e < m → code_at R.q new (t * m + e) ≡ sum R m (λ f. R.mul (A e f) (code_at R.q old (t * m + f)))
  pub kept : (k : ℕ) → p * m ≤ k → code_at R.q new k ≡ code_at R.q old k

-- The codes of a public key's run: for each pair i ≤ j and each equation the entry of P, and 0 in the half byte over.
pub record PublicRun (R : Ring) (run : List ℕ) (s : Shape) (public : List ℕ) : Type 0 where
  pub entries : (e i j : ℕ) → e < equations s → i ≤ j → j < variables s → code_at R.q public (pair_at (variables s) i j * equations s + e) ≡ public_entry R run s e i j
  pub over : code_at R.q public (public_codes s) ≡ 0

-- A public key of a secret one: its head, and the run after it.
pub record Published (R : Ring) (key public : List ℕ) : Type 0 where
  pub head : take (head_of key).len public ≡ take (head_of key).len key
  pub run : PublicRun R (drop (head_of key).len key) (shape_of key) (drop (head_of key).len public)

-- the buffers of the making of a public key, in their order
abbrev pub public_buffers : ℕ → List ℕ → List ℕ → List ℕ → List Lent
public_buffers q key public workspace =
    packed_run q Key key (head_of key).len (secret_codes (shape_of key))
    ∷ space PublicKey (length public == key_length (head_of key).len q (public_codes (shape_of key)))
    ∷ space Workspace (nat_le (key_workspace (shape_of key)) (length workspace)) ∷ []

-- the tests that leave the workspace untouched, and all tests
abbrev pub early_tests : ℕ → List ℕ → List ℕ → List ℕ → List (Option Told)
early_tests q key public workspace = head_tests q key ++ map length_test (public_buffers q key public workspace)

abbrev pub public_tests : ℕ → List ℕ → List ℕ → List ℕ → List (Option Told)
public_tests q key public workspace = head_tests q key ++ buffer_tests q (public_buffers q key public workspace)

-- What the making of a public key answers, and what it leaves in the buffer and in the workspace.
pub record PublicMade (R : Ring) (key old work : List ℕ) (r : Result Unit Refusal) (new left : List ℕ) : Type 0 where
  pub answer : Answers (first (public_tests R.q key old work)) r (λ _. Published R key new)
  pub refused : is_err r ≡ true → new ≡ old
  pub untouched : is_some (first (early_tests R.q key old work)) ≡ true → left ≡ work
  pub wiped : is_some (first (early_tests R.q key old work)) ≡ false → left ≡ replicate (length work) 0

-- S after F after T: equation e of S times the central forms at T z, for the key's own masks and central map
abbrev pub composed : Ring → List ℕ → (ℕ → ℕ) → ℕ → ℕ
composed R key z =
    applied R (equations (shape_of key)) (outer_mask R (drop (head_of key).len key) (shape_of key))
    (λ f. form_at R (variables (shape_of key)) (central R.q (drop (head_of key).len key) (shape_of key) f) (applied R (variables (shape_of key)) (inner_mask R (drop (head_of key).len key) (shape_of key)) z))

-- The public key's value at every point is S after F after T.
abbrev pub EveryPoint : Ring → Type 0
EveryPoint R = (key public : List ℕ) → Published R key public → (z : ℕ → ℕ) (e : ℕ) → e < equations (shape_of key) → form_at R (variables (shape_of key)) (coefficient R.q (drop (head_of public).len public) (variables (shape_of key)) (equations (shape_of key)) e) z ≡ composed R key z e

-- The same through bytes: a signature is valid for the public key exactly where S after F after T at its codes is the digest.
abbrev pub ValidMeans : Ring → Type 0
ValidMeans R =
    (key public digest signature : List ℕ) → Published R key public
    → Valid R public digest signature ↔ ((e : ℕ) → e < equations (shape_of key) → composed R key (code_at R.q signature) e ≡ code_at R.q digest e)
