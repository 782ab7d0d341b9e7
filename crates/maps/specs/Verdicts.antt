-- The verdict on a signature.
use Rattle.std.specs.Prelude.{◌≡◌, ℕ, ◌<◌, Bool, List, [], ◌∷◌, ◌++◌, drop, Decides, Option, Result}
use Rattle.algebra.specs.Rings.{Ring}
use Rattle.algebra.specs.Forms.{form_at}
use Rattle.fields.specs.Packing.{code_at}
use Rattle.matrices.specs.QuadraticSystems.{coefficient}
use Rattle.keys.specs.declared.refusals.Buffer.TheVariants.{Key, Digest, Signature}
use Rattle.keys.specs.declared.refusals.Refusal.{Refusal}
use Rattle.keys.specs.Shapes.{variables, equations, public_codes}
use Rattle.keys.specs.Refusals.{Told, Lent, first, packed_run, buffer_tests, Answers}
use Rattle.keys.specs.Heads.{shape_of, head_of, head_tests}

-- The m forms in n variables whose coefficients are a packed run have, at the codes of z, the codes of d as values.
abbrev pub Satisfies : Ring → List ℕ → ℕ → ℕ → List ℕ → List ℕ → Type 0
Satisfies R run n m d z = (e : ℕ) → e < m → form_at R n (coefficient R.q run n m e) (code_at R.q z) ≡ code_at R.q d e

-- Every equation of the key, at the signature, equals the digest's code.
abbrev pub Valid : Ring → List ℕ → List ℕ → List ℕ → Type 0
Valid R key digest signature = Satisfies R (drop (head_of key).len key) (variables (shape_of key)) (equations (shape_of key)) digest signature

-- the buffers of verify, in their order
abbrev pub verify_buffers : ℕ → List ℕ → List ℕ → List ℕ → List Lent
verify_buffers q key digest signature =
    packed_run q Key key (head_of key).len (public_codes (shape_of key)) ∷ packed_run q Digest digest 0 (equations (shape_of key)) ∷ packed_run q Signature signature 0 (variables (shape_of key)) ∷ []

abbrev pub verify_tests : ℕ → List ℕ → List ℕ → List ℕ → List (Option Told)
verify_tests q key digest signature = head_tests q key ++ buffer_tests q (verify_buffers q key digest signature)

-- What verify answers: the first refusal in order, or yes exactly where the signature is valid.
abbrev pub Verdict : Ring → List ℕ → List ℕ → List ℕ → Result Bool Refusal → Type 0
Verdict R key digest signature r = Answers (first (verify_tests R.q key digest signature)) r (λ yes. Decides yes (Valid R key digest signature))
