-- What each call of a shelf answers, and leaves in the shelf, the strip and the lent buffers.
use Rattle.std.specs.Prelude.{◌≡◌, ℕ, ◌+◌, ◌-◌, ◌*◌, ◌%◌, ◌<◌, ◌≤◌, Bool, true, false, not, ◌&&◌, ◌⊎◌, List, [], ◌∷◌, ◌++◌, map, length, replicate, is_some, Some, None, Ok, Err, Option, Result, ◌==◌, nat_le}
use borrow.Rule.Slice.PartMut.{put_mid}
use Rattle.std.specs.List.{between}
use Rattle.algebra.specs.Rings.{Ring}
use Rattle.algebra.specs.Systems.{FirstDependent}
use Rattle.fields.specs.Packing.{packed_length, code_at}
use Rattle.keys.specs.declared.shapes.Shape.{Shape}
use Rattle.keys.specs.declared.refusals.Buffer.TheVariants.{Key, Strip, Digest, Vinegar, Signature, Workspace}
use Rattle.keys.specs.declared.refusals.Refusal.{Refusal}
use Rattle.keys.specs.declared.refusals.Refusal.TheVariants.{BadShelf, WornOut, Full, NoneWaiting, HandFull, StrangeStart}
use Rattle.keys.specs.Shapes.{variables, equations, secret_codes, place_length, sign_workspace, up_to}
use Rattle.keys.specs.Refusals.{Told, told, test, first, Lent, packed_run, byte_run, space, length_test, buffer_tests}
use Rattle.keys.specs.Heads.{shape_of, head_of, head_tests}
use Rattle.signing.specs.Layers.{system_entry}
use Rattle.signing.specs.Starts.{Holds, Finished, half_point, packed_vector}
use Rattle.signing.specs.Signatures.{run_of}
use Rattle.shelf.specs.declared.state.Inner.{Inner}
use Rattle.shelf.specs.declared.state.Start.{Start}
use Rattle.shelf.specs.declared.state.HandedBack.{HandedBack}
use Rattle.shelf.specs.Sound.{handed}

-- a shelf with so many places and such a life, nothing prepared
abbrev pub fresh : ℕ → ℕ → Inner
fresh places life = record { places = places; life = life; prepared = 0; taken = 0; signed = 0; thrown = 0; hand = None }

abbrev pub with_prepared : Inner → Inner
with_prepared i = record { places = i.places; life = i.life; prepared = i.prepared + 1; taken = i.taken; signed = i.signed; thrown = i.thrown; hand = i.hand }

abbrev pub with_taken : Inner → Inner
with_taken i = record { places = i.places; life = i.life; prepared = i.prepared; taken = i.taken + 1; signed = i.signed; thrown = i.thrown; hand = Some (i.taken + 1) }

abbrev pub with_signed : Inner → Inner
with_signed i = record { places = i.places; life = i.life; prepared = i.prepared; taken = i.taken; signed = i.signed + 1; thrown = i.thrown; hand = None }

abbrev pub with_thrown : Inner → Inner
with_thrown i = record { places = i.places; life = i.life; prepared = i.prepared; taken = i.taken; signed = i.signed; thrown = i.thrown + 1; hand = None }

-- the starts that are prepared and not taken
abbrev pub waiting : Inner → ℕ
waiting i = i.prepared - i.taken

-- The start given is the one in hand.
abbrev pub is_number : Option ℕ → ℕ → Bool
is_number None k = false
is_number (Some j) k = j == k

-- Start k belongs to place (k - 1) modulo places, counted from 0: where it begins in the strip, what it holds there, and the strip with it changed.
abbrev pub place_start : Inner → Shape → ℕ → ℕ
place_start i s k = (k - 1) % i.places * place_length s

abbrev pub place_at : Inner → Shape → ℕ → List ℕ → List ℕ
place_at i s k strip = between (place_start i s k) (place_start i s k + place_length s) strip

abbrev pub with_place : Inner → Shape → ℕ → List ℕ → List ℕ → List ℕ
with_place i s k strip place = put_mid (place_start i s k) (place_length s) strip place

-- the buffers of each call, in their order; those that are read first
abbrev pub key_buffer : ℕ → List ℕ → Lent
key_buffer q key = packed_run q Key key (head_of key).len (secret_codes (shape_of key))

abbrev pub strip_buffer : Inner → List ℕ → List ℕ → Lent
strip_buffer i key strip = byte_run Strip strip (i.places * place_length (shape_of key))

abbrev pub work_buffer : List ℕ → List ℕ → Lent
work_buffer key work = space Workspace (nat_le (sign_workspace (shape_of key)) (length work))

abbrev pub make_buffers : ℕ → List ℕ → List ℕ → ℕ → List Lent
make_buffers q key strip places = key_buffer q key ∷ space Strip (length strip == places * place_length (shape_of key)) ∷ []

abbrev pub prepare_read : ℕ → Inner → List ℕ → List ℕ → List ℕ → List Lent
prepare_read q i key strip vinegar = key_buffer q key ∷ strip_buffer i key strip ∷ packed_run q Vinegar vinegar 0 (shape_of key).v1 ∷ []

abbrev pub prepare_buffers : ℕ → Inner → List ℕ → List ℕ → List ℕ → List ℕ → List Lent
prepare_buffers q i key strip vinegar work = prepare_read q i key strip vinegar ++ (work_buffer key work ∷ [])

abbrev pub sign_read : ℕ → Inner → List ℕ → List ℕ → List ℕ → List Lent
sign_read q i key strip digest = key_buffer q key ∷ strip_buffer i key strip ∷ packed_run q Digest digest 0 (equations (shape_of key)) ∷ []

abbrev pub sign_buffers : ℕ → Inner → List ℕ → List ℕ → List ℕ → List ℕ → List ℕ → List Lent
sign_buffers q i key strip digest signature work =
    sign_read q i key strip digest ++ (space Signature (length signature == packed_length q (variables (shape_of key))) ∷ work_buffer key work ∷ [])

abbrev pub throw_buffers : ℕ → Inner → List ℕ → List ℕ → List Lent
throw_buffers q i key strip = key_buffer q key ∷ strip_buffer i key strip ∷ []

-- the tests of heads and lengths, by which a workspace stays untouched
abbrev pub early_tests : ℕ → List ℕ → List Lent → List (Option Told)
early_tests q key ls = head_tests q key ++ map length_test ls

-- the tests of heads, lengths and codes, and then those of the shelf
abbrev pub all_tests : ℕ → List ℕ → List Lent → List (Option Told) → List (Option Told)
all_tests q key ls ts = head_tests q key ++ (buffer_tests q ls ++ ts)

-- the tests of `prepare` and of `sign` by which the workspace stays untouched
abbrev pub prepare_early : ℕ → Inner → List ℕ → List ℕ → List ℕ → List ℕ → List (Option Told)
prepare_early q i key strip vinegar work = early_tests q key (prepare_buffers q i key strip vinegar work)

abbrev pub sign_early : ℕ → Inner → List ℕ → List ℕ → List ℕ → List ℕ → List ℕ → List (Option Told)
sign_early q i key strip digest signature work = early_tests q key (sign_buffers q i key strip digest signature work)

-- the tests of a secret key and a strip, and then others
abbrev pub throw_tests : ℕ → Inner → List ℕ → List ℕ → List (Option Told) → List (Option Told)
throw_tests q i key strip ts = all_tests q key (throw_buffers q i key strip) ts

-- the test of places and life, and what it says where it passes
abbrev pub limit_test : ℕ → ℕ → Option Told
limit_test places life = test (not (up_to 16 places && up_to 4294967295 life)) BadShelf

pub record Limits (places life : ℕ) : Type 0 where
  pub places_some : 0 < places
  pub places_most : places ≤ 16
  pub life_some : 0 < life
  pub life_most : life ≤ 4294967295

abbrev pub make_tests : ℕ → List ℕ → List ℕ → ℕ → ℕ → List (Option Told)
make_tests q key strip places life = head_tests q key ++ (limit_test places life ∷ buffer_tests q (make_buffers q key strip places))

abbrev pub prepare_tests : Inner → List (Option Told)
prepare_tests i = test (nat_le i.life i.prepared) WornOut ∷ test (nat_le i.places (waiting i + handed i.hand)) Full ∷ []

-- what they say where they pass
pub record Room (i : Inner) : Type 0 where
  pub life : i.prepared < i.life
  pub place : waiting i + handed i.hand < i.places

abbrev pub take_tests : Inner → List (Option Told)
take_tests i = test (waiting i == 0) NoneWaiting ∷ test (is_some i.hand) HandFull ∷ []

abbrev pub end_tests : Inner → ℕ → List (Option Told)
end_tests i k = test (not (is_number i.hand k)) StrangeStart ∷ []

-- A refusal tells what the tests give, or, where they give nothing, what Q says of a linear system.
abbrev pub Refusing : Option Told → Told → (Told → Type 0) → Type 0
Refusing t x Q = (t ≡ Some x) ⊎ ((t ≡ None) × Q x)

-- what is told of a fault in a layer's system: the refusal's number, the layer, the smallest column that depends on those before it
pub record Faulty (R : Ring) (run : List ℕ) (s : Shape) (number layer order : ℕ) (x : ℕ → ℕ) (t : Told) : Type 0 where
  pub column : ℕ
  pub dependent : FirstDependent R order (system_entry R run s layer x) column
  pub says : t ≡ record { number = number; buffer = None; values = layer ∷ column ∷ [] }

-- What a workspace holds afterwards: what it held where a head or a length is refused, else zeros only.
pub record Left (early : List (Option Told)) (old new : List ℕ) : Type 0 where
  pub untouched : is_some (first early) ≡ true → new ≡ old
  pub wiped : is_some (first early) ≡ false → new ≡ replicate (length old) 0

-- Making: the shelf is fresh and the strip all zeros, or both are as they were.
abbrev pub Made : Ring → List ℕ → ℕ → ℕ → Inner → List ℕ → Result Unit Refusal → Inner → List ℕ → Type 0
Made R key places life i strip (Ok _) j strip' = (first (make_tests R.q key strip places life) ≡ None) × ((j ≡ fresh places life) × (strip' ≡ replicate (length strip) 0))
Made R key places life i strip (Err e) j strip' = (first (make_tests R.q key strip places life) ≡ Some (told e)) × ((j ≡ i) × (strip' ≡ strip))

-- Prepare: the next number is answered, and its place holds the start of the vinegar; or shelf and strip are as they were.
pub record Filled (R : Ring) (key vinegar : List ℕ) (i : Inner) (strip : List ℕ) (k : ℕ) (j : Inner) (strip' : List ℕ) : Type 0 where
  pub number : k ≡ i.prepared + 1
  pub shelf : j ≡ with_prepared i
  pub place : List ℕ
  pub long : length place ≡ place_length (shape_of key)
  pub holds : Holds R (run_of key) (shape_of key) (code_at R.q vinegar) place
  pub strip_is : strip' ≡ with_place i (shape_of key) k strip place

abbrev pub Prepared : Ring → List ℕ → List ℕ → Inner → List ℕ → List ℕ → Result ℕ Refusal → Inner → List ℕ → Type 0
Prepared R key vinegar i strip work (Ok k) j strip' = (first (all_tests R.q key (prepare_buffers R.q i key strip vinegar work) (prepare_tests i)) ≡ None) × Filled R key vinegar i strip k j strip'
Prepared R key vinegar i strip work (Err e) j strip' =
    Refusing (first (all_tests R.q key (prepare_buffers R.q i key strip vinegar work) (prepare_tests i))) (told e) (Faulty R (run_of key) (shape_of key) 9 1 (shape_of key).o1 (code_at R.q vinegar)) × ((j ≡ i) × (strip' ≡ strip))

-- Take: the oldest waiting start is handed out, or the shelf is as it was.
abbrev pub Taken : Inner → Result Start Refusal → Inner → Type 0
Taken i (Ok start) j = (first (take_tests i) ≡ None) × ((start.number ≡ i.taken + 1) × (j ≡ with_taken i))
Taken i (Err e) j = (first (take_tests i) ≡ Some (told e)) × (j ≡ i)

-- Sign: the signature is the packed z that the place's codes and the digest determine, and the place is cleared.
pub record Sealed (R : Ring) (key digest : List ℕ) (i : Inner) (strip : List ℕ) (k : ℕ) (j : Inner) (strip' signature : List ℕ) : Type 0 where
  pub shelf : j ≡ with_signed i
  pub point : ℕ → ℕ
  pub finished : Finished R (run_of key) (shape_of key) (place_at i (shape_of key) k strip) (code_at R.q digest) point
  pub written : signature ≡ packed_vector R.q (variables (shape_of key)) point
  pub strip_is : strip' ≡ with_place i (shape_of key) k strip (replicate (place_length (shape_of key)) 0)

-- What signing with a start of number k answers and leaves.
abbrev pub SignTried : Ring → List ℕ → List ℕ → ℕ → Inner → List ℕ → List ℕ → List ℕ → Result Unit Refusal → Inner → List ℕ → List ℕ → Type 0
SignTried R key digest k i strip signature work (Ok _) j strip' signature' =
    (first (all_tests R.q key (sign_buffers R.q i key strip digest signature work) (end_tests i k)) ≡ None) × Sealed R key digest i strip k j strip' signature'
SignTried R key digest k i strip signature work (Err e) j strip' signature' =
    Refusing (first (all_tests R.q key (sign_buffers R.q i key strip digest signature work) (end_tests i k))) (told e)
    (Faulty R (run_of key) (shape_of key) 13 2 (shape_of key).o2 (half_point R (run_of key) (shape_of key) (place_at i (shape_of key) k strip) (code_at R.q digest)))
    × ((j ≡ i) × ((strip' ≡ strip) × (signature' ≡ signature)))

-- What a call with a start answers keeps P, and after a refusal that very start is handed back.
abbrev pub HandsBack : Start → Result Unit HandedBack → (Result Unit Refusal → Type 0) → Type 0
HandsBack start (Ok u) P = P (Ok u)
HandsBack start (Err e) P = (e.start ≡ start) × P (Err e.refusal)

abbrev pub Signed : Ring → List ℕ → List ℕ → Start → Inner → List ℕ → List ℕ → List ℕ → Result Unit HandedBack → Inner → List ℕ → List ℕ → Type 0
Signed R key digest start i strip signature work r j strip' signature' = HandsBack start r (λ a. SignTried R key digest start.number i strip signature work a j strip' signature')

-- Throw away: the place is cleared, or shelf and strip are as they were.
abbrev pub ThrowTried : Ring → List ℕ → ℕ → Inner → List ℕ → Result Unit Refusal → Inner → List ℕ → Type 0
ThrowTried R key k i strip (Ok _) j strip' =
    (first (all_tests R.q key (throw_buffers R.q i key strip) (end_tests i k)) ≡ None) × ((j ≡ with_thrown i) × (strip' ≡ with_place i (shape_of key) k strip (replicate (place_length (shape_of key)) 0)))
ThrowTried R key k i strip (Err e) j strip' = (first (all_tests R.q key (throw_buffers R.q i key strip) (end_tests i k)) ≡ Some (told e)) × ((j ≡ i) × (strip' ≡ strip))

abbrev pub ThrownAway : Ring → List ℕ → Start → Inner → List ℕ → Result Unit HandedBack → Inner → List ℕ → Type 0
ThrownAway R key start i strip r j strip' = HandsBack start r (λ a. ThrowTried R key start.number i strip a j strip')
