-- Refusals: what each case says, and the order in which a call's tests are made.
use Rattle.std.specs.Prelude.{◌≡◌, ℕ, ◌+◌, Bool, cond, not, List, [], ◌∷◌, ◌++◌, map, length, drop, Some, None, Ok, Err, Option, Result, ◌==◌, slice_index}
use Rattle.std.specs.Option.{option_map}
use Rattle.fields.specs.Packing.{packed_length, code_at, or_else, first_foreign}
use Rattle.keys.specs.declared.refusals.Buffer.{Buffer}
use Rattle.keys.specs.declared.refusals.Refusal.{Refusal}
use Rattle.keys.specs.declared.refusals.Refusal.TheVariants.{ShortHead, OtherField, OddShape, BadShelf, WrongLength, ForeignCode, WornOut, Full, DullVinegar, NoneWaiting, HandFull, StrangeStart, DullDigest}

-- What a refusal says: its number, the buffer that it names, and its other values.
pub record Told : Type 0 where
  pub number : ℕ
  pub buffer : Option Buffer
  pub values : List ℕ

abbrev pub told : Refusal → Told
told ShortHead = record { number = 1; buffer = None; values = [] }
told OtherField = record { number = 2; buffer = None; values = [] }
told OddShape = record { number = 3; buffer = None; values = [] }
told BadShelf = record { number = 4; buffer = None; values = [] }
told (WrongLength b) = record { number = 5; buffer = Some b; values = [] }
told (ForeignCode b place) = record { number = 6; buffer = Some b; values = place ∷ [] }
told WornOut = record { number = 7; buffer = None; values = [] }
told Full = record { number = 8; buffer = None; values = [] }
told (DullVinegar f) = record { number = 9; buffer = None; values = 1 ∷ f.fault.column ∷ [] }
told NoneWaiting = record { number = 10; buffer = None; values = [] }
told HandFull = record { number = 11; buffer = None; values = [] }
told StrangeStart = record { number = 12; buffer = None; values = [] }
told (DullDigest f) = record { number = 13; buffer = None; values = 2 ∷ f.fault.column ∷ [] }

-- A test gives what is told where its condition holds.
abbrev pub test : Bool → Refusal → Option Told
test b e = cond b (Some (told e)) None

-- The first test that gives something decides.
abbrev pub first : List (Option Told) → Option Told
first [] = None
first (t ∷ ts) = or_else t (first ts)

-- A buffer that a call is lent: its name, whether it has its length, and the codes that are read of it.
pub record Lent : Type 0 where
  pub name : Buffer
  pub fits : Bool
  pub count : ℕ
  pub code : ℕ → ℕ

-- the buffer of exactly n packed codes after a head of h bytes
abbrev pub packed_run : ℕ → Buffer → List ℕ → ℕ → ℕ → Lent
packed_run q b bytes h n = record { name = b; fits = (length bytes == h + packed_length q n); count = n; code = code_at q (drop h bytes) }

-- the buffer of exactly n codes, one a byte
abbrev pub byte_run : Buffer → List ℕ → ℕ → Lent
byte_run b bytes n = record { name = b; fits = (length bytes == n); count = n; code = λ k. slice_index bytes k }

-- a buffer that is written or worked in: only its length is tested
abbrev pub space : Buffer → Bool → Lent
space b fits = record { name = b; fits = fits; count = 0; code = λ _. 0 }

abbrev pub length_test : Lent → Option Told
length_test l = test (not l.fits) (WrongLength l.name)

abbrev pub codes_test : ℕ → Lent → Option Told
codes_test q l = option_map (λ place. told (ForeignCode l.name place)) (first_foreign q l.code l.count)

-- The lengths of all buffers are tested, and then the codes of all.
abbrev pub buffer_tests : ℕ → List Lent → List (Option Told)
buffer_tests q ls = map length_test ls ++ map (codes_test q) ls

-- An answer after tests: a refusal tells what they give; any other answer comes where they give nothing, and keeps P.
abbrev pub Answers : {A : Type 0} → Option Told → Result A Refusal → (A → Type 0) → Type 0
Answers t (Ok a) P = (t ≡ None) × P a
Answers t (Err e) P = t ≡ Some (told e)
