-- Codes in bytes: a ring of more than 16 codes has one code a byte, any other two, the first in the low four bits.
use Rattle.std.specs.Prelude.{◌≡◌, ℕ, zero, suc, ◌+◌, ◌*◌, ◌/◌, ◌%◌, ◌<◌, cond, List, [], ◌∷◌, map, length, Some, None, Ok, Err, Option, Result, ◌==◌, nat_lt, slice_index, slice_set}
use Rattle.std.specs.List.{range_with_len, AllByRecursion}
use Rattle.fields.specs.declared.packing.Misfit.{Misfit}

-- how many bytes a run of n codes takes
unfoldable pub packed_length : ℕ → ℕ → ℕ
packed_length q n = cond (nat_lt 16 q) n ((n + 1) / 2)

-- the low or the high four bits of b, as k is even or odd
abbrev pub half : ℕ → ℕ → ℕ
half k b = cond (k % 2 == 0) (b % 16) (b / 16)

-- the code at place k of a run, from 0; 0 past the run's end
unfoldable pub code_at : ℕ → List ℕ → ℕ → ℕ
code_at q run k = cond (nat_lt 16 q) (slice_index run k) (half k (slice_index run (k / 2)))

-- the byte that has the code at place k
unfoldable pub byte_at : ℕ → ℕ → ℕ
byte_at q k = cond (nat_lt 16 q) k (k / 2)

-- b with c modulo 16 as its low or its high four bits, as k is even or odd
abbrev pub with_half : ℕ → ℕ → ℕ → ℕ
with_half k c b = cond (k % 2 == 0) (b / 16 * 16 + c % 16) (b % 16 + 16 * (c % 16))

-- a run with the code c at place k; the run itself past its end
unfoldable pub put_code : ℕ → List ℕ → ℕ → ℕ → List ℕ
put_code q run k c = slice_set run (byte_at q k) (cond (nat_lt 16 q) c (with_half k c (slice_index run (byte_at q k))))

-- the n codes of a run from place k on
unfoldable pub codes_from : ℕ → List ℕ → ℕ → ℕ → List ℕ
codes_from q run k n = map (λ i. code_at q run (k + i)) (range_with_len 0 n)

-- two codes a byte; the half byte over is 0
abbrev pub in_pairs : List ℕ → List ℕ
in_pairs [] = []
in_pairs (a ∷ []) = a % 16 ∷ []
in_pairs (a ∷ b ∷ cs) = (a % 16 + 16 * (b % 16)) ∷ in_pairs cs

-- a run's bytes
unfoldable pub packed : ℕ → List ℕ → List ℕ
packed q cs = cond (nat_lt 16 q) cs (in_pairs cs)

-- the first of two that is there
abbrev pub or_else : {A : Type 0} → Option A → Option A → Option A
or_else None y = y
or_else (Some x) y = Some x

-- The place, counted from 1, of the first of f 0, .., f (n - 1) that is no code.
unfoldable pub first_foreign : ℕ → (ℕ → ℕ) → ℕ → Option ℕ
first_foreign q f zero = None
first_foreign q f (suc n) = or_else (first_foreign q f n) (cond (nat_lt (f n) q) None (Some (suc n)))

-- What is written is read back, and has its length.
pub record ReadBack (q : ℕ) (cs : List ℕ) : Type 0 where
  pub codes : codes_from q (packed q cs) 0 (length cs) ≡ cs
  pub bytes : length (packed q cs) ≡ packed_length q (length cs)

abbrev pub RunsReadBack : ℕ → Type 0
RunsReadBack q = (cs : List ℕ) → AllByRecursion (λ c. c < q) cs → ReadBack q cs

-- Whether the codes were written as a packed run: they are where the run has its length, else it is as it was.
abbrev pub CodesWritten : ℕ → List ℕ → List ℕ → Result Unit Misfit → List ℕ → Type 0
CodesWritten q codes run (Ok _) run' = (length run ≡ packed_length q (length codes)) × (run' ≡ packed q codes)
CodesWritten q codes run (Err _) run' = (length run ≡ packed_length q (length codes) → ⊥) × (run' ≡ run)
