-- What a contract sees of a buffer that a call is lent.
use Rattle.std.specs.Prelude.{ℕ, slice_index}
use Rattle.fields.specs.Packing.{code_at}
use Rattle.keys.specs.declared.lent.Codes.{Codes}
use Rattle.keys.specs.declared.lent.Codes.TheVariants.{Packed, Bytes, Unread}
use Rattle.keys.specs.declared.lent.Lent.{Lent as LentBuffer}
use Rattle.keys.specs.Refusals.{Lent}

abbrev pub count : Codes → ℕ
count (Packed run n) = n
count (Bytes bytes n) = n
count Unread = 0

abbrev pub code : ℕ → Codes → ℕ → ℕ
code q (Packed run n) k = code_at q run.now k
code q (Bytes bytes n) k = slice_index bytes.now k
code q Unread k = 0

abbrev pub seen : ℕ → LentBuffer → Lent
seen q l = record { name = l.name; fits = l.fits; count = count l.codes; code = code q l.codes }
