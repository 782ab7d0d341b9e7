use Rattle.std.proofs.Common.{◌≡◌, ℕ, ◌+◌, ◌<◌, ◌≤◌, ◌⊎◌, get_or}
use Rattle.fields.specs.Packing.{code_at}
use Rattle.maps.proofs.forms_put.put_row.Given as goal

abbrev pub invariant-loop-e : goal.invariant-loop-e
invariant-loop-e g l =
    ((k : ℕ) → k < l.e → code_at (g.R.Ring.ring l.ring).q l.public (l.at + k) ≡ get_or l.codes k 0)
    × ((k : ℕ) → (k < l.at) ⊎ (l.at + l.e ≤ k) → code_at (g.R.Ring.ring l.ring).q l.public k ≡ code_at (g.R.Ring.ring l.ring).q l.initial.public k)
