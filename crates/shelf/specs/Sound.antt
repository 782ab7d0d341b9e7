-- What every state of a shelf keeps.
use Rattle.std.specs.Prelude.{ℕ, Some, None, Option}

-- how many starts are in hand
abbrev pub handed : Option ℕ → ℕ
handed None = 0
handed (Some k) = 1
