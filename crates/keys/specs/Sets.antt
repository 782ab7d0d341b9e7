-- The built-in sets, found by their names.
use Rattle.std.specs.Prelude.{◌≡◌, ℕ, List, Some, None, codes, Option, ◌≢◌}
use Rattle.keys.specs.declared.sets.Set.{Set}

abbrev pub set_of : ℕ → ℕ → ℕ → ℕ → Set
set_of q v1 o1 o2 = record { q = q; shape = record { v1 = v1; o1 = o1; o2 = o2 } }

pub record Named (name : List ℕ) (r : Option Set) : Type 0 where
  pub ia : name ≡ codes "Ia" → r ≡ Some (set_of 16 32 32 32)
  pub iiic : name ≡ codes "IIIc" → r ≡ Some (set_of 256 68 36 36)
  pub vc : name ≡ codes "Vc" → r ≡ Some (set_of 256 92 48 48)
  pub k31 : name ≡ codes "K31" → r ≡ Some (set_of 31 1 1 1)
  pub other : (name ≢ codes "Ia") → (name ≢ codes "IIIc") → (name ≢ codes "Vc") → (name ≢ codes "K31") → r ≡ None
