-- What the calls of a bench leave of its buffers.
use Rattle.std.specs.Prelude.{◌≡◌, length}
use Rattle.night.specs.declared.benches.Bench.{Bench}

-- The key is as it was, and the other buffers have the lengths that they had.
pub record SameKey {F : Type 0} (old new : Bench F) : Type 0 where
  pub key : new.key ≡ old.key
  pub strip : length new.strip.items ≡ length old.strip.items
  pub signature : length new.signature.items ≡ length old.signature.items
  pub workspace : length new.workspace.items ≡ length old.workspace.items

-- Only the shelf and the strip may be others, and the strip has the length that it had.
pub record OnlyStrip {F : Type 0} (old new : Bench F) : Type 0 where
  pub key : new.key ≡ old.key
  pub strip : length new.strip.items ≡ length old.strip.items
  pub signature : new.signature ≡ old.signature
  pub workspace : new.workspace ≡ old.workspace
