-- Places of a strip. Assumes nothing.
use Rattle.std.proofs.Common.{◌≡◌, ℕ, ◌+◌, ◌-◌, ◌*◌, ◌%◌, ◌<◌, ◌≤◌, mod-lt, arith}
use Rattle.matrices.proofs.RowWrites.{row_below}

-- a place lies within a strip of so many places
pub place_inside : (places k len n : ℕ) → 0 < places → n ≡ places * len → (k - 1) % places * len + len ≤ n
place_inside places k len n h e = let b = row_below ((k - 1) % places) places len (mod-lt (k - 1) h) in omega arith
