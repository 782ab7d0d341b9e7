-- Rows of a width, written a column at a time. Assumes nothing.
use Rattle.std.proofs.Common.{◌≡◌, ℕ, ◌+◌, ◌*◌, ◌<◌, ◌≤◌, ◌≢◌, List, length, get_or, set, sym, ap, ◌∙◌, arith, get_or-set_other, get_or-set_same}
use native.Mathlib.Decide.{ℕ_discrete}
use Rattle.matrices.specs.Arrays.{entry}
use Rattle.maps.proofs.Publishing.{place_same, place_other}
use Rattle.signing.specs.Layers.{ColumnPut}

-- places in different rows, or in different columns, differ
apart : (w r c k j : ℕ) → c < w → j < w → (k ≡ r → j ≡ c → ⊥) → k * w + j ≢ r * w + c
apart w r c k j lc lj h e = let q : j ≡ c = place_other k r w j c lj lc e in h (place_same k r w c lc (omega arith)) q

pub column_more : (w c r : ℕ) (v : ℕ → ℕ) (old rows : List ℕ) (y : ℕ) → c < w → r * w + c < length rows → y ≡ v r → ColumnPut w c r v old rows → ColumnPut w c (r + 1) v old (set rows (r * w + c) y)
column_more w c r v old rows y lc lr e P = record {
  here = λ k l.
      elim (ℕ_discrete k r) [
        | yes q ↦ ap (λ t. get_or (set rows (r * w + c) y) (t * w + c) 0) q ∙ get_or-set_same rows (r * w + c) y 0 lr ∙ e ∙ ap v (sym q)
        | no q ↦ let ne : k ≢ r = q in get_or-set_other rows (r * w + c) (k * w + c) y 0 (apart w r c k c lc lc (λ p s. q p)) ∙ P.here k (omega arith)
      ];
  other = λ k j l h. get_or-set_other rows (r * w + c) (k * w + j) y 0 (apart w r c k j lc l (λ p s. h s)) ∙ P.other k j l h;
}

-- one column more of a matrix A, of n rows
pub system_more : (w n t c : ℕ) (A : ℕ → ℕ → ℕ) (v : ℕ → ℕ) (old rows new : List ℕ) → n ≡ t → c < w → ((r : ℕ) → r < n → v r ≡ A r c) → ColumnPut w c t v rows new → ((r k : ℕ) → r < n → k < c → entry rows w r k ≡ A r k) → ((r k : ℕ) → c ≤ k → k < w → entry rows w r k ≡ entry old w r k) → ((r k : ℕ) → r < n → k < c + 1 → entry new w r k ≡ A r k) × ((r k : ℕ) → c + 1 ≤ k → k < w → entry new w r k ≡ entry old w r k)
system_more w n t c A v old rows new e lc h P was rest = (
  λ r k l g. elim (ℕ_discrete k c) [
    | yes q ↦ ap (entry new w r) q ∙ P.here r (omega arith) ∙ h r l ∙ ap (A r) (sym q)
    | no q ↦ let ne : k ≢ c = q in P.other r k (omega arith) q ∙ was r k l (omega arith)
  ],
  λ r k l g. P.other r k g (λ q. omega arith) ∙ rest r k (omega arith) g,
)
