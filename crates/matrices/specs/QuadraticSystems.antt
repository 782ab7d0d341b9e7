-- Systems of m quadratic forms in n variables, as a packed run of codes: for each pair i ≤ j, by i, then j, the m coefficients of x(i) x(j).
use Rattle.std.specs.Prelude.{◌≡◌, ℕ, zero, suc, ◌+◌, ◌-◌, ◌*◌, ◌≤◌, Ok, Err, Result, cond, List, map, length, nat_le, slice_index}
use Rattle.std.specs.List.{range_with_len}
use Rattle.algebra.specs.Rings.{Ring}
use Rattle.algebra.specs.Sums.{sum}
use Rattle.algebra.specs.Forms.{form_at}
use Rattle.fields.specs.Packing.{code_at}
use Rattle.fields.specs.declared.packing.Misfit.{Misfit}

-- how many pairs i ≤ j < n have i < k
unfoldable pub pairs_before : ℕ → ℕ → ℕ
pairs_before n zero = 0
pairs_before n (suc k) = pairs_before n k + (n - k)

-- how many pairs i ≤ j < n there are
abbrev pub pairs : ℕ → ℕ
pairs n = pairs_before n n

-- the place of the pair i ≤ j among them, from 0
unfoldable pub pair_at : ℕ → ℕ → ℕ → ℕ
pair_at n i j = pairs_before n i + (j - i)

-- the coefficient of x(i) x(j) in form e
unfoldable pub coefficient : ℕ → List ℕ → ℕ → ℕ → ℕ → ℕ → ℕ → ℕ
coefficient q run n m e i j = cond (nat_le i j) (code_at q run (pair_at n i j * m + e)) 0

-- the value of form e at x
abbrev pub form_value : Ring → List ℕ → List ℕ → ℕ → ℕ → ℕ
form_value R run x m e = form_at R (length x) (coefficient R.q run (length x) m e) (λ i. slice_index x i)

-- the term of form e in x(i) x(j), and the sum of those with the same i
unfoldable pub term_of : Ring → List ℕ → List ℕ → ℕ → ℕ → ℕ → ℕ → ℕ
term_of R run x m e i j = R.mul (coefficient R.q run (length x) m e i j) (R.mul (slice_index x i) (slice_index x j))

unfoldable pub terms_of : Ring → List ℕ → List ℕ → ℕ → ℕ → ℕ → ℕ
terms_of R run x m e i = sum R (length x) (term_of R run x m e i)

-- at most 1024 variables and at most 1024 forms
pub record Few (n m : ℕ) : Type 0 where
  pub variables : n ≤ 1024
  pub forms : m ≤ 1024

-- The value of each form at x, in new, which was old; Err exactly where there are too many variables or forms.
abbrev pub Evaluated : Ring → List ℕ → List ℕ → List ℕ → Result Unit Misfit → List ℕ → Type 0
Evaluated R run x old (Ok _) new = Few (length x) (length old) × (new ≡ map (form_value R run x (length old)) (range_with_len 0 (length old)))
Evaluated R run x old (Err _) new = (Few (length x) (length old) → ⊥) × (new ≡ old)
