-- A row of codes multiplied by a matrix. Assumes nothing.
use Rattle.std.proofs.Common.{◌≡◌, ℕ, ◌+◌, ◌*◌, ◌<◌, Result, ◌-◌, ◌≤◌, List, length, get_or, take, replicate, ap, ◌∙◌, inl, inr, arith}
use Rattle.std.proofs.lemmas.Bool.{cases_lt}
use Rattle.std.proofs.lemmas.List.{get_or_past, length-take-le, length-replicate}
use Rattle.algebra.specs.Rings.{Ring, RingLaws}
use Rattle.algebra.specs.Sums.{sum}
use Rattle.algebra.proofs.Codes.{sum_code, nil_code}
use Rattle.algebra.proofs.SumLaws.{sum_ext}
use Rattle.fields.specs.declared.packing.Misfit.{Misfit}
use Rattle.fields.specs.Packing.{code_at, codes_from}
use Rattle.matrices.specs.Arrays.{entry}
use Rattle.matrices.specs.MatrixProducts.{Applied}
use Rattle.matrices.proofs.RowSums.{applied_there}
use Rattle.fields.proofs.Runs.{length_from, get_or_from}

-- the first places of the zeros
pub zeros_part : (z : List ℕ) (m : ℕ) → z ≡ replicate 1024 0 → m ≤ 1024 → length (take (m - 0) z) ≡ m
zeros_part z m e h = length-take-le (m - 0) z (omega (arith, ap length e, length-replicate {A = ℕ} 1024 0)) ∙ omega arith

-- the row x that was read, its product z with the mask, and zeros to begin with
module _ (R : Ring) (L : RingLaws R) (mask run : List ℕ) (m at : ℕ) (fits : length mask ≡ m * m) (few : m ≤ 1024) (zx zy x z : List ℕ) (r : Result Unit Misfit) (ex : zx ≡ replicate 1024 0) (ey : zy ≡ replicate 1024 0) (read : x ≡ codes_from R.q run at (length (take (m - 0) zx))) (A : Applied R mask x (take (m - 0) zy) r z) where
  is_read : x ≡ codes_from R.q run at m
  is_read = rw (zeros_part zx m ex few) at read

  -- the product, place by place
  pub mixed_there : (e : ℕ) → e < m → get_or z e 0 ≡ sum R m (λ f. R.mul (entry mask m e f) (code_at R.q run (at + f)))
  mixed_there e h =
      applied_there R mask x (take (m - 0) zy) z m m r fits (ap length is_read ∙ length_from R.q run at m) (zeros_part zy m ey few) A e h
      ∙ sum_ext R m _ _ (λ f b. ap (R.mul (entry mask m e f)) (ap (λ (w : List ℕ). get_or w f 0) is_read ∙ get_or_from R.q run at m f b))

  pub mixed_small : length z ≡ length (take (m - 0) zy) → (k : ℕ) → get_or z k 0 < R.q
  mixed_small lz k =
      elim (cases_lt k m) [
        | inl h ↦
            let e = mixed_there k h in
            let b = sum_code R L m (λ f. R.mul (entry mask m k f) (code_at R.q run (at + f))) in
            omega arith
        | inr h ↦ let e = get_or_past z k 0 (omega (arith, zeros_part zy m ey few)) in let b = nil_code R L in omega arith
      ]
