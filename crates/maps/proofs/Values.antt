-- The values that evaluation leaves, compared with a digest. Assumes nothing.
use Rattle.std.proofs.Common.{◌≡◌, ℕ, ◌<◌, Bool, Ok, Err, Result, List, map, length, get_or, Decides, sym, refl, ap, ◌∙◌, zero-add, arith}
use Rattle.std.specs.List.{range_with_len}
use Rattle.std.proofs.lemmas.List.FromFn.{length-map-range_with_len, get_or-map-range_with_len}
use Rattle.std.proofs.lemmas.Bool.Decides.{Decides-like}
use Rattle.algebra.specs.Rings.{Ring}
use Rattle.algebra.specs.Forms.{form_at}
use Rattle.algebra.proofs.SumLaws.{form_ext}
use Rattle.fields.specs.declared.packing.Misfit.{Misfit}
use Rattle.fields.specs.Packing.{code_at, codes_from}
use Rattle.fields.proofs.Runs.{length_from, get_or_read}
use Rattle.matrices.specs.QuadraticSystems.{coefficient, form_value, Few, Evaluated}
use Rattle.maps.specs.Verdicts.{Satisfies}

-- values and variables that are few enough
pub evaluated : (R : Ring) (run x old new : List ℕ) (r : Result Unit Misfit) → Few (length x) (length old) → Evaluated R run x old r new → new ≡ map (form_value R run x (length old)) (range_with_len 0 (length old))
evaluated R run x old new (Ok _) few v = v.1
evaluated R run x old new (Err _) few v = absurd (v.0 few)

module _ (R : Ring) (run digest signature : List ℕ) (n m : ℕ) where
  -- the value of form e at the codes that were read
  at_codes : (e : ℕ) → form_value R run (codes_from R.q signature 0 n) m e ≡ form_at R n (coefficient R.q run n m e) (code_at R.q signature)
  at_codes e =
      ap (λ (k : ℕ). form_at R k (coefficient R.q run k m e) (λ i. get_or (codes_from R.q signature 0 n) i 0)) (length_from R.q signature 0 n)
      ∙ form_ext R n (coefficient R.q run n m e) _ _ (λ i h. get_or_read R.q signature _ n i refl h)

  value_at : (x values : List ℕ) → x ≡ codes_from R.q signature 0 n → values ≡ map (form_value R run x m) (range_with_len 0 m) → (e : ℕ) → e < m → get_or values e 0 ≡ form_at R n (coefficient R.q run n m e) (code_at R.q signature)
  value_at x values p q e h =
      ap (λ (vs : List ℕ). get_or vs e 0) q ∙ get_or-map-range_with_len (form_value R run x m) 0 m e e 0 h (zero-add e)
      ∙ ap (λ (y : List ℕ). form_value R run y m e) p ∙ at_codes e

  pub satisfied : (x values : List ℕ) (r : Bool) → x ≡ codes_from R.q signature 0 n → values ≡ map (form_value R run x m) (range_with_len 0 m) → Decides r ((e : ℕ) → e < length values → get_or values e 0 ≡ code_at R.q digest e) → Decides r (Satisfies R run n m digest signature)
  satisfied x values r p q d =
      let l : length values ≡ m = ap length q ∙ length-map-range_with_len (form_value R run x m) 0 m in
      Decides-like r (λ f e h. sym (value_at x values p q e h) ∙ f e (omega arith)) (λ f e h. let k : e < m = omega arith in value_at x values p q e k ∙ f e k) d
