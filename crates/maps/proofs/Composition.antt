-- The public key's value is S after F after T. Assumes nothing.
use Rattle.std.proofs.Common.{◌≡◌, ℕ, ◌<◌, List, get_or, take, drop, sym, ap, ◌∙◌, subst, arith}
use Rattle.std.proofs.lemmas.List.{get_or-take}
use Rattle.algebra.specs.Rings.{Ring, RingLaws}
use Rattle.algebra.specs.Matrices.{applied, public_form}
use Rattle.algebra.proofs.SumLaws.{form_upper}
use Rattle.algebra.proofs.PublicMap.{public_map_lem, public_upper}
use Rattle.fields.specs.Packing.{code_at}
use Rattle.matrices.specs.QuadraticSystems.{pair_at, coefficient}
use Rattle.matrices.proofs.Terms.{coefficient_there, coefficient_below}
use Rattle.keys.specs.declared.shapes.Shape.{Shape}
use Rattle.keys.specs.Shapes.{variables, equations}
use Rattle.keys.specs.Heads.{shape_of}
use Rattle.maps.specs.Verdicts.{Satisfies, Valid}
use Rattle.maps.specs.SecretKeys.{outer_mask, inner_mask, central}
use Rattle.maps.specs.PublicKeys.{public_entry, EveryPoint, ValidMeans}

module _ (R : Ring) (L : RingLaws R) where
  pub every_point_lem : EveryPoint R
  unfolding public_entry pair_at applied
  every_point_lem key public P z e le =
      let s = shape_of key in
      let run = drop 4 key in
      let n = variables s in
      let m = equations s in
      form_upper R n (coefficient R.q (drop 4 public) n m e) (public_form R n m (outer_mask R run s) (central R.q run s) (inner_mask R run s) e) z
      (λ i j h l. coefficient_there R.q (drop 4 public) n m e i j h ∙ P.run.entries e i j le h l)
      (λ i j h l. coefficient_below R.q (drop 4 public) n m e i j h)
      (λ i j h l. public_upper R L n m (outer_mask R run s) (central R.q run s) (inner_mask R run s) e i j h)
      ∙ public_map_lem R L n m (outer_mask R run s) (central R.q run s) (inner_mask R run s) z e

  pub byte_same : (key public : List ℕ) → take 4 public ≡ take 4 key → (i : ℕ) → i < 4 → get_or public i 0 ≡ get_or key i 0
  byte_same key public e i h = sym (get_or-take 4 public i 0 h) ∙ ap (λ (xs : List ℕ). get_or xs i 0) e ∙ get_or-take 4 key i 0 h

  pub shape_same : (key public : List ℕ) → take 4 public ≡ take 4 key → shape_of public ≡ shape_of key
  shape_same key public e =
      let a = byte_same key public e 1 (omega arith) in
      let b = byte_same key public e 2 (omega arith) in
      let c = byte_same key public e 3 (omega arith) in
      λ i. record { v1 = a i; o1 = b i; o2 = c i }

  pub valid_means_lem : ValidMeans R
  valid_means_lem key public digest signature P =
      let s : shape_of public ≡ shape_of key = shape_same key public P.head in
      let there = subst (λ (t : Shape). Valid R public digest signature → Satisfies R (drop 4 public) (variables t) (equations t) digest signature) s (λ v. v) in
      let back = subst (λ (t : Shape). Satisfies R (drop 4 public) (variables t) (equations t) digest signature → Valid R public digest signature) s (λ v. v) in
      ((λ v e h. sym (every_point_lem key public P (code_at R.q signature) e h) ∙ there v e h), (λ f. back (λ e h. every_point_lem key public P (code_at R.q signature) e h ∙ f e h)))
