-- The laws of signatures, from those of forms in two layers between two masks. Assumes nothing.
use Rattle.std.proofs.Common.{◌≡◌, ℕ, ◌+◌, ◌<◌, List, Option, sym, ap, ◌∙◌, subst, inl, inr, arith}
use mathlib.Core.Path.{fun_ext}
use Rattle.std.proofs.lemmas.Bool.{cond-false}
use Rattle.std.proofs.lemmas.Bool.Decides.{nat_tests}
use Rattle.algebra.specs.Rings.{Ring, RingLaws, IsInverse}
use Rattle.algebra.specs.Sums.{dot_of}
use Rattle.algebra.specs.Forms.{form_at}
use Rattle.algebra.specs.Matrices.{applied}
use Rattle.algebra.specs.Systems.{Vector, Singular, Inverse}
use Rattle.algebra.specs.Layers.{layer_entry, later_forms, TwoLayers, Halfway, Signs, minus}
use Rattle.algebra.proofs.Codes.{sum_code}
use Rattle.algebra.proofs.Systems.{not_both}
use Rattle.algebra.proofs.Solvable.{inverse_solves, inverse_regular}
use Rattle.algebra.proofs.Layers.{joined_low, joined_vector, entry_ext, constant_ext, applied_ext, applied_code, layer_solved, once}
use Rattle.algebra.proofs.OneSignature.{layer_agree, built, only_one, some_one}
use Rattle.matrices.specs.QuadraticSystems.{coefficient}
use Rattle.keys.specs.declared.shapes.Shape.{Shape}
use Rattle.keys.specs.Shapes.{variables, equations}
use Rattle.keys.specs.Heads.{shape_of}
use Rattle.maps.specs.SecretKeys.{has_term, central, outer_inverse}
use Rattle.maps.specs.PublicKeys.{Published, composed}
use Rattle.maps.proofs.Undone.{masks_undone}
use Rattle.maps.proofs.Composition.{shape_same, every_point_lem}
use Rattle.signing.specs.Starts.{Holds, place_vinegar, place_inverse, first_oil, half_point, unmixed}
use Rattle.signing.specs.Signatures.{run_of, IsSignature, FirstSingular, SecondSingular, ExactlyOne, public_value, StartsAreGood, SameStart}

-- a central map has the terms of two layers
pub two_layers : (q : ℕ) (run : List ℕ) (s : Shape) → TwoLayers s.v1 s.o1 s.o2 (central q run s)
unfolding central
two_layers q run s = record {
  first = λ r i j l e. cond-false (has_term s r i j) _ _ (elim e [ inl h ↦ grind (arith, nat_tests) | inr h ↦ grind (arith, nat_tests) ]);
  second = λ r i j l h. cond-false (has_term s (s.o1 + r) i j) _ _ (grind (arith, nat_tests));
}

module _ (R : Ring) where
  -- points that agree before a layer give it the same system
  entries_same : (v : ℕ) (F : ℕ → ℕ → ℕ → ℕ) (x y : ℕ → ℕ) → ((i : ℕ) → i < v → x i ≡ y i) → layer_entry R v F x ≡ layer_entry R v F y
  entries_same v F x y h = fun_ext (λ r. fun_ext (λ c. entry_ext R v F x y r c h))

  -- only the first n codes of a signature count
  pub signs_ext : (v1 o1 o2 : ℕ) (S : ℕ → ℕ → ℕ) (F : ℕ → ℕ → ℕ → ℕ) (T : ℕ → ℕ → ℕ) (w d y z : ℕ → ℕ) → ((i : ℕ) → i < v1 + o1 + o2 → z i ≡ y i) → Signs R v1 o1 o2 S F T w d y → Signs R v1 o1 o2 S F T w d z
  signs_ext v1 o1 o2 S F T w d y z h Y =
      let n = v1 + o1 + o2 in
      let e : applied R n T z ≡ applied R n T y = fun_ext (λ i. applied_ext R n T z y i h) in
      record {
        codes = λ i l. let p = h i l in let k = Y.codes i l in omega arith;
        begins = λ i l. ap (λ x. x i) e ∙ Y.begins i l;
        value = λ f l. ap (λ x. applied R (o1 + o2) S (λ g. form_at R n (F g) x) f) e ∙ Y.value f l;
      }

module _ (R : Ring) (L : RingLaws R) where
  -- the public key's value is S after F after T
  pub public_value_lem : (key public : List ℕ) → Published R key public → (z : ℕ → ℕ) (e : ℕ) → e < equations (shape_of key) → public_value R public z e ≡ composed R key z e
  public_value_lem key public P z e l =
      subst (λ t. form_at R (variables t) (coefficient R.q (run_of public) (variables t) (equations t) e) z ≡ composed R key z e) (sym (shape_same R L key public P.head)) (every_point_lem R L key public P z e l)

  pub same_start : SameStart R
  same_start key public w d e y z P Y Z r l =
      let s = shape_of key in
      let U = masks_undone R L (run_of key) s in
      applied_ext R (equations s) (outer_inverse R (run_of key) s) _ _ r (public_value_lem key public P (minus R y z))
      ∙ once R L s.v1 s.o1 s.o2 _ (two_layers R.q (run_of key) s) _ _ _ _ U.outer U.inner w d e y z Y Z r l

  module _ (run : List ℕ) (s : Shape) (w d : ℕ → ℕ) (place : List ℕ) (H : Holds R run s w place) where
    -- the half point begins with the vinegar and solves the first layer
    half_way : Vector R s.v1 w → Halfway R s.v1 s.o1 (central R.q run s) w (unmixed R run s d) (half_point R run s place d)
    half_way hw = record {
      codes = joined_vector R s.v1 s.o1 v y (λ i l. let e = H.vinegar i l in let k = hw i l in omega arith) (λ k l. sum_code R L s.o1 _);
      begins = λ i l. joined_low s.v1 v y i l ∙ H.vinegar i l;
      solves = λ r l.
          layer_solved R L s.v1 s.o1 F v y r (b r) (applied_code R L (equations s) (outer_inverse R run s) d r)
          (ap (λ A. dot_of R s.o1 (A r) y) (entries_same R s.v1 F v w H.vinegar)
          ∙ inverse_solves R L s.o1 (layer_entry R s.v1 F w) (place_inverse s place) _ H.inverse (λ j m. L.add_code _ _) r l
          ∙ ap (λ c. R.add (b r) (R.neg c)) (H.constants r l ∙ sym (constant_ext R s.v1 F v w r H.vinegar)));
    }
      where
        F : ℕ → ℕ → ℕ → ℕ
        F = central R.q run s

        v : ℕ → ℕ
        v = place_vinegar place

        b : ℕ → ℕ
        b = unmixed R run s d

        y : ℕ → ℕ
        y = first_oil R s place b

    -- no other point does
    half_only : Vector R s.v1 w → (x : ℕ → ℕ) → Halfway R s.v1 s.o1 (central R.q run s) w (unmixed R run s d) x → (i : ℕ) → i < s.v1 + s.o1 → x i ≡ half_point R run s place d i
    half_only hw x X =
        let Y = half_way hw in
        layer_agree R L s.v1 s.o1 (central R.q run s) x (half_point R run s place d) (unmixed R run s d) (place_inverse s place) X.codes Y.codes (λ r l. applied_code R L (equations s) (outer_inverse R run s) d r)
        (subst (λ A. Inverse R s.o1 A (place_inverse s place)) (entries_same R s.v1 (central R.q run s) w x (λ i l. sym (X.begins i l))) H.inverse)
        (λ i l. X.begins i l ∙ sym (Y.begins i l)) X.solves Y.solves

  pub starts_are_good_lem : StartsAreGood R
  starts_are_good_lem key w d place hw hd H =
      let s = shape_of key in
      let run = run_of key in
      let F = central R.q run s in
      let U = masks_undone R L run s in
      let Y = half_way run s w d place H hw in
      record {
        regular = not_both R s.o1 _ (inverse_regular R L s.o1 _ (place_inverse s place) H.inverse);
        singular = (
          (λ g. record { point = half_point R run s place d; halfway = Y; singular = g }),
          (λ P. subst (Singular R s.o2) (entries_same R (s.v1 + s.o1) (later_forms s.o1 F) P.point (half_point R run s place d) (half_only run s w d place H hw P.point P.halfway)) P.singular),
        );
        signs = λ z Z. signs_ext R s.v1 s.o1 s.o2 _ _ _ w d _ z Z.image (built R L s.v1 s.o1 s.o2 F (two_layers R.q run s) _ _ _ _ U.outer U.inner w d Z.oil (half_point R run s place d) hd Y Z.codes Z.solves);
      }

  module _ (inv : ℕ → Option ℕ) (I : (a : ℕ) → IsInverse R a (inv a)) where
    -- where neither layer is singular two signatures are the same
    pub no_second : (key : List ℕ) (w d y z : ℕ → ℕ) → (FirstSingular R key w → ⊥) → (SecondSingular R key w d → ⊥) → IsSignature R key w d y → IsSignature R key w d z → (i : ℕ) → i < variables (shape_of key) → y i ≡ z i
    no_second key w d y z =
        let s = shape_of key in
        let U = masks_undone R L (run_of key) s in
        only_one R L s.v1 s.o1 s.o2 _ (two_layers R.q (run_of key) s) _ _ _ _ U.outer U.inner inv I w d y z

    pub exactly_one_lem : ExactlyOne R
    exactly_one_lem key w d hw hd h k =
        let s = shape_of key in
        let U = masks_undone R L (run_of key) s in
        let (z, Z) = some_one R L s.v1 s.o1 s.o2 _ (two_layers R.q (run_of key) s) _ _ _ _ U.outer U.inner inv I w d hw hd h k in
        record { signature = z; is = Z; only = λ y Y. no_second key w d y z h k Y Z }
