-- Forms in two layers between two masks, over a field: where both layers' systems are regular there is one signature. Assumes nothing.
use Rattle.std.proofs.Common.{◌≡◌, ℕ, ◌+◌, ◌-◌, ◌<◌, Option, sym, refl, ap, ◌∙◌, subst, arith}
use native.Mathlib.Decide.{dec_lt}
use Rattle.algebra.specs.Rings.{Ring, RingLaws, IsInverse}
use Rattle.algebra.specs.Matrices.{applied}
use Rattle.algebra.specs.Masks as masks
use Rattle.algebra.specs.Systems.{Vector, Singular, Solves, Inverse}
use Rattle.algebra.specs.Layers.{layer_entry, layer_constant, layer_value, joined, later_forms, TwoLayers, Halfway, SecondSingular, Signs}
use Rattle.algebra.proofs.LayerForms.{entry_code}
use Rattle.algebra.proofs.Layers.{joined_low, joined_vector, entry_ext, constant_ext, value_ext, applied_code, layer_solved, solved_layer, first_value, second_value, forms_from, signature_from, values_of, same_image}
use Rattle.algebra.proofs.Systems.{dot_ext}
use Rattle.algebra.proofs.Solvable.{invertible, solvable, inverse_only}

module _ (R : Ring) (L : RingLaws R) where
  -- what a layer's system is to be solved for
  abbrev pub side_of : ℕ → (ℕ → ℕ → ℕ → ℕ) → (ℕ → ℕ) → (ℕ → ℕ) → ℕ → ℕ
  side_of v F x b r = R.add (b r) (R.neg (layer_constant R v F x r))

  -- two points that agree before a layer, and give it the same values, agree in the layer
  pub layer_agree : (v o : ℕ) (F : ℕ → ℕ → ℕ → ℕ) (x y b : ℕ → ℕ) (X : ℕ → ℕ → ℕ) → Vector R (v + o) x → Vector R (v + o) y → Vector R o b → Inverse R o (layer_entry R v F x) X → ((i : ℕ) → i < v → x i ≡ y i) → ((r : ℕ) → r < o → layer_value R v o F x r ≡ b r) → ((r : ℕ) → r < o → layer_value R v o F y r ≡ b r) → (i : ℕ) → i < v + o → x i ≡ y i
  layer_agree v o F x y b X hx hy hb I h p q i l =
      elim (dec_lt i v) [
        | yes g ↦ h i g
        | no g ↦
            let c = i - v in
            let s : c < o = omega arith in
            let e : v + c ≡ i = omega arith in
            subst (λ t. x t ≡ y t) e
            (inverse_only R L o (layer_entry R v F x) X (side_of v F x b) I (λ k. x (v + k)) (λ k m. hx (v + k) (omega arith)) (λ r m. solved_layer R L v o F x r (b r) (hb r m) (p r m)) c s
            ∙ sym (inverse_only R L o (layer_entry R v F x) X (side_of v F x b) I (λ k. y (v + k)) (λ k m. hy (v + k) (omega arith)) (λ r m.
            dot_ext R o _ _ _ _ (λ k t. entry_ext R v F x y r k h) (λ k t. refl)
            ∙ solved_layer R L v o F y r (b r) (hb r m) (q r m)
            ∙ ap (λ t. R.add (b r) (R.neg t)) (sym (constant_ext R v F x y r h))) c s))
      ]

  module _ (v1 o1 o2 : ℕ) (F : ℕ → ℕ → ℕ → ℕ) (W : TwoLayers v1 o1 o2 F) (S S⁻ T T⁻ : ℕ → ℕ → ℕ) (IS : masks.Inverse R (o1 + o2) S S⁻) (IT : masks.Inverse R (v1 + o1 + o2) T T⁻) where
    -- the first layer solved
    pub halfway : (w b y : ℕ → ℕ) → Vector R v1 w → Vector R o1 b → Vector R o1 y → Solves R o1 (layer_entry R v1 F w) (side_of v1 F w b) y → Halfway R v1 o1 F w b (joined v1 w y)
    halfway w b y hw hb hy s = record {
      codes = joined_vector R v1 o1 w y hw hy;
      begins = joined_low v1 w y;
      solves = λ r l. layer_solved R L v1 o1 F w y r (b r) (hb r l) (s r l);
    }

    -- both layers solved
    pub built : (w d y : ℕ → ℕ) (x : ℕ → ℕ) → Vector R (o1 + o2) d → Halfway R v1 o1 F w (applied R (o1 + o2) S⁻ d) x → Vector R o2 y → Solves R o2 (layer_entry R (v1 + o1) (later_forms o1 F) x) (side_of (v1 + o1) (later_forms o1 F) x (λ r. applied R (o1 + o2) S⁻ d (o1 + r))) y → Signs R v1 o1 o2 S F T w d (applied R (v1 + o1 + o2) T⁻ (joined (v1 + o1) x y))
    built w d y x hd H hy s =
        let z = joined (v1 + o1) x y in
        let b = applied R (o1 + o2) S⁻ d in
        signature_from R L v1 o1 o2 F W S S⁻ T T⁻ IS IT w d z hd (joined_vector R (v1 + o1) o2 x y H.codes hy)
        (λ i l. joined_low (v1 + o1) x y i (omega arith) ∙ H.begins i l)
        (forms_from R L v1 o1 o2 F W z b
        (λ r l. value_ext R v1 o1 F z x r (joined_low (v1 + o1) x y) ∙ H.solves r l)
        (λ r l. layer_solved R L (v1 + o1) o2 (later_forms o1 F) x y r (b (o1 + r)) (applied_code R L (o1 + o2) S⁻ d (o1 + r)) (s r l)))

    -- the image of a signature solves both layers
    image_halfway : (w d z : ℕ → ℕ) → Signs R v1 o1 o2 S F T w d z → Halfway R v1 o1 F w (applied R (o1 + o2) S⁻ d) (applied R (v1 + o1 + o2) T z)
    image_halfway w d z Z = record {
      codes = λ i l. applied_code R L (v1 + o1 + o2) T z i;
      begins = Z.begins;
      solves = λ r l. sym (first_value R L v1 o1 o2 F W _ r l) ∙ values_of R L v1 o1 o2 F W S S⁻ T T⁻ IS IT w d z Z r (omega arith);
    }

    image_second : (w d z : ℕ → ℕ) → Signs R v1 o1 o2 S F T w d z → (r : ℕ) → r < o2 → layer_value R (v1 + o1) o2 (later_forms o1 F) (applied R (v1 + o1 + o2) T z) r ≡ applied R (o1 + o2) S⁻ d (o1 + r)
    image_second w d z Z r l = sym (second_value R L v1 o1 o2 F W _ r l) ∙ values_of R L v1 o1 o2 F W S S⁻ T T⁻ IS IT w d z Z (o1 + r) (omega arith)

    module _ (inv : ℕ → Option ℕ) (I : (a : ℕ) → IsInverse R a (inv a)) where
      pub only_one : (w d y z : ℕ → ℕ) → (Singular R o1 (layer_entry R v1 F w) → ⊥) → (SecondSingular R v1 o1 o2 F w (applied R (o1 + o2) S⁻ d) → ⊥) → Signs R v1 o1 o2 S F T w d y → Signs R v1 o1 o2 S F T w d z → (i : ℕ) → i < v1 + o1 + o2 → y i ≡ z i
      only_one w d y z h k Y Z =
          same_image R L v1 o1 o2 F W S S⁻ T T⁻ IS IT w d y z Y Z
          (layer_agree (v1 + o1) o2 (later_forms o1 F) x u (λ r. b (o1 + r)) X2.0 (λ i l. applied_code R L (v1 + o1 + o2) T y i) (λ i l. applied_code R L (v1 + o1 + o2) T z i) (λ r l. applied_code R L (o1 + o2) S⁻ d (o1 + r)) X2.1.1 agree
          (image_second w d y Y) (image_second w d z Z))
        where
          b : ℕ → ℕ
          b = applied R (o1 + o2) S⁻ d

          x : ℕ → ℕ
          x = applied R (v1 + o1 + o2) T y

          u : ℕ → ℕ
          u = applied R (v1 + o1 + o2) T z

          same_entry : (r c : ℕ) → layer_entry R v1 F w r c ≡ layer_entry R v1 F x r c
          same_entry r c = entry_ext R v1 F w x r c (λ i l. sym (Y.begins i l))

          first : Singular R o1 (layer_entry R v1 F x) → ⊥
          first s = h (record {
            vector = s.vector;
            codes = s.codes;
            some = s.some;
            annuls = λ i l. dot_ext R o1 _ _ _ _ (λ j g. same_entry i j) (λ j g. refl) ∙ s.annuls i l;
          })

          X1 : (X : ℕ → ℕ → ℕ) × (((i j : ℕ) → X i j < R.q) × Inverse R o1 (layer_entry R v1 F x) X)
          X1 = invertible R L inv I o1 (layer_entry R v1 F x) (λ r c. entry_code R L v1 F x r c) first

          H : Halfway R v1 o1 F w b x
          H = image_halfway w d y Y

          G : Halfway R v1 o1 F w b u
          G = image_halfway w d z Z

          agree : (i : ℕ) → i < v1 + o1 → x i ≡ u i
          agree = layer_agree v1 o1 F x u b X1.0 H.codes G.codes (λ r l. applied_code R L (o1 + o2) S⁻ d r) X1.1.1 (λ i l. Y.begins i l ∙ sym (Z.begins i l)) H.solves G.solves

          X2 : (X : ℕ → ℕ → ℕ) × (((i j : ℕ) → X i j < R.q) × Inverse R o2 (layer_entry R (v1 + o1) (later_forms o1 F) x) X)
          X2 = invertible R L inv I o2 (layer_entry R (v1 + o1) (later_forms o1 F) x) (λ r c. entry_code R L (v1 + o1) (later_forms o1 F) x r c) (λ s. k (record { point = x; halfway = H; singular = s }))

      pub some_one : (w d : ℕ → ℕ) → Vector R v1 w → Vector R (o1 + o2) d → (Singular R o1 (layer_entry R v1 F w) → ⊥) → (SecondSingular R v1 o1 o2 F w (applied R (o1 + o2) S⁻ d) → ⊥) → (z : ℕ → ℕ) × Signs R v1 o1 o2 S F T w d z
      some_one w d hw hd h k = (applied R (v1 + o1 + o2) T⁻ (joined (v1 + o1) x Y2.0), built w d Y2.0 x hd H Y2.1.0 Y2.1.1)
        where
          b : ℕ → ℕ
          b = applied R (o1 + o2) S⁻ d

          Y1 : (y : ℕ → ℕ) × (Vector R o1 y × Solves R o1 (layer_entry R v1 F w) (side_of v1 F w b) y)
          Y1 = solvable R L inv I o1 (layer_entry R v1 F w) (side_of v1 F w b) (λ r c. entry_code R L v1 F w r c) (λ r l. L.add_code _ _) h

          x : ℕ → ℕ
          x = joined v1 w Y1.0

          H : Halfway R v1 o1 F w b x
          H = halfway w b Y1.0 hw (λ r l. applied_code R L (o1 + o2) S⁻ d r) Y1.1.0 Y1.1.1

          Y2 : (y : ℕ → ℕ) × (Vector R o2 y × Solves R o2 (layer_entry R (v1 + o1) (later_forms o1 F) x) (side_of (v1 + o1) (later_forms o1 F) x (λ r. b (o1 + r))) y)
          Y2 = solvable R L inv I o2 (layer_entry R (v1 + o1) (later_forms o1 F) x) (side_of (v1 + o1) (later_forms o1 F) x (λ r. b (o1 + r))) (λ r c. entry_code R L (v1 + o1) (later_forms o1 F) x r c) (λ r l. L.add_code _ _) (λ s. k (record { point = x; halfway = H; singular = s }))
