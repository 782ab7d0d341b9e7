-- Forms in two layers between two masks: what solves both layers is taken back by the masks, and nothing else is. Assumes nothing.
use Rattle.std.proofs.Common.{◌≡◌, ℕ, ◌+◌, ◌-◌, ◌<◌, ltb, sym, ap, ◌∙◌, subst, ap₂, inl, inr, add-zero, arith, le-ltb, lt-ltb}
use native.Mathlib.Decide.{dec_lt}
use Rattle.std.proofs.lemmas.Bool.{cond-true, cond-false}
use Rattle.algebra.specs.Commutative.{apply}
use Rattle.algebra.specs.Rings.{Ring, RingLaws}
use Rattle.algebra.specs.Sums.{dot_of}
use Rattle.algebra.specs.Forms.{form_at}
use Rattle.algebra.specs.Matrices.{applied}
use Rattle.algebra.specs.Masks.{Inverse}
use Rattle.algebra.specs.Systems.{Vector}
use Rattle.algebra.specs.Layers.{layer_entry, layer_constant, layer_value, joined, later_forms, TwoLayers, composition, Signs, minus}
use Rattle.algebra.proofs.Laws.{neg_cancel, add_left}
use Rattle.algebra.proofs.Places.{apply_minus}
use Rattle.algebra.proofs.Codes.{Code, codes, nil_code, sum_code, sum_total, mul_zero, zero_mul}
use Rattle.algebra.proofs.Bridge.{vector, matrix, code_number, mul_by, applied_of}
use Rattle.algebra.proofs.SumLaws.{sum_ext, form_ext, sum_zeros}
use Rattle.algebra.proofs.LayerForms.{constant_code, layer_value_lem}

pub joined_low : (v : ℕ) (w y : ℕ → ℕ) (i : ℕ) → i < v → joined v w y i ≡ w i
unfolding joined
joined_low v w y i l = cond-true (ltb i v) _ _ (lt-ltb i v l)

pub joined_high : (v : ℕ) (w y : ℕ → ℕ) (c : ℕ) → joined v w y (v + c) ≡ y c
unfolding joined
joined_high v w y c = cond-false (ltb (v + c) v) _ _ (le-ltb (v + c) v (omega arith)) ∙ ap y (omega arith)

pub joined_vector : (R : Ring) (v o : ℕ) (w y : ℕ → ℕ) → Vector R v w → Vector R o y → Vector R (v + o) (joined v w y)
joined_vector R v o w y hw hy i l =
    elim (dec_lt i v) [
      | yes h ↦ let e = joined_low v w y i h in let k = hw i h in omega arith
      | no h ↦ let e : joined v w y i ≡ y (i - v) = ap (joined v w y) (omega arith) ∙ joined_high v w y (i - v) in let k = hy (i - v) (omega arith) in omega arith
    ]

module _ (R : Ring) where
  pub entry_ext : (v : ℕ) (F : ℕ → ℕ → ℕ → ℕ) (x y : ℕ → ℕ) (r c : ℕ) → ((i : ℕ) → i < v → x i ≡ y i) → layer_entry R v F x r c ≡ layer_entry R v F y r c
  unfolding layer_entry
  entry_ext v F x y r c h = sum_ext R v _ _ (λ i l. ap (R.mul (F r i (v + c))) (h i l))

  pub constant_ext : (v : ℕ) (F : ℕ → ℕ → ℕ → ℕ) (x y : ℕ → ℕ) (r : ℕ) → ((i : ℕ) → i < v → x i ≡ y i) → layer_constant R v F x r ≡ layer_constant R v F y r
  unfolding layer_constant
  constant_ext v F x y r h = form_ext R v (F r) x y h

  pub value_ext : (v o : ℕ) (F : ℕ → ℕ → ℕ → ℕ) (x y : ℕ → ℕ) (r : ℕ) → ((i : ℕ) → i < v + o → x i ≡ y i) → layer_value R v o F x r ≡ layer_value R v o F y r
  value_ext v o F x y r h =
      ap₂ R.add (constant_ext v F x y r (λ i l. h i (omega arith)))
      (sum_ext R o _ _ (λ c l. ap₂ R.mul (entry_ext v F x y r c (λ i m. h i (omega arith))) (h (v + c) (omega arith))))

  pub applied_ext : (n : ℕ) (M : ℕ → ℕ → ℕ) (x y : ℕ → ℕ) (i : ℕ) → ((j : ℕ) → j < n → x j ≡ y j) → applied R n M x i ≡ applied R n M y i
  unfolding applied
  applied_ext n M x y i h = sum_ext R n _ _ (λ j l. ap (R.mul (M i j)) (h j l))

module _ (R : Ring) (L : RingLaws R) where
  pub applied_code : (n : ℕ) (M : ℕ → ℕ → ℕ) (x : ℕ → ℕ) (i : ℕ) → applied R n M x i < R.q
  unfolding applied
  applied_code n M x i = sum_code R L n _

  pub form_code : (n : ℕ) (F : ℕ → ℕ → ℕ) (x : ℕ → ℕ) → form_at R n F x < R.q
  form_code n F x = sum_code R L n _

  -- c + (b - c) = b
  add_back : (b c : ℕ) → b < R.q → c < R.q → R.add c (R.add b (R.neg c)) ≡ b
  add_back b c hb hc =
      let S = codes R L in
      let x : Code R = (b, hb) in
      let y : Code R = (c, hc) in
      ap (λ t. t.0) (ap (S.add y) (S.add_comm x (S.neg y)) ∙ neg_cancel S y x)

  add_cancel : (c a b : ℕ) → c < R.q → a < R.q → b < R.q → R.add c a ≡ R.add c b → a ≡ b
  add_cancel c a b hc ha hb e =
      let S = codes R L in
      let x : Code R = (a, ha) in
      let y : Code R = (b, hb) in
      let z : Code R = (c, hc) in
      sym (ap (λ t. t.0) (add_left S (S.neg z) z x ∙ neg_cancel S z x)) ∙ ap (R.add (R.neg c)) e
      ∙ ap (λ t. t.0) (add_left S (S.neg z) z y ∙ neg_cancel S z y)

  -- a layer's form at the values w and a solution y of its system
  pub layer_solved : (v o : ℕ) (F : ℕ → ℕ → ℕ → ℕ) (w y : ℕ → ℕ) (r b : ℕ) → b < R.q → dot_of R o (layer_entry R v F w r) y ≡ R.add b (R.neg (layer_constant R v F w r)) → layer_value R v o F (joined v w y) r ≡ b
  layer_solved v o F w y r b hb e =
      ap₂ R.add (constant_ext R v F (joined v w y) w r (joined_low v w y))
      (sum_ext R o _ _ (λ c l. ap₂ R.mul (entry_ext R v F (joined v w y) w r c (joined_low v w y)) (joined_high v w y c)) ∙ e)
      ∙ add_back b (layer_constant R v F w r) hb (constant_code R L v F w r)

  -- and back: where a layer's form has a value, its variables solve the system
  pub solved_layer : (v o : ℕ) (F : ℕ → ℕ → ℕ → ℕ) (x : ℕ → ℕ) (r b : ℕ) → b < R.q → layer_value R v o F x r ≡ b → dot_of R o (layer_entry R v F x r) (λ c. x (v + c)) ≡ R.add b (R.neg (layer_constant R v F x r))
  solved_layer v o F x r b hb e =
      let c = constant_code R L v F x r in
      add_cancel (layer_constant R v F x r) _ _ c (sum_code R L o _) (L.add_code _ _) (e ∙ sym (add_back b (layer_constant R v F x r) hb c))

  -- a difference goes to the difference
  applied_minus : (n : ℕ) (M : ℕ → ℕ → ℕ) (y z : ℕ → ℕ) (i : ℕ) → Vector R n y → Vector R n z → applied R n M (minus R y z) i ≡ R.add (applied R n M y i) (R.neg (applied R n M z i))
  unfolding applied apply
  applied_minus n M y z i hy hz =
      let S = codes R L in
      sum_ext R n _ _ (λ j l. mul_by R L (M i j) _ (S.add (vector R L y j) (S.neg (vector R L z j))) (ap₂ (λ a b. R.add a (R.neg b)) (sym (code_number R L (y j) (hy j l))) (sym (code_number R L (z j) (hz j l)))))
      ∙ sum_total R L n (λ j. S.mul (matrix R L M i j) (S.add (vector R L y j) (S.neg (vector R L z j))))
      ∙ ap (λ t. t.0) (apply_minus S n (matrix R L M) (vector R L y) (vector R L z) i)
      ∙ sym (ap₂ (λ a b. R.add a (R.neg b)) (applied_of R L n M y i) (applied_of R L n M z i))

  module _ (v1 o1 o2 : ℕ) (F : ℕ → ℕ → ℕ → ℕ) (W : TwoLayers v1 o1 o2 F) where
    abbrev n : ℕ
    n = v1 + o1 + o2

    abbrev m : ℕ
    m = o1 + o2

    pub first_value : (x : ℕ → ℕ) (r : ℕ) → r < o1 → form_at R n (F r) x ≡ layer_value R v1 o1 F x r
    first_value x r l = layer_value_lem R L v1 o1 o2 F x r (λ i j m e. W.first r i j l e)

    pub second_value : (x : ℕ → ℕ) (r : ℕ) → r < o2 → form_at R n (F (o1 + r)) x ≡ layer_value R (v1 + o1) o2 (later_forms o1 F) x r
    second_value x r l =
        ap (λ k. form_at R k (F (o1 + r)) x) (sym (add-zero n))
        ∙ layer_value_lem R L (v1 + o1) o2 0 (later_forms o1 F) x r (λ i j g e. elim e [ inl h ↦ W.second r i j l h | inr h ↦ absurd (omega arith) ])

    -- forms with given values, layer by layer
    pub forms_from : (x b : ℕ → ℕ) → ((r : ℕ) → r < o1 → layer_value R v1 o1 F x r ≡ b r) → ((r : ℕ) → r < o2 → layer_value R (v1 + o1) o2 (later_forms o1 F) x r ≡ b (o1 + r)) → (f : ℕ) → f < m → form_at R n (F f) x ≡ b f
    forms_from x b h k f l =
        elim (dec_lt f o1) [
          | yes g ↦ first_value x f g ∙ h f g
          | no g ↦
              let e : o1 + (f - o1) ≡ f = omega arith in
              let s : f - o1 < o2 = omega arith in
              subst (λ t. form_at R n (F t) x ≡ b t) e (second_value x (f - o1) s ∙ k (f - o1) s)
        ]

    module _ (S S⁻ T T⁻ : ℕ → ℕ → ℕ) (IS : Inverse R m S S⁻) (IT : Inverse R n T T⁻) where
      -- what gives every form its value is taken back to a signature
      pub signature_from : (w d x : ℕ → ℕ) → Vector R m d → Vector R n x → ((i : ℕ) → i < v1 → x i ≡ w i) → ((f : ℕ) → f < m → form_at R n (F f) x ≡ applied R m S⁻ d f) → Signs R v1 o1 o2 S F T w d (applied R n T⁻ x)
      signature_from w d x hd hx hw hf = record {
        codes = λ i l. applied_code n T⁻ x i;
        begins = λ i l. IT.after x hx i (omega arith) ∙ hw i l;
        value = λ e l.
            applied_ext R m S _ (applied R m S⁻ d) e (λ f g. form_ext R n (F f) _ x (λ i h. IT.after x hx i h) ∙ hf f g)
            ∙ IS.after d hd e l;
      }

      -- a signature's image gives every form its value
      pub values_of : (w d z : ℕ → ℕ) → Signs R v1 o1 o2 S F T w d z → (f : ℕ) → f < m → form_at R n (F f) (applied R n T z) ≡ applied R m S⁻ d f
      values_of w d z Z f l =
          sym (IS.before (λ g. form_at R n (F g) (applied R n T z)) (λ g h. form_code n (F g) _) f l)
          ∙ applied_ext R m S⁻ _ d f (λ e h. Z.value e h)

      -- two signatures with the same image are the same
      pub same_image : (w d y z : ℕ → ℕ) → Signs R v1 o1 o2 S F T w d y → Signs R v1 o1 o2 S F T w d z → ((i : ℕ) → i < n → applied R n T y i ≡ applied R n T z i) → (i : ℕ) → i < n → y i ≡ z i
      same_image w d y z Y Z h i l =
          sym (IT.before y Y.codes i l) ∙ applied_ext R n T⁻ _ _ i h ∙ IT.before z Z.codes i l

      -- the difference of two signatures with the same vinegar gives the first layer's forms the value 0
      pub once : (w d e y z : ℕ → ℕ) → Signs R v1 o1 o2 S F T w d y → Signs R v1 o1 o2 S F T w e z → (r : ℕ) → r < o1 → applied R m S⁻ (composition R n m S F T (minus R y z)) r ≡ 0
      unfolding layer_constant layer_entry
      once w d e y z Y Z r l =
          let u : ℕ → ℕ = applied R n T (minus R y z) in
          let nil : (i : ℕ) → i < v1 → u i ≡ 0 = λ i g.
          applied_minus n T y z i Y.codes Z.codes ∙ ap₂ (λ a b. R.add a (R.neg b)) (Y.begins i g) (Z.begins i g)
          ∙ L.add_neg (w i) (subst (λ a. a < R.q) (Y.begins i g) (applied_code n T y i)) in
          let z0 = nil_code R L in
          IS.before (λ g. form_at R n (F g) u) (λ g h. form_code n (F g) u) r (omega arith)
          ∙ first_value u r l
          ∙ ap₂ R.add
          (sum_zeros R L v1 _ (λ i g. sum_zeros R L v1 _ (λ j h. ap (λ a. R.mul (F r i j) (R.mul a (u j))) (nil i g) ∙ ap (R.mul (F r i j)) (zero_mul R L (u j)) ∙ mul_zero R L (F r i j))))
          (sum_zeros R L o1 _ (λ c g. ap (λ a. R.mul a (u (v1 + c))) (sum_zeros R L v1 _ (λ i h. ap (R.mul (F r i (v1 + c))) (nil i h) ∙ mul_zero R L (F r i (v1 + c)))) ∙ zero_mul R L (u (v1 + c))))
          ∙ L.add_zero 0 z0
