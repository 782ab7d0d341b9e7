-- The coefficients of a pair of variables in the equations of a layer. Assumes nothing.
use Rattle.std.proofs.Common.{◌≡◌, ℕ, zero, suc, ◌+◌, ◌-◌, ◌*◌, ◌<◌, true, false, ltb, List, ap, ◌∙◌, arith}
use Rattle.std.proofs.lemmas.Bool.{cond-true, cond-false, lt-ltb, le-ltb}
use Rattle.fields.specs.Packing.{code_at}
use Rattle.keys.specs.declared.shapes.Shape.{Shape}
use Rattle.keys.specs.Shapes.{layer_start}
use Rattle.maps.specs.SecretKeys.{group_size, group_of, layer_of, in_layer, term_place, in_terms, has_term, central_place, central, equation_of}

-- layer and number of an equation
pub record Numbered (s : Shape) (l r f : ℕ) : Type 0 where
  pub layer : layer_of s f ≡ l
  pub number : in_layer s f ≡ r

pub numbered : (s : Shape) (l r : ℕ) → 0 < l → l < 3 → r < group_size s l → Numbered s l r (equation_of s l r)
numbered s zero r h k g = absurd (omega arith)
numbered s (suc zero) r h k g = record { layer = cond-true (ltb r s.o1) 1 2 (lt-ltb r s.o1 g); number = cond-true (ltb r s.o1) r (r - s.o1) (lt-ltb r s.o1 g) }
numbered s (suc (suc zero)) r h k g =
    let e : ltb (s.o1 + r) s.o1 ≡ false = le-ltb (s.o1 + r) s.o1 (omega arith) in
    record { layer = cond-false (ltb (s.o1 + r) s.o1) 1 2 e; number = cond-false (ltb (s.o1 + r) s.o1) (s.o1 + r) (s.o1 + r - s.o1) e ∙ omega arith }
numbered s (suc (suc (suc l))) r h k g = absurd (omega arith)

module _ (q : ℕ) (run : List ℕ) (s : Shape) (l i j r : ℕ) (low : 0 < l) (high : l < 3) (inside : r < group_size s l) where
  pub row_there : in_terms s l i j ≡ true → central q run s (equation_of s l r) i j ≡ code_at q run (layer_start s l + term_place s l (group_of s i) (group_of s j) i j * group_size s l + r)
  unfolding central central_place
  row_there h =
      let f = equation_of s l r in
      let N = numbered s l r low high inside in
      cond-true (has_term s f i j) _ _ (ap (λ k. in_terms s k i j) N.layer ∙ h)
      ∙ ap (λ k. code_at q run (layer_start s k + term_place s k (group_of s i) (group_of s j) i j * group_size s k + in_layer s f)) N.layer
      ∙ ap (λ k. code_at q run (layer_start s l + term_place s l (group_of s i) (group_of s j) i j * group_size s l + k)) N.number

  pub row_none : in_terms s l i j ≡ false → central q run s (equation_of s l r) i j ≡ 0
  unfolding central
  row_none h = cond-false (has_term s (equation_of s l r) i j) _ _ (ap (λ k. in_terms s k i j) (numbered s l r low high inside).layer ∙ h)
