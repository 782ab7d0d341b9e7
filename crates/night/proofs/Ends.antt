-- Which starts can be thrown away. Assumes nothing.
use Rattle.std.proofs.Common.{◌≡◌, ℕ, Bool, not, List, [], ◌∷◌, Some, None, Option, refl, ap, ◌∙◌}
use Rattle.std.proofs.lemmas.Bool.{eq-eqb}
use Rattle.keys.specs.declared.refusals.Refusal.TheVariants.{StrangeStart}
use Rattle.keys.specs.Refusals.{test, first}
use Rattle.keys.proofs.Orders.{past}
use Rattle.shelf.specs.declared.state.Inner.{Inner}
use Rattle.shelf.specs.Steps.{all_tests, throw_buffers, end_tests, is_number}

-- the start in hand is not strange
held : (i : Inner) (k : ℕ) → i.hand ≡ Some k → first (end_tests i k) ≡ None
held i k e = ap (λ (o : Option ℕ). first (test (not (is_number o k)) StrangeStart ∷ [])) e ∙ ap (λ (b : Bool). first (test (not b) StrangeStart ∷ [])) (eq-eqb k k refl)

-- where key and strip pass, the start in hand can be thrown away
pub endable : (q : ℕ) (i : Inner) (key strip : List ℕ) (k : ℕ) → first (all_tests q key (throw_buffers q i key strip) []) ≡ None → i.hand ≡ Some k → first (all_tests q key (throw_buffers q i key strip) (end_tests i k)) ≡ None
endable q i key strip k e h = past (all_tests q key (throw_buffers q i key strip) []) (end_tests i k) e ∙ held i k h
