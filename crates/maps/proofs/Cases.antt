-- The worked cases, computed. Assumes nothing.
use Rattle.std.proofs.Common.{◌≡◌, ℕ, ◌+◌, ◌*◌, ◌<◌, Bool, true, false, not, ◌||◌, eqb, leb, List, [], ◌∷◌, drop, refl, arith, eqb-true, le-leb}
use Rattle.std.proofs.lemmas.Bool.{false≢true}
use Rattle.algebra.specs.Forms.{form_at}
use Rattle.algebra.specs.Modular.{modular}
use Rattle.algebra.specs.Matrices.{product, transposed, folded, pulled, public_form}
use Rattle.algebra.specs.Masks.{mask_s, mask_t, second_of}
use Rattle.algebra.proofs.Everywhere.{all_below, everywhere}
use Rattle.algebra.proofs.TowerLaws.{tower_cases}
use Rattle.fields.specs.Packing.{packed_length, code_at, codes_from, first_foreign}
use Rattle.matrices.specs.QuadraticSystems.{pairs_before, pair_at, coefficient}
use Rattle.keys.specs.Shapes.{layer_codes, secret_codes, public_codes}
use Rattle.keys.specs.Heads.{shape_of}
use Rattle.maps.specs.Verdicts.{Valid}
use Rattle.maps.specs.SecretKeys.{block, outer_mask, inner_mask, terms_before, term_place, central_place, central}
use Rattle.maps.specs.PublicKeys.{public_entry, Published}
use Rattle.maps.specs.Worked.{public_key31, secret_key31, WorkedCases}

abbrev digest31 : List ℕ
digest31 = 10 ∷ 4 ∷ []

abbrev signature31 : List ℕ
signature31 = 12 ∷ 24 ∷ 2 ∷ []

abbrev equal31 : ℕ → Bool
equal31 e = eqb (form_at (modular 31) 3 (coefficient 31 (drop 4 public_key31) 3 2 e) (code_at 31 signature31)) (code_at 31 digest31 e)

valid31 : Valid (modular 31) public_key31 digest31 signature31
unfolding code_at pairs_before pair_at coefficient
valid31 e h = eqb-true _ _ (everywhere equal31 2 refl e h)

-- the entries of the public key, one test for each equation and pair
abbrev entry31 : ℕ → ℕ → ℕ → Bool
entry31 e i j = not (leb i j) || eqb (code_at 31 (drop 4 public_key31) (pair_at 3 i j * 2 + e)) (public_entry (modular 31) (drop 4 secret_key31) (shape_of secret_key31) e i j)

all31 : all_below (λ e. all_below (λ i. all_below (entry31 e i) 3) 3) 2 ≡ true
unfolding code_at pairs_before pair_at public_entry public_form folded pulled product transposed outer_mask inner_mask mask_s mask_t second_of block central central_place term_place terms_before layer_codes
all31 = refl

public31 : Published (modular 31) secret_key31 public_key31
unfolding code_at pairs_before public_codes
public31 = record {
  head = refl;
  run = record {
    entries = λ e i j he hij hj.
        let hi : i < 3 = omega arith in
        let t = everywhere (entry31 e i) 3 (everywhere (λ x. all_below (entry31 e x) 3) 3 (everywhere (λ y. all_below (λ x. all_below (entry31 y x) 3) 3) 2 all31 e he) i hi) j hj in
        eqb-true _ _ (found (leb i j) _ (le-leb i j hij) t);
    over = refl;
  };
}
  where
    found : (a b : Bool) → a ≡ true → (not a || b) ≡ true → b ≡ true
    found true b e h = h
    found false b e h = absurd (false≢true e)

pub worked : WorkedCases
unfolding packed_length code_at codes_from first_foreign pairs_before layer_codes secret_codes public_codes
worked = record {
  product31 = refl;
  tower = tower_cases;
  half_zero = refl;
  half_one = refl;
  public31 = public31;
  verdict31 = (refl, ((λ _. valid31), (λ _. refl)));
  ia = record { secret_is = refl; public_is = refl; signature_is = refl; digest_is = refl };
  iiic = record { secret_is = refl; public_is = refl; signature_is = refl; digest_is = refl };
  vc = record { secret_is = refl; public_is = refl; signature_is = refl; digest_is = refl };
  k31 = record { secret_is = refl; public_is = refl; signature_is = refl; digest_is = refl };
}
