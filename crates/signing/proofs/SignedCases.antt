-- The worked cases, computed. Assumes nothing.
use Rattle.std.proofs.Common.{◌≡◌, ℕ, ◌<◌, true, eqb, ltb, [], ◌∷◌, refl, subst, arith, lit<, lit≤, ltb-true, eqb-true}
use Rattle.algebra.specs.Rings.{Ring}
use Rattle.algebra.specs.Modular.{modular}
use Rattle.algebra.specs.Tower.{gf16}
use Rattle.algebra.specs.Sums.{dot_of}
use Rattle.algebra.specs.Matrices.{applied}
use Rattle.algebra.specs.Masks.{mask_s, mask_t, negated, second_of}
use Rattle.algebra.specs.Systems.{Vector, FirstDependent}
use Rattle.algebra.specs.Layers.{layer_entry, layer_constant}
use Rattle.algebra.proofs.Everywhere.{all_below, everywhere}
use Rattle.fields.specs.Packing.{code_at, packed}
use Rattle.matrices.specs.QuadraticSystems.{pairs_before, pair_at}
use Rattle.keys.specs.Shapes.{layer_codes}
use Rattle.maps.specs.SecretKeys.{block, outer_mask, inner_mask, outer_inverse, terms_before, term_place, central_place, central}
use Rattle.maps.specs.Worked.{secret_key31}
use Rattle.maps.proofs.Cases.{worked}
use Rattle.signing.specs.Signatures.{IsSignature}
use Rattle.signing.specs.Worked.{vector_of, secret_key16, FirstFaulty, SecondFaulty, SignedCases}

-- n codes, and two vectors that are equal at n places, by computed tests
coded : (R : Ring) (n : ℕ) (x : ℕ → ℕ) → all_below (λ i. ltb (x i) R.q) n ≡ true → Vector R n x
coded R n x e i h = ltb-true _ _ (everywhere (λ i. ltb (x i) R.q) n e i h)

same : (n : ℕ) (x y : ℕ → ℕ) → all_below (λ i. eqb (x i) (y i)) n ≡ true → (i : ℕ) → i < n → x i ≡ y i
same n x y e i h = eqb-true _ _ (everywhere (λ i. eqb (x i) (y i)) n e i h)

-- A system of one equation whose entry is 0 is dependent in column 1.
one_column : (R : Ring) (A : ℕ → ℕ → ℕ) → 1 < R.q → dot_of R 1 (A 0) (λ _. 1) ≡ 0 → FirstDependent R 1 A 1
one_column R A h e = record {
  low = lit≤ tt;
  high = lit≤ tt;
  vector = λ _. 1;
  codes = λ _ _. h;
  some = (0, (lit< tt, (λ z. omega (arith, z))));
  past = λ j c n. absurd (omega arith);
  annuls = λ i n. let z : 0 ≡ i = omega arith in subst (λ k. dot_of R 1 (A k) (λ _. 1) ≡ 0) z e;
  first = λ d n x c z a j m. z j (omega arith) m;
}

signed31 : IsSignature (modular 31) secret_key31 (vector_of (1 ∷ [])) (vector_of (10 ∷ 4 ∷ [])) (vector_of (12 ∷ 24 ∷ 2 ∷ []))
unfolding code_at pairs_before pair_at applied outer_mask inner_mask mask_s mask_t second_of block central central_place term_place terms_before layer_codes
signed31 = record { codes = coded (modular 31) 3 _ refl; begins = same 1 _ _ refl; value = same 2 _ _ refl }

signed16 : IsSignature gf16 secret_key16 (vector_of (1 ∷ [])) (code_at 16 (67 ∷ [])) (code_at 16 (159 ∷ 10 ∷ []))
unfolding code_at pairs_before pair_at applied outer_mask inner_mask mask_s mask_t second_of block central central_place term_place terms_before layer_codes
signed16 = record { codes = coded gf16 3 _ refl; begins = same 1 _ _ refl; value = same 2 _ _ refl }

first31 : FirstFaulty (modular 31) secret_key31 (vector_of (0 ∷ [])) 1
unfolding code_at pairs_before pair_at layer_entry central central_place term_place terms_before layer_codes
first31 = one_column (modular 31) _ (lit< tt) refl

second31 : SecondFaulty (modular 31) secret_key31 (vector_of (1 ∷ [])) (vector_of (8 ∷ 4 ∷ [])) 1
unfolding code_at pairs_before pair_at applied outer_inverse mask_s negated block layer_entry layer_constant central central_place term_place terms_before layer_codes
second31 = record {
  point = vector_of (1 ∷ 30 ∷ []);
  halfway = record { codes = coded (modular 31) 2 _ refl; begins = same 1 _ _ refl; solves = same 1 _ _ refl };
  dependent = one_column (modular 31) _ (lit< tt) refl;
}

pub signed_cases : SignedCases
unfolding code_at packed
signed_cases = record {
  maps = worked;
  signed31 = signed31;
  bytes31 = refl;
  first31 = first31;
  second31 = second31;
  signed16 = signed16;
  bytes16 = refl;
}
