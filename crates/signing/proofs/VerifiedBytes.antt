-- What verify says to signatures as bytes. Assumes nothing.
use Rattle.std.proofs.Common.{◌≡◌, ℕ, zero, suc, ◌+◌, ◌-◌, ◌*◌, ◌<◌, ◌≤◌, true, not, eqb, ◌≢◌, List, map, length, get_or, drop, Some, None, Option, sym, refl, ap, ◌∙◌, subst, suc-mul, zero-add, arith}
use native.Mathlib.Decide.{dec_lt, ℕ_discrete}
use Rattle.std.specs.List.{range_with_len, AllByRecursion}
use Rattle.std.specs.Option.{option_map}
use Rattle.std.proofs.lemmas.Bool.{eq-eqb, eqb-true, le-ltb, not-false}
use Rattle.std.proofs.lemmas.List.FromFn.{length-map-range_with_len, get_or-map-range_with_len}
use Rattle.std.proofs.ByRecursion.{All-map}
use Rattle.algebra.specs.Rings.{Ring, RingLaws, IsInverse}
use Rattle.algebra.specs.Matrices.{public_form}
use Rattle.algebra.proofs.Codes.{sum_code}
use Rattle.algebra.proofs.Layers.{applied_code}
use Rattle.fields.specs.Packing.{packed_length, code_at, or_else, first_foreign}
use Rattle.fields.proofs.Runs.{none_foreign, foreign_found, length_packed, code_back}
use Rattle.matrices.specs.QuadraticSystems.{pairs_before, pairs, pair_at}
use Rattle.keys.specs.declared.shapes.Shape.{Shape}
use Rattle.keys.specs.declared.refusals.Refusal.TheVariants.{ShortHead, OtherField, OddShape, WrongLength, ForeignCode}
use Rattle.keys.specs.declared.refusals.Buffer.TheVariants.{Key, PublicKey, Digest, Signature}
use Rattle.keys.specs.declared.refusals.Buffer.{Buffer}
use Rattle.keys.specs.Shapes.{variables, equations, public_codes, within}
use Rattle.keys.specs.Refusals.{Told, told, test, first}
use Rattle.keys.specs.Heads.{shape_of, key_length}
use Rattle.keys.proofs.Orders.{some_none, test_none, all_none}
use Rattle.maps.specs.PublicKeys.{public_entry, Published, public_tests}
use Rattle.maps.specs.Verdicts.{verify_tests}
use Rattle.maps.proofs.Composition.{byte_same, shape_same, valid_means_lem}
use Rattle.signing.specs.Starts.{packed_vector}
use Rattle.signing.specs.Signatures.{IsSignature, EachVerifies, NoOther}
use Rattle.signing.proofs.SignatureLaws.{signs_ext, public_value_lem, no_second}

infixr 5 ◌then◌
-- where no foreign code is found, the first m are codes
known : (q : ℕ) (f : ℕ → ℕ) (n m : ℕ) → first_foreign q f n ≡ None → m ≤ n → (k : ℕ) → k < m → f k < q
known q f n zero e l k h = absurd (omega arith)
known q f n (suc m) e l k h =
    let before = known q f n m e (omega arith) in
    elim (dec_lt (f m) q) [
      | yes g ↦ elim (ℕ_discrete k m) [ yes p ↦ subst (λ t. f t < q) (sym p) g | no p ↦ let ne : k ≢ m = p in before k (omega arith) ]
      | no g ↦ let found = foreign_found q f m n (none_foreign q f m before) (omega arith) l in let z : ◌≡◌ {A = ℕ} 0 1 = cc in absurd (omega arith)
    ]

-- the tests of a buffer's length and codes
fits_none : (b : Buffer) (m n : ℕ) → m ≡ n → test (not (eqb m n)) (WrongLength b) ≡ None
fits_none b m n e = ap (λ t. test (not t) (WrongLength b)) (eq-eqb m n e)

codes_none : (q : ℕ) (b : Buffer) (f : ℕ → ℕ) (n : ℕ) → ((k : ℕ) → k < n → f k < q) → option_map (λ place. told (ForeignCode b place)) (first_foreign q f n) ≡ None
codes_none q b f n h = ap (option_map (λ place. told (ForeignCode b place))) (none_foreign q f n h)

none_mapped : (f : ℕ → Told) (o : Option ℕ) → option_map f o ≡ None → o ≡ None
none_mapped f None e = refl
none_mapped f (Some x) e = absurd (some_none (f x) e)

-- two tests that give nothing
◌then◌ : {t u : Option Told} → t ≡ None → u ≡ None → or_else t u ≡ None
◌then◌ {t} {u} a b = ap (λ (x : Option Told). or_else x u) a ∙ b

-- what verify tests, for a key of shape s
record Passed (q : ℕ) (s : Shape) (key digest bytes : List ℕ) : Type 0 where
  size : get_or key 0 0 + 1 ≡ q
  shape : within s ≡ true
  key_len : length key ≡ key_length 4 q (public_codes s)
  digest_len : length digest ≡ packed_length q (equations s)
  bytes_len : length bytes ≡ packed_length q (variables s)
  key_codes : (k : ℕ) → k < public_codes s → code_at q (drop 4 key) k < q
  digest_codes : (k : ℕ) → k < equations s → code_at q digest k < q
  bytes_codes : (k : ℕ) → k < variables s → code_at q bytes k < q

passed_none : (q : ℕ) (key digest bytes : List ℕ) → Passed q (shape_of key) key digest bytes → first (verify_tests q key digest bytes) ≡ None
passed_none q key digest bytes P =
    ap (λ b. test b ShortHead) (le-ltb (length key) 4 (let e = P.key_len in omega arith))
    then ap (λ b. test (not b) OtherField) (eq-eqb _ _ P.size)
    then ap (λ b. test (not b) OddShape) P.shape
    then fits_none Key _ _ P.key_len
    then fits_none Digest _ _ (P.digest_len ∙ sym (zero-add _))
    then fits_none Signature _ _ (P.bytes_len ∙ sym (zero-add _))
    then codes_none q Key _ _ P.key_codes
    then codes_none q Digest _ _ P.digest_codes
    then codes_none q Signature _ _ P.bytes_codes
    then refl

-- every place of P rows of m
row_places : (P m : ℕ) (Q : ℕ → Type 0) → ((p e : ℕ) → p < P → e < m → Q (p * m + e)) → (k : ℕ) → k < P * m → Q k
row_places zero m Q h k l = absurd (omega arith)
row_places (suc P) m Q h k l =
    elim (dec_lt k (P * m)) [
      | yes g ↦ row_places P m Q (λ p e a b. h p e (omega arith) b) k g
      | no g ↦
          let s = suc-mul P m in
          let e : P * m + (k - P * m) ≡ k = omega arith in
          subst Q e (h P (k - P * m) (omega arith) (omega arith))
    ]

-- every place of the pairs i ≤ j below n in the first r rows
pair_places : (n r : ℕ) (Q : ℕ → Type 0) → ((i j : ℕ) → i ≤ j → j < n → Q (pair_at n i j)) → r ≤ n → (p : ℕ) → p < pairs_before n r → Q p
unfolding pairs_before pair_at
pair_places n zero Q h b p l = absurd (omega arith)
pair_places n (suc r) Q h b p l =
    elim (dec_lt p (pairs_before n r)) [
      | yes g ↦ pair_places n r Q h (omega arith) p g
      | no g ↦
          let j = r + (p - pairs_before n r) in
          let e : pairs_before n r + (j - r) ≡ p = omega arith in
          subst Q e (h r j (omega arith) (omega arith))
    ]

-- a vector's bytes
all_counting : (P : ℕ → Type 0) (a n : ℕ) → ((i : ℕ) → a ≤ i → i < a + n → P i) → AllByRecursion P (range_with_len a n)
all_counting P a zero h = tt
all_counting P a (suc n) h = (h a (omega arith) (omega arith), all_counting P (a + 1) n (λ i l g. h i (omega arith) (omega arith)))

pub vector_code : (q n : ℕ) (z : ℕ → ℕ) → ((i : ℕ) → i < n → z i < q) → (i : ℕ) → i < n → code_at q (packed_vector q n z) i ≡ z i
vector_code q n z h i l =
    code_back q (map z (range_with_len 0 n)) (All-map (λ c. c < q) z (range_with_len 0 n) (all_counting (λ k. z k < q) 0 n (λ k a b. h k (omega arith)))) i (let e = length-map-range_with_len z 0 n in omega arith)
    ∙ get_or-map-range_with_len z 0 n i i 0 l (zero-add i)

pub vector_length : (q n : ℕ) (z : ℕ → ℕ) → length (packed_vector q n z) ≡ packed_length q n
vector_length q n z = length_packed q (map z (range_with_len 0 n)) ∙ ap (packed_length q) (length-map-range_with_len z 0 n)

module _ (R : Ring) (L : RingLaws R) where
  entry_code : (run : List ℕ) (s : Shape) (e i j : ℕ) → public_entry R run s e i j < R.q
  unfolding public_entry public_form
  entry_code run s e i j = sum_code R L (equations s) _

  -- all that a public key holds are codes
  public_codes_lem : (key public : List ℕ) → Published R key public → (k : ℕ) → k < public_codes (shape_of key) → code_at R.q (drop 4 public) k < R.q
  unfolding public_codes
  public_codes_lem key public P =
      let n = variables (shape_of key) in
      let m = equations (shape_of key) in
      row_places (pairs n) m (λ k. code_at R.q (drop 4 public) k < R.q) (λ p e lp le.
      pair_places n n (λ t. code_at R.q (drop 4 public) (t * m + e) < R.q) (λ i j h l. subst (λ c. c < R.q) (sym (P.run.entries e i j le h l)) (entry_code (drop 4 key) (shape_of key) e i j)) (omega arith) p lp)

  pub each_verifies_lem : EachVerifies R
  each_verifies_lem key old work public left digest w z M keep len Z =
      let s = shape_of key in
      let n = variables s in
      let q = R.q in
      let P = M.answer.1 in
      let e = shape_same R L key public P.head in
      let a = all_none (public_tests q key old work) M.answer.0 in
      let bytes = packed_vector q n z in
      let same = vector_code q n z Z.codes in
      let Y : IsSignature R key w (code_at q digest) (code_at q bytes) = signs_ext R s.v1 s.o1 s.o2 _ _ _ w (code_at q digest) z (code_at q bytes) same Z in
      record {
        value = λ f l. public_value_lem R L key public P z f l ∙ Z.value f l;
        yes = (
          passed_none q public digest bytes (subst (λ t. Passed q t public digest bytes) (sym e) (record {
            size = ap (λ b. b + 1) (byte_same R L key public P.head 0 (omega arith)) ∙ eqb-true _ _ (not-false _ (test_none _ OtherField a.1.0));
            shape = not-false _ (test_none _ OddShape a.1.1.0);
            key_len = keep ∙ eqb-true _ _ (not-false _ (test_none _ (WrongLength PublicKey) a.1.1.1.1.0));
            digest_len = len;
            bytes_len = vector_length q n z;
            key_codes = public_codes_lem key public P;
            digest_codes = λ f l. subst (λ c. c < q) (Z.value f l) (applied_code R L (equations s) _ _ f);
            bytes_codes = Y.codes;
          })),
          ((λ _. (valid_means_lem R L key public digest bytes P).1 Y.value), (λ _. refl)),
        );
      }

  module _ (inv : ℕ → Option ℕ) (I : (a : ℕ) → IsInverse R a (inv a)) where
    pub no_other : NoOther R
    no_other key old work public left digest bytes w z M h k Z V B =
        let P = M.answer.1 in
        let n = variables (shape_of public) in
        let a = all_none (verify_tests R.q public digest bytes) V.0 in
        let e = shape_same R L key public P.head in
        let codes = subst (λ t. (i : ℕ) → i < variables t → code_at R.q bytes i < R.q) e (known R.q (code_at R.q bytes) n n (none_mapped _ _ a.1.1.1.1.1.1.1.1.0) (omega arith)) in
        no_second R L inv I key w (code_at R.q digest) (code_at R.q bytes) z h k (record { codes = codes; begins = B; value = (valid_means_lem R L key public digest bytes P).0 (V.1.0 refl) }) Z
