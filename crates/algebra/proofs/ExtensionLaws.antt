-- The quadratic extension of a ring is a ring, and of a field, where t t = t + c has no root, a field. Assumes nothing.
use Rattle.std.proofs.Common.{◌≡◌, ℕ, suc, ◌+◌, ◌*◌, ◌/◌, ◌%◌, ◌<◌, Bool, cond, ◌⊎◌, Some, None, Option, sym, refl, ap, ◌∙◌, subst, ap₂, inl, inr, mod-lt, mod-eq_of_lt, div-lt_iff_lt-mul, mul-le-mul_left, mul-zero, zero-add, mul-one, mul-add, arith, le-ltb, lt-ltb}
use native.Mathlib.Nat.{mod-add-div, div-eq_of_lt, add-mul-div_left, add-mul-mod_self_left}
use Rattle.std.proofs.lemmas.Bool.Decides.{eqb_tells}
use Rattle.algebra.specs.Commutative.{Commutative}
use Rattle.algebra.specs.Rings.{Ring, RingLaws, IsInverse}
use Rattle.algebra.specs.Extension.{Extends, join, add_pairs, neg_pairs, low_product, high_product, mul_pairs, extension, norm_of, over_norm, inverse_over}
use Rattle.algebra.proofs.Pairs as pairs
use Rattle.algebra.proofs.Codes.{Code, codes, same, nil_code, one_code}
use Rattle.algebra.proofs.Guarded.{CodeLaws, ring_laws, two_in, kept}

-- the two parts of a code, its digits of base q
module _ (q : ℕ) (pos : 0 < q) where
  pub join_code : (l h : ℕ) → l < q → h < q → join q l h < q * q
  join_code l h a b =
      let m = mul-le-mul_left q b in
      let e = mul-add q h 1 in
      let k = mul-one q in
      let s : q * suc h ≡ q * (h + 1) = ap (λ t. q * t) (omega arith) in
      omega arith

  join_low : (l h : ℕ) → l < q → join q l h % q ≡ l
  join_low l h a = add-mul-mod_self_left l q h ∙ mod-eq_of_lt a

  join_high : (l h : ℕ) → l < q → join q l h / q ≡ h
  join_high l h a = add-mul-div_left l h pos ∙ ap (λ t. t + h) (div-eq_of_lt a) ∙ zero-add h

  -- a function of the parts of what was joined
  of_joined : (f : ℕ → ℕ → ℕ) (l h : ℕ) → l < q → f (join q l h % q) (join q l h / q) ≡ f l h
  of_joined f l h a = ap₂ f (join_low l h a) (join_high l h a)

  -- and of the parts of a code from below
  of_low : (f : ℕ → ℕ → ℕ) (a : ℕ) → a < q → f (a % q) (a / q) ≡ f a 0
  of_low f a h = ap₂ f (mod-eq_of_lt h) (div-eq_of_lt h)

  high_code : (a : ℕ) → a < q * q → a / q < q
  high_code a h = (div-lt_iff_lt-mul pos).1 h

module _ (R : Ring) (L : RingLaws R) (c : ℕ) (D : Extends R c) where
  abbrev q : ℕ
  q = R.q

  pos : 0 < q
  pos = nil_code R L

  abbrev lo : ℕ → Code R
  lo a = (a % q, mod-lt a pos)

  abbrev hi : (a : ℕ) → a < q * q → Code R
  hi a h = (a / q, high_code q pos a h)

  abbrev S : Commutative (Code R)
  S = codes R L

  abbrev c' : Code R
  c' = (c, D.code)

  -- equal codes, as numbers
  number : {x y : Code R} → x ≡ y → x.0 ≡ y.0
  number e = ap (λ t. t.0) e

  -- the code of the sum, and of the product, of l + h e and m + k e
  abbrev plus : ℕ → ℕ → ℕ → ℕ → ℕ
  plus l h m k = join q (R.add l m) (R.add h k)

  abbrev times : ℕ → ℕ → ℕ → ℕ → ℕ
  times l h m k = join q (low_product R c l h m k) (high_product R l h m k)

  code_laws : CodeLaws (q * q) (add_pairs R) (neg_pairs R) (mul_pairs R c)
  code_laws = record {
    q_low = let h = L.q_low in let m = mul-le-mul_left q L.q_low in omega arith;
    q_high = let h = D.small in let m = mul-le-mul_left q D.small in omega arith;
    add_code = λ a b ha hb. join_code q pos _ _ (L.add_code _ _) (L.add_code _ _);
    neg_code = λ a ha. join_code q pos _ _ (L.neg_code _) (L.neg_code _);
    mul_code = λ a b ha hb. join_code q pos _ _ (L.add_code _ _) (L.add_code _ _);
    add_comm = λ a b ha hb. ap₂ (join q) (L.add_comm _ _) (L.add_comm _ _);
    mul_comm = λ a b ha hb.
        ap₂ (join q) (number (pairs.low_comm S c' (lo a) (hi a ha) (lo b) (hi b hb))) (number (pairs.high_comm S c' (lo a) (hi a ha) (lo b) (hi b hb)));
    add_assoc = λ a b d ha hb hd.
        of_joined q pos (λ s t. plus s t (d % q) (d / q)) _ _ (L.add_code _ _)
        ∙ ap₂ (join q) (L.add_assoc _ _ _ (lo a).1 (lo b).1 (lo d).1) (L.add_assoc _ _ _ (hi a ha).1 (hi b hb).1 (hi d hd).1)
        ∙ sym (of_joined q pos (plus (a % q) (a / q)) _ _ (L.add_code _ _));
    mul_assoc = λ a b d ha hb hd.
        of_joined q pos (λ s t. times s t (d % q) (d / q)) _ _ (L.add_code _ _)
        ∙ ap₂ (join q) (number (pairs.low_assoc S c' (lo a) (hi a ha) (lo b) (hi b hb) (lo d) (hi d hd))) (number (pairs.high_assoc S c' (lo a) (hi a ha) (lo b) (hi b hb) (lo d) (hi d hd)))
        ∙ sym (of_joined q pos (times (a % q) (a / q)) _ _ (L.add_code _ _));
    mul_add = λ a b d ha hb hd.
        of_joined q pos (times (a % q) (a / q)) _ _ (L.add_code _ _)
        ∙ ap₂ (join q) (number (pairs.low_add S c' (lo a) (hi a ha) (lo b) (hi b hb) (lo d) (hi d hd))) (number (pairs.high_add S c' (lo a) (hi a ha) (lo b) (hi b hb) (lo d) (hi d hd)))
        ∙ sym (
        of_joined q pos (λ s t. plus s t (mul_pairs R c a d % q) (mul_pairs R c a d / q)) _ _ (L.add_code _ _)
        ∙ of_joined q pos (plus (low_product R c (a % q) (a / q) (b % q) (b / q)) (high_product R (a % q) (a / q) (b % q) (b / q))) _ _ (L.add_code _ _));
    add_zero = λ a ha.
        of_low q pos (plus (a % q) (a / q)) 0 pos
        ∙ ap₂ (join q) (L.add_zero _ (lo a).1) (L.add_zero _ (hi a ha).1) ∙ mod-add-div a q;
    mul_one = λ a ha.
        of_low q pos (times (a % q) (a / q)) 1 (one_code R L)
        ∙ ap₂ (join q) (number (pairs.low_one S c' (lo a) (hi a ha))) (number (pairs.high_one S c' (lo a) (hi a ha))) ∙ mod-add-div a q;
    add_neg = λ a ha.
        of_joined q pos (plus (a % q) (a / q)) _ _ (L.neg_code _)
        ∙ ap₂ (join q) (L.add_neg _ (lo a).1) (L.add_neg _ (hi a ha).1) ∙ ap (λ t. 0 + t) (mul-zero q);
  }

  pub extension_laws : RingLaws (extension R c)
  extension_laws = ring_laws (q * q) (add_pairs R) (neg_pairs R) (mul_pairs R c) code_laws

  -- the field
  module _ (inv : ℕ → Option ℕ) (I : (a : ℕ) → IsInverse R a (inv a)) where
    nil? : (a : Code R) → (a ≡ S.nil) ⊎ (a ≡ S.nil → ⊥)
    nil? a = elim (eqb_tells a.0 0) [ inl e ↦ inl (same R a S.nil e.1) | inr e ↦ inr (λ z. e.1 (number z)) ]

    inverse : (a : Code R) → (a ≡ S.nil → ⊥) → (b : Code R) × (S.mul a b ≡ S.one)
    inverse a ne =
        let w = (I a.0).some (λ z. ne (same R a S.nil z)) a.1 in
        ((w.0, w.2), same R _ _ w.3)

    rootless : (t : Code R) → S.mul t t ≡ S.add t c' → ⊥
    rootless t e = D.rootless t.0 t.1 (number e)

    abbrev norm : ℕ → ℕ
    norm a = norm_of R c (a % q) (a / q)

    norm_not : (a : ℕ) (h : a < q * q) → (a ≡ 0 → ⊥) → norm a ≡ 0 → ⊥
    norm_not a h ne e =
        let z = pairs.norm_nil S c' nil? inverse rootless (lo a) (hi a h) (same R _ _ e) in
        ne (sym (mod-add-div a q) ∙ ap₂ (join q) (number z.0) (number z.1) ∙ ap (λ t. 0 + t) (mul-zero q))

    norm_zero : norm 0 ≡ 0
    norm_zero = of_low q pos (norm_of R c) 0 pos ∙ number (pairs.norm_of_nil S c')

    on_code_lem : (a : ℕ) (h : a < q * q) (o : Option ℕ) → inv (norm a) ≡ o → inverse_over R inv c a ≡ over_norm R (a % q) (a / q) o
    on_code_lem a h o e =
        ap (λ (t : Bool). cond t (over_norm R (a % q) (a / q) (inv (norm a))) None) (lt-ltb a (q * q) h) ∙ ap (over_norm R (a % q) (a / q)) e

    some_inverse : (a : ℕ) → (a ≡ 0 → ⊥) → a < q * q → (b : ℕ) × (inverse_over R inv c a ≡ Some b) × (b < q * q) × ((extension R c).mul a b ≡ 1)
    some_inverse a ne h =
        let w = (I (norm a)).some (norm_not a h ne) (L.add_code _ _) in
        let n : Code R = (w.0, w.2) in
        let x : ℕ = R.mul (R.add (a % q) (a / q)) w.0 in
        let y : ℕ = R.mul (R.neg (a / q)) w.0 in
        let within : join q x y < q * q = join_code q pos x y (L.mul_code _ _) (L.mul_code _ _) in
        let good = same R (S.mul (pairs.norm S c' (lo a) (hi a h)) n) S.one w.3 in (
          join q x y,
          on_code_lem a h (Some w.0) w.1,
          within,
          two_in (q * q) (mul_pairs R c) a (join q x y) h within
              ∙ of_joined q pos (times (a % q) (a / q)) x y (L.mul_code _ _)
              ∙ ap₂ (join q) (number (pairs.low_inverse S c' (lo a) (hi a h) n good)) (number (pairs.high_inverse S c' (lo a) (hi a h) n))
              ∙ ap (λ t. 1 + t) (mul-zero q),
        )

    pub extension_inverse : (a : ℕ) → IsInverse (extension R c) a (inverse_over R inv c a)
    extension_inverse a = record {
      none_zero = λ e.
          subst (λ (t : ℕ). inverse_over R inv c t ≡ None) (sym e)
          (on_code_lem 0 (let k = L.q_low in let m = mul-le-mul_left q k in omega arith) None (ap inv norm_zero ∙ (I 0).none_zero refl));
      none_foreign = λ h. ap (λ (t : Bool). cond t (over_norm R (a % q) (a / q) (inv (norm a))) None) (le-ltb a (q * q) h);
      some = some_inverse a;
    }

    -- what stands over the norm's inverse is the inverse
    pub inverted : (a : ℕ) → a < q * q → (o : Option ℕ) → inv (norm a) ≡ o → (r : Option ℕ) → r ≡ over_norm R (a % q) (a / q) o → (r ≡ inverse_over R inv c a) × IsInverse (extension R c) a r
    inverted a h o e r f = kept (extension R c) (inverse_over R inv c) extension_inverse a r (f ∙ sym (on_code_lem a h o e))
