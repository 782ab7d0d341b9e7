-- A ring from functions that keep the laws on codes only. Assumes nothing.
use Rattle.std.proofs.Common.{◌≡◌, ℕ, ◌<◌, ◌≤◌, Bool, true, false, cond, ltb, ◌⊎◌, Option, sym, refl, ap, ◌∙◌, subst, ap₂, inl, inr, arith, le-ltb, lt-ltb}
use Rattle.std.proofs.lemmas.Bool.Decides.{leb_tells}
use Rattle.algebra.specs.Rings.{Ring, RingLaws, IsInverse, on_code, on_codes, ring_of}

-- The laws, asked of codes only.
pub record CodeLaws (q : ℕ) (f : ℕ → ℕ → ℕ) (n : ℕ → ℕ) (m : ℕ → ℕ → ℕ) : Type 0 where
  pub q_low : 2 ≤ q
  pub q_high : q ≤ 256
  pub add_code : (a b : ℕ) → a < q → b < q → f a b < q
  pub neg_code : (a : ℕ) → a < q → n a < q
  pub mul_code : (a b : ℕ) → a < q → b < q → m a b < q
  pub add_comm : (a b : ℕ) → a < q → b < q → f a b ≡ f b a
  pub mul_comm : (a b : ℕ) → a < q → b < q → m a b ≡ m b a
  pub add_assoc : (a b c : ℕ) → a < q → b < q → c < q → f (f a b) c ≡ f a (f b c)
  pub mul_assoc : (a b c : ℕ) → a < q → b < q → c < q → m (m a b) c ≡ m a (m b c)
  pub mul_add : (a b c : ℕ) → a < q → b < q → c < q → m a (f b c) ≡ f (m a b) (m a c)
  pub add_zero : (a : ℕ) → a < q → f a 0 ≡ a
  pub mul_one : (a : ℕ) → a < q → m a 1 ≡ a
  pub add_neg : (a : ℕ) → a < q → f a (n a) ≡ 0

pub one_in : (q : ℕ) (f : ℕ → ℕ) (a : ℕ) → a < q → on_code q f a ≡ f a
one_in q f a h = ap (λ (t : Bool). cond t (f a) 0) (lt-ltb a q h)

pub one_out : (q : ℕ) (f : ℕ → ℕ) (a : ℕ) → q ≤ a → on_code q f a ≡ 0
one_out q f a h = ap (λ (t : Bool). cond t (f a) 0) (le-ltb a q h)

pub two_in : (q : ℕ) (f : ℕ → ℕ → ℕ) (a b : ℕ) → a < q → b < q → on_codes q f a b ≡ f a b
two_in q f a b h k =
    ap (λ (t : Bool). cond t (cond (ltb b q) (f a b) 0) 0) (lt-ltb a q h) ∙ ap (λ (t : Bool). cond t (f a b) 0) (lt-ltb b q k)

pub two_left : (q : ℕ) (f : ℕ → ℕ → ℕ) (a b : ℕ) → q ≤ a → on_codes q f a b ≡ 0
two_left q f a b h = ap (λ (t : Bool). cond t (cond (ltb b q) (f a b) 0) 0) (le-ltb a q h)

zero_either : (t : Bool) → ◌≡◌ {A = ℕ} (cond t 0 0) 0
zero_either true = refl
zero_either false = refl

pub two_right : (q : ℕ) (f : ℕ → ℕ → ℕ) (a b : ℕ) → q ≤ b → on_codes q f a b ≡ 0
two_right q f a b h = ap (λ (t : Bool). cond (ltb a q) (cond t (f a b) 0) 0) (le-ltb b q h) ∙ zero_either (ltb a q)

-- is a a code?
pub code? : (a q : ℕ) → (a < q) ⊎ (q ≤ a)
code? a q = elim (leb_tells (Prim.Native.Nat.suc a) q) [ inl p ↦ inl p.1 | inr p ↦ inr (omega arith) ]

module _ (q : ℕ) (f : ℕ → ℕ → ℕ) (low : 2 ≤ q) where
  two_code : ((a b : ℕ) → a < q → b < q → f a b < q) → (a b : ℕ) → on_codes q f a b < q
  two_code k a b =
      elim (code? a q) [
        | inr h ↦ let e = two_left q f a b h in omega arith
        | inl h ↦ elim (code? b q) [
          | inr j ↦ let e = two_right q f a b j in omega arith
          | inl j ↦ let e = two_in q f a b h j in let z = k a b h j in omega arith
        ]
      ]

  two_comm : ((a b : ℕ) → a < q → b < q → f a b ≡ f b a) → (a b : ℕ) → on_codes q f a b ≡ on_codes q f b a
  two_comm k a b =
      elim (code? a q) [
        | inr h ↦ two_left q f a b h ∙ sym (two_right q f b a h)
        | inl h ↦ elim (code? b q) [
          | inr j ↦ two_right q f a b j ∙ sym (two_left q f b a j)
          | inl j ↦ two_in q f a b h j ∙ k a b h j ∙ sym (two_in q f b a j h)
        ]
      ]

one_code : (q : ℕ) (n : ℕ → ℕ) → 2 ≤ q → ((a : ℕ) → a < q → n a < q) → (a : ℕ) → on_code q n a < q
one_code q n low k a =
    elim (code? a q) [
      | inr h ↦ let e = one_out q n a h in omega arith
      | inl h ↦ let e = one_in q n a h in let z = k a h in omega arith
    ]

module _ (q : ℕ) (f : ℕ → ℕ → ℕ) (n : ℕ → ℕ) (m : ℕ → ℕ → ℕ) (L : CodeLaws q f n m) where
  pub ring_laws : RingLaws (ring_of q f n m)
  ring_laws = record {
    q_low = L.q_low;
    q_high = L.q_high;
    add_code = two_code q f L.q_low L.add_code;
    neg_code = one_code q n L.q_low L.neg_code;
    mul_code = two_code q m L.q_low L.mul_code;
    add_foreign = λ a b h. two_left q f a b h;
    neg_foreign = λ a h. one_out q n a h;
    mul_foreign = λ a b h. two_left q m a b h;
    add_comm = two_comm q f L.q_low L.add_comm;
    mul_comm = two_comm q m L.q_low L.mul_comm;
    add_assoc = λ a b c ha hb hc.
        let ab = L.add_code a b ha hb in
        let bc = L.add_code b c hb hc in
        ap (λ t. on_codes q f t c) (two_in q f a b ha hb) ∙ two_in q f (f a b) c ab hc ∙ L.add_assoc a b c ha hb hc
        ∙ sym (ap (on_codes q f a) (two_in q f b c hb hc) ∙ two_in q f a (f b c) ha bc);
    mul_assoc = λ a b c ha hb hc.
        let ab = L.mul_code a b ha hb in
        let bc = L.mul_code b c hb hc in
        ap (λ t. on_codes q m t c) (two_in q m a b ha hb) ∙ two_in q m (m a b) c ab hc ∙ L.mul_assoc a b c ha hb hc
        ∙ sym (ap (on_codes q m a) (two_in q m b c hb hc) ∙ two_in q m a (m b c) ha bc);
    mul_add = λ a b c ha hb hc.
        let bc = L.add_code b c hb hc in
        let ab = L.mul_code a b ha hb in
        let ac = L.mul_code a c ha hc in
        ap (on_codes q m a) (two_in q f b c hb hc) ∙ two_in q m a (f b c) ha bc ∙ L.mul_add a b c ha hb hc
        ∙ sym (ap₂ (on_codes q f) (two_in q m a b ha hb) (two_in q m a c ha hc) ∙ two_in q f (m a b) (m a c) ab ac);
    add_zero = λ a h. let low = L.q_low in two_in q f a 0 h (omega arith) ∙ L.add_zero a h;
    mul_one = λ a h. let low = L.q_low in two_in q m a 1 h (omega arith) ∙ L.mul_one a h;
    add_neg = λ a h. ap (on_codes q f a) (one_in q n a h) ∙ two_in q f a (n a) h (L.neg_code a h) ∙ L.add_neg a h;
  }

-- both promises of inverse, from the first and the law
pub kept : (R : Ring) (inv : ℕ → Option ℕ) → ((a : ℕ) → IsInverse R a (inv a)) → (a : ℕ) (r : Option ℕ) → r ≡ inv a → (r ≡ inv a) × IsInverse R a r
kept R inv I a r e = (e, subst (λ (t : Option ℕ). IsInverse R a t) (sym e) (I a))
