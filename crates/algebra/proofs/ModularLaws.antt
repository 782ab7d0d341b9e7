-- The integers modulo m keep the laws of a ring, and modulo 31 those of a field. Assumes nothing.
use Rattle.std.proofs.Common.{◌≡◌, ℕ, ◌+◌, ◌-◌, ◌*◌, ◌/◌, ◌%◌, ◌<◌, ◌≤◌, Bool, true, cond, ◌&&◌, ◌||◌, eqb, ltb, get_or, Some, None, sym, refl, ap, ◌∙◌, subst, add-zero, add_assoc, mod-lt, mod-eq_of_lt, mul_assoc, mul_comm, add-mul, add_comm, mul-one, mul-add, arith}
use native.Mathlib.Nat.{mod-add-div, mod_self, add-mul-mod_self_left, mod-add-mod, add-mod-mod, add-mod}
use Rattle.std.proofs.lemmas.Bool.Decides.{nat_tests}
use Rattle.algebra.specs.Rings.{RingLaws, IsInverse}
use Rattle.algebra.specs.Modular.{modular, inverses31, inverse31}
use Rattle.algebra.proofs.Everywhere.{everywhere}
use Rattle.algebra.proofs.Guarded.{CodeLaws, ring_laws, two_in}

mod_mul : (x c m : ℕ) → (x % m) * c % m ≡ x * c % m
mod_mul x c m =
    sym (
    ap (λ t. t * c % m) (sym (mod-add-div x m)) ∙ ap (λ t. t % m) (add-mul (x % m) (m * (x / m)) c ∙ ap (λ t. (x % m) * c + t) (mul_assoc m (x / m) c))
    ∙ add-mul-mod_self_left ((x % m) * c) m (x / m * c))

mul_mod : (x c m : ℕ) → c * (x % m) % m ≡ c * x % m
mul_mod x c m = ap (λ t. t % m) (mul_comm c (x % m)) ∙ mod_mul x c m ∙ ap (λ t. t % m) (mul_comm x c)

module _ (m : ℕ) (low : 2 ≤ m) (high : m ≤ 256) where
  pos : 0 < m
  pos = omega arith

  code_laws : CodeLaws m (λ a b. (a + b) % m) (λ a. (m - a) % m) (λ a b. a * b % m)
  code_laws = record {
    q_low = low;
    q_high = high;
    add_code = λ a b ha hb. mod-lt (a + b) pos;
    neg_code = λ a ha. mod-lt (m - a) pos;
    mul_code = λ a b ha hb. mod-lt (a * b) pos;
    add_comm = λ a b ha hb. ap (λ t. t % m) (add_comm a b);
    mul_comm = λ a b ha hb. ap (λ t. t % m) (mul_comm a b);
    add_assoc = λ a b c ha hb hc. mod-add-mod (a + b) m c ∙ ap (λ t. t % m) (add_assoc a b c) ∙ sym (add-mod-mod a (b + c) m);
    mul_assoc = λ a b c ha hb hc. mod_mul (a * b) c m ∙ ap (λ t. t % m) (mul_assoc a b c) ∙ sym (mul_mod (b * c) a m);
    mul_add = λ a b c ha hb hc. mul_mod (b + c) a m ∙ ap (λ t. t % m) (mul-add a b c) ∙ add-mod (a * b) (a * c) m;
    add_zero = λ a ha. ap (λ t. t % m) (add-zero a) ∙ mod-eq_of_lt ha;
    mul_one = λ a ha. ap (λ t. t % m) (mul-one a) ∙ mod-eq_of_lt ha;
    add_neg = λ a ha. let e : a + (m - a) ≡ m = omega arith in add-mod-mod a (m - a) m ∙ ap (λ t. t % m) e ∙ mod_self m;
  }

  pub modular_laws : RingLaws (modular m)
  modular_laws = ring_laws m (λ a b. (a + b) % m) (λ a. (m - a) % m) (λ a b. a * b % m) code_laws

-- the table's rule: each entry but the first is a code whose product with its place is 1
abbrev right31 : ℕ → Bool
right31 k = eqb k 0 || (ltb (get_or inverses31 k 0) 31 && eqb (k * get_or inverses31 k 0 % 31) 1)

table : (k : ℕ) → k < 31 → right31 k ≡ true
table k h = everywhere right31 31 refl k h

split : (k v w : ℕ) → (k ≡ 0 → ⊥) → (eqb k 0 || (ltb v 31 && eqb w 1)) ≡ true → (v < 31) × (w ≡ 1)
split k v w ne e = grind (arith, nat_tests)

no_code : (k v : ℕ) → 31 ≤ k → cond (ltb 0 k) (cond (ltb k 31) (Some v) None) None ≡ None
no_code k v h = grind (arith, nat_tests)

pub a_code : (k v : ℕ) → (k ≡ 0 → ⊥) → k < 31 → cond (ltb 0 k) (cond (ltb k 31) (Some v) None) None ≡ Some v
a_code k v ne h = grind (arith, nat_tests)

pub inverse31_right : (a : ℕ) → IsInverse (modular 31) a (inverse31 a)
inverse31_right a = record {
  none_zero = λ e. subst (λ (t : ℕ). inverse31 t ≡ None) (sym e) refl;
  none_foreign = λ h. no_code a (get_or inverses31 a 0) h;
  some = λ ne h.
      let s = split a (get_or inverses31 a 0) (a * get_or inverses31 a 0 % 31) ne (table a h) in
      (get_or inverses31 a 0, a_code a (get_or inverses31 a 0) ne h, s.0, two_in 31 (λ x y. x * y % 31) a (get_or inverses31 a 0) h s.0 ∙ s.1);
}
