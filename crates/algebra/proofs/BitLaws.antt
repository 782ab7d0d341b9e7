-- The two-element field keeps the laws: each is a test at its two, four or eight places. Assumes nothing.
use Rattle.std.proofs.Common.{◌≡◌, ℕ, ◌<◌, None, refl, arith}
use lib.Bits.{bit_xor, bit_and}
use Rattle.algebra.specs.Rings.{RingLaws, IsInverse}
use Rattle.std.proofs.lemmas.Bool.Decides.{nat_tests}
use Rattle.algebra.specs.Bits.{two_elements, bit_inverse}
use Rattle.algebra.proofs.Guarded.{CodeLaws, ring_laws}

two : (P : ℕ → Type 0) → P 0 → P 1 → (a : ℕ) → a < 2 → P a
two P z o Prim.Native.Nat.zero h = z
two P z o (Prim.Native.Nat.suc Prim.Native.Nat.zero) h = o
two P z o (Prim.Native.Nat.suc (Prim.Native.Nat.suc a)) h = absurd (omega arith)

bit_laws : CodeLaws 2 (λ a b. bit_xor a b) (λ a. a) (λ a b. bit_and a b)
bit_laws = record {
  q_low = omega arith;
  q_high = omega arith;
  add_code = λ a b ha hb. two (λ x. bit_xor x b < 2) (two (λ y. bit_xor 0 y < 2) (omega arith) (omega arith) b hb) (two (λ y. bit_xor 1 y < 2) (omega arith) (omega arith) b hb) a ha;
  neg_code = λ a h. h;
  mul_code = λ a b ha hb. two (λ x. bit_and x b < 2) (two (λ y. bit_and 0 y < 2) (omega arith) (omega arith) b hb) (two (λ y. bit_and 1 y < 2) (omega arith) (omega arith) b hb) a ha;
  add_comm = λ a b ha hb. two (λ x. bit_xor x b ≡ bit_xor b x) (two (λ y. bit_xor 0 y ≡ bit_xor y 0) refl refl b hb) (two (λ y. bit_xor 1 y ≡ bit_xor y 1) refl refl b hb) a ha;
  mul_comm = λ a b ha hb. two (λ x. bit_and x b ≡ bit_and b x) (two (λ y. bit_and 0 y ≡ bit_and y 0) refl refl b hb) (two (λ y. bit_and 1 y ≡ bit_and y 1) refl refl b hb) a ha;
  add_assoc = λ a b c ha hb hc. three (λ x y z. bit_xor (bit_xor x y) z ≡ bit_xor x (bit_xor y z)) refl refl refl refl refl refl refl refl a b c ha hb hc;
  mul_assoc = λ a b c ha hb hc. three (λ x y z. bit_and (bit_and x y) z ≡ bit_and x (bit_and y z)) refl refl refl refl refl refl refl refl a b c ha hb hc;
  mul_add = λ a b c ha hb hc. three (λ x y z. bit_and x (bit_xor y z) ≡ bit_xor (bit_and x y) (bit_and x z)) refl refl refl refl refl refl refl refl a b c ha hb hc;
  add_zero = λ a h. two (λ x. bit_xor x 0 ≡ x) refl refl a h;
  mul_one = λ a h. two (λ x. bit_and x 1 ≡ x) refl refl a h;
  add_neg = λ a h. two (λ x. bit_xor x x ≡ 0) refl refl a h;
}
  where
    three : (P : ℕ → ℕ → ℕ → Type 0) → P 0 0 0 → P 0 0 1 → P 0 1 0 → P 0 1 1 → P 1 0 0 → P 1 0 1 → P 1 1 0 → P 1 1 1 → (a b c : ℕ) → a < 2 → b < 2 → c < 2 → P a b c
    three P p0 p1 p2 p3 p4 p5 p6 p7 a b c ha hb hc =
        two (λ x. P x b c)
        (two (λ y. P 0 y c) (two (P 0 0) p0 p1 c hc) (two (P 0 1) p2 p3 c hc) b hb)
        (two (λ y. P 1 y c) (two (P 1 0) p4 p5 c hc) (two (P 1 1) p6 p7 c hc) b hb) a ha

pub bits_laws : RingLaws two_elements
bits_laws = ring_laws 2 (λ a b. bit_xor a b) (λ a. a) (λ a b. bit_and a b) bit_laws

pub bit_inverse_lem : (a : ℕ) → IsInverse two_elements a (bit_inverse a)
bit_inverse_lem Prim.Native.Nat.zero = record { none_zero = λ e. refl; none_foreign = λ h. absurd (omega arith); some = λ ne h. absurd (ne refl) }
bit_inverse_lem (Prim.Native.Nat.suc Prim.Native.Nat.zero) =
    record { none_zero = λ e. absurd (omega arith); none_foreign = λ h. absurd (omega arith); some = λ ne h. (1, refl, omega arith, refl) }
bit_inverse_lem (Prim.Native.Nat.suc (Prim.Native.Nat.suc a)) =
    let none : bit_inverse (Prim.Native.Nat.suc (Prim.Native.Nat.suc a)) ≡ None = grind (arith, nat_tests) in
    record { none_zero = λ e. none; none_foreign = λ h. none; some = λ ne h. absurd (omega arith) }
