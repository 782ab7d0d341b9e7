-- What the laws of a commutative ring give at once: regrouping, negatives, products with nil. Assumes nothing.
use Rattle.std.proofs.Common.{◌≡◌, sym, ap, ◌∙◌, ap₂}
use Rattle.algebra.specs.Commutative.{Commutative}

module _ {A : Type 0} (S : Commutative A) where
  pub add_left : (a b c : A) → S.add a (S.add b c) ≡ S.add b (S.add a c)
  add_left a b c = sym (S.add_assoc a b c) ∙ ap (λ t. S.add t c) (S.add_comm a b) ∙ S.add_assoc b a c

  pub mul_left : (a b c : A) → S.mul a (S.mul b c) ≡ S.mul b (S.mul a c)
  mul_left a b c = sym (S.mul_assoc a b c) ∙ ap (λ t. S.mul t c) (S.mul_comm a b) ∙ S.mul_assoc b a c

  pub add_mul : (a b c : A) → S.mul (S.add a b) c ≡ S.add (S.mul a c) (S.mul b c)
  add_mul a b c = S.mul_comm (S.add a b) c ∙ S.mul_add c a b ∙ ap₂ S.add (S.mul_comm c a) (S.mul_comm c b)

  pub nil_add : (a : A) → S.add S.nil a ≡ a
  nil_add a = S.add_comm S.nil a ∙ S.add_nil a

  pub one_mul : (a : A) → S.mul S.one a ≡ a
  one_mul a = S.mul_comm S.one a ∙ S.mul_one a

  pub neg_cancel : (a b : A) → S.add a (S.add (S.neg a) b) ≡ b
  neg_cancel a b = sym (S.add_assoc a (S.neg a) b) ∙ ap (λ t. S.add t b) (S.add_neg a) ∙ nil_add b

  -- what is added to a to give nil is its negative
  pub neg_only : (a b : A) → S.add a b ≡ S.nil → b ≡ S.neg a
  neg_only a b e =
      sym (neg_cancel a b) ∙ add_left a (S.neg a) b ∙ ap (S.add (S.neg a)) e ∙ S.add_nil (S.neg a)

  pub mul_nil : (a : A) → S.mul a S.nil ≡ S.nil
  mul_nil a =
      let m = S.mul a S.nil in
      let d : S.add m m ≡ m = sym (S.mul_add a S.nil S.nil) ∙ ap (S.mul a) (S.add_nil S.nil) in
      sym (S.add_nil m) ∙ ap (S.add m) (sym (S.add_neg m)) ∙ sym (S.add_assoc m m (S.neg m)) ∙ ap (λ t. S.add t (S.neg m)) d ∙ S.add_neg m

  pub nil_mul : (a : A) → S.mul S.nil a ≡ S.nil
  nil_mul a = S.mul_comm S.nil a ∙ mul_nil a

  pub mul_neg : (a b : A) → S.mul a (S.neg b) ≡ S.neg (S.mul a b)
  mul_neg a b = neg_only (S.mul a b) (S.mul a (S.neg b)) (sym (S.mul_add a b (S.neg b)) ∙ ap (S.mul a) (S.add_neg b) ∙ mul_nil a)

  pub neg_mul : (a b : A) → S.mul (S.neg a) b ≡ S.neg (S.mul a b)
  neg_mul a b = S.mul_comm (S.neg a) b ∙ mul_neg b a ∙ ap S.neg (S.mul_comm b a)

  pub neg_neg : (a : A) → S.neg (S.neg a) ≡ a
  neg_neg a = sym (neg_only (S.neg a) a (S.add_comm (S.neg a) a ∙ S.add_neg a))

  pub neg_nil : S.neg S.nil ≡ S.nil
  neg_nil = sym (neg_only S.nil S.nil (S.add_nil S.nil))

  pub cancel_two : (a b : A) → S.add a (S.add b (S.add (S.neg a) (S.neg b))) ≡ S.nil
  cancel_two a b = ap (S.add a) (add_left b (S.neg a) (S.neg b)) ∙ neg_cancel a (S.add b (S.neg b)) ∙ S.add_neg b
