-- A multiple of a row added to a row, place by place. Assumes nothing.
use Rattle.std.proofs.Common.{◌≡◌, ℕ, zero, suc, ◌<◌, ◌≤◌, min, List, [], ◌∷◌, length, get_or, take, set, refl, ap, le_of_suc-le-suc, not-suc-le-zero, arith}
use Rattle.algebra.specs.Rings.{Ring}
use Rattle.fields.specs.Rows.{plus_times}

module _ (R : Ring) (t : ℕ) where
  pub plus_none : (xs : List ℕ) → plus_times R t xs [] ≡ xs
  plus_none [] = refl
  plus_none (x ∷ xs) = refl

  pub length_plus : (xs ys : List ℕ) → length (plus_times R t xs ys) ≡ length xs
  length_plus [] ys = refl
  length_plus (x ∷ xs) [] = refl
  length_plus (x ∷ xs) (y ∷ ys) = ap suc (length_plus xs ys)

  pub get_or_plus : (xs ys : List ℕ) (i : ℕ) → i < length xs → i < length ys → get_or (plus_times R t xs ys) i 0 ≡ R.add (get_or xs i 0) (R.mul t (get_or ys i 0))
  get_or_plus [] ys i h l = absurd (not-suc-le-zero h)
  get_or_plus (x ∷ xs) [] i h l = absurd (not-suc-le-zero l)
  get_or_plus (x ∷ xs) (y ∷ ys) zero h l = refl
  get_or_plus (x ∷ xs) (y ∷ ys) (suc i) h l = get_or_plus xs ys i (le_of_suc-le-suc h) (le_of_suc-le-suc l)

  -- the place after those that are done
  pub get_or_next : (xs ys : List ℕ) (i : ℕ) → get_or (plus_times R t xs (take i ys)) i 0 ≡ get_or xs i 0
  get_or_next [] ys i = refl
  get_or_next (x ∷ xs) [] zero = refl
  get_or_next (x ∷ xs) (y ∷ ys) zero = refl
  get_or_next (x ∷ xs) [] (suc i) = refl
  get_or_next (x ∷ xs) (y ∷ ys) (suc i) = get_or_next xs ys i

  pub plus_more : (xs ys : List ℕ) (i : ℕ) → i < length xs → i < length ys → set (plus_times R t xs (take i ys)) i (R.add (get_or xs i 0) (R.mul t (get_or ys i 0))) ≡ plus_times R t xs (take (suc i) ys)
  plus_more [] ys i h l = absurd (not-suc-le-zero h)
  plus_more (x ∷ xs) [] i h l = absurd (not-suc-le-zero l)
  plus_more (x ∷ xs) (y ∷ ys) zero h l = ap (λ (zs : List ℕ). R.add x (R.mul t y) ∷ zs) (sym_none xs)
    where
      sym_none : (zs : List ℕ) → zs ≡ plus_times R t zs []
      sym_none [] = refl
      sym_none (z ∷ zs) = refl
  plus_more (x ∷ xs) (y ∷ ys) (suc i) h l = ap (λ (zs : List ℕ). R.add x (R.mul t y) ∷ zs) (plus_more xs ys i (le_of_suc-le-suc h) (le_of_suc-le-suc l))

  pub plus_all : (xs ys : List ℕ) (n : ℕ) → min (length xs) (length ys) ≤ n → plus_times R t xs (take n ys) ≡ plus_times R t xs ys
  plus_all [] ys n h = refl
  plus_all (x ∷ xs) [] zero h = refl
  plus_all (x ∷ xs) [] (suc n) h = refl
  plus_all (x ∷ xs) (y ∷ ys) zero h = absurd (omega arith)
  plus_all (x ∷ xs) (y ∷ ys) (suc n) h = ap (λ (zs : List ℕ). R.add x (R.mul t y) ∷ zs) (plus_all xs ys n (omega arith))
