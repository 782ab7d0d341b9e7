-- The quadratic extension of a ring of q codes by a code c: the code low + q * high stands for low + high e, where e e = e + c.
use Rattle.std.specs.Prelude.{ℕ, ◌+◌, ◌*◌, ◌/◌, ◌%◌, ◌<◌, ◌≤◌, cond, Some, None, Option, ◌≢◌, nat_lt}
use Rattle.algebra.specs.Rings.{Ring, ring_of}

-- What makes the extension of a field a field of at most 256 codes: t t - t - c is irreducible.
pub record Extends (R : Ring) (c : ℕ) : Type 0 where
  pub small : R.q ≤ 16
  pub code : c < R.q
  pub rootless : (t : ℕ) → t < R.q → R.mul t t ≢ R.add t c

-- The code of low + high e.
abbrev pub join : ℕ → ℕ → ℕ → ℕ
join q low high = low + q * high

-- The sum, part by part.
abbrev pub add_pairs : Ring → ℕ → ℕ → ℕ
add_pairs R a b = join R.q (R.add (a % R.q) (b % R.q)) (R.add (a / R.q) (b / R.q))

-- The negative, part by part.
abbrev pub neg_pairs : Ring → ℕ → ℕ
neg_pairs R a = join R.q (R.neg (a % R.q)) (R.neg (a / R.q))

-- The low part of (l + h e) (m + k e): l m + c h k.
abbrev pub low_product : Ring → ℕ → ℕ → ℕ → ℕ → ℕ → ℕ
low_product R c l h m k = R.add (R.mul l m) (R.mul c (R.mul h k))

-- The high part of (l + h e) (m + k e): l k + h m + h k.
abbrev pub high_product : Ring → ℕ → ℕ → ℕ → ℕ → ℕ
high_product R l h m k = R.add (R.add (R.mul l k) (R.mul h m)) (R.mul h k)

-- The product of two codes, from their parts.
abbrev pub mul_pairs : Ring → ℕ → ℕ → ℕ → ℕ
mul_pairs R c a b =
    join R.q (low_product R c (a % R.q) (a / R.q) (b % R.q) (b / R.q)) (high_product R (a % R.q) (a / R.q) (b % R.q) (b / R.q))

-- The extension, a ring of q * q codes.
abbrev pub extension : Ring → ℕ → Ring
extension R c = ring_of (R.q * R.q) (add_pairs R) (neg_pairs R) (mul_pairs R c)

-- The norm of l + h e: l l + l h - c h h, its product with the conjugate l + h - h e.
abbrev pub norm_of : Ring → ℕ → ℕ → ℕ → ℕ
norm_of R c l h = R.add (R.add (R.mul l l) (R.mul l h)) (R.neg (R.mul c (R.mul h h)))

-- The conjugate of l + h e times n, where n is the inverse of the norm; none where the norm has none.
abbrev pub over_norm : Ring → ℕ → ℕ → Option ℕ → Option ℕ
over_norm R l h None = None
over_norm R l h (Some n) = Some (join R.q (R.mul (R.add l h) n) (R.mul (R.neg h) n))

-- The inverse in the extension, from the inverse below: the conjugate over the norm.
abbrev pub inverse_over : Ring → (ℕ → Option ℕ) → ℕ → ℕ → Option ℕ
inverse_over R inv c a = cond (nat_lt a (R.q * R.q)) (over_norm R (a % R.q) (a / R.q) (inv (norm_of R c (a % R.q) (a / R.q)))) None
