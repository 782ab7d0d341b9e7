-- Quadratic forms in layers: once the variables before a layer's own have values, the layer's forms are linear in its own.
use Rattle.std.specs.Prelude.{◌≡◌, ℕ, ◌+◌, ◌-◌, ◌<◌, ◌≤◌, cond, ◌⊎◌, nat_lt}
use Rattle.algebra.specs.Rings.{Ring}
use Rattle.algebra.specs.Sums.{sum, dot_of}
use Rattle.algebra.specs.Forms.{form_at}
use Rattle.algebra.specs.Matrices.{applied}
use Rattle.algebra.specs.Systems.{Vector, Singular}

-- The coefficient of variable v + c in form r of the layer, after x has replaced the first v variables.
unfoldable pub layer_entry : Ring → ℕ → (ℕ → ℕ → ℕ → ℕ) → (ℕ → ℕ) → ℕ → ℕ → ℕ
layer_entry R v F x r c = sum R v (λ i. R.mul (F r i (v + c)) (x i))

-- What the pairs of the first v variables give in form r.
unfoldable pub layer_constant : Ring → ℕ → (ℕ → ℕ → ℕ → ℕ) → (ℕ → ℕ) → ℕ → ℕ
layer_constant R v F x r = form_at R v (F r) x

-- Form r at x, a layer of o variables after the first v: its constant and its entries times the layer's own variables.
abbrev pub layer_value : Ring → ℕ → ℕ → (ℕ → ℕ → ℕ → ℕ) → (ℕ → ℕ) → ℕ → ℕ
layer_value R v o F x r = R.add (layer_constant R v F x r) (dot_of R o (layer_entry R v F x r) (λ c. x (v + c)))

-- w at the first v places, and y from there on.
unfoldable pub joined : ℕ → (ℕ → ℕ) → (ℕ → ℕ) → ℕ → ℕ
joined v w y i = cond (nat_lt i v) (w i) (y (i - v))

-- the forms from o1 on, counted from 0
abbrev pub later_forms : ℕ → (ℕ → ℕ → ℕ → ℕ) → ℕ → ℕ → ℕ → ℕ
later_forms o1 F r = F (o1 + r)

-- The first o1 forms have terms x(i) x(j) with i below v1 and j below v1 + o1 alone, the o2 later ones with i below v1 + o1 alone.
pub record TwoLayers (v1 o1 o2 : ℕ) (F : ℕ → ℕ → ℕ → ℕ) : Type 0 where
  pub first : (r i j : ℕ) → r < o1 → (v1 ≤ i) ⊎ (v1 + o1 ≤ j) → F r i j ≡ 0
  pub second : (r i j : ℕ) → r < o2 → v1 + o1 ≤ i → F (o1 + r) i j ≡ 0

-- S after F after T at z
abbrev pub composition : Ring → ℕ → ℕ → (ℕ → ℕ → ℕ) → (ℕ → ℕ → ℕ → ℕ) → (ℕ → ℕ → ℕ) → (ℕ → ℕ) → ℕ → ℕ
composition R n m S F T z = applied R m S (λ f. form_at R n (F f) (applied R n T z))

-- x, v1 + o1 codes, begins with w and gives the first layer the values b.
pub record Halfway (R : Ring) (v1 o1 : ℕ) (F : ℕ → ℕ → ℕ → ℕ) (w b x : ℕ → ℕ) : Type 0 where
  pub codes : Vector R (v1 + o1) x
  pub begins : (i : ℕ) → i < v1 → x i ≡ w i
  pub solves : (r : ℕ) → r < o1 → layer_value R v1 o1 F x r ≡ b r

-- The second layer's system is singular once the first layer is solved for b.
pub record SecondSingular (R : Ring) (v1 o1 o2 : ℕ) (F : ℕ → ℕ → ℕ → ℕ) (w b : ℕ → ℕ) : Type 0 where
  pub point : ℕ → ℕ
  pub halfway : Halfway R v1 o1 F w b point
  pub singular : Singular R o2 (layer_entry R (v1 + o1) (later_forms o1 F) point)

-- z, n codes, is taken by T to what begins with w, and by S after F after T to d.
pub record Signs (R : Ring) (v1 o1 o2 : ℕ) (S : ℕ → ℕ → ℕ) (F : ℕ → ℕ → ℕ → ℕ) (T : ℕ → ℕ → ℕ) (w d z : ℕ → ℕ) : Type 0 where
  pub codes : Vector R (v1 + o1 + o2) z
  pub begins : (i : ℕ) → i < v1 → applied R (v1 + o1 + o2) T z i ≡ w i
  pub value : (e : ℕ) → e < o1 + o2 → composition R (v1 + o1 + o2) (o1 + o2) S F T z e ≡ d e

-- y less z, place by place
abbrev pub minus : Ring → (ℕ → ℕ) → (ℕ → ℕ) → ℕ → ℕ
minus R y z i = R.add (y i) (R.neg (z i))
