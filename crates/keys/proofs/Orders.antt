-- The first test that gives something. Assumes nothing.
use Rattle.std.proofs.Common.{◌≡◌, ℕ, ◌+◌, ◌<◌, Bool, true, false, List, [], ◌∷◌, ◌++◌, map, length, get_or, drop, Some, None, Ok, Err, Option, Result, sym, refl, ap, ◌∙◌, arith}
use Rattle.std.specs.Result.{IsErrAnd}
use Rattle.std.proofs.lemmas.Result.{err_from_is_err_and}
use Rattle.std.proofs.lemmas.List.{at_drop_more}
use Rattle.fields.specs.Packing.{or_else}
use Rattle.keys.specs.declared.refusals.Refusal.{Refusal}
use Rattle.keys.specs.Refusals.{Told, told, test, first, Answers}

pub pass : (t : Option Told) (ts : List (Option Told)) → t ≡ None → first (t ∷ ts) ≡ first ts
pass t ts e = ap (λ (u : Option Told). or_else u (first ts)) e

stop : (t : Option Told) (ts : List (Option Told)) (x : Told) → t ≡ Some x → first (t ∷ ts) ≡ Some x
stop t ts x e = ap (λ (u : Option Told). or_else u (first ts)) e

pub some_none : (x : Told) → Some x ≡ None → ⊥
some_none x e = let z : ◌≡◌ {A = ℕ} 0 1 = cc in omega arith

parts : (t u : Option Told) → or_else t u ≡ None → (t ≡ None) × (u ≡ None)
parts None u e = (refl, e)
parts (Some x) u e = (e, absurd (some_none x e))

pub past : (ts us : List (Option Told)) → first ts ≡ None → first (ts ++ us) ≡ first us
past [] us e = refl
past (t ∷ ts) us e = let p = parts t (first ts) e in pass t (ts ++ us) p.0 ∙ past ts us p.1

-- a list's tests are those of what is seen of it
pub fused : {X Y Z : Type 0} (f : X → Y) (t : Y → Z) (xs : List X) → map (λ x. t (f x)) xs ≡ map t (map f xs)
fused f t [] = refl
fused {X} {Y} {Z} f t (x ∷ xs) = ap (λ (zs : List Z). t (f x) ∷ zs) (fused f t xs)

-- a list's tests, walked from its front
pub first_next : {X : Type 0} (t : X → Option Told) (xs : List X) (i : ℕ) (x : X) → i < length xs → x ≡ get_or xs i x → t x ≡ None → first (map t (drop i xs)) ≡ first (map t (drop (i + 1) xs))
first_next {X} t xs i x h g e = at_drop_more (λ (ys : List X). first (map t ys)) xs i x h ∙ pass (t (get_or xs i x)) (map t (drop (i + 1) xs)) (ap t (sym g) ∙ e)

pub first_some : {X : Type 0} (t : X → Option Told) (xs : List X) (i : ℕ) (x : X) (r : Told) → i < length xs → x ≡ get_or xs i x → t x ≡ Some r → first (map t (drop i xs)) ≡ Some r
first_some {X} t xs i x r h g e = at_drop_more (λ (ys : List X). first (map t ys)) xs i x h ∙ stop (t (get_or xs i x)) (map t (drop (i + 1) xs)) r (ap t (sym g) ∙ e)

-- what the first tests of a list give, all of it gives
pub early : (ts us : List (Option Told)) (x : Told) → first ts ≡ Some x → first (ts ++ us) ≡ Some x
early [] us x e = absurd (some_none x (sym e))
early (None ∷ ts) us x e = early ts us x e
early (Some y ∷ ts) us x e = e

-- tests that give nothing
pub test_none : (b : Bool) (e : Refusal) → test b e ≡ None → b ≡ false
test_none true e h = absurd (some_none (told e) h)
test_none false e h = refl

abbrev pub AllNone : List (Option Told) → Type 0
AllNone [] = Unit {0}
AllNone (t ∷ ts) = (t ≡ None) × AllNone ts

pub all_none : (ts : List (Option Told)) → first ts ≡ None → AllNone ts
all_none [] e = tt
all_none (t ∷ ts) e = let p = parts t (first ts) e in (p.0, all_none ts p.1)

-- an early return with the refusal that the tests give
pub refused : {A : Type 0} (P : A → Type 0) (t : Option Told) (r : Result A Refusal) (d : Refusal) → IsErrAnd r (λ e. e ≡ d) → t ≡ Some (told d) → Answers t r P
refused P t r d h e = let p = err_from_is_err_and r h in rw (p.1, p.2) e

-- tests that give nothing, and then others
pub after : {A : Type 0} (P : A → Type 0) (ts us : List (Option Told)) (r : Result A Refusal) → first ts ≡ None → Answers (first us) r P → Answers (first (ts ++ us)) r P
after P ts us (Ok a) e h = (past ts us e ∙ h.0, h.1)
after P ts us (Err d) e h = past ts us e ∙ h
