-- Runs of codes, written place by place, in rows. Assumes nothing.
use Rattle.std.proofs.Common.{◌≡◌, ℕ, ◌+◌, ◌-◌, ◌*◌, ◌<◌, ◌≤◌, ◌≢◌, ◌⊎◌, Bool, true, false, List, ◌++◌, length, get_or, take, drop, sym, refl, ap, ◌∙◌, subst, ap₂, inl, inr, mul-le-mul_right, suc-mul, arith, length-append, length-take-le}
use native.Mathlib.Decide.{dec_lt, ℕ_discrete}
use borrow.Rule.Slice.PartMut.{put_mid, same_len_mid}
use Rattle.std.proofs.lemmas.List.{get_or_append_left, get_or-append_right, get_or-append-add, get_or-take, get_or-drop, get_or_past, length-drop}
use Rattle.algebra.specs.Rings.{Ring, RingLaws}
use Rattle.fields.specs.Rows.{plus_times}
use Rattle.fields.proofs.Additions.{length_plus, get_or_plus}
use Rattle.std.specs.Bool.{MatchBool}
use Rattle.std.specs.List.{between, AllWithin, HoldsAt}
use Rattle.std.proofs.lemmas.List.Edits.{length-between, get_or-between}
use Rattle.matrices.specs.Arrays.{entry, Codes, Sifted, Off, Apart, Written, Swapped, Added, Cleared}

-- The w places from a on, each times u.
abbrev pub Scaled : Ring → List ℕ → List ℕ → ℕ → ℕ → ℕ → Type 0
Scaled R old new w a u = Written old new w a (λ k. R.mul u (get_or old (a + k) 0))

-- where a place is among those written, or off them
pub among : (a w m : ℕ) → ((k : ℕ) × ((k < w) × (m ≡ a + k))) ⊎ Off a w m
among a w m =
    elim (dec_lt m a) [
      | yes l ↦ inr (inl l)
      | no l ↦ elim (dec_lt m (a + w)) [
        | yes g ↦ inl (m - a, (omega arith, omega arith))
        | no g ↦ inr (inr (omega arith))
      ]
    ]

pub written_codes : (R : Ring) (old new : List ℕ) (w a : ℕ) (v : ℕ → ℕ) → Written old new w a v → ((k : ℕ) → v k < R.q) → Codes R old → Codes R new
written_codes R old new w a v W c h m =
    elim (among a w m) [
      | inl p ↦ let e : get_or new m 0 ≡ v p.0 = ap (λ t. get_or new t 0) p.1.1 ∙ W.here p.0 p.1.0 in
          let l = c p.0 in omega arith
      | inr p ↦ let e = W.rest m p in let l = h m in omega arith
    ]

pub swapped_codes : (R : Ring) (old new : List ℕ) (w a b : ℕ) → Swapped old new w a b → Codes R old → Codes R new
swapped_codes R old new w a b W h m =
    elim (among a w m) [
      | inl p ↦ let e : get_or new m 0 ≡ get_or old (b + p.0) 0 = ap (λ t. get_or new t 0) p.1.1 ∙ W.one p.0 p.1.0 in
          let l = h (b + p.0) in omega arith
      | inr o ↦ elim (among b w m) [
        | inl p ↦ let e : get_or new m 0 ≡ get_or old (a + p.0) 0 = ap (λ t. get_or new t 0) p.1.1 ∙ W.two p.0 p.1.0 in
            let l = h (a + p.0) in omega arith
        | inr p ↦ let e = W.rest m o p in let l = h m in omega arith
      ]
    ]

-- Rows: i * w + j is the place of row i and column j.
pub row_below : (i n w : ℕ) → i < n → i * w + w ≤ n * w
row_below i n w h = let e = suc-mul i w in let l = mul-le-mul_right w h in omega arith

pub row_room : (i n w l : ℕ) → l ≡ n * w → i < n → i * w + w ≤ l
row_room i n w l e h = let k = row_below i n w h in omega arith

pub rows_apart : (i c w : ℕ) → (i ≡ c → ⊥) → Apart (i * w) (c * w) w
rows_apart i c w h =
    elim (dec_lt i c) [
      | yes l ↦ inl (row_below i c w l)
      | no l ↦ let g : i ≢ c = h in inr (row_below c i w (omega arith))
    ]

pub row_off : (i c w j : ℕ) → (i ≡ c → ⊥) → j < w → Off (c * w) w (i * w + j)
row_off i c w j h l =
    elim (rows_apart i c w h) [ inl g ↦ inl (omega arith) | inr g ↦ inr (omega arith) ]

pub cleared_none : (R : Ring) (old : List ℕ) (w c : ℕ) → Cleared R old old 0 w c
cleared_none R old w c = record { here = λ j l. refl; other = λ i j l m h. absurd (omega arith); later = λ i j l m. refl; codes = λ h. h }

pub cleared_skip : (R : Ring) (old new : List ℕ) (t w c : ℕ) → t ≡ c → Cleared R old new t w c → Cleared R old new (t + 1) w c
cleared_skip R old new t w c e C = record {
  here = C.here;
  other = λ i j l m h. let ne : i ≢ c = h in C.other i j (omega arith) m h;
  later = λ i j l m. C.later i j (omega arith) m;
  codes = C.codes;
}

pub cleared_more : (R : Ring) → RingLaws R → (old mid new : List ℕ) (t w c : ℕ) → (t ≡ c → ⊥) → c < w → Cleared R old mid t w c → Added R mid new w (t * w) (c * w) (R.neg (entry mid w t c)) → Cleared R old new (t + 1) w c
cleared_more R L old mid new t w c ne lw C W = record {
  here = λ j m. W.rest (c * w + j) (row_off c t w j (λ e. ne (sym e)) m) ∙ C.here j m;
  other = other;
  later = λ i j l m. W.rest (i * w + j) (row_off i t w j (λ e. omega arith) m) ∙ C.later i j (omega arith) m;
  codes = λ h. written_codes R mid new w (t * w) _ W (λ k. L.add_code _ _) (C.codes h);
}
  where
    other : (i j : ℕ) → i < t + 1 → j < w → (i ≡ c → ⊥) → entry new w i j ≡ R.add (entry old w i j) (R.mul (R.neg (entry old w i c)) (entry old w c j))
    other i j l m h =
        elim (ℕ_discrete i t) [
          | yes e ↦
              ap (λ s. entry new w s j) e ∙ W.here j m
              ∙ ap₂ R.add (C.later t j (omega arith) m) (ap₂ R.mul (ap R.neg (C.later t c (omega arith) lw)) (C.here j m))
              ∙ ap (λ s. R.add (entry old w s j) (R.mul (R.neg (entry old w s c)) (entry old w c j))) (sym e)
          | no e ↦ let nt : i ≢ t = e in W.rest (i * w + j) (row_off i t w j e m) ∙ C.other i j (omega arith) m h
        ]

-- what a write to the k places from a on leaves
pub put_written : (xs ys : List ℕ) (a k : ℕ) → a + k ≤ length xs → length ys ≡ k → Written xs (put_mid a k xs ys) k a (λ i. get_or ys i 0)
put_written xs ys a k h e = record {
  here = λ i l.
      get_or-append_right (take a xs) (ys ++ drop k (drop a xs)) a (a + i) 0 len (omega arith)
      ∙ ap (λ t. get_or (ys ++ drop k (drop a xs)) t 0) (omega arith)
      ∙ get_or_append_left ys (drop k (drop a xs)) 0 i (omega arith);
  rest = rest;
}
  where
    len : length (take a xs) ≡ a
    len = length-take-le a xs (omega arith)

    rest : (m : ℕ) → Off a k m → get_or (put_mid a k xs ys) m 0 ≡ get_or xs m 0
    rest m (inl l) = get_or_append_left (take a xs) (ys ++ drop k (drop a xs)) 0 m (omega (arith, len)) ∙ get_or-take a xs m 0 l
    rest m (inr l) =
        get_or-append_right (take a xs) (ys ++ drop k (drop a xs)) a m 0 len (omega arith)
        ∙ get_or-append_right ys (drop k (drop a xs)) k (m - a) 0 e (omega arith)
        ∙ get_or-drop k (drop a xs) (m - a - k) 0 ∙ get_or-drop a xs (k + (m - a - k)) 0
        ∙ ap (λ t. get_or xs t 0) (omega arith)

pub written_as : (old new : List ℕ) (w a : ℕ) (v u : ℕ → ℕ) → ((k : ℕ) → k < w → v k ≡ u k) → Written old new w a v → Written old new w a u
written_as old new w a v u h W = record { here = λ k l. W.here k l ∙ h k l; rest = W.rest }

-- a write to the first of two parts, or to the second
pub written_front : (xs ys new : List ℕ) (w a : ℕ) (v : ℕ → ℕ) → length new ≡ length xs → a + w ≤ length xs → Written xs new w a v → Written (xs ++ ys) (new ++ ys) w a v
written_front xs ys new w a v e h W = record {
  here = λ k l. get_or_append_left new ys 0 (a + k) (omega arith) ∙ W.here k l;
  rest = λ m o.
      elim (dec_lt m (length xs)) [
        | yes l ↦ get_or_append_left new ys 0 m (omega arith) ∙ W.rest m o ∙ sym (get_or_append_left xs ys 0 m l)
        | no l ↦ get_or-append_right new ys (length xs) m 0 e (omega arith) ∙ sym (get_or-append_right xs ys (length xs) m 0 refl (omega arith))
      ];
}

pub written_back : (xs ys new : List ℕ) (w : ℕ) (v : ℕ → ℕ) → ((k : ℕ) → k < w → get_or new k 0 ≡ v k) → ((m : ℕ) → w ≤ m → get_or new m 0 ≡ get_or ys m 0) → Written (xs ++ ys) (xs ++ new) w (length xs) v
written_back xs ys new w v h same = record {
  here = λ k l. get_or-append_right xs new (length xs) (length xs + k) 0 refl (omega arith) ∙ ap (λ t. get_or new t 0) (omega arith) ∙ h k l;
  rest = λ m o.
      elim (dec_lt m (length xs)) [
        | yes l ↦ get_or_append_left xs new 0 m l ∙ sym (get_or_append_left xs ys 0 m l)
        | no l ↦ let g : w ≤ m - length xs = elim o [ inl s ↦ omega arith | inr s ↦ omega arith ] in
            get_or-append_right xs new (length xs) m 0 refl (omega arith) ∙ same (m - length xs) g ∙ sym (get_or-append_right xs ys (length xs) m 0 refl (omega arith))
      ];
}

-- To a row of the first part a multiple of the second part's first row is added, or the other way round.
added_to_front : (R : Ring) (xs ys acc : List ℕ) (w k a f : ℕ) → a + w ≤ length xs → w ≤ length ys → k ≡ w → acc ≡ plus_times R f (between a (a + w) xs) (take w ys) → Added R (xs ++ ys) (put_mid a k xs acc ++ ys) w a (length xs) f
added_to_front R xs ys acc w k a f h g e p =
    written_as (xs ++ ys) (put_mid a k xs acc ++ ys) w a (λ i. get_or acc i 0) _ each
    (written_front xs ys (put_mid a k xs acc) w a (λ i. get_or acc i 0) (same_len_mid a k xs acc (long ∙ sym e ∙ sym (length-take-le k (drop a xs) (let d = length-drop a xs in omega arith)))) h
    (subst (λ t. Written xs (put_mid a t xs acc) w a (λ i. get_or acc i 0)) (sym e) (put_written xs acc a w h long)))
  where
    len : length (between a (a + w) xs) ≡ w
    len = length-between xs a (a + w) h ∙ omega arith

    long : length acc ≡ w
    long = ap length p ∙ length_plus R f (between a (a + w) xs) (take w ys) ∙ len

    each : (i : ℕ) → i < w → get_or acc i 0 ≡ R.add (get_or (xs ++ ys) (a + i) 0) (R.mul f (get_or (xs ++ ys) (length xs + i) 0))
    each i l =
        ap (λ zs. get_or zs i 0) p ∙ get_or_plus R f (between a (a + w) xs) (take w ys) i (omega (arith, len)) (let t = length-take-le w ys g in omega arith)
        ∙ ap₂ (λ x y. R.add x (R.mul f y)) (get_or-between xs a (a + w) i 0 (omega arith) ∙ sym (get_or_append_left xs ys 0 (a + i) (omega arith)))
        (get_or-take w ys i 0 l ∙ sym (get_or-append-add xs ys i 0))

added_to_back : (R : Ring) (xs ys acc : List ℕ) (w b f : ℕ) → b + w ≤ length xs → w ≤ length ys → acc ≡ plus_times R f (take w ys) (between b (b + w) xs) → Added R (xs ++ ys) (xs ++ (acc ++ drop w ys)) w (length xs) b f
added_to_back R xs ys acc w b f h g p =
    written_back xs ys (acc ++ drop w ys) w _ each
    (λ m l. get_or-append_right acc (drop w ys) w m 0 long l ∙ get_or-drop w ys (m - w) 0 ∙ ap (λ t. get_or ys t 0) (omega arith))
  where
    len : length (take w ys) ≡ w
    len = length-take-le w ys g

    long : length acc ≡ w
    long = ap length p ∙ length_plus R f (take w ys) (between b (b + w) xs) ∙ len

    each : (i : ℕ) → i < w → get_or (acc ++ drop w ys) i 0 ≡ R.add (get_or (xs ++ ys) (length xs + i) 0) (R.mul f (get_or (xs ++ ys) (b + i) 0))
    each i l =
        get_or_append_left acc (drop w ys) 0 i (omega (arith, long))
        ∙ ap (λ zs. get_or zs i 0) p ∙ get_or_plus R f (take w ys) (between b (b + w) xs) i (omega (arith, len)) (let t = length-between xs b (b + w) h in omega arith)
        ∙ ap₂ (λ x y. R.add x (R.mul f y)) (get_or-take w ys i 0 l ∙ sym (get_or-append-add xs ys i 0))
        (get_or-between xs b (b + w) i 0 (omega arith) ∙ sym (get_or_append_left xs ys 0 (b + i) (omega arith)))

pub added_front : (R : Ring) (rows xs ys acc : List ℕ) (w k a b f : ℕ) → rows ≡ xs ++ ys → length xs ≡ b → a + w ≤ b → b + w ≤ length rows → k ≡ w → acc ≡ plus_times R f (between a (a + w) xs) (take w ys) → Added R rows (put_mid a k xs acc ++ ys) w a b f
added_front R rows xs ys acc w k a b f e lb h g q p =
    let s = ap length e ∙ length-append xs ys in
    subst (λ t. Added R t (put_mid a k xs acc ++ ys) w a b f) (sym e)
    (subst (λ t. Added R (xs ++ ys) (put_mid a k xs acc ++ ys) w a t f) lb (added_to_front R xs ys acc w k a f (omega arith) (omega arith) q p))

pub added_back : (R : Ring) (rows xs ys acc : List ℕ) (w a b f : ℕ) → rows ≡ xs ++ ys → length xs ≡ a → b + w ≤ a → a + w ≤ length rows → acc ≡ plus_times R f (take w ys) (between b (b + w) xs) → Added R rows (xs ++ (acc ++ drop w ys)) w a b f
added_back R rows xs ys acc w a b f e la h g p =
    let s = ap length e ∙ length-append xs ys in
    subst (λ t. Added R t (xs ++ (acc ++ drop w ys)) w a b f) (sym e)
    (subst (λ t. Added R (xs ++ ys) (xs ++ (acc ++ drop w ys)) w t b f) la (added_to_back R xs ys acc w b f (omega arith) (omega arith) p))

-- a row of which each code is multiplied
pub scaled_row : (R : Ring) (rows row : List ℕ) (w k a u : ℕ) → a + w ≤ length rows → k ≡ w → length row ≡ length (between a (a + w) rows) → ((j : ℕ) → j < length (between a (a + w) rows) → get_or row j 0 ≡ R.mul u (get_or (between a (a + w) rows) j 0)) → Scaled R rows (put_mid a k rows row) w a u
scaled_row R rows row w k a u h e long each =
    subst (λ t. Scaled R rows (put_mid a t rows row) w a u) (sym e)
    (written_as rows (put_mid a w rows row) w a (λ i. get_or row i 0) _ (λ i l. each i (omega (arith, len)) ∙ ap (R.mul u) (get_or-between rows a (a + w) i 0 (omega arith)))
    (put_written rows row a w h (omega (arith, len))))
  where
    len : length (between a (a + w) rows) ≡ w
    len = length-between rows a (a + w) h ∙ omega arith

-- what a test of every byte says of the places past the end too
pub sifted : (R : Ring) → RingLaws R → (rows : List ℕ) (r : Bool) → MatchBool r (AllWithin (λ x. x < R.q) rows 0 (length rows)) ((k : ℕ) × (k < length rows) × HoldsAt (λ x. R.q ≤ x) rows k) → Sifted R rows r
sifted R L rows true h = λ k.
    elim (dec_lt k (length rows)) [
      | yes l ↦ h k 0 (omega arith) l
      | no l ↦ let z = get_or_past rows k 0 (omega arith) in let low = L.q_low in omega arith
    ]
sifted R L rows false h = (h.0, (h.1, h.2 0))
