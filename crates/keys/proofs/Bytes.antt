-- The first foreign code of a run of bytes, a code each. Assumes nothing.
use Rattle.std.proofs.Common.{◌≡◌, ℕ, ◌+◌, ◌<◌, ◌≤◌, Bool, true, false, cond, ltb, leb, List, length, get_or, take, Some, None, refl, add-one, inl, inr, arith}
use Rattle.std.specs.List.{position, position_or_len}
use Rattle.std.specs.Option.{option_map}
use Rattle.std.proofs.lemmas.List.{get_or-take, get_or_past, length-take}
use Rattle.std.proofs.lemmas.List.Sums.{fails_before_first, passes_at_first}
use Rattle.std.proofs.lemmas.Bool.{cases_lt, leb-true, leb-false, ltb-true, ltb-false}
use Rattle.fields.specs.Packing.{first_foreign}
use Rattle.fields.proofs.Runs.{foreign_found, none_foreign}

module _ (q : ℕ) (bytes : List ℕ) (n : ℕ) (some : 0 < q) where
  known : (k : ℕ) → k < n → k < position_or_len (λ b. leb q b) (take n bytes) → get_or bytes k 0 < q
  known k l h = rw (← get_or-take n bytes k 0 l) (leb-false _ _ (fails_before_first (λ b. leb q b) (take n bytes) k 0 h))

  by_test : (b : Bool) → ltb (position_or_len (λ b. leb q b) (take n bytes)) (length (take n bytes)) ≡ b → first_foreign q (λ k. get_or bytes k 0) n ≡ option_map (λ k. k + 1) (cond b (Some (position_or_len (λ b. leb q b) (take n bytes))) None)
  by_test true e =
      let i = position_or_len (λ b. leb q b) (take n bytes) in
      let inside : i < length (take n bytes) = ltb-true _ _ e in
      let h = passes_at_first (λ b. leb q b) (take n bytes) 0 inside in
      let lt : i < n = omega (arith, length-take n bytes) in
      let more : q ≤ get_or bytes i 0 = rw (← get_or-take n bytes i 0 lt) (leb-true _ _ h) in
      rw add-one (foreign_found q (λ k. get_or bytes k 0) i n (none_foreign q (λ k. get_or bytes k 0) i (λ k l. known k (omega arith) l)) more lt)
  by_test false e =
      let i = position_or_len (λ b. leb q b) (take n bytes) in
      let long : length (take n bytes) ≤ i = ltb-false _ _ e in
      none_foreign q (λ k. get_or bytes k 0) n (λ k l. elim (cases_lt k (length bytes)) [ inl h ↦ known k l (omega (arith, length-take n bytes)) | inr h ↦ rw (get_or_past bytes k 0 h) some ])

  pub foreign_byte : first_foreign q (λ k. get_or bytes k 0) n ≡ option_map (λ k. k + 1) (position (λ b. leb q b) (take n bytes))
  foreign_byte = by_test _ refl
