-- The common denominator of a channel without a late fault is at most 10^37.
use Rattle.std.proofs.Common.{◌≡◌, ℕ, zero, suc, ◌+◌, ◌^◌, ◌<◌, ◌≤◌, Bool, true, false, ◌&&◌, nat_lt, List, [], ◌∷◌, ◌++◌, length, take, get_or, Some, None, arith, refl, ap, sym, ◌∙◌, append-nil, true≢false, take_all, if◌then◌else◌}
use Rattle.std.specs.List.{filter}
use Rattle.std.proofs.lemmas.Bool.{cond-false}
use Rattle.std.proofs.lemmas.List.{take_more}
use Rattle.std.proofs.lemmas.List.Elements.{filter-append}
use Rattle.subdiv_model.specs.ObjFault.{ObjCause, NumberRange}
use Rattle.subdiv_model.specs.ReadObj.{common_over, passes_bound, wide_fault, long_fault, first_fault, late_fault}
use Rattle.obj_laws.proofs.FirstFaultLemmas.{each-good}

abbrev Words : Type 0
Words = List (List ℕ)

module _ (kind : Words → Bool) (start : ℕ) where
  -- one more line of another kind changes nothing
  bound-same : (before : List Words) (line : Words) → kind line ≡ false → passes_bound kind start (before ++ line ∷ []) ≡ passes_bound kind start before
  bound-same before line other =
      let none : filter kind (line ∷ []) ≡ [] = cond-false (kind line) (line ∷ []) [] other in
      ap (λ kept. nat_lt (10 ^ 37) (common_over start kept)) (filter-append kind before (line ∷ []) ∙ ap (λ kept. filter kind before ++ kept) none ∙ append-nil (filter kind before))

  -- a line of the kind that is no fault
  not-wide : (t passes : Bool) (cause : ObjCause) → (if t && passes then Some cause else None) ≡ None → t ≡ true → passes ≡ false
  not-wide true true cause none is = absurd (cc)
  not-wide true false cause none is = refl
  not-wide false passes cause none is = absurd (true≢false (sym is))

  -- the first lines are within the bound if no line has a fault
  first-within : (lines : List Words) → passes_bound kind start [] ≡ false → ((i : ℕ) → i < length lines → wide_fault kind start lines i ≡ None)
      → (n : ℕ) → n ≤ length lines → passes_bound kind start (take n lines) ≡ false
  first-within lines low none zero few = low
  first-within lines low none (suc n) few =
      let line = get_or lines n [] in
      let inside : n < length lines = omega (arith, few) in
      let next : suc n ≡ n + 1 = omega arith in
      let more : take (suc n) lines ≡ take n lines ++ line ∷ [] = ap (λ m. take m lines) next ∙ take_more lines n [] inside in
      let before = first-within lines low none n (omega arith) in
      step (kind line) refl (not-wide (kind line) (passes_bound kind start (take (suc n) lines)) NumberRange (none n inside)) more before
    where
      step : (t : Bool) → kind (get_or lines n []) ≡ t → (kind (get_or lines n []) ≡ true → passes_bound kind start (take (suc n) lines) ≡ false)
          → take (suc n) lines ≡ take n lines ++ get_or lines n [] ∷ [] → passes_bound kind start (take n lines) ≡ false
          → passes_bound kind start (take (suc n) lines) ≡ false
      step true e here more before = here e
      step false e here more before = ap (passes_bound kind start) more ∙ bound-same (take n lines) (get_or lines n []) e ∙ before

  -- all lines without a late fault are within the bound
  pub all-within : (lines : List Words) → passes_bound kind start [] ≡ false → late_fault kind start lines ≡ None → passes_bound kind start lines ≡ false
  all-within lines low none = go (passes_bound kind start lines) refl none
    where
      go : (t : Bool) → passes_bound kind start lines ≡ t
          → (if t then first_fault (wide_fault kind start lines) (length lines)
          else first_fault (long_fault kind (common_over start (filter kind lines)) lines) (length lines)) ≡ None
          → passes_bound kind start lines ≡ false
      go true e none =
          let within = first-within lines low (each-good (wide_fault kind start lines) (length lines) none) (length lines) (omega arith) in
          ap (passes_bound kind start) (sym (take_all (length lines) lines (omega arith))) ∙ within
      go false e none = e
