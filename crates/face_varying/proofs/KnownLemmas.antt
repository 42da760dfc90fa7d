-- A table with the number of each label that was seen.
use Rattle.std.proofs.Common.{◌≡◌, ℕ, ◌-◌, ◌^◌, ◌<◌, ◌≢◌, Bool, true, false, ◌||◌, nat_eq, List, [], ◌∷◌, ◌++◌, length, get_or, set, slice_set, arith, refl, ap, sym, ◌∙◌, subst, ◌⊎◌, inl, inr, if◌then◌else◌}
use Rattle.std.specs.List.{position_or_len}
use Rattle.std.proofs.lemmas.Bool.Decides.{nat_tests}
use Rattle.std.proofs.lemmas.Bool.{cases_eq, eq-eqb}
use Rattle.std.proofs.lemmas.List.{length-set, get_or-set_same, get_or-set_other}
use Rattle.std.proofs.lemmas.List.Folds.{list_any-append}
use Rattle.subdiv_model.specs.Polygons.{is_among}
use Rattle.texture_laws.proofs.OnceLemmas.{first-within}
use Rattle.face_varying.specs.FirstOnes.{seen_with, AreKnown}
use Rattle.face_varying.proofs.FirstOneLemmas.{none-place, place-kept, or-none, with-new, with-listed, with-place}

module _ (seen known : List ℕ) (label : ℕ) (are : AreKnown seen known) (within : label < length known) where
  -- a label that the table does not know was not seen
  pub unknown-new : (number : ℕ) → number ≡ get_or known label 0 → number ≡ 2 ^ 32 - 1 → length seen < 2 ^ 28 → is_among seen label ≡ false
  unknown-new number is none few = here (is_among seen label) refl
    where
      here : (b : Bool) → is_among seen label ≡ b → is_among seen label ≡ false
      here false e = e
      here true e =
          let place : get_or known label 0 ≡ position_or_len (nat_eq label) seen = are.entries label within ∙ ap (λ b. if b then position_or_len (nat_eq label) seen else 2 ^ 32 - 1) e in
          let below : position_or_len (nat_eq label) seen < length seen = first-within (nat_eq label) seen e in
          absurd (omega arith)

  entry-at : (m : ℕ) → is_among seen label ≡ false → m ≡ label → get_or (set known label (length seen)) m 0 ≡ (if is_among (seen_with nat_eq seen label) m then position_or_len (nat_eq m) (seen_with nat_eq seen label) else 2 ^ 32 - 1)
  entry-at m new is =
      let itself = λ (x : ℕ). eq-eqb x x refl in
      subst (λ k. get_or (set known label (length seen)) k 0 ≡ (if is_among (seen_with nat_eq seen label) k then position_or_len (nat_eq k) (seen_with nat_eq seen label) else 2 ^ 32 - 1)) (sym is)
      (get_or-set_same known label (length seen) 0 within
      ∙ sym (none-place (nat_eq label) seen new)
      ∙ sym (with-place nat_eq itself seen label)
      ∙ sym (ap (λ b. if b then position_or_len (nat_eq label) (seen_with nat_eq seen label) else 2 ^ 32 - 1) (with-listed nat_eq itself seen label)))

  entry-other : (m : ℕ) → m < length known → is_among seen label ≡ false → m ≢ label → get_or (set known label (length seen)) m 0 ≡ (if is_among (seen_with nat_eq seen label) m then position_or_len (nat_eq m) (seen_with nat_eq seen label) else 2 ^ 32 - 1)
  entry-other m inside new differs =
      let stays = get_or-set_other known label m (length seen) 0 differs ∙ are.entries m inside in
      let grows : seen_with nat_eq seen label ≡ seen ++ label ∷ [] = with-new nat_eq seen label new in
      let other : nat_eq m label ≡ false = grind (arith, nat_tests) in
      let among : is_among (seen ++ label ∷ []) m ≡ is_among seen m = list_any-append (nat_eq m) seen (label ∷ []) ∙ ap (λ b. is_among seen m || (b || false)) other ∙ or-none (is_among seen m) in
      subst (λ (ns : List ℕ). get_or (set known label (length seen)) m 0 ≡ (if is_among ns m then position_or_len (nat_eq m) ns else 2 ^ 32 - 1)) (sym grows) (here (is_among seen m) refl stays among)
    where
      here : (b : Bool) → is_among seen m ≡ b → get_or (set known label (length seen)) m 0 ≡ (if is_among seen m then position_or_len (nat_eq m) seen else 2 ^ 32 - 1) → is_among (seen ++ label ∷ []) m ≡ is_among seen m → get_or (set known label (length seen)) m 0 ≡ (if is_among (seen ++ label ∷ []) m then position_or_len (nat_eq m) (seen ++ label ∷ []) else 2 ^ 32 - 1)
      here true e stays among = rw (among, e) (rw e at stays ∙ sym (place-kept (nat_eq m) seen (label ∷ []) e))
      here false e stays among = rw (among, e) (rw e at stays)

  -- a new label gets the next number
  pub known-more : is_among seen label ≡ false → AreKnown (seen_with nat_eq seen label) (slice_set known label (length seen))
  known-more new = record { entries = λ m h. here m (omega (arith, h, length-set known label (length seen))) (cases_eq m label) }
    where
      here : (m : ℕ) → m < length known → (m ≡ label) ⊎ (m ≡ label → ⊥) → get_or (set known label (length seen)) m 0 ≡ (if is_among (seen_with nat_eq seen label) m then position_or_len (nat_eq m) (seen_with nat_eq seen label) else 2 ^ 32 - 1)
      here m inside (inl is) = entry-at m new is
      here m inside (inr differs) = entry-other m inside new differs
