-- The first walk finds the common denominator of a channel, or the first line up to which it passes its bound.
use Rattle.std.proofs.Common.{◌≡◌, ℕ, suc, ◌^◌, ◌<◌, ◌≤◌, nat_le, nat_lt, Bool, true, false, List, [], ◌∷◌, ◌++◌, length, length-append, map, get_or, append-nil, Option, Some, None, option_map, arith, refl, ap, sym, subst, ◌∙◌, if◌then◌else◌}
use Rattle.std.specs.Prelude.{is_some}
use Rattle.std.specs.List.{AllByRecursion, filter, fold}
use Rattle.std.proofs.lemmas.Bool.Decides.{nat_tests}
use Rattle.std.proofs.lemmas.List.{append_assoc}
use Rattle.subdiv_model.specs.Multiples.{lcm_of}
use Rattle.subdiv_model.specs.ObjFault.{NumberRange}
use Rattle.subdiv_model.specs.ObjWord.{numeral_fault}
use Rattle.subdiv_model.specs.ReadObj.{kept_coordinates, denominator_of, common_over, passes_bound, wide_fault, first_fault}
use Rattle.number_laws.proofs.MultipleLemmas.{lcm-positive}
use Rattle.obj_laws.proofs.ObjChannelLemmas.{denominators-positive, common-positive, passes-longer}
use Rattle.obj_tags.specs.Line.{Line}
use Rattle.obj_tags.specs.Survey.{raised, with_denominator, with_word, with_line, surveyed, long_fault_at, IsCommonOf}
use Rattle.obj_tags.specs.declared.survey.Common.{Common}
use Rattle.obj_tags.proofs.CommonLemmas.{channel-other, channel-more, fold-grows, wide-before, wide-last}
use Rattle.obj_tags.proofs.FirstLineLemmas.{first-more, or-none, some-or, none-or, cause-of}

-- numerals that are kept
abbrev pub AreKept : List (List ℕ) → Type 0
AreKept words = AllByRecursion (λ word. numeral_fault word ≡ None) words

kept-word : (number : ℕ) (common : Common) (word : List ℕ) → numeral_fault word ≡ None
    → with_word number common word ≡ with_denominator number common (denominator_of word)
kept-word number common word e = rw e refl

kept-words : (number : ℕ) (common : Common) (words : List (List ℕ)) → AreKept words
    → fold (with_word number) common words ≡ fold (with_denominator number) common (map denominator_of words)
kept-words number common [] h = refl
kept-words number common (w ∷ words) h =
    ap (λ c. fold (with_word number) c words) (kept-word number common w h.0)
    ∙ kept-words number (with_denominator number common (denominator_of w)) words h.1

-- a channel that is too wide stays as it is
stays : (number value place : ℕ) (ds : List ℕ)
    → fold (with_denominator number) (record { value = value; wide = Some place }) ds ≡ record { value = value; wide = Some place }
stays number value place [] = refl
stays number value place (d ∷ ds) = stays number value place ds

-- The survey after more denominators: their least common multiple, or the line at which it exceeds the bound.
pub record Reaches (number multiple : ℕ) (next : Common) : Type 0 where
  pub wide : next.wide ≡ (if nat_lt (10 ^ 37) multiple then Some number else None)
  pub value : next.wide ≡ None → next.value ≡ multiple

le-not : (a b : ℕ) → a ≤ b → nat_lt b a ≡ false
le-not a b h = grind (arith, nat_tests)

passed : (a b c : ℕ) → nat_le a b ≡ false → a ≤ c → nat_lt b c ≡ true
passed a b c e h = grind (arith, nat_tests)

within : (a b : ℕ) → nat_le a b ≡ true → a ≤ b
within a b e = grind (arith, nat_tests)

reaches : (number value : ℕ) (ds : List ℕ) → 0 < value → value ≤ 10 ^ 37 → AllByRecursion (λ d. 0 < d) ds
    → Reaches number (fold lcm_of value ds) (fold (with_denominator number) (record { value = value; wide = None }) ds)
reaches number value [] positive short all = record { wide = rw (le-not value (10 ^ 37) short) refl; value = λ e. refl }
reaches number value (d ∷ ds) positive short all =
    step (nat_le (lcm_of value d) (10 ^ 37)) refl (λ fits. reaches number (lcm_of value d) ds (lcm-positive value d positive all.0) fits all.1)
  where
    grows : lcm_of value d ≤ fold lcm_of (lcm_of value d) ds
    grows = fold-grows (lcm_of value d) ds (lcm-positive value d positive all.0) all.1

    step : (b : Bool) → nat_le (lcm_of value d) (10 ^ 37) ≡ b
        → (lcm_of value d ≤ 10 ^ 37 → Reaches number (fold lcm_of (lcm_of value d) ds) (fold (with_denominator number) (record { value = lcm_of value d; wide = None }) ds))
        → Reaches number (fold lcm_of (lcm_of value d) ds) (fold (with_denominator number) (raised number (record { value = value; wide = None }) (lcm_of value d)) ds)
    step true e rest = rw e (rest (within (lcm_of value d) (10 ^ 37) e))
    step false e rest =
        rw (e, stays number value number ds)
        record { wide = rw (passed (lcm_of value d) (10 ^ 37) (fold lcm_of (lcm_of value d) ds) e grows) refl; value = λ none. cc }

-- a line of another channel
common-other : (kind : Line → Bool) (start : ℕ) (common : Common) (before : List Line) (line : Line) → kind line ≡ false
    → IsCommonOf kind start common before → IsCommonOf kind start common (before ++ line ∷ [])
common-other kind start common before line other is =
    let same = channel-other kind start before line other in
    let none : wide_fault kind start (before ++ line ∷ []) (length before) ≡ None = wide-last kind start before line ∙ rw other refl in
    record {
      passes = is.passes ∙ ap (nat_lt (10 ^ 37)) (sym same);
      value = λ e. is.value e ∙ sym same;
      first = is.first ∙ sym (first-more (wide_fault kind start (before ++ line ∷ [])) (wide_fault kind start before) before line None (λ k low. wide-before kind start before line k low) none ∙ or-none (first_fault (wide_fault kind start before) (length before)));
    }

not-passed : (a b : ℕ) → false ≡ nat_lt a b → b ≤ a
not-passed a b e = grind (arith, nat_tests)

-- a line of the channel
common-line : (kind : Line → Bool) (start value : ℕ) (wide : Option ℕ) (before : List Line) (line : Line) → 0 < start → kind line ≡ true
    → IsCommonOf kind start (record { value = value; wide = wide }) before
    → IsCommonOf kind start (fold (with_denominator (suc (length before))) (record { value = value; wide = wide }) (map denominator_of (kept_coordinates line))) (before ++ line ∷ [])
common-line kind start value (Some place) before line positive kin is =
    rw (stays (suc (length before)) value place (map denominator_of (kept_coordinates line)))
    record {
      passes = sym (passes-longer kind start before (line ∷ []) positive (sym is.passes));
      value = λ e. cc;
      first =
          sym
          (first-more (wide_fault kind start (before ++ line ∷ [])) (wide_fault kind start before) before line _ (λ k low. wide-before kind start before line k low) refl
          ∙ some-or _ _ _ is.first);
    }
common-line kind start value None before line positive kin is =
    let more = channel-more kind start before line kin in
    let here : value ≡ common_over start (filter kind before) = is.value refl in
    let above = common-positive start (filter kind before) positive in
    let below = not-passed (10 ^ 37) (common_over start (filter kind before)) is.passes in
    let all : fold lcm_of value (map denominator_of (kept_coordinates line)) ≡ common_over start (filter kind (before ++ line ∷ [])) =
    ap (λ v. fold lcm_of v (map denominator_of (kept_coordinates line))) here ∙ sym more in
    let there = reaches (suc (length before)) value (map denominator_of (kept_coordinates line)) (omega (arith, here, above)) (omega (arith, here, below)) (denominators-positive (kept_coordinates line)) in
    let placed = there.wide ∙ ap (λ m. if nat_lt (10 ^ 37) m then Some (suc (length before)) else None) all in
    let last : wide_fault kind start (before ++ line ∷ []) (length before) ≡ (if passes_bound kind start (before ++ line ∷ []) then Some NumberRange else None) = wide-last kind start before line ∙ rw kin refl in
    record {
      passes = ap is_some placed ∙ some-if (passes_bound kind start (before ++ line ∷ [])) (suc (length before));
      value = λ e. there.value e ∙ all;
      first =
          ap (option_map long_fault_at) placed
          ∙ cause-of (passes_bound kind start (before ++ line ∷ [])) (length before)
          ∙ sym
          (first-more (wide_fault kind start (before ++ line ∷ [])) (wide_fault kind start before) before line _ (λ k low. wide-before kind start before line k low) last
          ∙ none-or _ _ is.first);
    }
  where
    some-if : (b : Bool) (n : ℕ) → is_some (if b then Some n else None) ≡ b
    some-if true n = refl
    some-if false n = refl

-- one more line
common-step : (kind : Line → Bool) (start : ℕ) (common : Common) (before : List Line) (line : Line) → 0 < start
    → (kind line ≡ true → AreKept (kept_coordinates line)) → IsCommonOf kind start common before
    → IsCommonOf kind start (with_line kind (suc (length before)) common line) (before ++ line ∷ [])
common-step kind start common before line positive kept is = step (kind line) refl
  where
    step : (b : Bool) → kind line ≡ b → IsCommonOf kind start (with_line kind (suc (length before)) common line) (before ++ line ∷ [])
    step true e =
        rw (e, kept-words (suc (length before)) common (kept_coordinates line) (kept e))
        (common-line kind start common.value common.wide before line positive e is)
    step false e = rw e (common-other kind start common before line e is)

-- the lines of a channel have numerals that are kept
abbrev pub IsFine : (Line → Bool) → List Line → Type 0
IsFine kind lines = (i : ℕ) → i < length lines → kind (get_or lines i []) ≡ true → AreKept (kept_coordinates (get_or lines i []))

survey-more : (kind : Line → Bool) (start : ℕ) (common : Common) (before lines : List Line) → 0 < start → IsFine kind lines
    → IsCommonOf kind start common before → IsCommonOf kind start (surveyed kind (suc (length before)) common lines) (before ++ lines)
survey-more kind start common before [] positive fine is = subst (IsCommonOf kind start common) (sym (append-nil before)) is
survey-more kind start common before (line ∷ lines) positive fine is =
    let next = with_line kind (suc (length before)) common line in
    let size : suc (suc (length before)) ≡ suc (length (before ++ line ∷ [])) = omega (arith, length-append before (line ∷ [])) in
    let step = common-step kind start common before line positive (fine 0 (omega arith)) is in
    let rest = survey-more kind start next (before ++ line ∷ []) lines positive (λ i low. fine (suc i) (omega arith)) step in
    subst (λ n. IsCommonOf kind start (surveyed kind n next lines) (before ++ line ∷ lines)) (sym size)
    (subst (IsCommonOf kind start (surveyed kind (suc (length (before ++ line ∷ []))) next lines)) (append_assoc before (line ∷ []) lines) rest)

-- all lines
pub survey-common : (kind : Line → Bool) (start : ℕ) (lines : List Line) → 0 < start → start ≤ 10 ^ 37 → IsFine kind lines
    → IsCommonOf kind start (surveyed kind 1 (record { value = start; wide = None }) lines) lines
survey-common kind start lines positive short fine =
    survey-more kind start (record { value = start; wide = None }) [] lines positive fine
    record { passes = sym (le-not start (10 ^ 37) short); value = λ e. refl; first = refl }
