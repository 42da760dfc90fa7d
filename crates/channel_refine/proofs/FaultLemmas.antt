-- The faults of a level in their order, as a list of tests. If no test passes there is no fault; else the fault is that of the first test
-- that passes.
use Rattle.std.proofs.Common.{◌≡◌, ℕ, zero, suc, ◌<◌, Bool, true, false, List, [], ◌∷◌, ◌++◌, get_or, Some, refl, ap, ◌∙◌}
use Rattle.std.specs.List.{AllByRecursion}
use Rattle.subdiv_model.specs.Lists.{first_of}
use Rattle.subdiv_model.specs.Fault.{Fault, TooLarge, Entries, Overflow, Track, ChaikinOverflow, TransitionOverflow, DenominatorOverflow, ValueOverflow}
use Rattle.subdiv_model.specs.Channel.{TrackLevels, Asked, Sharpnesses, Values, Tables, fault_where, has_chaikin_overflow, has_transition_overflow, has_denominator_overflow, has_many_entries, has_value_overflow, level_faults, track_faults}
use Rattle.level_walk.proofs.UniformFaultLemmas.{none-of-levels, first-of-levels}

-- tests, each with the fault that it reports
abbrev pub held_faults : List (Bool × Fault) → List Fault
held_faults [] = []
held_faults (test ∷ []) = fault_where test.0 test.1
held_faults (test ∷ next ∷ tests) = fault_where test.0 test.1 ++ held_faults (next ∷ tests)

-- the test at a place passes, and none before it does
abbrev pub IsFirstHeld : List (Bool × Fault) → ℕ → Type 0
IsFirstHeld [] at = ⊥
IsFirstHeld (test ∷ tests) zero = test.0 ≡ true
IsFirstHeld (test ∷ tests) (suc at) = (test.0 ≡ false) × IsFirstHeld tests at

-- if no test passes there is no fault; else the first fault is that of the first test that passes
pub none-held : (tests : List (Bool × Fault)) → AllByRecursion (λ test. test.0 ≡ false) tests → held_faults tests ≡ []
none-held [] all = refl
none-held ((b, fault) ∷ []) all = rw all.0 refl
none-held ((b, fault) ∷ next ∷ tests) all = rw all.0 (none-held (next ∷ tests) all.1)

pub first-held : (tests : List (Bool × Fault)) (at : ℕ) (none : Bool × Fault) → IsFirstHeld tests at → first_of (held_faults tests) ≡ Some (get_or tests at none).1
first-held [] at none is = absurd is
first-held ((b, fault) ∷ []) zero none is = rw is refl
first-held ((b, fault) ∷ []) (suc at) none is = absurd is.1
first-held ((b, fault) ∷ next ∷ tests) zero none is = rw is refl
first-held ((b, fault) ∷ next ∷ tests) (suc at) none is = rw is.0 (first-held (next ∷ tests) at none is.1)

-- the request is for values, with or without tables
abbrev pub AsksValues : Asked → Type 0
AsksValues Sharpnesses = ⊥
AsksValues Values = Unit {0}
AsksValues Tables = Unit {0}

-- the request is for a table, and it has too many entries
abbrev pub has_entry_fault : Asked → TrackLevels → ℕ → Bool
has_entry_fault Sharpnesses levels k = false
has_entry_fault Values levels k = false
has_entry_fault Tables levels k = has_many_entries levels k

-- the level after k + 1 steps has no fault that is asked for
pub record HasNoFault (asked : Asked) (levels : TrackLevels) (k : ℕ) : Type 0 where
  pub chaikin : has_chaikin_overflow levels k ≡ false
  pub transition : has_transition_overflow levels k ≡ false
  pub denominator : has_denominator_overflow levels k ≡ false
  pub entries : has_entry_fault asked levels k ≡ false
  pub value : has_value_overflow levels k ≡ false

-- the tests of the level after k + 1 steps, in the order of its faults
abbrev tests : Asked → TrackLevels → Track → ℕ → List (Bool × Fault)
tests asked levels track k =
    (has_chaikin_overflow levels k, Overflow track (suc k) ChaikinOverflow)
    ∷ (has_transition_overflow levels k, Overflow track (suc k) TransitionOverflow)
    ∷ (has_denominator_overflow levels k, Overflow track (suc k) DenominatorOverflow)
    ∷ (has_entry_fault asked levels k, TooLarge (Entries (suc k)))
    ∷ (has_value_overflow levels k, Overflow track (suc k) ValueOverflow)
    ∷ []

tests-are : (asked : Asked) → AsksValues asked → (levels : TrackLevels) (track : Track) (k : ℕ) → level_faults asked levels track k ≡ held_faults (tests asked levels track k)
tests-are Sharpnesses is levels track k = absurd is
tests-are Values is levels track k = refl
tests-are Tables is levels track k = refl

module _ (asked : Asked) (values : AsksValues asked) (levels : TrackLevels) (track : Track) where
  pub none-of-level : (k : ℕ) → HasNoFault asked levels k → level_faults asked levels track k ≡ []
  none-of-level k is = tests-are asked values levels track k ∙ none-held (tests asked levels track k) (is.chaikin, (is.transition, (is.denominator, (is.entries, (is.value, tt)))))

  -- no level has a fault
  pub no-faults : (depth : ℕ) → ((k : ℕ) → k < depth → HasNoFault asked levels k) → track_faults asked levels track depth ≡ []
  no-faults depth none = none-of-levels asked levels track depth (λ k h. none-of-level k (none k h))

  -- the first level that has a fault, and its first fault
  module _ (k depth : ℕ) (within : k < depth) (before : (j : ℕ) → j < k → HasNoFault asked levels j) where
    first-of-level : (at : ℕ) → IsFirstHeld (tests asked levels track k) at
        → first_of (track_faults asked levels track depth) ≡ Some (get_or (tests asked levels track k) at (false, Overflow track 0 ChaikinOverflow)).1
    first-of-level at is =
        first-of-levels asked levels track k depth (get_or (tests asked levels track k) at (false, Overflow track 0 ChaikinOverflow)).1 within (λ j h. none-of-level j (before j h))
        (ap first_of (tests-are asked values levels track k) ∙ first-held (tests asked levels track k) at (false, Overflow track 0 ChaikinOverflow) is)

    pub transition-first : has_chaikin_overflow levels k ≡ false → has_transition_overflow levels k ≡ true
        → first_of (track_faults asked levels track depth) ≡ Some (Overflow track (suc k) TransitionOverflow)
    transition-first chaikin transition = first-of-level 1 (chaikin, transition)

    pub denominator-first : has_chaikin_overflow levels k ≡ false → has_transition_overflow levels k ≡ false → has_denominator_overflow levels k ≡ true
        → first_of (track_faults asked levels track depth) ≡ Some (Overflow track (suc k) DenominatorOverflow)
    denominator-first chaikin transition denominator = first-of-level 2 (chaikin, (transition, denominator))

    pub entries-first : has_chaikin_overflow levels k ≡ false → has_transition_overflow levels k ≡ false → has_denominator_overflow levels k ≡ false
        → has_entry_fault asked levels k ≡ true → first_of (track_faults asked levels track depth) ≡ Some (TooLarge (Entries (suc k)))
    entries-first chaikin transition denominator entries = first-of-level 3 (chaikin, (transition, (denominator, entries)))

    pub value-first : has_chaikin_overflow levels k ≡ false → has_transition_overflow levels k ≡ false → has_denominator_overflow levels k ≡ false
        → has_entry_fault asked levels k ≡ false → has_value_overflow levels k ≡ true
        → first_of (track_faults asked levels track depth) ≡ Some (Overflow track (suc k) ValueOverflow)
    value-first chaikin transition denominator entries value = first-of-level 4 (chaikin, (transition, (denominator, (entries, value))))
