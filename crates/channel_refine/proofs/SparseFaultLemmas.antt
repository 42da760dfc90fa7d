-- The first fault of the sparse levels of a channel is that of the first level that has one.
use Rattle.std.proofs.Common.{◌≡◌, ℕ, suc, ◌+◌, ◌*◌, ◌<◌, ◌≤◌, Bool, true, false, nat_lt, max, List, [], ◌∷◌, get_or, Some, arith, ap, sym, ◌∙◌, subst}
use Rattle.std.specs.List.{list_any}
use Rattle.std.proofs.lemmas.Bool.{le-ltb, lt-ltb}
use Rattle.subdiv_model.specs.Lists.{first_of}
use Rattle.subdiv_model.specs.Level.{Level}
use Rattle.subdiv_model.specs.Mask.{Scheme}
use Rattle.subdiv_model.specs.Fault as model
use Rattle.subdiv_model.specs.Fault.{Fault, Track, Overflow, ChaikinOverflow, TransitionOverflow, DenominatorOverflow, ValueOverflow}
use Rattle.subdiv_model.specs.Channel.{Channel, Tables, number_bound, entry_bound, has_chaikin_overflow, has_transition_overflow, has_denominator_overflow, has_many_entries, has_value_overflow}
use Rattle.subdiv_model.specs.Limits.{face_limit}
use Rattle.subdiv_model.specs.Sparse.{FacePredicate}
use Rattle.subdiv_model.specs.SparseFaults.{present_denominators, present_entries, present_faces, sparse_faults, sparse_level_faults, sparse_levels}
use Rattle.level_topology.specs.Child.{PointOrigin}
use Rattle.child_masks.specs.Masks.{IsFirstTransition, HasNoTransition}
use Rattle.primvar_refine.specs.Rows.{greatest_of}
use Rattle.level_walk.specs.declared.fault.Cause.{Cause}
use Rattle.level_walk.specs.declared.fault.Cause.TheVariants as cause
use Rattle.level_walk.specs.declared.fault.OverflowKind.TheVariants as kind
use Rattle.level_walk.proofs.UniformFaultLemmas.{flat-none, first-from-0}
use Rattle.sparse_walk.specs.Faults.{HasNoFaultTo, IsCauseAt}
use Rattle.channel_refine.specs.Step.{IsCarryCause}
use Rattle.channel_refine.proofs.FaultLemmas.{HasNoFault, IsFirstHeld, none-held, first-held}

-- the level has this number of present faces, which is too many
abbrev pub has_many_faces : Channel → FacePredicate → ℕ → Bool
has_many_faces channel predicate k = nat_lt face_limit (present_faces channel.base predicate (suc k))

-- the level after k + 1 steps has no fault
pub record HasNone (channel : Channel) (predicate : FacePredicate) (k : ℕ) : Type 0 where
  pub faces : has_many_faces channel predicate k ≡ false
  pub numbers : HasNoFault Tables (sparse_levels channel predicate) k

module _ (channel : Channel) (predicate : FacePredicate) where
  -- the tests of the level after k + 1 steps, in the order of its faults
  abbrev tests : Track → ℕ → List (Bool × Fault)
  tests track k =
      (has_many_faces channel predicate k, model.TooLarge (model.LevelFaces (suc k) (present_faces channel.base predicate (suc k))))
      ∷ (has_chaikin_overflow (sparse_levels channel predicate) k, Overflow track (suc k) ChaikinOverflow)
      ∷ (has_transition_overflow (sparse_levels channel predicate) k, Overflow track (suc k) TransitionOverflow)
      ∷ (has_denominator_overflow (sparse_levels channel predicate) k, Overflow track (suc k) DenominatorOverflow)
      ∷ (has_many_entries (sparse_levels channel predicate) k, model.TooLarge (model.Entries (suc k)))
      ∷ (has_value_overflow (sparse_levels channel predicate) k, Overflow track (suc k) ValueOverflow)
      ∷ []

  none-of-level : (track : Track) (k : ℕ) → HasNone channel predicate k → sparse_level_faults Tables channel predicate track k ≡ []
  none-of-level track k is =
      none-held (tests track k) (is.faces, (is.numbers.chaikin, (is.numbers.transition, (is.numbers.denominator, (is.numbers.entries, (is.numbers.value, tt))))))

  -- no level has a fault
  pub no-faults : (depth : ℕ) → ((k : ℕ) → k < depth → HasNone channel predicate k) → HasNoFaultTo Tables channel predicate depth
  no-faults depth none = λ track. flat-none (sparse_level_faults Tables channel predicate track) 0 depth (λ k h. none-of-level track k (none k (omega (arith, h))))

  -- the next level has a fault, and those before it have none
  module _ (k depth : ℕ) (within : k < depth) (before : (j : ℕ) → j < k → HasNone channel predicate j) where
    first-at : (track : Track) (at : ℕ) → IsFirstHeld (tests track k) at
        → first_of (sparse_faults Tables channel predicate track depth) ≡ Some (get_or (tests track k) at (false, Overflow track 0 ChaikinOverflow)).1
    first-at track at is =
        first-from-0 (sparse_level_faults Tables channel predicate track) depth k (get_or (tests track k) at (false, Overflow track 0 ChaikinOverflow)).1 within (λ j h. none-of-level track j (before j h))
        (first-held (tests track k) at (false, Overflow track 0 ChaikinOverflow) is)

    named : suc k ≡ k + 1
    named = omega arith

    -- too many faces are present, or halves overflow
    pub faces-first : (count : ℕ) → count ≡ present_faces channel.base predicate (suc k) → face_limit < count → IsCauseAt Tables channel predicate depth (k + 1) (cause.TooManyFaces count)
    faces-first count is many = λ track.
        first-at track 0 (lt-ltb face_limit (present_faces channel.base predicate (suc k)) (subst (λ n. face_limit < n) is many))
        ∙ ap (λ n. Some (model.TooLarge (model.LevelFaces (suc k) n))) (sym is)
        ∙ ap (λ m. Some (model.TooLarge (model.LevelFaces m count))) named

    module _ (faces : has_many_faces channel predicate k ≡ false) where
      pub chaikin-first : has_chaikin_overflow (sparse_levels channel predicate) k ≡ true → IsCauseAt Tables channel predicate depth (k + 1) (cause.Overflow kind.Chaikin)
      chaikin-first over = λ track. first-at track 1 (faces, over) ∙ ap (λ m. Some (Overflow track m ChaikinOverflow)) named

      -- numbers cannot be carried to the level, given its common denominators and its number of entries
      module _ (chaikin : has_chaikin_overflow (sparse_levels channel predicate) k ≡ false) (level : Level) (scheme : Scheme) (origins : List PointOrigin)
          (fine : HasNoTransition level scheme origins → has_transition_overflow (sparse_levels channel predicate) k ≡ false)
          (some : (v : ℕ) → IsFirstTransition level scheme origins v → has_transition_overflow (sparse_levels channel predicate) k ≡ true)
          (dens : List ℕ) (are : dens ≡ present_denominators channel predicate (suc k)) (entries : ℕ) (many : entries ≡ present_entries channel predicate (suc k)) where
        dens-fine : list_any (nat_lt number_bound) dens ≡ false → has_denominator_overflow (sparse_levels channel predicate) k ≡ false
        dens-fine h = ap (list_any (nat_lt number_bound)) (sym are) ∙ h

        entries-fine : entries ≤ entry_bound → has_many_entries (sparse_levels channel predicate) k ≡ false
        entries-fine h = ap (nat_lt entry_bound) (sym many) ∙ le-ltb entry_bound entries h

        pub carried-first : (why : Cause) → IsCarryCause (max channel.greatest channel.common) level scheme origins dens entries why → IsCauseAt Tables channel predicate depth (k + 1) why
        carried-first (cause.Overflow kind.Transition) is = λ track.
            first-at track 2 (faces, (chaikin, some is.0 is.1)) ∙ ap (λ m. Some (Overflow track m TransitionOverflow)) named
        carried-first (cause.Overflow kind.Denominator) is = λ track.
            first-at track 3 (faces, (chaikin, (fine is.0, ap (list_any (nat_lt number_bound)) (sym are) ∙ is.1))) ∙ ap (λ m. Some (Overflow track m DenominatorOverflow)) named
        carried-first cause.TooManyEntries is = λ track.
            first-at track 4 (faces, (chaikin, (fine is.0, (dens-fine is.1, ap (nat_lt entry_bound) (sym many) ∙ lt-ltb entry_bound entries is.2))))
            ∙ ap (λ m. Some (model.TooLarge (model.Entries m))) named
        carried-first (cause.Overflow kind.Value) is = λ track.
            first-at track 5 (
              faces,
              (
                chaikin,
                (
                  fine is.0,
                  (
                    dens-fine is.1,
                    (
                      entries-fine is.2,
                      lt-ltb number_bound (greatest_of (present_denominators channel predicate (suc k)) * max channel.greatest channel.common)
                          (subst (λ some. number_bound < greatest_of some * max channel.greatest channel.common) are is.3),
                    ),
                  ),
                ),
              ),
            )
            ∙ ap (λ m. Some (Overflow track m ValueOverflow)) named
        carried-first cause.Memory is = tt
        carried-first (cause.TooManyFaces count) is = absurd is
        carried-first (cause.Overflow kind.Chaikin) is = absurd is
