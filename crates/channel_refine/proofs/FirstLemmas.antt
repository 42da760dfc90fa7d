-- The first fault of a channel: a level has one, and the levels before it have none.
use Rattle.std.proofs.Common.{◌≡◌, ℕ, suc, ◌+◌, ◌*◌, ◌<◌, ◌≤◌, ◌^◌, true, false, nat_lt, max, List, length, ap, sym, ◌∙◌, subst}
use Rattle.std.specs.List.{list_any, sum_by}
use Rattle.std.proofs.lemmas.Bool.{le-ltb, lt-ltb}
use Rattle.subdiv_model.specs.Level.{Level}
use Rattle.subdiv_model.specs.Child.{refined_level}
use Rattle.subdiv_model.specs.Refined.{child_denominators}
use Rattle.subdiv_model.specs.Fault as model
use Rattle.subdiv_model.specs.Fault.{Overflow, TransitionOverflow, DenominatorOverflow, ValueOverflow}
use Rattle.subdiv_model.specs.Channel.{Channel, Asked, number_bound, entry_bound, chaikin_overflows_at, transition_overflows_at, at_some_point, channel_level, denominators_after, greatest_denominator, whole_levels}
use Rattle.level_topology.specs.Topology.{Topology}
use Rattle.level_topology.specs.Child.{ChildTopology}
use Rattle.level_walk.specs.declared.fault.Cause.{Cause}
use Rattle.level_walk.specs.declared.fault.Cause.TheVariants as cause
use Rattle.level_walk.specs.declared.fault.OverflowKind.TheVariants as kind
use Rattle.uniform_refiner.specs.Refined.{IsRefined}
use Rattle.level_walk.specs.UniformFaults.{faces_next, Reaches, IsCauseAt, IsLevelFault}
use Rattle.level_walk.specs.UniformStep.{IsLevelCause}
use Rattle.level_walk.proofs.UniformFaultLemmas.{fault-next, first-next, memory-next, refused-first}
use Rattle.level_walk.proofs.UniformLevelLemmas.{IsReached}
use Rattle.primvar_refine.specs.Rows.{greatest_of}
use Rattle.channel_refine.specs.Step.{IsCarryCause}
use Rattle.channel_refine.proofs.FaultLemmas.{AsksValues, HasNoFault, has_entry_fault, no-faults, transition-first, denominator-first, entries-first, value-first}
use Rattle.channel_refine.proofs.UniformLemmas.{AreNextNumbers, no-chaikin, no-transition, some-transition}
use Rattle.channel_refine.proofs.ValueLemmas.{none-passes}

-- the levels so far have no fault that is asked for; the last of them, and its common denominators
module _ (asked : Asked) (values : AsksValues asked) (channel : Channel) (k : ℕ) (none : (j : ℕ) → j < k → HasNoFault asked (whole_levels channel) j)
    (level : Level) (here : level ≡ channel_level channel k) (dens : List ℕ) (known : dens ≡ denominators_after channel k) where
  pub dens-after : denominators_after channel (suc k) ≡ child_denominators level channel.scheme dens
  dens-after =
      ap (child_denominators (refined_level channel.base k) channel.scheme) (sym known)
      ∙ ap (λ some. child_denominators some channel.scheme dens) (sym here)

  chaikin-none : at_some_point (chaikin_overflows_at level) level ≡ false → at_some_point (chaikin_overflows_at (channel_level channel k)) (channel_level channel k) ≡ false
  chaikin-none h = subst (λ some. at_some_point (chaikin_overflows_at some) some ≡ false) here h

  transition-none : at_some_point (transition_overflows_at level channel.scheme) level ≡ false
      → at_some_point (transition_overflows_at (channel_level channel k) channel.scheme) (channel_level channel k) ≡ false
  transition-none h = subst (λ some. at_some_point (transition_overflows_at some channel.scheme) some ≡ false) here h

  transition-some : at_some_point (transition_overflows_at level channel.scheme) level ≡ true
      → at_some_point (transition_overflows_at (channel_level channel k) channel.scheme) (channel_level channel k) ≡ true
  transition-some h = subst (λ some. at_some_point (transition_overflows_at some channel.scheme) some ≡ true) here h

  -- the next level has no fault either
  pub none-here : (next : List ℕ) → AreNextNumbers (max channel.greatest channel.common) level channel.scheme dens next → has_entry_fault asked (whole_levels channel) k ≡ false → HasNoFault asked (whole_levels channel) k
  none-here next are entries = record {
    chaikin = chaikin-none are.chaikin;
    transition = transition-none are.transition;
    denominator = ap (list_any (nat_lt number_bound)) (dens-after ∙ sym are.dens_are) ∙ none-passes next are.short;
    entries = entries;
    value =
        le-ltb number_bound (greatest_denominator channel (suc k) * max channel.greatest channel.common)
        (subst (λ some. greatest_of some * max channel.greatest channel.common ≤ number_bound) (are.dens_are ∙ sym dens-after) are.fits);
  }

-- the next level has a fault, and it is the first one
module _ (asked : Asked) (values : AsksValues asked) (channel : Channel) (k : ℕ) (none : (j : ℕ) → j < k → HasNoFault asked (whole_levels channel) j)
    (t : Topology) (is : IsReached channel.base k t) (dens : List ℕ) (known : dens ≡ denominators_after channel k) (depth : ℕ) (within : k < depth) where
  reaches : Reaches asked channel k
  reaches = record { few = λ j h. (is.made j h).few; fine = λ track. no-faults asked values (whole_levels channel) track k none }

  -- the level cannot be made
  pub first-of-level : (why : Cause) → IsLevelCause t.level why → IsLevelFault asked channel depth (k + 1) why
  first-of-level why refused = refused-first asked channel k reaches t.level is.level depth within why refused

  -- memory runs out on the way to the level
  pub first-of-memory : (why : Cause) → why ≡ cause.Memory → IsLevelFault asked channel depth (k + 1) why
  first-of-memory why same = memory-next asked channel k depth why within reaches same

  -- numbers cannot be carried to the level
  module _ (child : ChildTopology) (refined : IsRefined t child) (next : List ℕ) (are : next ≡ child_denominators t.level channel.scheme dens)
      (entries : ℕ) (few : has_entry_fault asked (whole_levels channel) k ≡ nat_lt entry_bound entries) where
    after : denominators_after channel (suc k) ≡ next
    after = dens-after asked values channel k none t.level is.level dens known ∙ sym are

    chaikin : at_some_point (chaikin_overflows_at (channel_level channel k)) (channel_level channel k) ≡ false
    chaikin = chaikin-none asked values channel k none t.level is.level dens known (no-chaikin t child refined)

    -- the level was made
    few-faces : faces_next channel k ≤ 2 ^ 22
    few-faces = subst (λ (level : Level). sum_by length level.polygons ≤ 2 ^ 22) is.level refined.few

    cause-next : (why : Cause) → IsCarryCause (max channel.greatest channel.common) t.level channel.scheme child.origins next entries why → IsCauseAt asked channel depth (k + 1) why
    cause-next (cause.Overflow kind.Transition) over = first-next asked channel k depth (λ track n. Overflow track n TransitionOverflow) few-faces (λ track.
        transition-first asked values (whole_levels channel) track k depth within none chaikin
        (transition-some asked values channel k none t.level is.level dens known (some-transition t child refined channel.scheme over.0 over.1)))
    cause-next (cause.Overflow kind.Denominator) over = first-next asked channel k depth (λ track n. Overflow track n DenominatorOverflow) few-faces (λ track.
        denominator-first asked values (whole_levels channel) track k depth within none chaikin
        (transition-none asked values channel k none t.level is.level dens known (no-transition t child refined channel.scheme over.0))
        (ap (list_any (nat_lt number_bound)) after ∙ over.1))
    cause-next cause.TooManyEntries over = first-next asked channel k depth (λ track n. model.TooLarge (model.Entries n)) few-faces (λ track.
        entries-first asked values (whole_levels channel) track k depth within none chaikin
        (transition-none asked values channel k none t.level is.level dens known (no-transition t child refined channel.scheme over.0))
        (ap (list_any (nat_lt number_bound)) after ∙ over.1) (few ∙ lt-ltb entry_bound entries over.2))
    cause-next (cause.Overflow kind.Value) over = first-next asked channel k depth (λ track n. Overflow track n ValueOverflow) few-faces (λ track.
        value-first asked values (whole_levels channel) track k depth within none chaikin
        (transition-none asked values channel k none t.level is.level dens known (no-transition t child refined channel.scheme over.0))
        (ap (list_any (nat_lt number_bound)) after ∙ over.1) (few ∙ le-ltb entry_bound entries over.2)
        (lt-ltb number_bound (greatest_denominator channel (suc k) * max channel.greatest channel.common)
        (subst (λ some. number_bound < greatest_of some * max channel.greatest channel.common) (sym after) over.3)))
    cause-next cause.Memory over = tt
    cause-next (cause.TooManyFaces count) over = absurd over
    cause-next (cause.Overflow kind.Chaikin) over = absurd over

    pub first-of-carried : (why : Cause) → IsCarryCause (max channel.greatest channel.common) t.level channel.scheme child.origins next entries why
        → IsLevelFault asked channel depth (k + 1) why
    first-of-carried why over = fault-next asked channel k depth why within reaches (cause-next why over)
