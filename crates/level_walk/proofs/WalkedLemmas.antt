-- A walk over whole levels whose carrier counts no steps: the level that it reaches, or its fault.
use Rattle.std.proofs.Common.{◌≡◌, ℕ, zero, suc, ◌+◌, ◌<◌, ◌≤◌, inl, inr, length, arith, ap, sym, ◌∙◌, subst}
use Rattle.std.specs.List.{sum_by}
use Rattle.subdiv_model.specs.Level.{Level}
use Rattle.subdiv_model.specs.Child.{refined_level}
use Rattle.subdiv_model.specs.Channel.{Channel, Sharpnesses}
use Rattle.level_topology.specs.Topology.{Topology}
use Rattle.level_topology.specs.Child.{ChildTopology}
use Rattle.level_walk.specs.declared.fault.Cause.{Cause}
use Rattle.level_walk.specs.declared.fault.Cause.TheVariants.{Memory}
use Rattle.level_walk.specs.declared.fault.WalkFault.{WalkFault}
use Rattle.level_walk.specs.Round.{IsCause}
use Rattle.level_walk.specs.Walk.{Place, LeadsTo, IsWalked, IsStopped}
use Rattle.level_walk.specs.UniformFaults.{IsLevelFault, Reaches}
use Rattle.level_walk.specs.UniformLevels.{AreMade, AreLevelSteps}
use Rattle.level_walk.specs.UniformStep.{IsLevelCause, IsMade, IsRefused}
use Rattle.level_walk.proofs.UniformFaultLemmas.{reaches-made, memory-next, refused-first}
use Rattle.level_walk.proofs.UniformLevelLemmas.{IsReached, reached-none, reached-next, faces-next, faces-within}

-- the level after k steps, and the number of steps counted before and by then
pub record IsWalkedTo (base : Level) (k : ℕ) (t : Topology) (old new : ℕ) : Type 0 where
  pub reached : IsReached base k t
  pub steps : AreLevelSteps base k old new

-- the fault of the levels to a depth, and the number of steps counted before and by then
pub record IsStoppedAt (base : Level) (depth : ℕ) (number : ℕ) (cause : Cause) (old new : ℕ) : Type 0 where
  pub fault : (channel : Channel) → channel.base ≡ base → IsLevelFault Sharpnesses channel depth number cause
  pub steps : AreLevelSteps base depth old new

-- each channel over the same level 0 reaches the level
reaches : (base : Level) (k : ℕ) (t : Topology) → IsReached base k t → (channel : Channel) → channel.base ≡ base → Reaches Sharpnesses channel k
reaches base k t is channel same = reaches-made channel k (subst (λ level. AreMade level k) (sym same) is.made)

-- the level cannot be made, and so it has the first fault of each channel with that level 0
first-fault : (base : Level) (depth k : ℕ) (t : Topology) (cause : Cause) → IsReached base k t → k < depth → IsLevelCause t.level cause
    → (channel : Channel) → channel.base ≡ base → IsLevelFault Sharpnesses channel depth (k + 1) cause
first-fault base depth k t cause is within refused channel same =
    let here : t.level ≡ refined_level channel.base k = is.level ∙ ap (λ (level : Level). refined_level level k) (sym same) in
    refused-first Sharpnesses channel k (reaches base k t is channel same) t.level here depth within cause refused

plus-one : (k : ℕ) → k + 1 ≡ suc k
plus-one k = omega arith

module _ {C V : Type 0} (Follow : Topology → ChildTopology → C → C → ℕ → ℕ → Type 0) (Takes : V → Topology → C → V → Type 0)
    (free : (t : Topology) (child : ChildTopology) (before next : C) (old new : ℕ) → Follow t child before next old new → new ≡ old)
    (start : Place Topology C V) where
  abbrev base : Level
  base = start.reached.level.level

  abbrev Walked : ℕ → Place Topology C V → Type 0
  Walked k end = IsWalkedTo base k end.reached.level start.steps end.steps

  walked-next : (k : ℕ) (from end : Place Topology C V) → Walked k from → LeadsTo (λ t. t) IsMade Follow Takes from end → Walked (k + 1) end
  walked-next k from end is leads =
      let made = leads.made.made in
      let same = free _ _ _ _ _ _ leads.made.followed in
      let faces = faces-next base k from.reached.level is.reached in
      record {
        reached = reached-next base k from.reached.level end.reached.level leads.made.child is.reached made.refined made.next_is;
        steps = record {
          most = omega (arith, is.steps.most, made.steps.most, same, faces);
          later = omega (arith, is.steps.later, made.steps.later, same);
        };
      }

  pub walked-to : (k : ℕ) (end : Place Topology C V) → IsWalked (λ t. t) IsMade Follow Takes start k end → Walked k end
  walked-to zero end is =
      subst (Walked 0) (sym is) (record { reached = reached-none start.reached.level; steps = record { most = omega arith; later = omega arith } })
  walked-to (suc k) end (before, (walked, leads)) = subst (λ n. Walked n end) (plus-one k) (walked-next k before end (walked-to k before walked) leads)

  module _ (Fail : Topology → ChildTopology → C → Cause → ℕ → ℕ → Type 0)
      (fails : (t : Topology) (child : ChildTopology) (before : C) (cause : Cause) (old new : ℕ) → Fail t child before cause old new → (cause ≡ Memory) × (new ≡ old)) where
    abbrev Stopped : ℕ → ℕ → Cause → ℕ → Type 0
    Stopped depth number cause new = IsStoppedAt base depth number cause start.steps new

    -- one step more counts at most one for each face of the level after it
    level-steps : (k depth new : ℕ) (last : Place Topology C V) → k < depth → Walked k last → new ≤ last.steps + sum_by length last.reached.level.level.polygons
        → last.steps ≤ new → AreLevelSteps base depth start.steps new
    level-steps k depth new last within is most later = record {
      most = omega (arith, is.steps.most, most, faces-next base k last.reached.level is.reached, faces-within base (k + 1) depth (omega (arith, within)));
      later = omega (arith, is.steps.later, later);
    }

    -- memory runs out after the step to the level
    without-memory : (depth k : ℕ) (last : Place Topology C V) (new : ℕ) → k < depth → Walked k last → (cause : Cause) → cause ≡ Memory
        → new ≤ last.steps + sum_by length last.reached.level.level.polygons → last.steps ≤ new → Stopped depth (k + 1) cause new
    without-memory depth k last new within is cause memory most later = record {
      fault = λ channel same. memory-next Sharpnesses channel k depth cause within (reaches base k last.reached.level is.reached channel same) memory;
      steps = level-steps k depth new last within is most later;
    }

    stopped-at : (depth k : ℕ) (last : Place Topology C V) (new : ℕ) → k < depth → Walked k last → (cause : Cause)
        → IsCause (λ t. t) IsMade IsRefused Follow Fail last.reached cause last.steps new → Stopped depth (k + 1) cause new
    stopped-at depth k last new within is cause (inl refused) = record {
      fault = first-fault base depth k last.reached.level cause is.reached within refused.is;
      steps = level-steps k depth new last within is refused.steps.most refused.steps.later;
    }
    stopped-at depth k last new within is cause (inr (inl left)) =
        let failed = fails _ _ _ _ _ _ left.fails in
        without-memory depth k last new within is cause failed.0 (omega (arith, left.made.steps.most, failed.1)) (omega (arith, left.made.steps.later, failed.1))
    stopped-at depth k last new within is cause (inr (inr without)) =
        let made = without.made.made in
        let same = free _ _ _ _ _ _ without.made.followed in
        without-memory depth k last new within is cause without.memory (omega (arith, made.steps.most, same)) (omega (arith, made.steps.later, same))

    pub stopped-within : (depth : ℕ) (fault : WalkFault) (visitor : V) (new : ℕ) → IsStopped (λ t. t) IsMade IsRefused Follow Fail Takes start depth fault visitor new
        → Stopped depth fault.level fault.cause new
    stopped-within depth fault visitor new is =
        subst (λ n. Stopped depth n fault.cause new) (sym is.number)
        (stopped-at depth is.k is.last new is.within (walked-to is.k is.last is.walked) fault.cause is.failed.cause)
