-- The result of a walk over whole levels that carries the values of a channel.
use Rattle.std.proofs.Common.{◌≡◌, ℕ, zero, suc, ◌+◌, ◌<◌, ◌≤◌, inl, inr, max, List, length, arith, refl, ap, sym, ◌∙◌, subst}
use Rattle.std.specs.List.{sum_by}
use Rattle.subdiv_model.specs.Mask.{Scheme, mask_terms}
use Rattle.subdiv_model.specs.Child.{refined_level}
use Rattle.subdiv_model.specs.Channel.{Channel, Values}
use Rattle.level_topology.specs.Topology.{Topology}
use Rattle.level_topology.specs.Child.{ChildTopology}
use Rattle.level_walk.specs.declared.fault.Cause.{Cause}
use Rattle.level_walk.specs.declared.fault.WalkFault.{WalkFault}
use Rattle.level_walk.specs.declared.reached.Reached.{Reached}
use Rattle.level_walk.specs.Round.{IsNext, IsCause}
use Rattle.level_walk.specs.Walk.{Place, IsWalked, IsStopped}
use Rattle.uniform_refiner.specs.Refined.{IsRefined}
use Rattle.level_walk.specs.UniformFaults.{IsLevelFault}
use Rattle.level_walk.specs.UniformLevels.{faces_to}
use Rattle.level_walk.specs.UniformStep.{IsMade, IsRefused}
use Rattle.level_walk.proofs.UniformLevelLemmas as series
use Rattle.level_walk.proofs.UniformMaskLemmas.{dens-are, terms-are}
use Rattle.primvar_refine.specs.Rows.{Row, dens_of}
use Rattle.child_masks.specs.Masks.{step_terms}
use Rattle.channel_refine.specs.Refined.{terms_to}
use Rattle.channel_refine.specs.Step.{AreCarried, IsValueCause, AreTermSteps}
use Rattle.channel_refine.proofs.ChannelLemmas.{IsReached, reached-next, terms-next, terms-within}
use Rattle.channel_refine.proofs.FirstLemmas as first

module _ {C V : Type 0} (rows : C → List Row) (Takes : V → Topology → C → V → Type 0) (channel : Channel) (controls : List Row)
    (most : ℕ) (same : most ≡ max channel.greatest channel.common) (scheme : Scheme) (by : scheme ≡ channel.scheme) (start : Place Topology C V) where
  -- a fact about this amount and this scheme is one about those of the channel
  of-channel : (P : ℕ → Scheme → Type 0) → P most scheme → P (max channel.greatest channel.common) channel.scheme
  of-channel P p = subst (P (max channel.greatest channel.common)) by (subst (λ m. P m scheme) same p)

  abbrev Follow : Topology → ChildTopology → C → C → ℕ → ℕ → Type 0
  Follow t child before next old new =
      AreCarried most t.level scheme child.origins (rows before) (rows next) × (new ≡ old + step_terms t.level scheme child.origins)

  abbrev Fail : Topology → ChildTopology → C → Cause → ℕ → ℕ → Type 0
  Fail t child before cause old new =
      IsValueCause most t.level scheme child.origins (rows before) cause × AreTermSteps t.level scheme child.origins old new

  -- the level after k steps with its values, and the steps that were taken
  abbrev Walked : ℕ → Place Topology C V → Type 0
  Walked k end =
      IsReached channel controls k end.reached.level (rows end.reached.carried)
      × ((start.steps + terms_to channel.base channel.scheme k ≤ end.steps)
      × (end.steps ≤ start.steps + faces_to channel.base k + terms_to channel.base channel.scheme k))

  plus-one : (k : ℕ) → k + 1 ≡ suc k
  plus-one k = omega arith

  -- the terms of the next level are those of one more level
  terms-more : (k : ℕ) (t : Topology) (child : ChildTopology) → series.IsReached channel.base k t → IsRefined t child
      → terms_to channel.base channel.scheme (k + 1) ≡ terms_to channel.base channel.scheme k + step_terms t.level channel.scheme child.origins
  terms-more k t child is refined =
      terms-next channel.base channel.scheme k
      ∙ ap (λ n. terms_to channel.base channel.scheme k + n) (sym (terms-are t child refined channel.scheme ∙ ap (λ level. mask_terms level channel.scheme) is.level))

  walked-next : (k : ℕ) (from : Place Topology C V) (next : Reached Topology C) (visitor : V) (new : ℕ) → Walked k from
      → IsNext (λ t. t) IsMade Follow from.reached next from.steps new → Walked (k + 1) (record { reached = next; visitor = visitor; steps = new })
  walked-next k from next visitor new is made =
      let t = from.reached.level in
      let faces = series.faces-next channel.base k t is.0.level in
      let terms = terms-more k t made.child is.0.level made.made.refined in
      let taken : new ≡ made.level_steps + step_terms t.level channel.scheme made.child.origins = of-channel (λ _ s. new ≡ made.level_steps + step_terms t.level s made.child.origins) made.followed.1 in (
        reached-next channel controls k t (rows from.reached.carried) is.0 next.level (rows next.carried) made.child made.made.refined made.made.next_is
            (of-channel (λ m s. AreCarried m t.level s made.child.origins (rows from.reached.carried) (rows next.carried)) made.followed.0),
        (
          omega (arith, is.1.0, made.made.steps.later, taken, terms),
          omega (arith, is.1.1, made.made.steps.most, taken, terms, faces),
        ),
      )

  module _ (at : IsReached channel controls 0 start.reached.level (rows start.reached.carried)) where
    pub walked-values : (k : ℕ) (end : Place Topology C V) → IsWalked (λ t. t) IsMade Follow Takes start k end → Walked k end
    walked-values zero end is = subst (Walked 0) (sym is) (at, (omega arith, omega arith))
    walked-values (suc k) end (before, (walked, leads)) =
        subst (λ n. Walked n end) (plus-one k)
        (walked-next k before end.reached end.visitor end.steps (walked-values k before walked) leads.made)

    -- with at most the steps up to the depth
    bound : (k depth new : ℕ) (t : Topology) (from : ℕ) → k < depth → series.IsReached channel.base k t
        → from ≤ start.steps + faces_to channel.base k + terms_to channel.base channel.scheme k
        → new ≤ from + sum_by length t.level.polygons + mask_terms (refined_level channel.base k) channel.scheme
        → new ≤ start.steps + faces_to channel.base depth + terms_to channel.base channel.scheme depth
    bound k depth new t from within is before h =
        omega (
          arith,
          before,
          h,
          series.faces-next channel.base k t is,
          terms-next channel.base channel.scheme k,
          series.faces-within channel.base (k + 1) depth (omega (arith, within)),
          terms-within channel.base channel.scheme (k + 1) depth (omega (arith, within)),
        )

    abbrev Stopped : ℕ → ℕ → Cause → ℕ → Type 0
    Stopped depth number cause new =
        IsLevelFault Values channel depth number cause
        × ((new ≤ start.steps + faces_to channel.base depth + terms_to channel.base channel.scheme depth) × (start.steps ≤ new))

    terms-here : (k : ℕ) (t : Topology) (child : ChildTopology) → series.IsReached channel.base k t → IsRefined t child
        → step_terms t.level channel.scheme child.origins ≡ mask_terms (refined_level channel.base k) channel.scheme
    terms-here k t child is refined = terms-are t child refined channel.scheme ∙ ap (λ level. mask_terms level channel.scheme) is.level

    stopped-at : (depth k : ℕ) (last : Place Topology C V) (new : ℕ) → k < depth → Walked k last → (cause : Cause)
        → IsCause (λ t. t) IsMade IsRefused Follow Fail last.reached cause last.steps new → Stopped depth (k + 1) cause new
    stopped-at depth k last new within is cause (inl refused) = (
      first.first-of-level Values tt channel k is.0.none last.reached.level is.0.level (dens_of (rows last.reached.carried)) is.0.dens depth within cause refused.is,
      (
        bound k depth new last.reached.level last.steps within is.0.level is.1.1 (omega (arith, refused.steps.most)),
        omega (arith, is.1.0, refused.steps.later),
      ),
    )
    stopped-at depth k last new within is cause (inr (inl left)) =
        let t = last.reached.level in
        let dens = dens_of (rows last.reached.carried) in
        let terms = terms-here k t left.child is.0.level left.made.refined in
        let taken : AreTermSteps t.level channel.scheme left.child.origins left.level_steps new = of-channel (λ _ s. AreTermSteps t.level s left.child.origins left.level_steps new) left.fails.1 in (
          first.first-of-carried Values tt channel k is.0.none t is.0.level dens is.0.dens depth within left.child left.made.refined _
              (dens-are t left.child left.made.refined channel.scheme dens) 0 refl cause
              (of-channel (λ m s. IsValueCause m t.level s left.child.origins (rows last.reached.carried) cause) left.fails.0),
          (
            bound k depth new t last.steps within is.0.level is.1.1 (omega (arith, left.made.steps.most, taken.most, terms)),
            omega (arith, is.1.0, left.made.steps.later, taken.later),
          ),
        )
    stopped-at depth k last new within is cause (inr (inr without)) =
        let t = last.reached.level in
        let made = without.made in
        let terms = terms-here k t made.child is.0.level made.made.refined in
        let taken : new ≡ made.level_steps + step_terms t.level channel.scheme made.child.origins = of-channel (λ _ s. new ≡ made.level_steps + step_terms t.level s made.child.origins) made.followed.1 in (
          first.first-of-memory Values tt channel k is.0.none t is.0.level (dens_of (rows last.reached.carried)) is.0.dens depth within cause without.memory,
          (
            bound k depth new t last.steps within is.0.level is.1.1 (omega (arith, made.made.steps.most, taken, terms)),
            omega (arith, is.1.0, made.made.steps.later, taken),
          ),
        )

    pub stopped-values : (depth : ℕ) (fault : WalkFault) (visitor : V) (new : ℕ) → IsStopped (λ t. t) IsMade IsRefused Follow Fail Takes start depth fault visitor new
        → Stopped depth fault.level fault.cause new
    stopped-values depth fault visitor new is =
        subst (λ n. Stopped depth n fault.cause new) (sym is.number)
        (stopped-at depth is.k is.last new is.within (walked-values is.k is.last is.walked) fault.cause is.failed.cause)
