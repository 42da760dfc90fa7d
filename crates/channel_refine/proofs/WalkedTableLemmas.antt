-- The result of a walk over whole levels that carries the table of a channel.
use Rattle.std.proofs.Common.{◌≡◌, ℕ, zero, suc, ◌+◌, ◌<◌, ◌≤◌, inl, inr, max, length, arith, sym, subst}
use Rattle.std.specs.List.{sum_by}
use Rattle.subdiv_model.specs.Mask.{Scheme}
use Rattle.subdiv_model.specs.Channel.{Channel, Tables}
use Rattle.level_topology.specs.Topology.{Topology}
use Rattle.level_topology.specs.Child.{ChildTopology}
use Rattle.level_walk.specs.declared.fault.Cause.{Cause}
use Rattle.level_walk.specs.declared.fault.WalkFault.{WalkFault}
use Rattle.level_walk.specs.declared.reached.Reached.{Reached}
use Rattle.level_walk.specs.Round.{IsNext, IsCause}
use Rattle.level_walk.specs.Walk.{Place, IsWalked, IsStopped}
use Rattle.level_walk.specs.UniformFaults.{IsLevelFault}
use Rattle.level_walk.specs.UniformLevels.{faces_to}
use Rattle.level_walk.specs.UniformStep.{IsMade, IsRefused}
use Rattle.level_walk.proofs.UniformLevelLemmas as series
use Rattle.level_walk.proofs.UniformMaskLemmas.{dens-are}
use Rattle.stencil_apply.specs.Table.{Table}
use Rattle.stencil_factory.specs.Rows.{dens_of}
use Rattle.stencil_factory.specs.Composed.{entries_from}
use Rattle.channel_refine.specs.Step.{IsCarried, IsTableCause}
use Rattle.channel_refine.proofs.ComposedLemmas.{IsReached, reached-next, entries-fault}
use Rattle.channel_refine.proofs.FirstLemmas as first

module _ {V : Type 0} (Takes : V → Topology → Table → V → Type 0) (channel : Channel) (most : ℕ) (same : most ≡ max channel.greatest channel.common)
    (scheme : Scheme) (by : scheme ≡ channel.scheme) (start : Place Topology Table V) where
  -- a fact about this amount and this scheme is one about those of the channel
  of-channel : (P : ℕ → Scheme → Type 0) → P most scheme → P (max channel.greatest channel.common) channel.scheme
  of-channel P p = subst (P (max channel.greatest channel.common)) by (subst (λ m. P m scheme) same p)

  abbrev Follow : Topology → ChildTopology → Table → Table → ℕ → ℕ → Type 0
  Follow t child before next old new = IsCarried most t.level scheme child.origins before next × (new ≡ old)

  abbrev Fail : Topology → ChildTopology → Table → Cause → ℕ → ℕ → Type 0
  Fail t child before cause old new = IsTableCause most t.level scheme child.origins before cause × (new ≡ old)

  -- the level after k steps with its table, and the steps that were taken
  abbrev Walked : ℕ → Place Topology Table V → Type 0
  Walked k end =
      IsReached channel k end.reached.level end.reached.carried × ((start.steps ≤ end.steps) × (end.steps ≤ start.steps + faces_to channel.base k))

  plus-one : (k : ℕ) → k + 1 ≡ suc k
  plus-one k = omega arith

  walked-next : (k : ℕ) (from : Place Topology Table V) (next : Reached Topology Table) (visitor : V) (new : ℕ) → Walked k from
      → IsNext (λ t. t) IsMade Follow from.reached next from.steps new → Walked (k + 1) (record { reached = next; visitor = visitor; steps = new })
  walked-next k from next visitor new is made =
      let t = from.reached.level in
      let faces = series.faces-next channel.base k t is.0.level in (
        reached-next channel k t from.reached.carried is.0 made.child made.made.refined next.level next.carried made.made.next_is
            (of-channel (λ m s. IsCarried m t.level s made.child.origins from.reached.carried next.carried) made.followed.0),
        (
          omega (arith, is.1.0, made.made.steps.later, made.followed.1),
          omega (arith, is.1.1, made.made.steps.most, made.followed.1, faces),
        ),
      )

  module _ (at : IsReached channel 0 start.reached.level start.reached.carried) where
    pub walked-table : (k : ℕ) (end : Place Topology Table V) → IsWalked (λ t. t) IsMade Follow Takes start k end → Walked k end
    walked-table zero end is = subst (Walked 0) (sym is) (at, (omega arith, omega arith))
    walked-table (suc k) end (before, (walked, leads)) =
        subst (λ n. Walked n end) (plus-one k)
        (walked-next k before end.reached end.visitor end.steps (walked-table k before walked) leads.made)

    -- with at most the steps up to the depth
    bound : (k depth new : ℕ) (t : Topology) (from : ℕ) → k < depth → series.IsReached channel.base k t → from ≤ start.steps + faces_to channel.base k
        → new ≤ from + sum_by length t.level.polygons → new ≤ start.steps + faces_to channel.base depth
    bound k depth new t from within is before h =
        omega (arith, before, h, series.faces-next channel.base k t is, series.faces-within channel.base (k + 1) depth (omega (arith, within)))

    abbrev Stopped : ℕ → ℕ → Cause → ℕ → Type 0
    Stopped depth number cause new = IsLevelFault Tables channel depth number cause × ((new ≤ start.steps + faces_to channel.base depth) × (start.steps ≤ new))

    stopped-at : (depth k : ℕ) (last : Place Topology Table V) (new : ℕ) → k < depth → Walked k last → (cause : Cause)
        → IsCause (λ t. t) IsMade IsRefused Follow Fail last.reached cause last.steps new → Stopped depth (k + 1) cause new
    stopped-at depth k last new within is cause (inl refused) = (
      first.first-of-level Tables tt channel k is.0.none last.reached.level is.0.level (dens_of last.reached.carried) is.0.dens depth within cause refused.is,
      (
        bound k depth new last.reached.level last.steps within is.0.level is.1.1 (omega (arith, refused.steps.most)),
        omega (arith, is.1.0, refused.steps.later),
      ),
    )
    stopped-at depth k last new within is cause (inr (inl left)) =
        let t = last.reached.level in
        let table = last.reached.carried in (
          first.first-of-carried Tables tt channel k is.0.none t is.0.level (dens_of table) is.0.dens depth within left.child left.made.refined _
              (dens-are t left.child left.made.refined channel.scheme (dens_of table)) (entries_from t.level channel.scheme left.child.origins table)
              (entries-fault channel k t table is.0 left.child left.made.refined) cause
              (of-channel (λ m s. IsTableCause m t.level s left.child.origins table cause) left.fails.0),
          (
            bound k depth new t last.steps within is.0.level is.1.1 (omega (arith, left.made.steps.most, left.fails.1)),
            omega (arith, is.1.0, left.made.steps.later, left.fails.1),
          ),
        )
    stopped-at depth k last new within is cause (inr (inr without)) =
        let made = without.made in (
          first.first-of-memory Tables tt channel k is.0.none last.reached.level is.0.level (dens_of last.reached.carried) is.0.dens depth within cause without.memory,
          (
            bound k depth new last.reached.level last.steps within is.0.level is.1.1 (omega (arith, made.made.steps.most, made.followed.1)),
            omega (arith, is.1.0, made.made.steps.later, made.followed.1),
          ),
        )

    pub stopped-table : (depth : ℕ) (fault : WalkFault) (visitor : V) (new : ℕ) → IsStopped (λ t. t) IsMade IsRefused Follow Fail Takes start depth fault visitor new
        → Stopped depth fault.level fault.cause new
    stopped-table depth fault visitor new is =
        subst (λ n. Stopped depth n fault.cause new) (sym is.number)
        (stopped-at depth is.k is.last new is.within (walked-table is.k is.last is.walked) fault.cause is.failed.cause)
