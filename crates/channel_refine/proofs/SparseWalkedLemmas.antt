-- The result of a walk over sparse levels that carries the table of a channel.
use Rattle.std.proofs.Common.{◌≡◌, ℕ, suc, ◌+◌, ◌*◌, ◌<◌, ◌≤◌, inl, inr, Bool, false, max, List, [], length, map, get_or, None, arith, refl, ap, sym, ◌∙◌, subst}
use Rattle.std.specs.List.{sum_by, range_with_len}
use Rattle.std.proofs.lemmas.Bool.{le-ltb}
use Rattle.subdiv_model.specs.Feature.{FaceFacts}
use Rattle.subdiv_model.specs.Mask.{Scheme}
use Rattle.subdiv_model.specs.Channel.{Channel, Tables, number_bound}
use Rattle.subdiv_model.specs.Limits.{face_limit}
use Rattle.subdiv_model.specs.Sparse.{FacePredicate, predicate_to}
use Rattle.subdiv_model.specs.SparseFaults.{present_faces}
use Rattle.level_topology.specs.Topology.{Topology}
use Rattle.level_topology.specs.Child.{ChildTopology}
use Rattle.level_walk.specs.declared.fault.Cause.{Cause}
use Rattle.level_walk.specs.declared.fault.Cause.TheVariants as cause
use Rattle.level_walk.specs.declared.fault.OverflowKind.TheVariants as kind
use Rattle.level_walk.specs.declared.fault.WalkFault.{WalkFault}
use Rattle.level_walk.specs.declared.reached.Reached.{Reached}
use Rattle.level_walk.specs.Round.{IsNext, IsCause}
use Rattle.level_walk.specs.Walk.{Place, IsWalked, IsStopped}
use Rattle.sparse_laws.specs.SparseLevels.{IsSparse}
use Rattle.sparse_laws.specs.Selected.{Agrees, selected_in}
use Rattle.sparse_laws.specs.NextSparse.{next_points}
use Rattle.sparse_level.specs.View.{SparseTopology, SparseChild, level_of}
use Rattle.sparse_refiner.specs.Refined.{IsRefined, SparseOf, places_for}
use Rattle.sparse_walk.specs.View.{Walked}
use Rattle.sparse_walk.specs.Step.{IsMade, IsRefused}
use Rattle.sparse_walk.specs.Faults.{IsCauseAt, IsLevelFault}
use Rattle.sparse_walk.specs.Kept.{KeptSoFar, kept_so_far, Keeps, kept_to}
use Rattle.sparse_walk.specs.declared.kept.KeptLevel.{KeptLevel}
use Rattle.sparse_walk.proofs.StepLemmas.{agrees-to}
use Rattle.sparse_walk.proofs.FaultLemmas.{HasCause, IsFine, fine-here, cause-here, fault-next, memory-next}
use Rattle.sparse_walk.proofs.ReachedLemmas as levels
use Rattle.sparse_walk.proofs.ReachedLemmas.{topology_of}
use Rattle.sparse_walk.proofs.KeptLemmas as keeping
use Rattle.sparse_walk.proofs.SeriesLemmas.{sum-more, sum-within}
use Rattle.stencil_apply.specs.Table.{Table, IsTable, greatest_of}
use Rattle.channel_refine.specs.Step.{IsCarried, IsTableCause}
use Rattle.channel_refine.proofs.ChannelLemmas.{none-more}
use Rattle.channel_refine.specs.SparseRefined.{IsSparseFaultTo, present_to}
use Rattle.channel_refine.specs.SparseComposed.{AreComposedTo, AreComposeSteps}
use Rattle.channel_refine.proofs.SparseOriginLemmas.{origin_in}
use Rattle.channel_refine.proofs.SparseTableLemmas.{IsUniformTable}
use Rattle.channel_refine.proofs.SparseFaultLemmas.{HasNone, has_many_faces, no-faults, faces-first, chaikin-first}
use Rattle.channel_refine.proofs.SparseNextLemmas.{next-table, next-none, next-fault}
use Rattle.channel_refine.proofs.SparseLevelLemmas.{composed-level}

plus-one : (k : ℕ) → k + 1 ≡ suc k
plus-one k = omega arith

-- The next level is not made: too many faces are present, or halves overflow.
refused-cause : (channel : Channel) (predicate : FacePredicate) (k depth : ℕ) → k < depth → ((j : ℕ) → j < k → HasNone channel predicate j) → (why : Cause) → HasCause channel.base predicate k why
    → IsCauseAt Tables channel predicate depth (k + 1) why
refused-cause channel predicate k depth within before (cause.TooManyFaces count) is = faces-first channel predicate k depth within before count is.0 is.1
refused-cause channel predicate k depth within before (cause.Overflow kind.Chaikin) is =
    chaikin-first channel predicate k depth within before (le-ltb face_limit (present_faces channel.base predicate (suc k)) is.0) is.1
refused-cause channel predicate k depth within before (cause.Overflow kind.Transition) is = absurd is
refused-cause channel predicate k depth within before (cause.Overflow kind.Denominator) is = absurd is
refused-cause channel predicate k depth within before (cause.Overflow kind.Value) is = absurd is
refused-cause channel predicate k depth within before cause.TooManyEntries is = absurd is
refused-cause channel predicate k depth within before cause.Memory is = tt

module _ (test : FaceFacts → Bool) (channel : Channel) (depth : ℕ) where
  abbrev predicate : FacePredicate
  predicate = predicate_to test channel.base depth

  -- the facts about the table of a level, and the steps that were taken
  pub record IsHeld (start k : ℕ) (table : Table) (steps : ℕ) : Type 0 where
    pub table_is : IsUniformTable channel.base channel.scheme (predicate_to test channel.base depth) k table
    pub none : (j : ℕ) → j < k → HasNone channel (predicate_to test channel.base depth) j
    pub made : IsTable table
    pub fits : greatest_of table * max channel.greatest channel.common ≤ number_bound
    pub later : start ≤ steps
    pub most : steps ≤ start + sum_by (present_faces channel.base (predicate_to test channel.base depth)) (range_with_len 1 k)

  -- the level as one of the definitions
  module _ (k : ℕ) (t : SparseTopology) (is : levels.IsReached test channel.base depth k t) where
    is-sparse : k ≤ depth → IsSparse channel.base predicate (level_of t)
    is-sparse within = is.stands.is predicate (λ j h. agrees-to test channel.base depth j (omega (arith, h, is.deep, within)))

    module _ (within : k < depth) where
      agrees : Agrees test channel.base predicate t.depth
      agrees = agrees-to test channel.base depth t.depth (omega (arith, within, is.deep))

      sparse-within : IsSparse channel.base predicate (level_of t)
      sparse-within = is-sparse (omega (arith, within))

      abbrev as_sparse : SparseOf test t
      as_sparse = record { base = channel.base; predicate = predicate; over = is.stands.over; is = sparse-within; agrees = agrees }

      fine-step : (step : SparseChild) → IsRefined test t step → IsFine channel.base predicate t.depth
      fine-step step refined = fine-here test t as_sparse step refined

      few-step : (step : SparseChild) → IsRefined test t step → has_many_faces channel predicate t.depth ≡ false
      few-step step refined = le-ltb face_limit (present_faces channel.base predicate (suc t.depth)) (fine-step step refined).few

      table-here : (table : Table) → IsUniformTable channel.base channel.scheme predicate k table → IsUniformTable channel.base channel.scheme predicate t.depth table
      table-here table uniform = subst (λ n. IsUniformTable channel.base channel.scheme predicate n table) (sym is.deep) uniform

      module _ (from : Walked) (same : from.sparse ≡ t) (child : ChildTopology) (next : Walked) (old new : ℕ) (made : IsMade test from child next old new) where
        step-of : IsRefined test t made.step
        step-of = subst (λ s. IsRefined test s made.step) same made.refined

        origins-are : child.origins ≡ map (origin_in t.topology.level) (next_points t.topology.level (selected_in test (level_of t)))
        origins-are = ap (λ (c : ChildTopology). c.origins) (made.child_is ∙ step-of.of)

        -- a table carried on
        module _ (start steps : ℕ) (table : Table) (held : IsHeld start k table steps) where
          held-next : (after : Table) (between taken : ℕ) → IsCarried (max channel.greatest channel.common) t.topology.level channel.scheme child.origins table after
              → steps ≤ between → between ≤ steps + length (places_for test t) → taken ≡ between → IsHeld start (k + 1) after taken
          held-next after between taken carried later most e = record {
            table_is =
                subst (λ n. IsUniformTable channel.base channel.scheme predicate n after) (ap suc is.deep ∙ sym (plus-one k))
                (next-table channel predicate (level_of t) is.stands.over sparse-within test agrees table (table-here table held.table_is) child.origins origins-are after carried);
            none =
                none-more (HasNone channel predicate) k held.none
                (subst (HasNone channel predicate) is.deep
                (next-none channel predicate (level_of t) is.stands.over sparse-within test agrees table (table-here table held.table_is) child.origins origins-are (few-step made.step step-of) (fine-step made.step step-of).fine after carried));
            made = carried.made;
            fits = carried.fits;
            later = omega (arith, held.later, later, e);
            most = omega (arith, held.most, most, e, levels.next-counted test channel.base depth k t is within, sum-more (present_faces channel.base predicate) k);
          }

          carried-cause : (why : Cause) → IsTableCause (max channel.greatest channel.common) t.topology.level channel.scheme child.origins table why → IsCauseAt Tables channel predicate depth (k + 1) why
          carried-cause why fails =
              subst (λ n. IsCauseAt Tables channel predicate depth (n + 1) why) is.deep
              (next-fault channel predicate (level_of t) is.stands.over sparse-within test agrees table (table-here table held.table_is) child.origins origins-are
              (few-step made.step step-of) (fine-step made.step step-of).fine depth (omega (arith, within, is.deep)) (λ j h. held.none j (omega (arith, h, is.deep))) why fails)

  module _ (most : ℕ) (same : most ≡ max channel.greatest channel.common) (scheme : Scheme) (by : scheme ≡ channel.scheme) (start : Place Walked Table (KeptSoFar Table)) where
    -- a fact about this amount and this scheme is one about those of the channel
    of-channel : (P : ℕ → Scheme → Type 0) → P most scheme → P (max channel.greatest channel.common) channel.scheme
    of-channel P p = subst (P (max channel.greatest channel.common)) by (subst (λ m. P m scheme) same p)

    abbrev Follow : Topology → ChildTopology → Table → Table → ℕ → ℕ → Type 0
    Follow t child before next old new = IsCarried most t.level scheme child.origins before next × (new ≡ old)

    abbrev Fail : Topology → ChildTopology → Table → Cause → ℕ → ℕ → Type 0
    Fail t child before why old new = IsTableCause most t.level scheme child.origins before why × (new ≡ old)

    abbrev Holds : ℕ → SparseTopology → Table → ℕ → Type 0
    Holds k t table steps = IsHeld start.steps k table steps

    pub follows : (k : ℕ) (from next : Reached Walked Table) (old new : ℕ) → k < depth → levels.IsReached test channel.base depth k from.level.sparse → Holds k from.level.sparse from.carried old
        → IsNext topology_of (IsMade test) Follow from next old new → Holds (k + 1) next.level.sparse next.carried new
    follows k from next old new within is held made =
        held-next k from.level.sparse is within from.level refl made.child next.level old made.level_steps made.made start.steps old from.carried held next.carried made.level_steps new
        (of-channel (λ m s. IsCarried m from.level.sparse.topology.level s made.child.origins from.carried next.carried) made.followed.0) made.made.steps.later made.made.steps.most made.followed.1

    abbrev pub IsAt : ℕ → Place Walked Table (KeptSoFar Table) → Type 0
    IsAt k end = keeping.IsAt Holds test channel.base depth Follow follows k end

    pub at-start : levels.IsReached test channel.base depth 0 start.reached.level.sparse → IsUniformTable channel.base channel.scheme (predicate_to test channel.base depth) 0 start.reached.carried → IsTable start.reached.carried
        → greatest_of start.reached.carried * max channel.greatest channel.common ≤ number_bound → start.visitor ≡ kept_so_far [] None → IsAt 0 start
    at-start reached table made fits none = keeping.at-start Holds test channel.base depth Follow follows start reached (record {
      table_is = table;
      none = λ j h. absurd (omega (arith, h));
      made = made;
      fits = fits;
      later = omega arith;
      most = omega arith;
    }) none

    module _ (at : IsAt 0 start) where
      walked-to : (k : ℕ) (end : Place Walked Table (KeptSoFar Table)) → k ≤ depth → IsWalked topology_of (IsMade test) Follow Keeps start k end → IsAt k end
      walked-to k end within is = keeping.walked-to Holds test channel.base depth Follow follows start at k end within is

      -- at the depth all levels have their tables
      pub all-composed : (end : Place Walked Table (KeptSoFar Table)) (kept : List (KeptLevel Table)) → IsWalked topology_of (IsMade test) Follow Keeps start depth end
          → kept ≡ kept_to end.visitor end.reached.level end.reached.carried → AreComposedTo test channel depth kept
      all-composed end kept walked is =
          let there = walked-to depth end (omega arith) walked in
          let all = keeping.all-kept Holds test channel.base depth Follow follows end kept there is in
          record {
            fine = no-faults channel predicate depth there.holds.none;
            count = all.count_is;
            each = λ k d h.
                let one = all.each k d (omega (arith, h)) in
                composed-level channel predicate one.sparse k (get_or kept k d) one.reached.deep one.reached.stands.over (is-sparse k one.sparse one.reached h) one.written
                one.holds.table_is one.holds.made one.holds.fits;
          }

      pub all-steps : (end : Place Walked Table (KeptSoFar Table)) → IsWalked topology_of (IsMade test) Follow Keeps start depth end → AreComposeSteps test channel depth start.steps end.steps
      all-steps end walked = let holds = (walked-to depth end (omega arith) walked).holds in record { most = holds.most; later = holds.later }

      bound : (k new : ℕ) (last : Place Walked Table (KeptSoFar Table)) → k < depth → IsAt k last → new ≤ last.steps + length (places_for test last.reached.level.sparse)
          → new ≤ start.steps + present_to channel.base predicate depth
      bound k new last within is h =
          let count = levels.next-counted test channel.base depth k last.reached.level.sparse is.reached within in
          omega (arith, is.holds.most, h, count, sum-more (present_faces channel.base predicate) k, sum-within (present_faces channel.base predicate) (k + 1) depth (omega (arith, within)))

      abbrev Stopped : ℕ → Cause → ℕ → Type 0
      Stopped number why new = IsLevelFault Tables channel predicate depth number why × AreComposeSteps test channel depth start.steps new

      stopped-at : (k : ℕ) (last : Place Walked Table (KeptSoFar Table)) (new : ℕ) → k < depth → IsAt k last → (why : Cause)
          → IsCause topology_of (IsMade test) (IsRefused test) Follow Fail last.reached why last.steps new → Stopped (k + 1) why new
      stopped-at k last new within is why (inl refused) =
          let t = last.reached.level.sparse in (
            fault-next Tables channel predicate k depth why within (no-faults channel predicate k is.holds.none)
                (refused-cause channel predicate k depth within is.holds.none why (subst (λ n. HasCause channel.base predicate n why) is.reached.deep (cause-here test t (as_sparse k t is.reached within) why refused.is))),
            record { most = bound k new last within is refused.steps.most; later = omega (arith, is.holds.later, refused.steps.later) },
          )
      stopped-at k last new within is why (inr (inl left)) =
          let t = last.reached.level.sparse in
          let table = last.reached.carried in (
            fault-next Tables channel predicate k depth why within (no-faults channel predicate k is.holds.none)
                (carried-cause k t is.reached within last.reached.level refl left.child left.next last.steps left.level_steps left.made start.steps last.steps table is.holds why
                (of-channel (λ m s. IsTableCause m t.topology.level s left.child.origins table why) left.fails.0)),
            record {
              most = bound k new last within is (omega (arith, left.made.steps.most, left.fails.1));
              later = omega (arith, is.holds.later, left.made.steps.later, left.fails.1);
            },
          )
      stopped-at k last new within is why (inr (inr without)) = (
        memory-next Tables channel predicate k depth why within (no-faults channel predicate k is.holds.none) without.memory,
        record {
          most = bound k new last within is (omega (arith, without.made.made.steps.most, without.made.followed.1));
          later = omega (arith, is.holds.later, without.made.made.steps.later, without.made.followed.1);
        },
      )

      pub stopped-levels : (fault : WalkFault) (visitor : KeptSoFar Table) (new : ℕ) → IsStopped topology_of (IsMade test) (IsRefused test) Follow Fail Keeps start depth fault visitor new
          → IsSparseFaultTo test channel depth fault × AreComposeSteps test channel depth start.steps new
      stopped-levels fault visitor new is =
          subst (λ n. Stopped n fault.cause new) (sym is.number)
          (stopped-at is.k is.last new is.within (walked-to is.k is.last (omega (arith, is.within)) is.walked) fault.cause is.failed.cause)
