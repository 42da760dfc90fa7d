-- The result of a walk over sparse levels whose visitor makes the map.
use Rattle.std.proofs.Common.{◌≡◌, ℕ, zero, suc, ◌+◌, ◌<◌, ◌≤◌, inl, inr, Bool, true, false, nat_eq, [], length, map, arith, refl, ap, sym, ◌∙◌, subst}
use Rattle.std.specs.List.{sum_by, range_with_len}
use Rattle.std.proofs.lemmas.Bool.{ne_eqb}
use Rattle.subdiv_model.specs.Polygons.{is_among}
use Rattle.subdiv_model.specs.Level.{Level}
use Rattle.subdiv_model.specs.Feature.{FaceFacts}
use Rattle.subdiv_model.specs.Sparse.{FacePredicate, predicate_to, present, selected}
use Rattle.subdiv_model.specs.SparseFaults.{present_faces}
use Rattle.subdiv_model.specs.Channel.{Sharpnesses}
use Rattle.level_topology.specs.Topology.{Topology, IsTopology}
use Rattle.level_topology.specs.Child.{ChildTopology}
use Rattle.level_walk.specs.declared.fault.Cause.{Cause}
use Rattle.level_walk.specs.declared.fault.WalkFault.{WalkFault}
use Rattle.level_walk.specs.Round.{IsCause}
use Rattle.level_walk.specs.Walk.{Place, LeadsTo, IsWalked, IsStopped}
use Rattle.sparse_level.specs.View.{SparseTopology, SparseChild, base_of}
use Rattle.sparse_refiner.specs.Refined.{IsRefined, places_for}
use Rattle.patch_map.specs.Map.{LevelMap, Rises, grown, map_of_base}
use Rattle.patch_map.specs.Is.{IsMapOf}
use Rattle.patch_map.proofs.MapLemmas.{base-map, map-grown, starts-rise}
use Rattle.sparse_walk.specs.View.{Walked, walked, walked_after}
use Rattle.sparse_walk.specs.Base.{IsSparseBase}
use Rattle.sparse_walk.specs.Step.{IsMade, IsRefused}
use Rattle.sparse_walk.specs.Levels.{present_to, AreSparseSteps}
use Rattle.sparse_walk.specs.Faults.{IsFaultAt, HasNoSparseFault}
use Rattle.sparse_walk.proofs.MaskLemmas.{kept, by}
use Rattle.sparse_walk.proofs.StepLemmas.{agrees-to}
use Rattle.sparse_walk.proofs.StartLemmas.{reached-start}
use Rattle.sparse_walk.proofs.SeriesLemmas.{sum-more, sum-within}
use Rattle.sparse_walk.proofs.ReachedLemmas as levels
use Rattle.sparse_walk.proofs.ReachedLemmas.{topology_of}
use Rattle.sparse_walk.specs.Grown.{with_level, IsWithLevel}
use Rattle.sparse_walk.proofs.MarkLemmas.{marks-are}

plus-one : (k : ℕ) → k + 1 ≡ suc k
plus-one k = omega arith

module _ {C : Type 0} (test : FaceFacts → Bool) (base : Level) (depth : ℕ) (start : Place Walked C LevelMap) where
  abbrev predicate : FacePredicate
  predicate = predicate_to test base depth

  abbrev Follow : Topology → ChildTopology → C → C → ℕ → ℕ → Type 0
  Follow t child before next old new = new ≡ old

  abbrev Fail : Topology → ChildTopology → C → Cause → ℕ → ℕ → Type 0
  Fail t child before cause old new = ⊥

  abbrev Takes : LevelMap → Walked → C → LevelMap → Type 0
  Takes before walked carried after = IsWithLevel before walked after

  abbrev IsReached : ℕ → SparseTopology → Type 0
  IsReached k t = levels.IsReached test base depth k t

  -- the map of the levels before can grow by this level, and then has all levels up to it
  pub record IsAt (k : ℕ) (place : Place Walked C LevelMap) : Type 0 where
    pub reached : IsReached k place.reached.level.sparse
    pub later : start.steps ≤ place.steps
    pub most : place.steps ≤ start.steps + sum_by (present_faces base predicate) (range_with_len 1 k)
    pub rises : Rises place.visitor.starts
    pub is : IsMapOf base predicate k (with_level place.visitor place.reached.level)

  pub at-start : IsReached 0 start.reached.level.sparse → start.visitor ≡ map_of_base base.polygons → IsAt 0 start
  at-start reached same =
      let first = base-map base predicate in
      let here : IsMapOf base predicate 0 start.visitor = subst (IsMapOf base predicate 0) (sym same) first in
      record {
        reached = reached;
        later = omega arith;
        most = omega arith;
        rises = starts-rise base predicate 0 start.visitor here;
        is = let none : nat_eq start.reached.level.sparse.depth 0 ≡ true = ap (λ n. nat_eq n 0) reached.deep in
            subst (IsMapOf base predicate 0) (sym (let e : with_level start.visitor start.reached.level ≡ start.visitor = rw none refl in e)) here;
      }

  -- the map with the next level
  next-map : (k : ℕ) (t : SparseTopology) (before : LevelMap) (step : SparseChild) → k < depth → IsReached k t → IsRefined test t step → IsMapOf base predicate k before
      → IsMapOf base predicate (suc k) (with_level before (walked_after step))
  next-map k t before step within reached refined is =
      let here = levels.sparse-in test base depth k t reached within in
      let next = levels.reached-next test base depth k t reached within step refined in
      let deeper : step.depth ≡ suc k = refined.next.depth ∙ ap suc reached.deep in
      let later : nat_eq step.depth 0 ≡ false = ne_eqb step.depth 0 (λ none. let e : suc k ≡ 0 = sym deeper ∙ none in absurd (omega (arith, e))) in
      let marks : step.selected ≡ map (is_among (selected base predicate k)) (present base predicate k) =
      refined.selected ∙ marks-are (kept test t here) (by test t here)
      ∙ ap (map (is_among (selected base predicate t.depth))) here.is.numbers
      ∙ ap (λ n. map (is_among (selected base predicate n)) (present base predicate n)) reached.deep in
      let numbers : step.numbers ≡ present base predicate (suc k) =
      (next.stands.is predicate (λ j h. agrees-to test base depth j (omega (arith, h, next.deep, within)))).numbers ∙ ap (present base predicate) deeper in
      subst (IsMapOf base predicate (suc k)) (sym (let e : with_level before (walked_after step) ≡ grown before step.selected step.depth step.numbers = rw later refl in e))
      (map-grown base predicate k before is step.selected marks step.numbers numbers step.depth deeper)

  at-next : (k : ℕ) (from end : Place Walked C LevelMap) → k < depth → IsAt k from → LeadsTo topology_of (IsMade test) Follow Takes from end → IsAt (k + 1) end
  at-next k from end within at leads =
      let t = from.reached.level.sparse in
      let made = leads.made.made in
      let before : IsMapOf base predicate k end.visitor = subst (IsMapOf base predicate k) (sym (leads.taken at.rises)) at.is in
      let count = levels.next-counted test base depth k t at.reached within in
      record {
        reached = levels.made-next test base depth k from.reached.level leads.made.child end.reached.level from.steps leads.made.level_steps within at.reached made;
        later = omega (arith, at.later, made.steps.later, leads.made.followed);
        most = omega (arith, at.most, made.steps.most, leads.made.followed, count, sum-more (present_faces base predicate) k);
        rises = starts-rise base predicate k end.visitor before;
        is = subst (λ (w : Walked). IsMapOf base predicate (k + 1) (with_level end.visitor w)) (sym made.next_is)
            (subst (λ n. IsMapOf base predicate n (with_level end.visitor (walked_after made.step))) (sym (plus-one k)) (next-map k t end.visitor made.step within at.reached made.refined before));
      }

  module _ (at : IsAt 0 start) where
    walked-to : (k : ℕ) (end : Place Walked C LevelMap) → k ≤ depth → IsWalked topology_of (IsMade test) Follow Takes start k end → IsAt k end
    walked-to zero end within is = subst (IsAt 0) (sym is) at
    walked-to (suc k) end within (before, (walked, leads)) =
        subst (λ n. IsAt n end) (plus-one k) (at-next k before end (omega (arith, within)) (walked-to k before (omega (arith, within)) walked) leads)

    -- at the depth the map has all levels, after the last one is added
    pub all-mapped : (end : Place Walked C LevelMap) (whole : LevelMap) → IsWalked topology_of (IsMade test) Follow Takes start depth end → IsWithLevel end.visitor end.reached.level whole → IsMapOf base predicate depth whole
    all-mapped end whole walked with =
        let last = walked-to depth end (omega arith) walked in
        subst (IsMapOf base predicate depth) (sym (with last.rises)) last.is

    pub no-fault : (end : Place Walked C LevelMap) → IsWalked topology_of (IsMade test) Follow Takes start depth end → HasNoSparseFault base test depth
    no-fault end walked = levels.none-to test base depth depth end.reached.level.sparse (walked-to depth end (omega arith) walked).reached

    pub all-steps : (end : Place Walked C LevelMap) → IsWalked topology_of (IsMade test) Follow Takes start depth end → AreSparseSteps base test depth start.steps end.steps
    all-steps end walked = let last = walked-to depth end (omega arith) walked in record { most = last.most; later = last.later }

    bound : (k new : ℕ) (last : Place Walked C LevelMap) → k < depth → IsAt k last → new ≤ last.steps + length (places_for test last.reached.level.sparse)
        → new ≤ start.steps + present_to base test depth
    bound k new last within is h =
        let count = levels.next-counted test base depth k last.reached.level.sparse is.reached within in
        omega (arith, is.most, h, count, sum-more (present_faces base predicate) k, sum-within (present_faces base predicate) (k + 1) depth (omega (arith, within)))

    abbrev Stopped : ℕ → Cause → ℕ → Type 0
    Stopped number cause new = IsFaultAt Sharpnesses base predicate depth number cause × AreSparseSteps base test depth start.steps new

    stopped-at : (k : ℕ) (last : Place Walked C LevelMap) (new : ℕ) → k < depth → IsAt k last → (cause : Cause)
        → IsCause topology_of (IsMade test) (IsRefused test) Follow Fail last.reached cause last.steps new → Stopped (k + 1) cause new
    stopped-at k last new within is cause (inl refused) = (
      levels.fault-here test base depth k last.reached.level.sparse is.reached within cause refused.is,
      record { most = bound k new last within is refused.steps.most; later = omega (arith, is.later, refused.steps.later) },
    )
    stopped-at k last new within is cause (inr (inl left)) = absurd left.fails
    stopped-at k last new within is cause (inr (inr without)) = (
      levels.memory-here test base depth k last.reached.level.sparse is.reached within cause without.memory,
      record {
        most = bound k new last within is (omega (arith, without.made.made.steps.most, without.made.followed));
        later = omega (arith, is.later, without.made.made.steps.later, without.made.followed);
      },
    )

    pub stopped-levels : (fault : WalkFault) (visitor : LevelMap) (new : ℕ) → IsStopped topology_of (IsMade test) (IsRefused test) Follow Fail Takes start depth fault visitor new
        → Stopped fault.level fault.cause new
    stopped-levels fault visitor new is =
        subst (λ n. Stopped n fault.cause new) (sym is.number)
        (stopped-at is.k is.last new is.within (walked-to is.k is.last (omega (arith, is.within)) is.walked) fault.cause is.failed.cause)

-- the walk begins at the base, with the map of level 0
pub at-begin : {C : Type 0} (test : FaceFacts → Bool) (base : Topology) → IsSparseBase base → IsTopology base → (depth : ℕ) (start : Place Walked C LevelMap) → start.reached.level ≡ walked (base_of base) []
    → (sparse : SparseTopology) → sparse ≡ start.reached.level.sparse → start.visitor ≡ map_of_base sparse.topology.level.polygons → IsAt test base.level depth start 0 start
at-begin test base is formed depth start same sparse e f =
    at-start test base.level depth start (reached-start test base is formed depth start.reached.level same)
    (f ∙ ap (λ (s : SparseTopology). map_of_base s.topology.level.polygons) (e ∙ ap (λ (w : Walked). w.sparse) same))
