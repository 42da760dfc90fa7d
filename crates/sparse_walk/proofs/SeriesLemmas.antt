-- The result of a walk over sparse levels without data.
use Rattle.std.proofs.Common.{◌≡◌, ℕ, zero, suc, ◌+◌, ◌-◌, ◌<◌, ◌≤◌, inl, inr, Bool, List, [], ◌∷◌, ◌++◌, length, map, None, arith, refl, ap, sym, ◌∙◌, subst}
use Rattle.std.specs.List.{sum_by, range_with_len}
use Rattle.std.proofs.lemmas.List.FromFn.{map-range_with_len_more}
use Rattle.std.proofs.lemmas.List.Sums.{sum_by_push}
use Rattle.subdiv_model.specs.Level.{Level}
use Rattle.subdiv_model.specs.Feature.{FaceFacts}
use Rattle.subdiv_model.specs.Sparse.{FacePredicate, predicate_to}
use Rattle.subdiv_model.specs.SparseFaults.{present_faces}
use Rattle.subdiv_model.specs.SparseText.{WrittenLevel}
use Rattle.subdiv_model.specs.Channel.{Sharpnesses}
use Rattle.level_topology.specs.Topology.{Topology}
use Rattle.level_topology.specs.Child.{ChildTopology}
use Rattle.level_walk.specs.declared.fault.Cause.{Cause}
use Rattle.level_walk.specs.declared.fault.WalkFault.{WalkFault}
use Rattle.level_walk.specs.declared.reached.Reached.{Reached}
use Rattle.level_walk.specs.Round.{IsNext, IsCause}
use Rattle.level_walk.specs.Walk.{Place, IsWalked, IsStopped}
use Rattle.sparse_level.specs.View.{SparseTopology}
use Rattle.sparse_refiner.specs.Refined.{places_for}
use Rattle.sparse_walk.specs.View.{Walked}
use Rattle.sparse_walk.specs.Step.{IsMade, IsRefused}
use Rattle.sparse_walk.specs.Kept.{KeptSoFar, kept_so_far, Keeps, kept_to}
use Rattle.sparse_walk.specs.Levels.{faces_of, written_to, present_to, AreSparseSteps}
use Rattle.sparse_walk.specs.Faults.{IsFaultAt, HasNoSparseFault}
use Rattle.sparse_walk.specs.declared.kept.KeptLevel.{KeptLevel}
use Rattle.sparse_walk.proofs.ReachedLemmas as levels
use Rattle.sparse_walk.proofs.ReachedLemmas.{topology_of}
use Rattle.sparse_walk.proofs.KeptLemmas as keeping

-- A sum of numbers from 1 on.

pub sum-more : (f : ℕ → ℕ) (k : ℕ) → sum_by f (range_with_len 1 (k + 1)) ≡ sum_by f (range_with_len 1 k) + f (suc k)
sum-more f k =
    let number : 1 + k ≡ suc k = omega arith in
    ap (sum_by f) (range-more 1 k) ∙ sum_by_push f (range_with_len 1 k) (1 + k) ∙ ap (λ n. sum_by f (range_with_len 1 k) + f n) number
  where
    same : (ks : List ℕ) → map (λ k. k) ks ≡ ks
    same [] = refl
    same (k ∷ ks) = ap (λ (rest : List ℕ). k ∷ rest) (same ks)

    range-more : (a n : ℕ) → range_with_len a (n + 1) ≡ range_with_len a n ++ (a + n) ∷ []
    range-more a n = sym (same (range_with_len a (n + 1))) ∙ map-range_with_len_more (λ k. k) a n (a + n) refl ∙ ap (λ (ks : List ℕ). ks ++ (a + n) ∷ []) (same (range_with_len a n))

sum-rises : (f : ℕ → ℕ) (k more : ℕ) → sum_by f (range_with_len 1 k) ≤ sum_by f (range_with_len 1 (k + more))
sum-rises f k zero = let same : sum_by f (range_with_len 1 (k + 0)) ≡ sum_by f (range_with_len 1 k) = ap (λ n. sum_by f (range_with_len 1 n)) (none k) in omega (arith, same)
  where
    none : (n : ℕ) → n + 0 ≡ n
    none n = omega arith
sum-rises f k (suc more) =
    let next : sum_by f (range_with_len 1 (k + suc more)) ≡ sum_by f (range_with_len 1 (k + more + 1)) = ap (λ n. sum_by f (range_with_len 1 n)) (shift k more) in
    omega (arith, next, sum-more f (k + more), sum-rises f k more)
  where
    shift : (n m : ℕ) → n + suc m ≡ n + m + 1
    shift n m = omega arith

pub sum-within : (f : ℕ → ℕ) (k depth : ℕ) → k ≤ depth → sum_by f (range_with_len 1 k) ≤ sum_by f (range_with_len 1 depth)
sum-within f k depth h = let whole : k + (depth - k) ≡ depth = omega (arith, h) in omega (arith, ap (λ n. sum_by f (range_with_len 1 n)) whole, sum-rises f k (depth - k))

module _ {C : Type 0} (test : FaceFacts → Bool) (base : Level) (depth : ℕ) (start : Place Walked C (KeptSoFar C)) where
  abbrev predicate : FacePredicate
  predicate = predicate_to test base depth

  abbrev Follow : Topology → ChildTopology → C → C → ℕ → ℕ → Type 0
  Follow t child before next old new = new ≡ old

  abbrev Fail : Topology → ChildTopology → C → Cause → ℕ → ℕ → Type 0
  Fail t child before cause old new = ⊥

  -- at most one step is taken for each face that is present so far
  abbrev Holds : ℕ → SparseTopology → C → ℕ → Type 0
  Holds k t carried steps = (start.steps ≤ steps) × (steps ≤ start.steps + sum_by (present_faces base predicate) (range_with_len 1 k))

  pub follows : (k : ℕ) (from next : Reached Walked C) (old new : ℕ) → k < depth → levels.IsReached test base depth k from.level.sparse → Holds k from.level.sparse from.carried old
      → IsNext topology_of (IsMade test) Follow from next old new → Holds (k + 1) next.level.sparse next.carried new
  follows k from next old new within is holds made =
      let count = levels.next-counted test base depth k from.level.sparse is within in (
        omega (arith, holds.0, made.made.steps.later, made.followed),
        omega (arith, holds.1, made.made.steps.most, made.followed, count, sum-more (present_faces base predicate) k),
      )

  abbrev pub IsAt : ℕ → Place Walked C (KeptSoFar C) → Type 0
  IsAt k end = keeping.IsAt Holds test base depth Follow follows k end

  pub at-start : levels.IsReached test base depth 0 start.reached.level.sparse → start.visitor ≡ kept_so_far [] None → IsAt 0 start
  at-start reached none = keeping.at-start Holds test base depth Follow follows start reached (omega arith, omega arith) none

  module _ (at : IsAt 0 start) where
    walked-to : (k : ℕ) (end : Place Walked C (KeptSoFar C)) → k ≤ depth → IsWalked topology_of (IsMade test) Follow Keeps start k end → IsAt k end
    walked-to k end within is = keeping.walked-to Holds test base depth Follow follows start at k end within is

    -- at the depth all levels are written, once the last one is
    pub all-written : (end : Place Walked C (KeptSoFar C)) (kept : List (KeptLevel C)) (written : List WrittenLevel) → IsWalked topology_of (IsMade test) Follow Keeps start depth end
        → kept ≡ kept_to end.visitor end.reached.level end.reached.carried → written ≡ map faces_of kept → written ≡ written_to base test depth
    all-written end kept written walked same faces =
        faces ∙ keeping.all-written Holds test base depth kept (keeping.all-kept Holds test base depth Follow follows end kept (walked-to depth end (omega arith) walked) same)

    pub no-fault : (end : Place Walked C (KeptSoFar C)) → IsWalked topology_of (IsMade test) Follow Keeps start depth end → HasNoSparseFault base test depth
    no-fault end walked = levels.none-to test base depth depth end.reached.level.sparse (walked-to depth end (omega arith) walked).reached

    pub all-steps : (end : Place Walked C (KeptSoFar C)) → IsWalked topology_of (IsMade test) Follow Keeps start depth end → AreSparseSteps base test depth start.steps end.steps
    all-steps end walked = let holds = (walked-to depth end (omega arith) walked).holds in record { most = holds.1; later = holds.0 }

    bound : (k new : ℕ) (last : Place Walked C (KeptSoFar C)) → k < depth → IsAt k last → new ≤ last.steps + length (places_for test last.reached.level.sparse)
        → new ≤ start.steps + present_to base test depth
    bound k new last within is h =
        let count = levels.next-counted test base depth k last.reached.level.sparse is.reached within in
        omega (arith, is.holds.1, h, count, sum-more (present_faces base predicate) k, sum-within (present_faces base predicate) (k + 1) depth (omega (arith, within)))

    abbrev Stopped : ℕ → Cause → ℕ → Type 0
    Stopped number cause new = IsFaultAt Sharpnesses base predicate depth number cause × AreSparseSteps base test depth start.steps new

    stopped-at : (k : ℕ) (last : Place Walked C (KeptSoFar C)) (new : ℕ) → k < depth → IsAt k last → (cause : Cause)
        → IsCause topology_of (IsMade test) (IsRefused test) Follow Fail last.reached cause last.steps new → Stopped (k + 1) cause new
    stopped-at k last new within is cause (inl refused) = (
      levels.fault-here test base depth k last.reached.level.sparse is.reached within cause refused.is,
      record { most = bound k new last within is refused.steps.most; later = omega (arith, is.holds.0, refused.steps.later) },
    )
    stopped-at k last new within is cause (inr (inl left)) = absurd left.fails
    stopped-at k last new within is cause (inr (inr without)) = (
      levels.memory-here test base depth k last.reached.level.sparse is.reached within cause without.memory,
      record {
        most = bound k new last within is (omega (arith, without.made.made.steps.most, without.made.followed));
        later = omega (arith, is.holds.0, without.made.made.steps.later, without.made.followed);
      },
    )

    pub stopped-levels : (fault : WalkFault) (visitor : KeptSoFar C) (new : ℕ) → IsStopped topology_of (IsMade test) (IsRefused test) Follow Fail Keeps start depth fault visitor new
        → Stopped fault.level fault.cause new
    stopped-levels fault visitor new is =
        subst (λ n. Stopped n fault.cause new) (sym is.number)
        (stopped-at is.k is.last new is.within (walked-to is.k is.last (omega (arith, is.within)) is.walked) fault.cause is.failed.cause)
