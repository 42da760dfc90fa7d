-- The kept levels of a walk over sparse levels, for any data that the walk carries.
use Rattle.std.proofs.Common.{◌≡◌, ℕ, zero, suc, ◌+◌, ◌<◌, ◌≤◌, Bool, true, false, nat_lt, List, [], ◌∷◌, ◌++◌, length, map, get_or, None, arith, refl, ap, sym, ◌∙◌, subst}
use Rattle.std.proofs.lemmas.Bool.Decides.{nat_tests}
use Rattle.std.proofs.lemmas.List.{length-map, get_or-map, get_or_push, get_or_append_left, length_push, same_lists}
use Rattle.std.proofs.lemmas.List.FromFn.{get_or-map-range_with_len, length-map-range_with_len}
use Rattle.subdiv_model.specs.Level.{Level}
use Rattle.subdiv_model.specs.Feature.{FaceFacts}
use Rattle.subdiv_model.specs.Sparse.{predicate_to}
use Rattle.subdiv_model.specs.SparseText.{WrittenLevel, written_level}
use Rattle.level_topology.specs.Topology.{Topology}
use Rattle.level_topology.specs.Child.{ChildTopology}
use Rattle.level_walk.specs.declared.reached.Reached.{Reached}
use Rattle.level_walk.specs.Round.{IsNext}
use Rattle.level_walk.specs.Walk.{Place, LeadsTo, IsWalked}
use Rattle.sparse_level.specs.View.{SparseTopology}
use Rattle.sparse_walk.specs.View.{Walked}
use Rattle.sparse_walk.specs.Step.{IsMade}
use Rattle.sparse_walk.specs.Kept.{KeptSoFar, kept_so_far, last_kept, kept_of, kept_to, Keeps}
use Rattle.sparse_walk.specs.Levels.{faces_of, written_to}
use Rattle.sparse_walk.specs.declared.kept.KeptLevel.{KeptLevel}
use Rattle.sparse_walk.proofs.ReachedLemmas as levels
use Rattle.sparse_walk.proofs.ReachedLemmas.{topology_of}

plus-one : (k : ℕ) → k + 1 ≡ suc k
plus-one k = omega arith

-- `Holds` is a claim about each level, its data, and the number of steps by then.
module _ {C : Type 0} (Holds : ℕ → SparseTopology → C → ℕ → Type 0) (test : FaceFacts → Bool) (base : Level) (depth : ℕ) where
  -- the level after k steps is kept as the definitions write it, with its data
  pub record IsKept (k : ℕ) (level : KeptLevel C) : Type 0 where
    pub sparse : SparseTopology
    pub steps : ℕ
    pub reached : levels.IsReached test base depth k sparse
    pub holds : Holds k sparse level.carried steps
    pub written : level.faces ≡ written_level base (predicate_to test base depth) k

  -- the first levels are kept, from 0 on
  pub record AreKept (count : ℕ) (kept : List (KeptLevel C)) : Type 0 where
    pub count_is : length kept ≡ count
    pub each : (k : ℕ) (d : KeptLevel C) → k < count → IsKept k (get_or kept k d)

  none-kept : AreKept 0 []
  none-kept = record { count_is = refl; each = λ k d h. absurd (omega (arith, h)) }

  kept-more : (count : ℕ) (kept : List (KeptLevel C)) (level : KeptLevel C) → AreKept count kept → IsKept count level → AreKept (count + 1) (kept ++ level ∷ [])
  kept-more count kept level are is = record {
    count_is = length_push kept level ∙ ap (λ n. n + 1) are.count_is;
    each = λ k d h. go k d h (nat_lt k count) refl;
  }
    where
      go : (k : ℕ) (d : KeptLevel C) → k < count + 1 → (b : Bool) → nat_lt k count ≡ b → IsKept k (get_or (kept ++ level ∷ []) k d)
      go k d h true e =
          let below : k < count = grind (arith, nat_tests) in
          subst (IsKept k) (sym (get_or_append_left kept (level ∷ []) d k (omega (arith, below, are.count_is)))) (are.each k d below)
      go k d h false e =
          let same : k ≡ count = grind (arith, nat_tests) in
          subst (IsKept k) (sym (get_or_push kept level d k (are.count_is ∙ sym same))) (subst (λ n. IsKept n level) (sym same) is)

  -- the kept levels are those of the definitions
  pub all-written : (kept : List (KeptLevel C)) → AreKept (depth + 1) kept → map faces_of kept ≡ written_to base test depth
  all-written kept are =
      let count = length-map kept faces_of in
      same_lists (map faces_of kept) (written_to base test depth)
      (count ∙ are.count_is ∙ sym (length-map-range_with_len (written_level base (predicate_to test base depth)) 0 (depth + 1)))
      (λ k d h. let below : k < depth + 1 = omega (arith, h, count, are.count_is) in each k d below)
    where
      each : (k : ℕ) (d : WrittenLevel) → k < depth + 1 → get_or (map faces_of kept) k d ≡ get_or (written_to base test depth) k d
      each k d below =
          let none : KeptLevel C = none_of k below in
          get_or-map faces_of kept k none d (omega (arith, below, are.count_is))
          ∙ (are.each k none below).written
          ∙ sym (get_or-map-range_with_len (written_level base (predicate_to test base depth)) 0 (depth + 1) k k d below (omega arith))
        where
          first : (xs : List (KeptLevel C)) → 0 < length xs → KeptLevel C
          first [] h = absurd (omega (arith, h))
          first (x ∷ xs) h = x

          none_of : (k : ℕ) → k < depth + 1 → KeptLevel C
          none_of k h = first kept (omega (arith, h, are.count_is))

  module _ (Follows : Topology → ChildTopology → C → C → ℕ → ℕ → Type 0)
      (follows : (k : ℕ) (from next : Reached Walked C) (old new : ℕ) → k < depth → levels.IsReached test base depth k from.level.sparse → Holds k from.level.sparse from.carried old
      → IsNext topology_of (IsMade test) Follows from next old new → Holds (k + 1) next.level.sparse next.carried new) where
    -- the walk is at the level after k steps; those before it are kept, up to the last, which the next round adds
    pub record IsAt (k : ℕ) (place : Place Walked C (KeptSoFar C)) : Type 0 where
      pub reached : levels.IsReached test base depth k place.reached.level.sparse
      pub holds : Holds k place.reached.level.sparse place.reached.carried place.steps
      pub kept : AreKept k (place.visitor.levels ++ last_kept place.visitor.last place.reached.level.before)

    abbrev pub IsWalkedTo : Place Walked C (KeptSoFar C) → ℕ → Place Walked C (KeptSoFar C) → Type 0
    IsWalkedTo start k end = IsWalked topology_of (IsMade test) Follows Keeps start k end

    at-next : (k : ℕ) (from end : Place Walked C (KeptSoFar C)) → k < depth → IsAt k from → LeadsTo topology_of (IsMade test) Follows Keeps from end → IsAt (k + 1) end
    at-next k from end within at leads =
        let t = from.reached.level.sparse in
        let made = leads.made.made in
        let one : KeptLevel C = kept_of (t, from.reached.carried) made.step.selected in
        let kept : end.visitor.levels ++ last_kept end.visitor.last end.reached.level.before ≡ (from.visitor.levels ++ last_kept from.visitor.last from.reached.level.before) ++ one ∷ [] =
        ap (λ (w : Walked). end.visitor.levels ++ last_kept end.visitor.last w.before) made.next_is
        ∙ ap (λ last. end.visitor.levels ++ last_kept last made.step.selected) leads.taken.last
        ∙ ap (λ (before : List (KeptLevel C)). before ++ one ∷ []) leads.taken.levels in
        record {
          reached = levels.made-next test base depth k from.reached.level leads.made.child end.reached.level from.steps leads.made.level_steps within at.reached made;
          holds = follows k from.reached end.reached from.steps end.steps within at.reached at.holds leads.made;
          kept = subst (AreKept (k + 1)) (sym kept) (kept-more k (from.visitor.levels ++ last_kept from.visitor.last from.reached.level.before) one at.kept (record {
            sparse = t;
            steps = from.steps;
            reached = at.reached;
            holds = at.holds;
            written = levels.level-written test base depth k t at.reached within made.step made.refined;
          }));
        }

    -- a walk whose visitor has kept nothing starts at the level after 0 steps
    pub at-start : (start : Place Walked C (KeptSoFar C)) → levels.IsReached test base depth 0 start.reached.level.sparse → Holds 0 start.reached.level.sparse start.reached.carried start.steps
        → start.visitor ≡ kept_so_far [] None → IsAt 0 start
    at-start start reached holds none = record {
      reached = reached;
      holds = holds;
      kept = subst (λ (v : KeptSoFar C). AreKept 0 (v.levels ++ last_kept v.last start.reached.level.before)) (sym none) none-kept;
    }

    pub walked-to : (start : Place Walked C (KeptSoFar C)) → IsAt 0 start → (k : ℕ) (end : Place Walked C (KeptSoFar C)) → k ≤ depth → IsWalkedTo start k end → IsAt k end
    walked-to start at zero end within is = subst (IsAt 0) (sym is) at
    walked-to start at (suc k) end within (before, (walked, leads)) =
        subst (λ n. IsAt n end) (plus-one k) (at-next k before end (omega (arith, within)) (walked-to start at k before (omega (arith, within)) walked) leads)

    -- at the depth all levels are kept, once the last one is
    pub all-kept : (end : Place Walked C (KeptSoFar C)) (kept : List (KeptLevel C)) → IsAt depth end → kept ≡ kept_to end.visitor end.reached.level end.reached.carried → AreKept (depth + 1) kept
    all-kept end kept at same =
        subst (AreKept (depth + 1)) (sym same)
        (kept-more depth (end.visitor.levels ++ last_kept end.visitor.last end.reached.level.before) (kept_of (end.reached.level.sparse, end.reached.carried) []) at.kept (record {
          sparse = end.reached.level.sparse;
          steps = end.steps;
          reached = at.reached;
          holds = at.holds;
          written = levels.last-written test base depth end.reached.level.sparse at.reached;
        }))
