-- The result of a walk over whole levels that counts each of them.
use Rattle.std.proofs.Common.{◌≡◌, ℕ, zero, suc, ◌+◌, List, [], ◌∷◌, ◌++◌, map, arith, ap, sym, ◌∙◌, subst}
use Rattle.std.specs.List.{range_with_len}
use Rattle.std.proofs.lemmas.List.FromFn.{map-range_with_len_more}
use Rattle.subdiv_model.specs.Level.{Level}
use Rattle.subdiv_model.specs.Child.{refined_level}
use Rattle.level_topology.specs.Topology.{Topology}
use Rattle.level_topology.specs.Child.{ChildTopology}
use Rattle.level_walk.specs.declared.fault.Cause.{Cause}
use Rattle.level_walk.specs.declared.fault.WalkFault.{WalkFault}
use Rattle.level_walk.specs.Walk.{Place, IsWalked, IsStopped}
use Rattle.level_walk.specs.UniformStep.{IsMade, IsRefused}
use Rattle.level_walk.proofs.WalkedLemmas.{IsWalkedTo, IsStoppedAt, walked-to, stopped-within}
use Rattle.level_walk.specs.Counts.{Counts, counts_of}

-- the counts of one level more
pub counts-more : (base : Level) (k : ℕ) (level : Level) (old new : List Counts) → level ≡ refined_level base k
    → old ≡ map (λ n. counts_of (refined_level base n)) (range_with_len 0 k) → new ≡ old ++ counts_of level ∷ []
    → new ≡ map (λ n. counts_of (refined_level base n)) (range_with_len 0 (k + 1))
counts-more base k level old new is before put =
    put ∙ ap (λ (xs : List Counts). xs ++ counts_of level ∷ []) before
    ∙ ap (λ (level : Level). map (λ n. counts_of (refined_level base n)) (range_with_len 0 k) ++ counts_of level ∷ []) is
    ∙ sym (map-range_with_len_more (λ n. counts_of (refined_level base n)) 0 k k (omega arith))

module _ {C V : Type 0} (counted : V → List Counts) (start : Place Topology C V) where
  abbrev base : Level
  base = start.reached.level.level

  abbrev Follow : Topology → ChildTopology → C → C → ℕ → ℕ → Type 0
  Follow t child before next old new = new ≡ old

  abbrev Fail : Topology → ChildTopology → C → Cause → ℕ → ℕ → Type 0
  Fail t child before cause old new = ⊥

  abbrev Takes : V → Topology → C → V → Type 0
  Takes before t carried after = counted after ≡ counted before ++ counts_of t.level ∷ []

  -- the level after k steps
  pub walked-levels : (k : ℕ) (end : Place Topology C V) → IsWalked (λ t. t) IsMade Follow Takes start k end
      → IsWalkedTo base k end.reached.level start.steps end.steps
  walked-levels = walked-to Follow Takes (λ t child before next old new same. same) start

  -- the counts of the levels before it
  pub walked-counts : counted start.visitor ≡ [] → (k : ℕ) (end : Place Topology C V) → IsWalked (λ t. t) IsMade Follow Takes start k end
      → counted end.visitor ≡ map (λ n. counts_of (refined_level base n)) (range_with_len 0 k)
  walked-counts none zero end is = ap (λ (place : Place Topology C V). counted place.visitor) is ∙ none
  walked-counts none (suc k) end (before, (walked, leads)) =
      let level = (walked-levels k before walked).reached.level in
      let next : k + 1 ≡ suc k = omega arith in
      subst (λ n. counted end.visitor ≡ map (λ n. counts_of (refined_level base n)) (range_with_len 0 n)) next
      (counts-more base k before.reached.level.level (counted before.visitor) (counted end.visitor) level (walked-counts none k before walked) leads.taken)

  pub stopped-levels : (depth : ℕ) (fault : WalkFault) (visitor : V) (new : ℕ) → IsStopped (λ t. t) IsMade IsRefused Follow Fail Takes start depth fault visitor new
      → IsStoppedAt base depth fault.level fault.cause start.steps new
  stopped-levels = stopped-within Follow Takes (λ t child before next old new same. same) start Fail (λ t child before cause old new never. absurd never)
