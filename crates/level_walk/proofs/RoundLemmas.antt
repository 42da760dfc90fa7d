-- One round of a walk, and the level that it leaves behind.
use Rattle.std.proofs.Common.{ℕ, inl, inr, Result, Ok, Err, IfOk, sym, subst}
use Rattle.level_topology.specs.Topology.{Topology}
use Rattle.level_topology.specs.Child.{ChildTopology}
use Rattle.level_walk.specs.declared.fault.Cause.{Cause}
use Rattle.level_walk.specs.declared.reached.Reached.{Reached}
use Rattle.level_walk.specs.Round.{IsNext, IsWithoutMemory, IsFailed, IsRound, IsLeftFor, IsTakenRound}

module _ {W C : Type 0} (level_of : W → Topology) (Makes : W → ChildTopology → W → ℕ → ℕ → Type 0) (Refuses : W → Cause → ℕ → ℕ → Type 0)
    (Follows : Topology → ChildTopology → C → C → ℕ → ℕ → Type 0) (Fails : Topology → ChildTopology → C → Cause → ℕ → ℕ → Type 0) where
  -- the visitor takes the level that is left behind, where the next one is made
  pub taken : {V : Type 0} (Takes : V → W → C → V → Type 0) (found r : Result (Reached W C) Cause) (from : Reached W C) (before after : V) (old new : ℕ)
      → IsRound level_of Makes Refuses Follows Fails from found old new → IsLeftFor Takes from found r before after
      → IsTakenRound level_of Makes Refuses Follows Fails Takes from r before after old new
  taken Takes (Ok next) (Ok kept) from before after old new made is = (subst (λ n. IsNext level_of Makes Follows from n old new) (sym is.0) made, is.1)
  taken Takes (Ok next) (Err cause) from before after old new made is =
      let without : IsWithoutMemory level_of Makes Follows from cause old new = record { next = next; made = made; memory = is } in
      record { cause = inr (inr without); visitor = inr without }
  taken Takes (Err cause) r from before after old new made is =
      let failed : IsFailed level_of Makes Refuses Follows Fails from cause before after old new = record { cause = made; visitor = inl is.1 } in
      subst (λ r. IsTakenRound level_of Makes Refuses Follows Fails Takes from r before after old new) (sym is.0) failed

-- the next level is the one that was made
pub next-kept : {W C V : Type 0} (Takes : V → W → C → V → Type 0) (found r : Result (Reached W C) Cause) (from : Reached W C) (before after : V) (P : Reached W C → Type 0)
    → IsLeftFor Takes from found r before after → IfOk found P → IfOk r P
next-kept Takes (Ok next) (Ok kept) from before after P is p = subst P (sym is.0) p
next-kept Takes (Ok next) (Err cause) from before after P is p = tt
next-kept Takes (Err cause) r from before after P is p = subst (λ r. IfOk r P) (sym is.0) tt
