-- One round of a walk, or the cause that it fails.
use Rattle.std.specs.Prelude.{ℕ, ◌≡◌, ◌⊎◌, Result, Err, MatchResult}
use Rattle.level_topology.specs.Topology.{Topology}
use Rattle.level_topology.specs.Child.{ChildTopology}
use Rattle.level_walk.specs.declared.fault.Cause.{Cause}
use Rattle.level_walk.specs.declared.fault.Cause.TheVariants.{Memory}
use Rattle.level_walk.specs.declared.reached.Reached.{Reached}

-- From a level and its data to the next level and its data. The numbers of steps are those before, once the level is made, and
-- after.
pub record IsNext {W C : Type 0} (level_of : W → Topology) (Makes : W → ChildTopology → W → ℕ → ℕ → Type 0)
    (Follows : Topology → ChildTopology → C → C → ℕ → ℕ → Type 0) (from next : Reached W C) (old new : ℕ) : Type 0 where
  pub child : ChildTopology
  pub level_steps : ℕ
  pub made : Makes from.level child next.level old level_steps
  pub followed : Follows (level_of from.level) child from.carried next.carried level_steps new

-- the next level is made, but the data cannot follow to it
pub record IsLeftBehind {W C : Type 0} (level_of : W → Topology) (Makes : W → ChildTopology → W → ℕ → ℕ → Type 0)
    (Fails : Topology → ChildTopology → C → Cause → ℕ → ℕ → Type 0) (from : Reached W C) (cause : Cause) (old new : ℕ) : Type 0 where
  pub child : ChildTopology
  pub next : W
  pub level_steps : ℕ
  pub made : Makes from.level child next old level_steps
  pub fails : Fails (level_of from.level) child from.carried cause level_steps new

-- the next level is made and the data follows to it, but memory runs out for the visitor
pub record IsWithoutMemory {W C : Type 0} (level_of : W → Topology) (Makes : W → ChildTopology → W → ℕ → ℕ → Type 0)
    (Follows : Topology → ChildTopology → C → C → ℕ → ℕ → Type 0) (from : Reached W C) (cause : Cause) (old new : ℕ) : Type 0 where
  pub next : Reached W C
  pub made : IsNext level_of Makes Follows from next old new
  pub memory : cause ≡ Memory

-- the cause that the next level is not reached, with the number of steps before and after
abbrev pub IsCause : {W C : Type 0} → (W → Topology) → (W → ChildTopology → W → ℕ → ℕ → Type 0) → (W → Cause → ℕ → ℕ → Type 0)
    → (Topology → ChildTopology → C → C → ℕ → ℕ → Type 0) → (Topology → ChildTopology → C → Cause → ℕ → ℕ → Type 0)
    → Reached W C → Cause → ℕ → ℕ → Type 0
IsCause level_of Makes Refuses Follows Fails from cause old new =
    Refuses from.level cause old new
    ⊎ (IsLeftBehind level_of Makes Fails from cause old new
    ⊎ IsWithoutMemory level_of Makes Follows from cause old new)

-- The round fails with this cause. The visitor is as before, unless memory ran out for it. The last arguments are the visitor
-- before and after, and the number of steps before and after.
pub record IsFailed {W C V : Type 0} (level_of : W → Topology) (Makes : W → ChildTopology → W → ℕ → ℕ → Type 0) (Refuses : W → Cause → ℕ → ℕ → Type 0)
    (Follows : Topology → ChildTopology → C → C → ℕ → ℕ → Type 0) (Fails : Topology → ChildTopology → C → Cause → ℕ → ℕ → Type 0)
    (from : Reached W C) (why : Cause) (before after : V) (old new : ℕ) : Type 0 where
  pub cause : IsCause level_of Makes Refuses Follows Fails from why old new
  pub visitor : (after ≡ before) ⊎ IsWithoutMemory level_of Makes Follows from why old new

-- the next level and its data, or the cause that it is not reached
abbrev pub IsRound : {W C : Type 0} → (W → Topology) → (W → ChildTopology → W → ℕ → ℕ → Type 0) → (W → Cause → ℕ → ℕ → Type 0)
    → (Topology → ChildTopology → C → C → ℕ → ℕ → Type 0) → (Topology → ChildTopology → C → Cause → ℕ → ℕ → Type 0)
    → Reached W C → Result (Reached W C) Cause → ℕ → ℕ → Type 0
IsRound level_of Makes Refuses Follows Fails from result old new =
    MatchResult result (λ next. IsNext level_of Makes Follows from next old new) (λ cause. IsCause level_of Makes Refuses Follows Fails from cause old new)

-- The visitor takes the level that is left behind, or memory runs out for it. Where there is no next level, the visitor is as
-- before, and the result has the same cause. The last arguments are the next level, the result, and the visitor before and
-- after.
abbrev pub IsLeftFor : {W C V : Type 0} → (V → W → C → V → Type 0) → Reached W C → Result (Reached W C) Cause → Result (Reached W C) Cause → V → V → Type 0
IsLeftFor Takes from next result before after =
    MatchResult next
    (λ next. MatchResult result (λ kept. (kept ≡ next) × Takes before from.level from.carried after) (λ cause. cause ≡ Memory))
    (λ cause. (result ≡ Err cause) × (after ≡ before))

-- A round in which the visitor also takes the level that is left behind. The last arguments are the result, the visitor before
-- and after, and the number of steps before and after.
abbrev pub IsTakenRound : {W C V : Type 0} → (W → Topology) → (W → ChildTopology → W → ℕ → ℕ → Type 0) → (W → Cause → ℕ → ℕ → Type 0)
    → (Topology → ChildTopology → C → C → ℕ → ℕ → Type 0) → (Topology → ChildTopology → C → Cause → ℕ → ℕ → Type 0)
    → (V → W → C → V → Type 0) → Reached W C → Result (Reached W C) Cause → V → V → ℕ → ℕ → Type 0
IsTakenRound level_of Makes Refuses Follows Fails Takes from result before after old new =
    MatchResult result (λ next. IsNext level_of Makes Follows from next old new × Takes before from.level from.carried after)
    (λ cause. IsFailed level_of Makes Refuses Follows Fails from cause before after old new)
