-- A walk over levels, and the place where it stops.
use Rattle.std.specs.Prelude.{ℕ, zero, suc, ◌≡◌, ◌+◌, ◌<◌, Result, MatchResult}
use Rattle.level_topology.specs.Topology.{Topology}
use Rattle.level_topology.specs.Child.{ChildTopology}
use Rattle.level_walk.specs.declared.fault.Cause.{Cause}
use Rattle.level_walk.specs.declared.fault.WalkFault.{WalkFault}
use Rattle.level_walk.specs.declared.reached.Reached.{Reached}
use Rattle.level_walk.specs.Round.{IsNext, IsFailed}

-- the place that a walk has reached, with its visitor and the number of steps so far
pub record Place (W C V : Type 0) : Type 0 where
  pub reached : Reached W C
  pub visitor : V
  pub steps : ℕ

abbrev pub at : {W C V : Type 0} → Reached W C → V → ℕ → Place W C V
at reached visitor steps = record { reached = reached; visitor = visitor; steps = steps }

-- this many rounds lead from one place to another
abbrev pub IsAfter : {X : Type 0} → (X → X → Type 0) → X → ℕ → X → Type 0
IsAfter Leads start zero x = x ≡ start
IsAfter {X} Leads start (suc k) x = (before : X) × (IsAfter Leads start k before × Leads before x)

-- one round, in which the visitor takes the level that is left behind
pub record LeadsTo {W C V : Type 0} (level_of : W → Topology) (Makes : W → ChildTopology → W → ℕ → ℕ → Type 0)
    (Follows : Topology → ChildTopology → C → C → ℕ → ℕ → Type 0) (Takes : V → W → C → V → Type 0) (from next : Place W C V) : Type 0 where
  pub made : IsNext level_of Makes Follows from.reached next.reached from.steps next.steps
  pub taken : Takes from.visitor from.reached.level from.reached.carried next.visitor

-- a walk of this many levels
abbrev pub IsWalked : {W C V : Type 0} → (W → Topology) → (W → ChildTopology → W → ℕ → ℕ → Type 0) → (Topology → ChildTopology → C → C → ℕ → ℕ → Type 0)
    → (V → W → C → V → Type 0) → Place W C V → ℕ → Place W C V → Type 0
IsWalked level_of Makes Follows Takes start k end = IsAfter (LeadsTo level_of Makes Follows Takes) start k end

-- The walk reaches a place before its depth. The fault has the number of the next level, and the cause that the walk does not
-- reach it. The visitor is that of the place, unless memory ran out for it.
pub record IsStopped {W C V : Type 0} (level_of : W → Topology) (Makes : W → ChildTopology → W → ℕ → ℕ → Type 0) (Refuses : W → Cause → ℕ → ℕ → Type 0)
    (Follows : Topology → ChildTopology → C → C → ℕ → ℕ → Type 0) (Fails : Topology → ChildTopology → C → Cause → ℕ → ℕ → Type 0)
    (Takes : V → W → C → V → Type 0) (start : Place W C V) (depth : ℕ) (fault : WalkFault) (visitor : V) (new : ℕ) : Type 0 where
  pub k : ℕ
  pub last : Place W C V
  pub within : k < depth
  pub walked : IsWalked level_of Makes Follows Takes start k last
  pub number : fault.level ≡ k + 1
  pub failed : IsFailed level_of Makes Refuses Follows Fails last.reached fault.cause last.visitor visitor last.steps new

-- A walk of this many levels reaches its end or stops before. The last arguments are the visitor and the number of steps by
-- then.
abbrev pub IsWalk : {W C V : Type 0} → (W → Topology) → (W → ChildTopology → W → ℕ → ℕ → Type 0) → (W → Cause → ℕ → ℕ → Type 0)
    → (Topology → ChildTopology → C → C → ℕ → ℕ → Type 0) → (Topology → ChildTopology → C → Cause → ℕ → ℕ → Type 0)
    → (V → W → C → V → Type 0) → Place W C V → ℕ → Result (Reached W C) WalkFault → V → ℕ → Type 0
IsWalk level_of Makes Refuses Follows Fails Takes start depth result visitor new =
    MatchResult result (λ end. IsWalked level_of Makes Follows Takes start depth (at end visitor new))
    (λ fault. IsStopped level_of Makes Refuses Follows Fails Takes start depth fault visitor new)
