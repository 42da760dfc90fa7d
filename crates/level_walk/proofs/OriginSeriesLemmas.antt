-- The result of a walk over whole levels that carries origins.
use Rattle.std.proofs.Common.{◌≡◌, ℕ, zero, suc, true, ap, sym, ◌∙◌, subst, IsTrue}
use Rattle.subdiv_model.specs.Polygons.{is_over}
use Rattle.subdiv_model.specs.Level.{Level}
use Rattle.subdiv_model.specs.Child.{child_points, child_polygons, refined_level}
use Rattle.mesh_laws.proofs.ChildOverLemmas.{levels-over-points}
use Rattle.level_topology.specs.Topology.{Topology}
use Rattle.level_topology.specs.Child.{ChildTopology}
use Rattle.level_walk.specs.declared.fault.Cause.{Cause}
use Rattle.level_walk.specs.declared.fault.Cause.TheVariants.{Memory}
use Rattle.level_walk.specs.declared.fault.WalkFault.{WalkFault}
use Rattle.level_walk.specs.Walk.{Place, IsWalked, IsStopped}
use Rattle.uniform_refiner.specs.Refined.{IsRefined}
use Rattle.level_walk.specs.UniformStep.{IsMade, IsRefused}
use Rattle.level_walk.proofs.WalkedLemmas.{IsWalkedTo, IsStoppedAt, walked-to, stopped-within}
use Rattle.level_walk.specs.Origins.{Origins, base_origins, next_origins, origins_to}
use Rattle.level_walk.specs.ChildOrigins.{AreOrigins, child_origins}
use Rattle.level_walk.proofs.OriginLawLemmas.{origins-each}
use Rattle.level_walk.proofs.UniformOriginLemmas.{uniform-origins}

-- there is one for each point, each edge and each face
pub reached-each : (base : Level) (k : ℕ) (level : Level) (origins : Origins) → level ≡ refined_level base k → origins ≡ origins_to base k → AreOrigins level origins
reached-each base k level origins is are =
    subst (λ l. AreOrigins l origins) (sym is) (subst (AreOrigins (refined_level base k)) (sym are) (origins-each base k))

-- the origins of one level more
origins-more : (base : Level) (k : ℕ) (t : Topology) (child : ChildTopology) (old new : Origins) → IsTrue (is_over base.point_count base.polygons)
    → t.level ≡ refined_level base k → IsRefined t child → old ≡ origins_to base k → new ≡ child_origins child old → new ≡ origins_to base (suc k)
origins-more base k t child old new over is refined before made =
    let each : AreOrigins t.level old = reached-each base k t.level old is before in
    let P : Level → Type 0 = λ l. is_over (child_points l.point_count l.polygons) (child_polygons l.point_count l.polygons) ≡ true in
    made ∙ uniform-origins t child old refined.uniform each (subst P (sym is) (levels-over-points base (suc k) over))
    ∙ ap (λ l. next_origins l old) is ∙ ap (next_origins (refined_level base k)) before

module _ {C V : Type 0} (seen : C → Origins) (Takes : V → Topology → C → V → Type 0) (start : Place Topology C V) where
  abbrev base : Level
  base = start.reached.level.level

  abbrev Follow : Topology → ChildTopology → C → C → ℕ → ℕ → Type 0
  Follow t child before next old new = (seen next ≡ child_origins child (seen before)) × (new ≡ old)

  abbrev Fail : Topology → ChildTopology → C → Cause → ℕ → ℕ → Type 0
  Fail t child before cause old new = (cause ≡ Memory) × (new ≡ old)

  -- the level after k steps
  pub walked-levels : (k : ℕ) (end : Place Topology C V) → IsWalked (λ t. t) IsMade Follow Takes start k end
      → IsWalkedTo base k end.reached.level start.steps end.steps
  walked-levels = walked-to Follow Takes (λ t child before next old new followed. followed.1) start

  -- its origins
  pub walked-origins : IsTrue (is_over base.point_count base.polygons) → seen start.reached.carried ≡ base_origins base
      → (k : ℕ) (end : Place Topology C V) → IsWalked (λ t. t) IsMade Follow Takes start k end → seen end.reached.carried ≡ origins_to base k
  walked-origins over at zero end is = ap (λ (place : Place Topology C V). seen place.reached.carried) is ∙ at
  walked-origins over at (suc k) end (before, (walked, leads)) =
      let level = (walked-levels k before walked).reached.level in
      let made = leads.made in
      origins-more base k before.reached.level made.child (seen before.reached.carried) (seen end.reached.carried) over level made.made.refined
      (walked-origins over at k before walked) made.followed.0

  pub stopped-levels : (depth : ℕ) (fault : WalkFault) (visitor : V) (new : ℕ) → IsStopped (λ t. t) IsMade IsRefused Follow Fail Takes start depth fault visitor new
      → IsStoppedAt base depth fault.level fault.cause start.steps new
  stopped-levels = stopped-within Follow Takes (λ t child before next old new followed. followed.1) start Fail (λ t child before cause old new failed. failed)
