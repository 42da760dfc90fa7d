-- The result of the call for the origins of a level of a mesh.
use Rattle.std.specs.Prelude.{ℕ, ◌≡◌, false}
use Rattle.level_walk.specs.Origins as model
use Rattle.level_walk.specs.OriginsView.{seen_origins}
use Rattle.level_walk.specs.OriginPlaces as places
use Rattle.level_walk.specs.declared.origin.Origins.{Origins}
use Rattle.level_walk.specs.declared.origin_places.OriginCounts.{OriginCounts}
use Rattle.level_walk.specs.declared.origin_places.OriginPlaces.{OriginPlaces}
use Rattle.mesh_arrays.specs.declared.arrays.MeshArrays.{MeshArrays}
use Rattle.array_answers.specs.declared.record.FaultRecord.{FaultRecord}
use Rattle.array_answers.specs.Origins.{AreOriginsOfArrays, IsLevelsRefusal}
use Rattle.far_c.specs.Status.{IsStatus}

-- the mesh has a level at the depth with these origins, and `Holds` is true of them
pub record HasOrigins (mesh : MeshArrays) (depth : ℕ) (Holds : model.Origins → Type 0) : Type 0 where
  pub origins : Origins
  pub are : AreOriginsOfArrays mesh depth origins
  pub holds : Holds (seen_origins origins)

-- the origins are written and later places unchanged, or only their counts are written if an array is too short
abbrev pub AnswersOrigins : MeshArrays → ℕ → ℕ → OriginCounts → OriginPlaces → OriginPlaces → FaultRecord → Type 0
AnswersOrigins mesh depth status counts old new fault =
    IsStatus status
    (HasOrigins mesh depth (λ o. (counts ≡ places.counts_of o) × (places.IsWritten o new × places.IsRestKept o old new)))
    (HasOrigins mesh depth (λ o. (counts ≡ places.counts_of o) × (places.are_long_enough o old ≡ false) × (new ≡ old)))
    (λ found. IsLevelsRefusal mesh depth found × (new ≡ old)) fault
