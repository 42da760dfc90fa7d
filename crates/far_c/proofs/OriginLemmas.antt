-- The result of the call that writes origins.
use Rattle.std.proofs.Common.{◌≡◌, ◌≤◌, ℕ, inl, inr, Bool, true, false, refl, sym, if◌then◌else◌}
use Rattle.far_model.specs.Command.{Levels}
use Rattle.far_model.specs.Answer.{command_faults}
use Rattle.level_walk.specs.OriginsView.{seen_origins}
use Rattle.level_walk.specs.OriginPlaces as places
use Rattle.level_walk.specs.declared.origin.Origins.{Origins}
use Rattle.level_walk.specs.declared.origin_places.OriginCounts.{OriginCounts}
use Rattle.level_walk.specs.declared.origin_places.OriginPlaces.{OriginPlaces}
use Rattle.mesh_arrays.specs.Arrays.{mesh_of_arrays}
use Rattle.mesh_arrays.specs.declared.arrays.MeshArrays.{MeshArrays}
use Rattle.array_answers.specs.declared.record.FaultRecord.{FaultRecord}
use Rattle.array_answers.specs.Origins.{AreOriginsOfArrays, IsLevelsRefusal}
use Rattle.far_c.specs.Origins.{AnswersOrigins}
use Rattle.far_c.proofs.RefusalLemmas.{refusal-status}

module _ (mesh : MeshArrays) (depth : ℕ) (fault : FaultRecord) where
  -- origins are written, or an array is too short
  pub origins-answered : (old new : OriginPlaces) (origins : Origins) (counts : OriginCounts) (ok : Bool) (status : ℕ)
      → AreOriginsOfArrays mesh depth origins → counts ≡ places.counts_of (seen_origins origins) → ok ≡ places.are_long_enough (seen_origins origins) old
      → (ok ≡ true → places.IsWritten (seen_origins origins) new) → places.IsRestKept (seen_origins origins) old new → (ok ≡ false → new ≡ old) → status ≡ (if ok then 0 else 1)
      → AnswersOrigins mesh depth status counts old new fault
  origins-answered old new origins counts true status are counted enough written rest kept done =
      inl (done, record { origins = origins; are = are; holds = (counted, (written refl, rest)) })
  origins-answered old new origins counts false status are counted enough written rest kept done =
      inr (inl (done, record { origins = origins; are = are; holds = (counted, sym enough, kept refl) }))

  pub levels-status : IsLevelsRefusal mesh depth fault → 2 ≤ fault.status
  levels-status is = refusal-status depth (command_faults (Levels depth) (mesh_of_arrays mesh)) mesh fault is

  pub origins-refused : (old : OriginPlaces) (counts : OriginCounts) → IsLevelsRefusal mesh depth fault → AnswersOrigins mesh depth fault.status counts old old fault
  origins-refused old counts is = inr (inr (levels-status is, refl, (is, refl)))
