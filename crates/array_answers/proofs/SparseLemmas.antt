-- The sparse levels of a mesh and of arrays.
use Rattle.std.proofs.Common.{◌≡◌, ℕ, ◌≤◌, List, Some, inr, Result, Ok, Err, MatchResult, length, get_or, arith, ap, sym, subst, ◌∙◌}
use Rattle.std.specs.List.{All}
use Rattle.std.proofs.lemmas.List.{length-map}
use Rattle.std.proofs.lemmas.List.Elements.{length_all_zip}
use Rattle.subdiv_model.specs.ObjMesh.{ObjMesh}
use Rattle.subdiv_model.specs.Refined.{Point}
use Rattle.subdiv_model.specs.SparseText.{WrittenLevel, written_points}
use Rattle.subdiv_model.specs.SparseTexture.{SparseTrack, points_part}
use Rattle.far_model.specs.Answer.{sparse_positions}
use Rattle.far_model.specs.Command.{SparseOptions}
use Rattle.ratio128.specs.declared.point.Point3.{Point3}
use Rattle.sparse_level.specs.declared.values.SparseValues.{SparseValues}
use Rattle.far_text.specs.Points.{CanBeWritten, IsSamePoint, point_of, points_of}
use Rattle.mesh_answers.specs.SparseLevels.{ArePointsLevels, IsPointsLevel, sparse_position_faults}
use Rattle.mesh_arrays.specs.Faults.{IsMeshOf}
use Rattle.mesh_arrays.specs.declared.arrays.MeshArrays.{MeshArrays}
use Rattle.array_answers.specs.declared.record.FaultRecord.{FaultRecord}
use Rattle.array_answers.specs.Refused.{IsRefusedBy}
use Rattle.array_answers.specs.Sparse.{AreSparseIn, AreSparseOf, IsSparseRefused}
use Rattle.array_answers.specs.declared.sparse.SparseArrays.{SparseArrays}
use Rattle.array_answers.proofs.AnswerLemmas.{all-can-be-put}

-- a level has a value for each of its written points
one-for-each : (common : ℕ) (dens : List ℕ) (level : SparseValues Point3) (track : SparseTrack Point) (k : ℕ) → IsPointsLevel common dens level (points_part track k) → length level.values.items ≡ level.faces.point_count
one-for-each common dens level track k is =
    sym (length-map level.values.items (point_of common)) ∙ length_all_zip IsSamePoint (points_of common level.values.items) (points_part track k).values is.same
    ∙ length-map (written_points track.base track.predicate k) _ ∙ ap (λ (l : WrittenLevel). l.point_count) (sym is.faces)

-- the levels of a mesh can be put
pub sparse-of : (options : SparseOptions) (mesh : ObjMesh) (found : SparseArrays) → options.depth ≤ 10 → found.common ≡ mesh.common → ArePointsLevels options mesh found.levels.items →
    AreSparseOf options mesh found
sparse-of options mesh found few common are = record {
  common = common;
  levels = are;
  few = omega (arith, few, are.count);
  put = λ k d h.
      let level = get_or found.levels.items k d in
      let is = are.each k d h in record {
        valued = one-for-each mesh.common _ level (sparse_positions options mesh) k is;
        put = all-can-be-put found.common level.values.items (subst (λ n. All (CanBeWritten n) level.values.items) (sym common) is.written);
      };
}

-- the result for the mesh of arrays is the result for the arrays
pub sparse-in : (options : SparseOptions) (arrays : MeshArrays) (mesh : ObjMesh) (r : Result SparseArrays FaultRecord) → IsMeshOf arrays mesh →
    MatchResult r (AreSparseOf options mesh) (IsRefusedBy (sparse_position_faults options mesh) mesh) → MatchResult r (AreSparseIn options arrays) (IsSparseRefused (Some options) arrays)
sparse-in options arrays mesh (Ok found) good are = record { good = subst (IsMeshOf arrays) good.same good; are = subst (λ m. AreSparseOf options m found) good.same are }
sparse-in options arrays mesh (Err found) good refused =
    inr (subst (IsMeshOf arrays) good.same good, subst (λ m. IsRefusedBy (sparse_position_faults options m) m found) good.same refused)
