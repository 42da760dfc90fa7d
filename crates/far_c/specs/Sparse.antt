-- The result of the call for the sparse levels of a mesh.
use Rattle.std.specs.Prelude.{ℕ, ◌≡◌, ◌+◌, ◌*◌, false, List, map}
use Rattle.std.specs.List.{flat_map, range_with_len}
use Rattle.subdiv_model.specs.ObjMesh.{ObjMesh}
use Rattle.far_model.specs.Answer.{positions_of, predicate_for}
use Rattle.far_model.specs.Command.{SparseOptions}
use Rattle.flat_arrays.specs.Words.{natural_of}
use Rattle.mesh_answers.specs.SparseLevels.{written_denominators}
use Rattle.mesh_arrays.specs.Arrays.{mesh_of_arrays}
use Rattle.mesh_arrays.specs.declared.arrays.MeshArrays.{MeshArrays}
use Rattle.mesh_arrays.specs.SparseFlat.{with_front}
use Rattle.mesh_arrays.specs.SparsePlaces.{counts_of, are_long_enough, IsWritten}
use Rattle.mesh_arrays.specs.declared.sparse_counts.SparseCounts.{SparseCounts}
use Rattle.mesh_arrays.specs.declared.sparse_places.SparsePlaces.{SparsePlaces}
use Rattle.array_answers.specs.declared.record.FaultRecord.{FaultRecord}
use Rattle.array_answers.specs.Sparse.{AreSparseAsked, IsSparseRefused, sparse_asked}
use Rattle.array_answers.specs.declared.sparse.SparseArrays.{SparseArrays}
use Rattle.array_answers.specs.declared.sparse.SparseRequest.{SparseRequest}
use Rattle.far_c.specs.Status.{IsStatus}

-- the mesh has the requested sparse levels with these counts, and `Holds` is true of the requested options and of them
pub record HasSparse (mesh : MeshArrays) (request : SparseRequest) (counts : SparseCounts) (Holds : SparseOptions → SparseArrays → Type 0) : Type 0 where
  pub sparse : SparseArrays
  pub are : AreSparseAsked request mesh sparse
  pub counted : counts ≡ counts_of sparse.levels.items
  pub holds : Holds are.options sparse

-- the denominators of the points of all sparse levels: those of their rows in the whole levels, times the common denominator of the mesh
abbrev pub sparse_point_denominators : SparseOptions → ObjMesh → List ℕ
sparse_point_denominators options mesh =
    map (λ den. den * mesh.common)
    (flat_map (written_denominators (positions_of mesh) (predicate_for options mesh)) (range_with_len 0 (options.depth + 1)))

-- the levels are written, and the numerators of their points are over the denominators that the definitions give
pub record AreLevelsWritten (options : SparseOptions) (mesh : MeshArrays) (sparse : SparseArrays) (old new : SparsePlaces) : Type 0 where
  pub written : IsWritten sparse.levels.items sparse.common old new
  pub defined : map natural_of new.denominators.now ≡ with_front (sparse_point_denominators options (mesh_of_arrays mesh)) (map natural_of old.denominators.now)

-- the levels are written, or only their counts if an array is too short
abbrev pub AnswersSparse : MeshArrays → SparseRequest → ℕ → SparseCounts → SparsePlaces → SparsePlaces → FaultRecord → Type 0
AnswersSparse mesh request status counts old new fault =
    IsStatus status
    (HasSparse mesh request counts (λ options s. AreLevelsWritten options mesh s old new))
    (HasSparse mesh request counts (λ options s. (are_long_enough (counts_of s.levels.items) old ≡ false) × (new ≡ old)))
    (λ found. IsSparseRefused (sparse_asked request) mesh found × (new ≡ old)) fault
