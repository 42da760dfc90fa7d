-- The result of the call for the mesh of an OBJ text.
use Rattle.std.specs.Prelude.{ℕ, ◌≡◌, ◌<◌, ◌≤◌, ◌^◌, ◌⊎◌, false, List, length}
use Rattle.subdiv_model.specs.Fault.{Fault, Long}
use Rattle.subdiv_model.specs.ObjMesh.{ObjMesh}
use Rattle.mesh_answers.specs.MeshText.{IsMeshText, IsTextFault}
use Rattle.mesh_arrays.specs.Written.{counts_of, are_long_enough, AreOptionsOf, IsWritten}
use Rattle.mesh_arrays.specs.declared.places.MeshCounts.{MeshCounts}
use Rattle.mesh_arrays.specs.declared.places.MeshOptions.{MeshOptions}
use Rattle.mesh_arrays.specs.declared.places.MeshPlaces.{MeshPlaces}
use Rattle.array_answers.specs.RecordBack.{IsRecordOf}
use Rattle.array_answers.specs.declared.record.FaultRecord.{FaultRecord}
use Rattle.far_c.specs.Status.{IsStatus}

-- the greatest number of bytes of a text
abbrev pub text_limit : ℕ
text_limit = 2 ^ 28

-- the text is not too long, it has a mesh with these counts and options, and `Holds` is true of the mesh
pub record HasMesh (text : List ℕ) (counts : MeshCounts) (options : MeshOptions) (Holds : ObjMesh → Type 0) : Type 0 where
  pub short : length text ≤ text_limit
  pub mesh : ObjMesh
  pub is : IsMeshText text 0 mesh
  pub counted : counts ≡ counts_of mesh
  pub options_are : AreOptionsOf mesh options
  pub holds : Holds mesh

-- the text is refused for its length, or else for its first bad line, and this is the record; only the lines can want memory
pub record IsTextRefused (text : List ℕ) (found : FaultRecord) : Type 0 where
  pub fault : Fault
  pub is : ((text_limit < length text) × (fault ≡ Long)) ⊎ ((length text ≤ text_limit) × IsTextFault text 0 fault)
  pub recorded : IsRecordOf found fault

-- the mesh is written, or only its counts and options if an array is too short
abbrev pub AnswersText : List ℕ → ℕ → MeshCounts → MeshOptions → MeshPlaces → MeshPlaces → FaultRecord → Type 0
AnswersText text status counts options old new fault =
    IsStatus status
    (HasMesh text counts options (λ mesh. IsWritten mesh new))
    (HasMesh text counts options (λ mesh. (are_long_enough (counts_of mesh) old ≡ false) × (new ≡ old)))
    (λ found. IsTextRefused text found × (new ≡ old)) fault
