-- Meshes after their own tables.
-- Source: Drillolive.
use Rattle.std.specs.Prelude.{◌≡◌, ℕ, List, ◌++◌, None}
use Rattle.subdiv_model.specs.ObjMesh.{ObjMesh}
use Rattle.subdiv_model.specs.ReadObj.{obj_lines, read_obj_mesh}
use Rattle.subdiv_model.specs.TableText.{text_of_table}
use Rattle.far_model.specs.Answer.{composition_refusal, own_table}

-- the text of a mesh whose table at a depth is composed without refusal
pub record TextOfMesh : Type 0 where
  pub depth : ℕ
  pub text : List ℕ
  pub composed : composition_refusal depth 0 (obj_lines text) ≡ None

-- the mesh of the text
abbrev pub mesh_of : TextOfMesh → ObjMesh
mesh_of given = read_obj_mesh given.text 0

-- the text of the table, then the text of the mesh
abbrev pub table_then_mesh : TextOfMesh → List ℕ
table_then_mesh given = text_of_table (own_table given.depth (mesh_of given)) ++ given.text
