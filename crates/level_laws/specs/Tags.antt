-- The tags of a mesh, for the laws of level 0.
use Rattle.std.specs.Prelude.{◌≡◌, [], IsTrue}
use Rattle.std.specs.List.{list_all}
use Rattle.subdiv_model.specs.Sharpness.{Normal, is_proper_sharpness}
use Rattle.subdiv_model.specs.Boundary.{EdgeOnly}
use Rattle.subdiv_model.specs.ObjMesh.{ObjMesh}

-- the sharpness of each crease and of each corner tag is well formed
pub record HasProperTags (mesh : ObjMesh) : Type 0 where
  pub creases : IsTrue (list_all (λ crease. is_proper_sharpness crease.1) mesh.creases)
  pub corner_tags : IsTrue (list_all (λ tag. is_proper_sharpness tag.1) mesh.corner_tags)

-- the mesh has no crease, no corner tag and no hole, and the default boundary mode and method
pub record IsUntagged (mesh : ObjMesh) : Type 0 where
  pub creases : mesh.creases ≡ []
  pub corner_tags : mesh.corner_tags ≡ []
  pub holes : mesh.holes ≡ []
  pub boundary : mesh.boundary ≡ EdgeOnly
  pub method : mesh.method ≡ Normal
