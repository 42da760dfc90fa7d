-- A mesh of quads that a program makes itself.
use Rattle.std.specs.Prelude.{ℕ, ◌≡◌, ◌+◌, ◌*◌, ◌/◌, false, List, [], ◌∷◌, length, map}
use Rattle.std.specs.List.{range_with_len}
use Rattle.ratio128.specs.declared.point.Point3.{Point3}
use Rattle.subdiv_model.specs.Polygons.{Polygon}
use Rattle.subdiv_model.specs.Sharpness.{Normal}
use Rattle.subdiv_model.specs.Boundary.{EdgeOnly}
use Rattle.subdiv_model.specs.ObjMesh.{ObjMesh}
use Rattle.sharpness_rules.specs.View.{method_of}
use Rattle.raw_mesh.specs.View.{boundary_of, crease_of, point_of}
use Rattle.raw_mesh.specs.declared.tags.Crease.{Crease}
use Rattle.raw_mesh.specs.declared.mesh.Coordinates.{Coordinates}
use Rattle.raw_mesh.specs.declared.mesh.Faces.{Faces}
use Rattle.raw_mesh.specs.declared.tags.Tags.{Tags}

-- Each four successive corners as a face; up to three corners at the end are left out.
abbrev pub quads_of : List ℕ → List Polygon
quads_of [] = []
quads_of (a ∷ []) = []
quads_of (a ∷ (b ∷ [])) = []
quads_of (a ∷ (b ∷ (c ∷ []))) = []
quads_of (a ∷ (b ∷ (c ∷ (d ∷ corners)))) = (a ∷ b ∷ c ∷ d ∷ []) ∷ quads_of corners

-- The mesh of these points over 1, these quads and these creases, with no other part.
abbrev pub mesh_of_quads : List Point3 → List ℕ → List Crease → ObjMesh
mesh_of_quads points corners creases = record {
  points = map point_of points;
  common = 1;
  texture = [];
  texture_common = 1;
  faces = quads_of corners;
  has_texture = false;
  texture_corners = [];
  creases = map crease_of creases;
  corner_tags = [];
  holes = [];
  boundary = EdgeOnly;
  method = Normal;
}

-- The points over 1, without texture values.
pub record ArePoints (given : List Point3) (coordinates : Coordinates) : Type 0 where
  pub points : coordinates.points.items ≡ given
  pub scale : coordinates.scale ≡ 1
  pub texture : coordinates.texture.items ≡ []
  pub texture_scale : coordinates.texture_scale ≡ 1

-- The corners as quads, one after another, without texture.
pub record AreQuads (given : List ℕ) (faces : Faces) : Type 0 where
  pub starts : faces.starts.items ≡ map (λ k. 4 * k) (range_with_len 0 (length given / 4 + 1))
  pub corners : faces.corners.items ≡ given
  pub texture : faces.texture_corners.items ≡ []

-- The creases, without any other tag.
pub record AreCreases (given : List Crease) (tags : Tags) : Type 0 where
  pub creases : tags.creases.items ≡ given
  pub corners : tags.corners.items ≡ []
  pub holes : tags.holes.items ≡ []
  pub boundary : boundary_of tags.boundary ≡ EdgeOnly
  pub method : method_of tags.method ≡ Normal
