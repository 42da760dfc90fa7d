-- A mesh in plain lists as the mesh of the definitions.
use Rattle.std.specs.Prelude.{ℕ, ◌≡◌, ◌+◌, Bool, ◌&&◌, nat_eq, nat_lt, ◌≤◌, ◌<◌, ◌^◌, true, List, [], ◌∷◌, length, map, slice_range, if◌then◌else◌}
use Rattle.std.specs.List.{All}
use Rattle.sharpness_rules.specs.View.{method_of}
use Rattle.subdiv_model.specs.ObjMesh.{ObjMesh}
use Rattle.subdiv_model.specs.Short.{IsShortPoint, IsShortTexture}
use Rattle.raw_mesh.specs.View.{boundary_of, crease_of, corner_tag_of, point_of, texture_of}
use Rattle.raw_mesh.specs.declared.mesh.Coordinates.{Coordinates}
use Rattle.raw_mesh.specs.declared.mesh.Faces.{Faces}
use Rattle.raw_mesh.specs.declared.tags.Tags.{Tags}

-- The parts of a list between each place and the next.
abbrev pub pieces : List ℕ → List ℕ → List (List ℕ)
pieces [] xs = []
pieces (a ∷ []) xs = []
pieces (a ∷ (b ∷ places)) xs = slice_range xs a b ∷ pieces (b ∷ places) xs

-- The places ascend, and the last one is `end`.
abbrev pub Ascend : List ℕ → ℕ → Type 0
Ascend [] end = ⊥
Ascend (a ∷ []) end = a ≡ end
Ascend (a ∷ (b ∷ places)) end = (a ≤ b) × Ascend (b ∷ places) end

-- Whether there is a face, and each corner has a texture value.
abbrev pub names_all_texture : Faces → Bool
names_all_texture faces = nat_lt 1 (length faces.starts.items) && nat_eq (length faces.texture_corners.items) (length faces.corners.items)

-- The mesh of the definitions that these lists spell.
abbrev pub mesh_of : Coordinates → Faces → Bool → Tags → ObjMesh
mesh_of coordinates faces has_texture tags = record {
  points = map point_of coordinates.points.items;
  common = coordinates.scale;
  texture = map texture_of coordinates.texture.items;
  texture_common = coordinates.texture_scale;
  faces = pieces faces.starts.items faces.corners.items;
  has_texture = has_texture;
  texture_corners = if has_texture then pieces faces.starts.items faces.texture_corners.items else [];
  creases = map crease_of tags.creases.items;
  corner_tags = map corner_tag_of tags.corners.items;
  holes = tags.holes.items;
  boundary = boundary_of tags.boundary;
  method = method_of tags.method;
}

-- The mesh of the lists, with texture if every corner has a texture value.
abbrev pub mesh_of_lists : Coordinates → Faces → Tags → ObjMesh
mesh_of_lists coordinates faces tags = mesh_of coordinates faces (names_all_texture faces) tags

-- Each common denominator is from 1 to 10^37, and each numerator is below 10^37 in amount.
pub record AreShort (coordinates : Coordinates) : Type 0 where
  pub scale : (0 < coordinates.scale) × (coordinates.scale ≤ 10 ^ 37)
  pub texture_scale : (0 < coordinates.texture_scale) × (coordinates.texture_scale ≤ 10 ^ 37)
  pub points : All IsShortPoint (map point_of coordinates.points.items)
  pub texture : All IsShortTexture (map texture_of coordinates.texture.items)

-- The starts of faces ascend to the number of corners, and every number names an item that exists.
pub record IsWhole (points values : ℕ) (has_texture : Bool) (faces : Faces) (tags : Tags) : Type 0 where
  pub ascend : Ascend faces.starts.items (length faces.corners.items)
  pub few : length faces.starts.items ≤ 2 ^ 28 + 1
  pub short : length faces.corners.items < 2 ^ 27
  pub same : has_texture ≡ true → length faces.texture_corners.items ≡ length faces.corners.items
  pub vertices : All (λ v. v < points) faces.corners.items
  pub texture : All (λ t. t < values) faces.texture_corners.items
  pub crease_ends : All (λ c. (c.a < points) × (c.b < points)) tags.creases.items
  pub corner_vertices : All (λ c. c.vertex < points) tags.corners.items
  pub hole_faces : All (λ f. f + 1 < length faces.starts.items) tags.holes.items

-- The lists of a mesh are short and whole.
pub record AreKept (coordinates : Coordinates) (faces : Faces) (has_texture : Bool) (tags : Tags) : Type 0 where
  pub short : AreShort coordinates
  pub whole : IsWhole (length coordinates.points.items) (length coordinates.texture.items) has_texture faces tags
