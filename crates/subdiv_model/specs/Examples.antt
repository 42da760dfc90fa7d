-- Small meshes for the examples.
use Rattle.std.specs.Prelude.{ℕ, ◌^◌, ℤ, pos, false, true, List, [], ◌∷◌, ◌++◌, take, drop, replicate}
use Rattle.subdiv_model.specs.Polygons.{Polygon}
use Rattle.subdiv_model.specs.Sharpness.{Sharpness, Semi, Method, Normal, Chaikin}
use Rattle.subdiv_model.specs.Level.{Level, plain_level}
use Rattle.subdiv_model.specs.Boundary.{Boundary, EdgeOnly}
use Rattle.subdiv_model.specs.ObjMesh.{ObjMesh}
use Rattle.subdiv_model.specs.Base.{base_level}
use Rattle.subdiv_model.specs.Generator.{sheet_faces}

-- four triangles over four points
abbrev pub tetrahedron : List Polygon
tetrahedron = (0 ∷ 2 ∷ 1 ∷ []) ∷ (0 ∷ 1 ∷ 3 ∷ []) ∷ (1 ∷ 2 ∷ 3 ∷ []) ∷ (2 ∷ 0 ∷ 3 ∷ []) ∷ []

-- two triangles over three points, back to back
abbrev pub two_triangles : List Polygon
two_triangles = (0 ∷ 1 ∷ 2 ∷ []) ∷ (0 ∷ 2 ∷ 1 ∷ []) ∷ []

-- the six quads of a cube
abbrev pub cube : List Polygon
cube =
    (0 ∷ 1 ∷ 3 ∷ 2 ∷ [])
    ∷ (2 ∷ 3 ∷ 5 ∷ 4 ∷ [])
    ∷ (4 ∷ 5 ∷ 7 ∷ 6 ∷ [])
    ∷ (6 ∷ 7 ∷ 1 ∷ 0 ∷ [])
    ∷ (1 ∷ 7 ∷ 5 ∷ 3 ∷ [])
    ∷ (6 ∷ 0 ∷ 2 ∷ 4 ∷ [])
    ∷ []

-- four triangles around the top and four around the bottom
abbrev pub octahedron : List Polygon
octahedron =
    (0 ∷ 1 ∷ 4 ∷ [])
    ∷ (1 ∷ 2 ∷ 4 ∷ [])
    ∷ (2 ∷ 3 ∷ 4 ∷ [])
    ∷ (3 ∷ 0 ∷ 4 ∷ [])
    ∷ (1 ∷ 0 ∷ 5 ∷ [])
    ∷ (2 ∷ 1 ∷ 5 ∷ [])
    ∷ (3 ∷ 2 ∷ 5 ∷ [])
    ∷ (0 ∷ 3 ∷ 5 ∷ [])
    ∷ []

-- three by three quads
abbrev pub sheet : List Polygon
sheet = sheet_faces 3

-- the sheet without the middle quad
abbrev pub frame : List Polygon
frame = take 4 sheet ++ drop 5 sheet

-- one quad with an open boundary
abbrev pub square : List Polygon
square = (0 ∷ 1 ∷ 2 ∷ 3 ∷ []) ∷ []

-- a mesh over a number of points, all at 0, with these creases and corner tags
abbrev pub tagged_mesh : ℕ → List Polygon → List ((ℕ × ℕ) × Sharpness) → List (ℕ × Sharpness) → ObjMesh
tagged_mesh points polygons creases corner_tags = record {
  points = replicate points (pos 0, pos 0, pos 0);
  common = 1;
  texture = [];
  texture_common = 1;
  faces = polygons;
  has_texture = false;
  texture_corners = [];
  creases = creases;
  corner_tags = corner_tags;
  holes = [];
  boundary = EdgeOnly;
  method = Normal;
}

-- level 0 of a mesh over a number of points, with these creases and corner tags
abbrev pub tagged_level : ℕ → List Polygon → List ((ℕ × ℕ) × Sharpness) → List (ℕ × Sharpness) → Level
tagged_level points polygons creases corner_tags = base_level (tagged_mesh points polygons creases corner_tags)

-- level 0 of a mesh over a number of points, without tags, in a boundary mode
abbrev pub level_in : Boundary → ℕ → List Polygon → Level
level_in mode points polygons = base_level (record (tagged_mesh points polygons [] []) { boundary = mode })

-- the cube with face 0 as a hole, and sharpness 3/2 at the edge between 1 and 3
abbrev pub creased_cube : Level
creased_cube = base_level (record (tagged_mesh 8 cube (((3, 1), Semi 3 2) ∷ []) []) { holes = 0 ∷ [] })

-- the cube with edges of sharpness 1 and 3 that meet at 1, under the method chaikin
abbrev pub chaikin_cube : Level
chaikin_cube = base_level (record (tagged_mesh 8 cube (((0, 1), Semi 1 1) ∷ ((1, 3), Semi 3 1) ∷ []) []) { method = Chaikin })

-- the cube with edges of two sharpnesses that meet at 1, under a method
abbrev pub cube_of_two_creases : Method → Sharpness → Sharpness → Level
cube_of_two_creases method first second = base_level (record (tagged_mesh 8 cube (((0, 1), first) ∷ ((1, 3), second) ∷ []) []) { method = method })

-- the cube with two creases whose common denominator is too great
abbrev pub fine_cube : Method → Level
fine_cube method = cube_of_two_creases method (Semi 1 (2 ^ 59)) (Semi 1 3)

-- the cube with this sharpness at vertex 3
abbrev pub corner_cube : Sharpness → Level
corner_cube sharpness = tagged_level 8 cube [] ((3, sharpness) ∷ [])

-- the octahedron with edges of sharpness 1/2 and 3/2 that meet at the top
abbrev pub octahedron_of_two_creases : Level
octahedron_of_two_creases = tagged_level 6 octahedron (((4, 0), Semi 1 2) ∷ ((4, 1), Semi 3 2) ∷ []) []

-- the octahedron with four sharp edges at the top
abbrev pub octahedron_of_four_creases : Level
octahedron_of_four_creases =
    tagged_level 6 octahedron (((4, 0), Semi 1 2) ∷ ((4, 1), Semi 3 1) ∷ ((4, 2), Semi 3 1) ∷ ((4, 3), Semi 3 1) ∷ []) []

-- two triangles back to back; the first is a hole
abbrev pub holed_triangles : Level
holed_triangles = record (plain_level 3 two_triangles) { holes = true ∷ false ∷ [] }

-- two quads side by side with these texture values and texture corners
abbrev pub quads_with_texture : List (ℤ × ℤ) → List Polygon → ObjMesh
quads_with_texture values corners = record (tagged_mesh 6 ((0 ∷ 1 ∷ 2 ∷ 3 ∷ []) ∷ (1 ∷ 4 ∷ 5 ∷ 2 ∷ []) ∷ []) [] []) {
  texture = values;
  has_texture = true;
  texture_corners = corners;
}

-- two quads side by side whose texture numbers differ along their common edge
abbrev pub seamed_quads : ObjMesh
seamed_quads =
    quads_with_texture
    ((pos 0, pos 0) ∷ (pos 1, pos 0) ∷ (pos 1, pos 1) ∷ (pos 0, pos 1) ∷ (pos 4, pos 0) ∷ (pos 5, pos 0) ∷ (pos 5, pos 1) ∷ (pos 4, pos 1) ∷ [])
    ((0 ∷ 1 ∷ 2 ∷ 3 ∷ []) ∷ (4 ∷ 5 ∷ 6 ∷ 7 ∷ []) ∷ [])

-- two quads side by side with one texture number for each vertex
abbrev pub joined_quads : ObjMesh
joined_quads = quads_with_texture (replicate 6 (pos 0, pos 0)) ((5 ∷ 4 ∷ 3 ∷ 2 ∷ []) ∷ (4 ∷ 1 ∷ 0 ∷ 3 ∷ []) ∷ [])

-- two quads whose texture numbers differ at vertex 2 only
abbrev pub half_seamed_quads : ObjMesh
half_seamed_quads = quads_with_texture (replicate 7 (pos 0, pos 0)) ((0 ∷ 1 ∷ 2 ∷ 3 ∷ []) ∷ (1 ∷ 4 ∷ 5 ∷ 6 ∷ []) ∷ [])

-- two by two quads with one texture number for each vertex, except for another one at vertex 1 of the second quad
abbrev pub slit_sheet : ObjMesh
slit_sheet = record (tagged_mesh 9 (sheet_faces 2) [] []) {
  texture = replicate 10 (pos 0, pos 0);
  has_texture = true;
  texture_corners = (0 ∷ 1 ∷ 4 ∷ 3 ∷ []) ∷ (9 ∷ 2 ∷ 5 ∷ 4 ∷ []) ∷ drop 2 (sheet_faces 2);
}
