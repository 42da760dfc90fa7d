-- Meshes with the tags of a level, control numbers with refined values, and meshes that continue others, for the laws.
-- Source: Drillolive.
use Rattle.std.specs.Prelude.{◌≡◌, ℕ, ◌<◌, ℤ, Bool, List, length, map, None}
use Rattle.std.specs.List.{All, AllZip, filter, flat_map, range_with_len}
use Rattle.subdiv_model.specs.Edges.{edges_of}
use Rattle.subdiv_model.specs.MeshFault.{first_mesh_fault}
use Rattle.subdiv_model.specs.Sharpness.{Sharpness, is_sharp}
use Rattle.subdiv_model.specs.Boundary.{EdgeOnly}
use Rattle.subdiv_model.specs.ObjMesh.{ObjMesh}
use Rattle.subdiv_model.specs.Level.{Level, edge_sharpness_of, vertex_sharpness_of, is_hole}
use Rattle.subdiv_model.specs.Base.{base_level}
use Rattle.subdiv_model.specs.Child.{refined_level}
use Rattle.subdiv_model.specs.Mask.{Scheme}
use Rattle.subdiv_model.specs.Value.{Value, IsSameValue}
use Rattle.subdiv_model.specs.Refined.{Point, points_of_coordinates, refined_coordinates, refined_points}
use Rattle.subdiv_model.specs.Text.{is_written_crease, point_line, mesh_text}
use Rattle.level_laws.specs.Tags.{HasProperTags}
use Rattle.mask_laws.specs.Laws.{IsManifoldMesh, mesh_level}

-- Levels and meshes.

-- the edges that the tags of the level list as creases, each with its sharpness
abbrev pub written_creases : Level → List ((ℕ × ℕ) × Sharpness)
written_creases level = map (λ edge. (edge, edge_sharpness_of level edge)) (filter (is_written_crease level) (edges_of level.polygons))

-- the vertices that the tags of the level list as corners, each with its sharpness
abbrev pub written_corner_tags : Level → List (ℕ × Sharpness)
written_corner_tags level =
    map (λ v. (v, vertex_sharpness_of level v)) (filter (λ v. is_sharp (vertex_sharpness_of level v)) (range_with_len 0 level.point_count))

-- the faces that the tags of the level list as holes
abbrev pub written_holes : Level → List ℕ
written_holes level = filter (is_hole level) (range_with_len 0 (length level.polygons))

-- the mesh has the faces of the level, as many points, and the tags of the level
pub record HasTagsOf (level : Level) (mesh : ObjMesh) : Type 0 where
  pub points : length mesh.points ≡ level.point_count
  pub faces : mesh.faces ≡ level.polygons
  pub creases : mesh.creases ≡ written_creases level
  pub corner_tags : mesh.corner_tags ≡ written_corner_tags level
  pub holes : mesh.holes ≡ written_holes level
  pub boundary : mesh.boundary ≡ EdgeOnly
  pub method : mesh.method ≡ level.method

-- Values.

-- the two lists have equal values, place by place
abbrev pub AreSameValues : List Value → List Value → Type 0
AreSameValues xs ys = AllZip IsSameValue xs ys

-- the values of numbers over a common denominator
abbrev pub values_over : ℕ → List ℤ → List Value
values_over common numbers = map (λ n. record { num = n; den = common }) numbers

-- the denominator is at least 1
abbrev pub HasDenominator : Value → Type 0
HasDenominator x = 0 < x.den

-- a number for each point of a level, over a common denominator, and a scheme
pub record Coordinates : Type 0 where
  pub level : Level
  pub scheme : Scheme
  pub common : ℕ
  pub numbers : List ℤ

-- the values after a number of steps
abbrev pub coordinates_after : Coordinates → ℕ → List Value
coordinates_after given k = refined_coordinates given.level given.scheme given.common given.numbers k

-- numbers over a common denominator of their own that have the values of coordinates after some steps
pub record Continuation : Type 0 where
  pub first : Coordinates
  pub steps : ℕ
  pub common : ℕ
  pub numbers : List ℤ
  pub same : AreSameValues (coordinates_after first steps) (values_over common numbers)

-- the numbers of a continuation as coordinates of the level after its steps
abbrev pub continued : Continuation → Coordinates
continued going = record {
  level = refined_level going.first.level going.steps;
  scheme = going.first.scheme;
  common = going.common;
  numbers = going.numbers;
}

-- Points.

-- three lists of coordinates, each value over a denominator of at least 1
pub record Columns : Type 0 where
  pub xs : List Value
  pub ys : List Value
  pub zs : List Value
  pub above_x : All HasDenominator xs
  pub above_y : All HasDenominator ys
  pub above_z : All HasDenominator zs

-- the points of both have equal coordinates, one by one
pub record AreSameColumns (first second : Columns) : Type 0 where
  pub x : AreSameValues first.xs second.xs
  pub y : AreSameValues first.ys second.ys
  pub z : AreSameValues first.zs second.zs

-- the `v` lines of points
abbrev pub point_lines : List Point → List ℕ
point_lines points = flat_map (point_line None) points

-- the points with these coordinates
abbrev pub points_of : Columns → List Point
points_of columns = points_of_coordinates columns.xs columns.ys columns.zs

-- Meshes.

-- the points of the mesh after a number of steps of a scheme
abbrev pub mesh_points : Scheme → ObjMesh → ℕ → List Point
mesh_points scheme mesh k = refined_points (base_level mesh) scheme mesh.common mesh.points k

-- one coordinate of the points of the mesh after a number of steps of a scheme
abbrev pub mesh_coordinates : (ℤ × ℤ × ℤ → ℤ) → Scheme → ObjMesh → ℕ → List Value
mesh_coordinates axis scheme mesh k = refined_coordinates (base_level mesh) scheme mesh.common (map axis mesh.points) k

-- the coordinates of the point have the values of these whole numbers over a common denominator
pub record IsPointOver (common : ℕ) (point : Point) (numbers : ℤ × ℤ × ℤ) : Type 0 where
  pub x : IsSameValue point.0 (record { num = numbers.0; den = common })
  pub y : IsSameValue point.1 (record { num = numbers.1; den = common })
  pub z : IsSameValue point.2 (record { num = numbers.2; den = common })

-- the text of the mesh after a number of steps of a scheme, with or without the faces that are holes
abbrev pub text_after : Scheme → Bool → ObjMesh → ℕ → List ℕ
text_after scheme holes mesh k = mesh_text None holes (mesh_level mesh k) (mesh_points scheme mesh k)

-- The first mesh is a manifold with well-formed tags. The second has the tags of level k of the first, and its points have the
-- values of the points there. Each mesh has its own common denominator, of at least 1.
pub record IsContinuation (scheme : Scheme) (k : ℕ) (first second : ObjMesh) : Type 0 where
  pub manifold : IsManifoldMesh first
  pub proper : HasProperTags first
  pub first_common : 0 < first.common
  pub second_common : 0 < second.common
  pub tags : HasTagsOf (mesh_level first k) second
  pub points : AllZip (IsPointOver second.common) (mesh_points scheme first k) second.points

-- two meshes of which the second goes on from a level of the first
pub record ContinuedMesh : Type 0 where
  pub scheme : Scheme
  pub steps : ℕ
  pub first : ObjMesh
  pub second : ObjMesh
  pub is : IsContinuation scheme steps first second

-- the faces of a level have no fault over its points
abbrev pub IsFaultless : Level → Type 0
IsFaultless level = first_mesh_fault level.point_count level.polygons ≡ None
