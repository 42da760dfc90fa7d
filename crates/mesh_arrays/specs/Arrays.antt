-- The mesh that arrays of a caller spell.
-- Source: this profile.
use Rattle.std.specs.Prelude.{ℕ, zero, suc, ◌^◌, ◌&&◌, ◌||◌, Bool, nat_eq, nat_lt, ℤ, [], length, map, if◌then◌else◌}
use Rattle.subdiv_model.specs.Boundary.{Boundary, Hidden, EdgeAndCorner, EdgeOnly}
use Rattle.subdiv_model.specs.ObjMesh.{ObjMesh}
use Rattle.subdiv_model.specs.Sharpness.{Sharpness, Method, Normal, Chaikin, sharpness_of_fraction}
use Rattle.raw_mesh.specs.Parts.{runs_of}
use Rattle.flat_arrays.specs.Words.{natural_of, integer_of}
use Rattle.mesh_arrays.specs.declared.arrays.MeshArrays.{MeshArrays}
use Rattle.mesh_arrays.specs.declared.arrays.WidePoint.{WidePoint}
use Rattle.mesh_arrays.specs.declared.arrays.WideValue.{WideValue}
use Rattle.mesh_arrays.specs.declared.arrays.SharpEdge.{SharpEdge}
use Rattle.mesh_arrays.specs.declared.arrays.SharpPoint.{SharpPoint}

-- The three numerators of a point.
abbrev pub point_of : WidePoint → ℤ × ℤ × ℤ
point_of p = (integer_of p.x, integer_of p.y, integer_of p.z)

-- The two numerators of a texture value.
abbrev pub value_of : WideValue → ℤ × ℤ
value_of p = (integer_of p.u, integer_of p.v)

-- A crease as in the definitions: the pair of points and the sharpness.
abbrev pub crease_of : SharpEdge → (ℕ × ℕ) × Sharpness
crease_of edge = ((edge.a, edge.b), sharpness_of_fraction (edge.sharpness_num, edge.sharpness_den))

-- A corner tag as in the definitions: the point and the sharpness.
abbrev pub corner_tag_of : SharpPoint → ℕ × Sharpness
corner_tag_of point = (point.point, sharpness_of_fraction (point.sharpness_num, point.sharpness_den))

-- The boundary mode of the codes 0, 1 and 2, as in the tag `interpolateboundary`.
abbrev pub boundary_of_code : ℕ → Boundary
boundary_of_code zero = Hidden
boundary_of_code (suc zero) = EdgeAndCorner
boundary_of_code (suc (suc code)) = EdgeOnly

-- The method of the codes 0 and 1.
abbrev pub method_of_code : ℕ → Method
method_of_code zero = Normal
method_of_code (suc code) = Chaikin

-- Whether there is a face, and each corner has a texture corner.
abbrev pub is_textured : MeshArrays → Bool
is_textured arrays = nat_lt 0 (length arrays.face_sizes.now) && nat_eq (length arrays.texture_corners.now) (length arrays.corners.now)

-- The mesh of the arrays.
abbrev pub mesh_of_arrays : MeshArrays → ObjMesh
mesh_of_arrays arrays = record {
  points = map point_of arrays.points.now;
  common = natural_of arrays.scale;
  texture = map value_of arrays.texture.now;
  texture_common = natural_of arrays.texture_scale;
  faces = runs_of arrays.face_sizes.now arrays.corners.now;
  has_texture = is_textured arrays;
  texture_corners = if is_textured arrays then runs_of arrays.face_sizes.now arrays.texture_corners.now else [];
  creases = map crease_of arrays.creases.now;
  corner_tags = map corner_tag_of arrays.corner_tags.now;
  holes = arrays.holes.now;
  boundary = boundary_of_code arrays.boundary;
  method = method_of_code arrays.method;
}

-- Whether the denominator of a sharpness is 0 or above 2^60.
abbrev pub is_bad_denominator : ℕ → Bool
is_bad_denominator den = nat_eq den 0 || nat_lt (2 ^ 60) den
