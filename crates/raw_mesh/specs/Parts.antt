-- The parts of a mesh in plain arrays: their first fault, and the mesh that they spell.
-- Source: this profile.
use Rattle.std.specs.Prelude.{ℕ, ◌≡◌, ◌^◌, Bool, ◌&&◌, ◌||◌, nat_eq, nat_lt, nat_le, ℤ, unsigned_abs, List, [], ◌∷◌, length, map, take, drop, sum, Option, Some, None, option_map, if◌then◌else◌}
use Rattle.std.specs.Option.{option_or}
use Rattle.std.specs.List.{position}
use Rattle.ratio128.specs.declared.point.Point2.{Point2}
use Rattle.ratio128.specs.declared.point.Point3.{Point3}
use Rattle.sharpness_rules.specs.View.{method_of}
use Rattle.subdiv_model.specs.ObjMesh.{ObjMesh}
use Rattle.subdiv_model.specs.Polygons.{Polygon}
use Rattle.raw_mesh.specs.View.{boundary_of, crease_of, corner_tag_of, point_of, texture_of}
use Rattle.raw_mesh.specs.declared.fault.BadPart.{BadPart}
use Rattle.raw_mesh.specs.declared.fault.BadPart.TheVariants as bad
use Rattle.raw_mesh.specs.declared.fault.PartsFault.{PartsFault}
use Rattle.raw_mesh.specs.declared.fault.PartsFault.TheVariants.{Bad, Memory}
use Rattle.raw_mesh.specs.declared.mesh.Coordinates.{Coordinates}
use Rattle.raw_mesh.specs.declared.parts.MeshParts.{MeshParts}
use Rattle.raw_mesh.specs.declared.tags.Tags.{Tags}

-- Whether a common denominator is from 1 to 10^37.
abbrev pub is_scale : ℕ → Bool
is_scale scale = nat_lt 0 scale && nat_le scale (10 ^ 37)

-- Whether a numerator is 10^37 or more in amount.
abbrev pub is_long : ℤ → Bool
is_long number = nat_le (10 ^ 37) (unsigned_abs number)

-- Whether a point has a numerator of 10^37 or more in amount.
abbrev pub is_long_point : Point3 → Bool
is_long_point point = is_long point.x || (is_long point.y || is_long point.z)

-- Whether a texture value has a numerator of 10^37 or more in amount.
abbrev pub is_long_value : Point2 → Bool
is_long_value value = is_long value.u || is_long value.v

-- The fault `bad` if the test fails.
abbrev pub bad_unless : Bool → BadPart → Option BadPart
bad_unless test bad = if test then None else Some bad

-- The first fault of the coordinates: the common denominators, then the first numerator that is too long.
abbrev pub bad_coordinates : Coordinates → Option BadPart
bad_coordinates coordinates =
    option_or (bad_unless (is_scale coordinates.scale) bad.PointScale)
    (option_or (bad_unless (is_scale coordinates.texture_scale) bad.TextureScale)
    (option_or (option_map bad.Point (position is_long_point coordinates.points.items))
    (option_map bad.TextureValue (position is_long_value coordinates.texture.items))))

-- The first fault of the counts of faces and corners.
abbrev pub bad_counts : MeshParts → Option BadPart
bad_counts parts =
    option_or (bad_unless (nat_le (length parts.face_sizes.items) (2 ^ 28)) bad.FaceCount)
    (option_or (bad_unless (nat_lt (length parts.corners.items) (2 ^ 27)) bad.CornerCount)
    (option_or (bad_unless (nat_eq (sum parts.face_sizes.items) (length parts.corners.items)) bad.FaceSizes)
    (bad_unless (nat_eq (length parts.texture_corners.items) 0 || nat_eq (length parts.texture_corners.items) (length parts.corners.items)) bad.TextureCornerCount)))

-- The first corner that names no point or no texture value.
abbrev pub bad_corners : MeshParts → Option BadPart
bad_corners parts =
    option_or (option_map bad.Corner (position (nat_le (length parts.coordinates.points.items)) parts.corners.items))
    (option_map bad.TextureCorner (position (nat_le (length parts.coordinates.texture.items)) parts.texture_corners.items))

-- The first tag that names no point or no face.
abbrev pub bad_tags : ℕ → ℕ → Tags → Option BadPart
bad_tags points faces tags =
    option_or (option_map bad.Crease (position (λ crease. nat_le points crease.a || nat_le points crease.b) tags.creases.items))
    (option_or (option_map bad.CornerTag (position (λ tag. nat_le points tag.vertex) tags.corners.items))
    (option_map bad.Hole (position (nat_le faces) tags.holes.items)))

-- The first fault of the parts: coordinates, then counts, corners and tags.
abbrev pub bad_part : MeshParts → Option BadPart
bad_part parts =
    option_or (bad_coordinates parts.coordinates)
    (option_or (bad_counts parts)
    (option_or (bad_corners parts)
    (bad_tags (length parts.coordinates.points.items) (length parts.face_sizes.items) parts.tags)))

-- The list cut into runs of these sizes.
abbrev pub runs_of : List ℕ → List ℕ → List Polygon
runs_of [] xs = []
runs_of (size ∷ sizes) xs = take size xs ∷ runs_of sizes (drop size xs)

-- Whether there is a face, and each corner has a texture corner.
abbrev pub is_textured : MeshParts → Bool
is_textured parts = nat_lt 0 (length parts.face_sizes.items) && nat_eq (length parts.texture_corners.items) (length parts.corners.items)

-- The mesh of the parts.
abbrev pub mesh_of_parts : MeshParts → ObjMesh
mesh_of_parts parts = record {
  points = map point_of parts.coordinates.points.items;
  common = parts.coordinates.scale;
  texture = map texture_of parts.coordinates.texture.items;
  texture_common = parts.coordinates.texture_scale;
  faces = runs_of parts.face_sizes.items parts.corners.items;
  has_texture = is_textured parts;
  texture_corners = if is_textured parts then runs_of parts.face_sizes.items parts.texture_corners.items else [];
  creases = map crease_of parts.tags.creases.items;
  corner_tags = map corner_tag_of parts.tags.corners.items;
  holes = parts.tags.holes.items;
  boundary = boundary_of parts.tags.boundary;
  method = method_of parts.tags.method;
}

-- The fault is the first one found, or memory ran out.
abbrev pub IsPartsFault : PartsFault → Option BadPart → Type 0
IsPartsFault (Bad bad) found = found ≡ Some bad
IsPartsFault Memory found = Unit {0}
