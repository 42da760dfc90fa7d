-- The first fault of arrays that are not a mesh.
use Rattle.std.specs.Prelude.{◌≡◌, None, Some, Option, option_map, nat_lt, map, if◌then◌else◌}
use Rattle.std.specs.Option.{option_or}
use Rattle.std.specs.List.{position}
use Rattle.subdiv_model.specs.ObjMesh.{ObjMesh}
use Rattle.raw_mesh.specs.View as view
use Rattle.sharpness_rules.specs.View.{method_of}
use Rattle.raw_mesh.specs.Parts.{bad_part}
use Rattle.raw_mesh.specs.declared.mesh.Coordinates.{Coordinates}
use Rattle.raw_mesh.specs.declared.tags.Tags.{Tags}
use Rattle.flat_arrays.specs.Words.{natural_of}
use Rattle.raw_mesh.specs.declared.fault.BadPart.{BadPart}
use Rattle.raw_mesh.specs.declared.fault.PartsFault.{PartsFault}
use Rattle.raw_mesh.specs.declared.fault.PartsFault.TheVariants as parts
use Rattle.raw_mesh.specs.declared.parts.MeshParts.{MeshParts}
use Rattle.mesh_arrays.specs.Arrays.{mesh_of_arrays, is_bad_denominator, point_of, value_of, crease_of, corner_tag_of, boundary_of_code, method_of_code}
use Rattle.mesh_arrays.specs.declared.arrays.MeshArrays.{MeshArrays}
use Rattle.mesh_arrays.specs.declared.fault.ArraysFault.{ArraysFault}
use Rattle.mesh_arrays.specs.declared.fault.ArraysFault.TheVariants as fault

-- The coordinates have the numbers of the arrays.
pub record AreCoordinatesOf (arrays : MeshArrays) (coordinates : Coordinates) : Type 0 where
  pub points : map view.point_of coordinates.points.items ≡ map point_of arrays.points.now
  pub scale : coordinates.scale ≡ natural_of arrays.scale
  pub texture : map view.texture_of coordinates.texture.items ≡ map value_of arrays.texture.now
  pub texture_scale : coordinates.texture_scale ≡ natural_of arrays.texture_scale

-- The tags have the numbers of the arrays.
pub record AreTagsOf (arrays : MeshArrays) (tags : Tags) : Type 0 where
  pub creases : map view.crease_of tags.creases.items ≡ map crease_of arrays.creases.now
  pub corner_tags : map view.corner_tag_of tags.corners.items ≡ map corner_tag_of arrays.corner_tags.now
  pub holes : tags.holes.items ≡ arrays.holes.now
  pub boundary : view.boundary_of tags.boundary ≡ boundary_of_code arrays.boundary
  pub method : method_of tags.method ≡ method_of_code arrays.method

-- The parts have the numbers of the arrays.
pub record ArePartsOf (arrays : MeshArrays) (parts : MeshParts) : Type 0 where
  pub coordinates : AreCoordinatesOf arrays parts.coordinates
  pub sizes : parts.face_sizes.items ≡ arrays.face_sizes.now
  pub corners : parts.corners.items ≡ arrays.corners.now
  pub texture_corners : parts.texture_corners.items ≡ arrays.texture_corners.now
  pub tags : AreTagsOf arrays parts.tags

-- The first fault of the options and of the sharpness of tags.
abbrev pub bad_option : MeshArrays → Option ArraysFault
bad_option arrays =
    option_or (if (nat_lt 2 arrays.boundary) then (Some fault.Boundary) else None)
    (option_or (if (nat_lt 1 arrays.method) then (Some fault.Method) else None)
    (option_or (option_map fault.CreaseSharpness (position (λ edge. is_bad_denominator edge.sharpness_den) arrays.creases.now))
    (option_map fault.CornerSharpness (position (λ point. is_bad_denominator point.sharpness_den) arrays.corner_tags.now))))

-- The options have no fault, the parts have the numbers of the arrays, and their first fault is `bad`.
pub record IsPart (arrays : MeshArrays) (bad : Option BadPart) : Type 0 where
  pub options : bad_option arrays ≡ None
  pub parts : MeshParts
  pub numbers : ArePartsOf arrays parts
  pub found : bad_part parts ≡ bad

-- The fault is the first of the arrays, or memory ran out.
abbrev pub IsArraysFault : MeshArrays → ArraysFault → Type 0
IsArraysFault arrays (fault.Part bad) = IsPart arrays (Some bad)
IsArraysFault arrays fault.Memory = Unit {0}
IsArraysFault arrays fault.Boundary = bad_option arrays ≡ Some fault.Boundary
IsArraysFault arrays fault.Method = bad_option arrays ≡ Some fault.Method
IsArraysFault arrays (fault.CreaseSharpness place) = bad_option arrays ≡ Some (fault.CreaseSharpness place)
IsArraysFault arrays (fault.CornerSharpness place) = bad_option arrays ≡ Some (fault.CornerSharpness place)

-- The fault of the arrays for a fault of their parts.
abbrev pub fault_of_parts : PartsFault → ArraysFault
fault_of_parts (parts.Bad bad) = fault.Part bad
fault_of_parts parts.Memory = fault.Memory

-- The arrays have no fault, and the mesh is theirs.
pub record IsMeshOf (arrays : MeshArrays) (mesh : ObjMesh) : Type 0 where
  pub good : IsPart arrays None
  pub same : mesh ≡ mesh_of_arrays arrays
