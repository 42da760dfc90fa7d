-- What a tag adds to the tags before it.
use Rattle.std.specs.Prelude.{◌≡◌, [], ◌++◌, map, codes, if◌then◌else◌}
use Rattle.sharpness_rules.specs.View.{method_of}
use Rattle.subdiv_model.specs.ObjTag.{is_tag, tag_creases, tag_corners, tag_indices, tag_mode, tag_method}
use Rattle.obj_tags.specs.Line.{Line}
use Rattle.raw_mesh.specs.View.{boundary_of, crease_of, corner_tag_of}
use Rattle.raw_mesh.specs.declared.tags.Tags.{Tags}

-- A tag without a fault is appended to the tags before it, or sets the boundary mode or the crease method.
pub record AddsTag (line : Line) (before after : Tags) : Type 0 where
  pub creases : map crease_of after.creases.items ≡ map crease_of before.creases.items ++ (if is_tag (codes "crease") line then tag_creases line else [])
  pub corners : map corner_tag_of after.corners.items ≡ map corner_tag_of before.corners.items ++ (if is_tag (codes "corner") line then tag_corners line else [])
  pub holes : after.holes.items ≡ before.holes.items ++ (if is_tag (codes "hole") line then tag_indices line else [])
  pub boundary : boundary_of after.boundary ≡ (if is_tag (codes "interpolateboundary") line then tag_mode line else boundary_of before.boundary)
  pub method : method_of after.method ≡ (if is_tag (codes "creasemethod") line then tag_method line else method_of before.method)
