use Rattle.std.proofs.Common.{◌≡◌, map, take}
use Rattle.raw_mesh.specs.View as view
use Rattle.mesh_arrays.specs.Arrays.{corner_tag_of}
use Rattle.mesh_arrays.proofs.mesh.corner_tags_of.Given as goal

-- what was made of those so far
abbrev pub invariant-loop-tag : goal.invariant-loop-tag
invariant-loop-tag l = map view.corner_tag_of l.all.items ≡ map corner_tag_of (take l.tag-index l.tags)
