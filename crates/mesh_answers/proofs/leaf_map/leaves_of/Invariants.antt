use Rattle.std.proofs.Common.{◌≡◌, map}
use Rattle.std.specs.List.{flat_map, range_with_len}
use Rattle.subdiv_model.specs.ObjMesh.{ObjMesh}
use Rattle.far_words.specs.View.{map_of_code}
use Rattle.patch_map.specs.View.{location_of}
use Rattle.mesh_answers.specs.Leaves.{CanFind, row_leaves}
use Rattle.mesh_answers.proofs.leaf_map.leaves_of.Given as goal

-- the leaves of the rows so far
abbrev pub invariant-loop-j : goal.invariant-loop-j
invariant-loop-j l =
    (mesh : ObjMesh) → CanFind (map_of_code l.options) mesh l.found → map location_of l.leaves.items ≡ flat_map (row_leaves (map_of_code l.options) mesh) (range_with_len 0 l.j)
