use Rattle.std.proofs.Common.{◌≡◌, ◌++◌, map}
use Rattle.std.specs.List.{range_with_len}
use Rattle.subdiv_model.specs.ObjMesh.{ObjMesh}
use Rattle.far_model.specs.Answer.{map_leaf}
use Rattle.far_words.specs.View.{map_of_code}
use Rattle.patch_map.specs.View.{location_of}
use Rattle.mesh_answers.specs.Leaves.{CanFind}
use Rattle.mesh_answers.proofs.leaf_map.push_row.Given as goal

-- the leaves of the row so far
abbrev pub invariant-loop-i : goal.invariant-loop-i
invariant-loop-i l =
    (mesh : ObjMesh) → CanFind (map_of_code l.options) mesh l.found
    → map location_of l.leaves.items ≡ map location_of l.fn.leaves.items ++ map (λ i. map_leaf (map_of_code l.options) mesh (i, l.j)) (range_with_len 0 l.i)
