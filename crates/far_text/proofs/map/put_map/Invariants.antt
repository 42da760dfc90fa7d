use Rattle.std.proofs.Common.{take, Ok}
use Rattle.std.specs.List.{flat_map}
use Rattle.obj_out.specs.Puts.{Puts}
use Rattle.patch_map.specs.View.{location_of}
use Rattle.far_text.specs.MapLines.{placed_leaf_line}
use Rattle.far_text.proofs.GridLemmas.{placed}
use Rattle.far_text.proofs.map.put_map.Given as goal

-- the lines so far
abbrev pub invariant-loop-number : goal.invariant-loop-number
invariant-loop-number g l =
    Puts g.K.Sink l.fn.out l.out (flat_map (placed_leaf_line l.map.grid) (take l.number (placed l.map.grid location_of l.map.leaves.items))) (Ok tt)
