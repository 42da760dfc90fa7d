use Rattle.std.proofs.Common.{take, Ok}
use Rattle.std.specs.List.{flat_map}
use Rattle.subdiv_model.specs.Patch.{place_line}
use Rattle.obj_out.specs.Puts.{Puts}
use Rattle.far_text.specs.Points.{point_of}
use Rattle.far_text.proofs.GridLemmas.{placed}
use Rattle.far_text.proofs.patch.put_places.Given as goal

-- the lines so far
abbrev pub invariant-loop-number : goal.invariant-loop-number
invariant-loop-number g l =
    Puts g.K.Sink l.fn.out l.out (flat_map place_line (take l.number (placed l.patch.grid (point_of l.patch.common) l.patch.values.items))) (Ok tt)
