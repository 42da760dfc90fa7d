use Rattle.std.proofs.Common.{take, Ok, length}
use Rattle.std.specs.List.{flat_map, range_with_len}
use Rattle.obj_out.specs.Puts.{Puts}
use Rattle.far_text.specs.Lines.{hole_where_marked}
use Rattle.far_text.proofs.holes.put_holes.Given as goal

-- the lines so far
abbrev pub invariant-loop-f : goal.invariant-loop-f
invariant-loop-f g l = Puts g.K.Sink l.fn.out l.out (flat_map (hole_where_marked l.level.level) (take l.f (range_with_len 0 (length l.level.level.polygons)))) (Ok tt)
