use Rattle.std.proofs.Common.{take, Ok}
use Rattle.std.specs.List.{flat_map, range_with_len}
use Rattle.obj_out.specs.Puts.{Puts}
use Rattle.far_text.specs.Lines.{corner_where_sharp}
use Rattle.far_text.proofs.corner_tags.put_corners.Given as goal

-- the lines so far
abbrev pub invariant-loop-v : goal.invariant-loop-v
invariant-loop-v g l = Puts g.K.Sink l.fn.out l.out (flat_map (corner_where_sharp l.level.level) (take l.v (range_with_len 0 l.level.level.point_count))) (Ok tt)
