use Rattle.std.proofs.Common.{take, Ok}
use Rattle.std.specs.List.{flat_map}
use Rattle.obj_out.specs.Puts.{Puts}
use Rattle.far_text.specs.Lines.{valued_line}
use Rattle.far_text.proofs.points.put_points.Given as goal

-- the lines so far
abbrev pub invariant-loop-p : goal.invariant-loop-p
invariant-loop-p g l = Puts g.K.Sink l.fn.out l.out (flat_map (valued_line l.fn.decimals l.fn.common) (take l.p-index l.points)) (Ok tt)
