use Rattle.std.proofs.Common.{take, Ok, length}
use Rattle.std.specs.List.{flat_map, range_with_len}
use Rattle.obj_out.specs.Puts.{Puts}
use Rattle.far_text.specs.Lines.{shown_textured_face}
use Rattle.far_text.proofs.textured_faces.put_textured_faces.Given as goal

-- the lines so far
abbrev pub invariant-loop-f : goal.invariant-loop-f
invariant-loop-f g l = Puts g.K.Sink l.fn.out l.out (flat_map (shown_textured_face l.holes l.level.level l.cut.level) (take l.f (range_with_len 0 (length l.level.level.polygons)))) (Ok tt)
