use Rattle.std.proofs.Common.{take, Ok}
use Rattle.std.specs.List.{flat_map}
use Rattle.obj_out.specs.Puts.{Puts}
use Rattle.far_text.specs.Lines.{corner_word}
use Rattle.far_text.proofs.faces.put_corners.Given as goal

-- the corners so far
abbrev pub invariant-loop-corner : goal.invariant-loop-corner
invariant-loop-corner g l = Puts g.K.Sink l.fn.out l.out (flat_map corner_word (take l.corner-index l.corners)) (Ok tt)
