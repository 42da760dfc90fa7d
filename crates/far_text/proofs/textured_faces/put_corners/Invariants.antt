use Rattle.std.proofs.Common.{take, zip, Ok}
use Rattle.std.specs.List.{flat_map}
use Rattle.obj_out.specs.Puts.{Puts}
use Rattle.far_text.specs.Lines.{textured_word}
use Rattle.far_text.proofs.textured_faces.put_corners.Given as goal

-- the corners so far
abbrev pub invariant-loop-k : goal.invariant-loop-k
invariant-loop-k g l = Puts g.K.Sink l.fn.out l.out (flat_map textured_word (take l.k (zip l.corners l.texture))) (Ok tt)
