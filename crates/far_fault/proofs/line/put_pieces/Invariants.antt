use Rattle.std.proofs.Common.{take, Ok}
use Rattle.std.specs.List.{flat_map}
use Rattle.obj_out.specs.Puts.{Puts}
use Rattle.text_pieces.specs.Text.{piece_text}
use Rattle.far_fault.proofs.line.put_pieces.Given as goal

-- the pieces so far
abbrev pub invariant-loop-piece : goal.invariant-loop-piece
invariant-loop-piece g l = Puts g.K.Sink l.fn.out l.out (flat_map piece_text (take l.piece-index l.pieces)) (Ok tt)
