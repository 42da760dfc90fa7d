use Rattle.std.proofs.Common.{ap, take_all}
use Rattle.std.specs.List.{flat_map}
use Rattle.obj_out.proofs.PutsLemmas.{puts-next, puts-same, puts-stop}
use Rattle.text_pieces.specs.Text.{piece_text}
use Rattle.far_fault.proofs.line.put_pieces.Goals as goal

pub returns-in_err-put_piece : goal.returns-in_err-put_piece
returns-in_err-put_piece g c =
    puts-stop piece_text c.args.pieces.now c.loop-piece.piece-index _ c.loop-piece-test.true
    c.from_residual.ensures.0 c.loop-piece.invariant
    c.in_err-put_piece.ensures

pub loop-piece-preserved : goal.loop-piece-preserved
loop-piece-preserved g c =
    puts-next piece_text c.args.pieces.now c.loop-piece.piece-index _ c.loop-piece-test.true c.loop-piece.invariant
    c.in_ok-put_piece.ensures

pub returns : goal.returns
returns g c = puts-same (ap (flat_map piece_text) (take_all c.loop-piece.piece-index c.args.pieces.now c.loop-piece-test.false)) c.loop-piece.invariant
