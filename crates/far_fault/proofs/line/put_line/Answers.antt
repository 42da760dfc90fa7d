use Rattle.std.proofs.Common.{◌++◌, ap, codes}
use Rattle.obj_out.proofs.PutsLemmas.{puts-after, puts-cut, puts-fine, puts-same}
use Rattle.far_fault.proofs.line.put_line.Goals as goal

pub returns-in_err-put_piece : goal.returns-in_err-put_piece
returns-in_err-put_piece g c = puts-cut _ c.from_residual.ensures.0 c.in_err-put_piece.ensures

pub put_pieces-requires : goal.put_pieces-requires
put_pieces-requires g c = puts-fine c.in_ok-put_piece.ensures

pub returns-in_err-put_pieces : goal.returns-in_err-put_pieces
returns-in_err-put_pieces g c =
    puts-same (ap (λ text. codes "far: " ++ (text ++ codes "\n")) c.as_slice.ensures)
    (puts-after c.in_ok-put_piece.ensures (puts-cut _ c.from_residual-in_err-put_pieces.ensures.0 c.in_err-put_pieces.ensures))

pub returns : goal.returns
returns g c =
    puts-same (ap (λ text. codes "far: " ++ (text ++ codes "\n")) c.as_slice.ensures)
    (puts-after c.in_ok-put_piece.ensures (puts-after c.in_ok-put_pieces.ensures c.put_piece-2.ensures))
