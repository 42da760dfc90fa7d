use Rattle.obj_out.proofs.PutsLemmas.{puts-after, puts-cut, puts-same}
use Rattle.far_text.proofs.LineLemmas.{face-by-words}
use Rattle.far_text.proofs.faces.put_face.Goals as goal

pub returns-in_err-put_byte : goal.returns-in_err-put_byte
returns-in_err-put_byte g c =
    puts-same (face-by-words c.args.corners.now)
    (puts-cut _ c.from_residual.ensures.0 c.in_err-put_byte.ensures)

pub returns-in_err-put_corners : goal.returns-in_err-put_corners
returns-in_err-put_corners g c =
    puts-same (face-by-words c.args.corners.now)
    (puts-after c.in_ok-put_byte.ensures (puts-cut _ c.from_residual-in_err-put_corners.ensures.0 c.in_err-put_corners.ensures))

pub returns : goal.returns
returns g c =
    puts-same (face-by-words c.args.corners.now)
    (puts-after c.in_ok-put_byte.ensures (puts-after c.in_ok-put_corners.ensures c.put_byte-2.ensures))
