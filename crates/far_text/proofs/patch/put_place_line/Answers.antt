use Rattle.obj_out.proofs.PutsLemmas.{puts-after, puts-cut, puts-same}
use Rattle.far_text.specs.Points.{point_of}
use Rattle.far_text.proofs.PatchLemmas.{place-by-words}
use Rattle.far_text.proofs.patch.put_place_line.Goals as goal

pub returns-in_err-put_place : goal.returns-in_err-put_place
returns-in_err-put_place g c =
    puts-same (place-by-words c.args.place (point_of c.args.common c.args.point.now))
    (puts-cut _ c.from_residual.ensures.0 c.in_err-put_place.ensures)

pub returns : goal.returns
returns g c =
    puts-same (place-by-words c.args.place (point_of c.args.common c.args.point.now))
    (puts-after c.in_ok-put_place.ensures c.put_coordinates.ensures)
