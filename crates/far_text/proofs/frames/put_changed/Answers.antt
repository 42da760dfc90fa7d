use Rattle.obj_out.proofs.PutsLemmas.{puts-after, puts-cut, puts-same}
use Rattle.far_text.specs.Points.{point_of}
use Rattle.far_text.proofs.LineLemmas.{changed-by-words}
use Rattle.far_text.proofs.frames.put_changed.Goals as goal

pub returns-in_err-put_count : goal.returns-in_err-put_count
returns-in_err-put_count g c =
    puts-same (changed-by-words c.args.number (point_of c.args.common c.args.point.now))
    (puts-cut _ c.from_residual.ensures.0 c.in_err-put_count.ensures)

pub returns : goal.returns
returns g c =
    puts-same (changed-by-words c.args.number (point_of c.args.common c.args.point.now))
    (puts-after c.in_ok-put_count.ensures c.put_coordinates.ensures)
