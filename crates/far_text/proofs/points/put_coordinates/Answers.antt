use Rattle.std.proofs.Common.{[]}
use Rattle.obj_out.proofs.PutsLemmas.{puts-after, puts-cut, puts-same}
use Rattle.far_text.specs.Lines.{point_over}
use Rattle.far_text.proofs.LineLemmas.{point-by-words}
use Rattle.far_text.proofs.points.put_coordinates.Goals as goal

pub returns-in_err-put_coordinate : goal.returns-in_err-put_coordinate
returns-in_err-put_coordinate g c =
    puts-same (point-by-words [] c.args.decimals (point_over c.args.den c.args.point.now))
    (puts-cut _ c.from_residual.ensures.0 c.in_err-put_coordinate.ensures)

pub returns-in_err-put_coordinate-2 : goal.returns-in_err-put_coordinate-2
returns-in_err-put_coordinate-2 g c =
    puts-same (point-by-words [] c.args.decimals (point_over c.args.den c.args.point.now))
    (puts-after c.in_ok-put_coordinate.ensures
    (puts-cut _ c.from_residual-in_err-put_coordinate-2.ensures.0 c.in_err-put_coordinate-2.ensures))

pub returns-in_err-put_coordinate-3 : goal.returns-in_err-put_coordinate-3
returns-in_err-put_coordinate-3 g c =
    puts-same (point-by-words [] c.args.decimals (point_over c.args.den c.args.point.now))
    (puts-after c.in_ok-put_coordinate.ensures (puts-after c.in_ok-put_coordinate-2.ensures
    (puts-cut _ c.from_residual-in_err-put_coordinate-3.ensures.0 c.in_err-put_coordinate-3.ensures)))

pub returns : goal.returns
returns g c =
    puts-same (point-by-words [] c.args.decimals (point_over c.args.den c.args.point.now))
    (puts-after c.in_ok-put_coordinate.ensures (puts-after c.in_ok-put_coordinate-2.ensures
    (puts-after c.in_ok-put_coordinate-3.ensures c.put_byte.ensures)))
