use Rattle.obj_out.proofs.PutsLemmas.{puts-after, puts-cut, puts-same}
use Rattle.far_text.proofs.PartsLemmas.{tags-by-parts}
use Rattle.far_text.proofs.tags.put_tags.Goals as goal

pub returns-in_err-put_bytes : goal.returns-in_err-put_bytes
returns-in_err-put_bytes g c =
    puts-same (tags-by-parts c.args.level.now.level)
    (puts-cut _ c.from_residual.ensures.0 c.in_err-put_bytes.ensures)

pub returns-in_err-put_method : goal.returns-in_err-put_method
returns-in_err-put_method g c =
    puts-same (tags-by-parts c.args.level.now.level)
    (puts-after c.in_ok-put_bytes.ensures (puts-cut _ c.from_residual-in_err-put_method.ensures.0 c.in_err-put_method.ensures))

pub returns-in_err-put_creases : goal.returns-in_err-put_creases
returns-in_err-put_creases g c =
    puts-same (tags-by-parts c.args.level.now.level)
    (puts-after c.in_ok-put_bytes.ensures (puts-after c.in_ok-put_method.ensures
    (puts-cut _ c.from_residual-in_err-put_creases.ensures.0 c.in_err-put_creases.ensures)))

pub returns-in_err-put_corners : goal.returns-in_err-put_corners
returns-in_err-put_corners g c =
    puts-same (tags-by-parts c.args.level.now.level)
    (puts-after c.in_ok-put_bytes.ensures (puts-after c.in_ok-put_method.ensures (puts-after c.in_ok-put_creases.ensures
    (puts-cut _ c.from_residual-in_err-put_corners.ensures.0 c.in_err-put_corners.ensures))))

pub returns : goal.returns
returns g c =
    puts-same (tags-by-parts c.args.level.now.level)
    (puts-after c.in_ok-put_bytes.ensures (puts-after c.in_ok-put_method.ensures (puts-after c.in_ok-put_creases.ensures
    (puts-after c.in_ok-put_corners.ensures c.put_holes.ensures))))
