use Rattle.std.proofs.Common.{refl}
use Rattle.subdiv_model.specs.SparseTexture.{textured_level_line}
use Rattle.obj_out.proofs.PutsLemmas.{puts-after, puts-cut, puts-same}
use Rattle.far_text.proofs.TexturedLemmas.{textured-level-by-parts}
use Rattle.far_text.proofs.textured_sparse.put_level.Goals as goal

pub returns-in_err-put_counts : goal.returns-in_err-put_counts
returns-in_err-put_counts g c = puts-cut _ c.from_residual.ensures.0 c.in_err-put_counts.ensures

pub returns-in_err-put_points : goal.returns-in_err-put_points
returns-in_err-put_points g c =
    let form = c.args.form in
    puts-same (textured-level-by-parts form.decimals c.args.number form.common form.texture_common c.args.level.now c.args.texture.now _ _ c.deref.ensures.value refl)
    (puts-after {x = textured_level_line c.args.number c.args.level.now.faces c.args.texture.now.faces} c.in_ok-put_counts.ensures
    (puts-cut _ c.from_residual-in_err-put_points.ensures.0 c.in_err-put_points.ensures))

pub returns-in_err-put_texture : goal.returns-in_err-put_texture
returns-in_err-put_texture g c =
    let form = c.args.form in
    puts-same (textured-level-by-parts form.decimals c.args.number form.common form.texture_common c.args.level.now c.args.texture.now _ _ c.deref.ensures.value c.deref-2.ensures.value)
    (puts-after {x = textured_level_line c.args.number c.args.level.now.faces c.args.texture.now.faces} c.in_ok-put_counts.ensures
    (puts-after c.in_ok-put_points.ensures (puts-cut _ c.from_residual-in_err-put_texture.ensures.0 c.in_err-put_texture.ensures)))

pub returns : goal.returns
returns g c =
    let form = c.args.form in
    puts-same (textured-level-by-parts form.decimals c.args.number form.common form.texture_common c.args.level.now c.args.texture.now _ _ c.deref.ensures.value c.deref-2.ensures.value)
    (puts-after {x = textured_level_line c.args.number c.args.level.now.faces c.args.texture.now.faces} c.in_ok-put_counts.ensures
    (puts-after c.in_ok-put_points.ensures (puts-after c.in_ok-put_texture.ensures c.put_faces.ensures)))
