use Rattle.std.proofs.Common.{refl}
use Rattle.obj_out.proofs.PutsLemmas.{puts-after, puts-cut, puts-same}
use Rattle.far_text.proofs.PartsLemmas.{textured-mesh-by-parts}
use Rattle.far_text.proofs.mesh.put_textured.Goals as goal

pub returns-in_err-put_points : goal.returns-in_err-put_points
returns-in_err-put_points g c =
    puts-same (textured-mesh-by-parts c.args.mesh.now c.args.texture.now c.args.form _ c.args.texture.now.values.items c.deref.ensures.value refl c.facts.ensures.formed c.requires.texture.alike)
    (puts-cut _ c.from_residual.ensures.0 c.in_err-put_points.ensures)

pub returns-in_err-put_texture : goal.returns-in_err-put_texture
returns-in_err-put_texture g c =
    puts-same (textured-mesh-by-parts c.args.mesh.now c.args.texture.now c.args.form _ _ c.deref.ensures.value c.deref-2.ensures.value c.facts.ensures.formed c.requires.texture.alike)
    (puts-after c.in_ok-put_points.ensures (puts-cut _ c.from_residual-in_err-put_texture.ensures.0 c.in_err-put_texture.ensures))

pub returns : goal.returns
returns g c =
    puts-same (textured-mesh-by-parts c.args.mesh.now c.args.texture.now c.args.form _ _ c.deref.ensures.value c.deref-2.ensures.value c.facts.ensures.formed c.requires.texture.alike)
    (puts-after c.in_ok-put_points.ensures (puts-after c.in_ok-put_texture.ensures c.put_textured_faces.ensures))
