use Rattle.std.proofs.Common.{◌<◌, ◌+◌, ap, arith, length, ◌∙◌}
use Rattle.subdiv_model.specs.SparseTexture.{corners_of_face, textured_sparse_line}
use Rattle.obj_out.proofs.PutsLemmas.{puts-next, puts-stop, puts-same}
use Rattle.sparse_level.specs.Faces.{face_at}
use Rattle.far_text.specs.TexturedLines.{place_in}
use Rattle.far_text.proofs.FaceNumberLemmas.{numbers-rise, place-rises}
use Rattle.far_text.proofs.SparseLemmas.{no_face}
use Rattle.far_text.proofs.TexturedLemmas.{line-found}
use Rattle.far_text.proofs.textured_sparse.put_faces.Goals as goal

pub returns-in_err-put_face : goal.returns-in_err-put_face
returns-in_err-put_face g c =
    let level = c.args.level.now in
    let texture = c.args.texture.now in
    let within : c.loop-f.f < length c.args.level.now.faces = omega (arith, c.loop-f-test.true, c.len-f-end.ensures) in
    let found = c.corners_at.ensures ∙ ap (corners_of_face texture) c.number-number.ensures in
    puts-stop (textured_sparse_line texture) level.faces c.loop-f.f no_face within c.from_residual.ensures.0 c.loop-f.invariant.0
    (puts-same (line-found level texture _ c.loop-f.f found) c.in_err-put_face.ensures)

pub loop-f-preserved : goal.loop-f-preserved
loop-f-preserved g c =
    let level = c.args.level.now in
    let texture = c.args.texture.now in
    let within : c.loop-f.f < length c.args.level.now.faces = omega (arith, c.loop-f-test.true, c.len-f-end.ensures) in
    let found = c.corners_at.ensures ∙ ap (corners_of_face texture) c.number-number.ensures in (
      puts-next (textured_sparse_line texture) level.faces c.loop-f.f no_face within c.loop-f.invariant.0
          (puts-same (line-found level texture _ c.loop-f.f found) c.in_ok-put_face.ensures),
      λ next.
          let later = place-rises texture (face_at level c.loop-f.f).number (face_at level (c.loop-f.f + 1)).number (numbers-rise level c.requires.alike.ascending c.loop-f.f next) in
          omega (arith, c.place_from-place.ensures, ap (place_in texture) c.number-number.ensures, later),
    )
