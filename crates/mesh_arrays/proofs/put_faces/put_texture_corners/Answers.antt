use Rattle.std.proofs.Common.{◌+◌, ◌++◌, length, arith, ap, sym, ◌∙◌}
use Rattle.std.specs.List.{sum_by}
use Rattle.flat_arrays.proofs.PartLemmas.{rest-later}
use Rattle.mesh_arrays.proofs.FaceLemmas.{count-next, corners-next, corners-fit}
use Rattle.mesh_arrays.proofs.put_faces.put_texture_corners.Goals as goal

pub put_items-requires : goal.put_items-requires
put_items-requires c = record {
  fits = omega (arith, c.loop-f.invariant.at, c.loop-f.invariant.len, c.requires.fits, corners-fit c.args.mesh.now.texture_corners c.loop-f.f c.texture_corners-face.result.now c.texture_corners-face.ensures);
}

pub loop-f-preserved : goal.loop-f-preserved
loop-f-preserved c = record {
  at = ap (λ n. n + length c.texture_corners-face.result.now) c.loop-f.invariant.at ∙ sym (count-next c.args.mesh.now.texture_corners c.loop-f.f c.texture_corners-face.result.now c.texture_corners-face.ensures);
  written = c.put_items.ensures.written ∙ ap (λ xs. xs ++ c.texture_corners-face.result.now) c.loop-f.invariant.written ∙ sym (corners-next c.args.mesh.now.texture_corners c.loop-f.f c.texture_corners-face.result.now c.texture_corners-face.ensures);
  rest = rest-later (c.loop-f.at + length c.texture_corners-face.result.now) (sum_by length c.args.mesh.now.texture_corners) c.put_items.new.out c.loop-f.out c.args.out.now
      (omega (arith, c.loop-f.invariant.at, corners-fit c.args.mesh.now.texture_corners c.loop-f.f c.texture_corners-face.result.now c.texture_corners-face.ensures))
      c.put_items.ensures.rest c.loop-f.invariant.rest;
  len = c.put_items.ensures.len ∙ c.loop-f.invariant.len;
}
