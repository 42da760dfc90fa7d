use Rattle.std.proofs.Common.{ap, sym, ◌∙◌, length}
use Rattle.far_text.proofs.ListLemmas.{alike-corners}
use Rattle.far_text.proofs.textured_faces.put_shown_face.Goals as goal

pub put_face-requires : goal.put_face-requires
put_face-requires g c = record {
  alike =
      ap length c.face_vertices-then-holes.ensures
      ∙ alike-corners c.args.level.now.level.polygons c.args.cut.now.level.polygons c.args.f c.requires.alike
      ∙ sym (ap length c.face_vertices.ensures);
}
