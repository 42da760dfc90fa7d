use Rattle.std.proofs.Common.{arith, ap, sym, ◌∙◌, length}
use Rattle.level_topology.proofs.LawLemmas.{edges-as-many}
use Rattle.face_varying.specs.Built.{sides_before}
use Rattle.face_varying.proofs.BuiltLemmas.{faces-stay, sides-more, cut-named, cut-length, edges-within}
use Rattle.face_varying.proofs.build_sides.add_sides.Goals as goal

pub add_face_sides-requires-clause-sides : goal.add_face_sides-requires-clause-sides
add_face_sides-requires-clause-sides c =
    let stay = faces-stay (sides_before c.args.level.now.level c.args.apart.now c.args.numbers.now c.loop-f.f) c.args.builder.now c.loop-f.builder c.loop-f.invariant in
    cut-named c.args.level.now.level.polygons c.args.numbers.now c.loop-f.f c.loop-f.builder.level.polygons c.cut_face.result.now (omega (arith, c.loop-f-test.true, c.faces-f-end.ensures)) (stay ∙ c.requires.faces) c.cut_face.ensures

pub add_face_sides-requires-clause-size : goal.add_face_sides-requires-clause-size
add_face_sides-requires-clause-size c =
    let faces = c.args.level.now.level.polygons in
    ap length c.face_edges.ensures ∙ edges-as-many faces c.loop-f.f ∙ sym (ap length c.cut_face.ensures ∙ cut-length faces c.args.numbers.now c.loop-f.f (omega (arith, c.loop-f-test.true, c.faces-f-end.ensures)) c.requires.numbers)

pub add_face_sides-requires-clause-edges : goal.add_face_sides-requires-clause-edges
add_face_sides-requires-clause-edges c = edges-within c.args.level.now.level.polygons c.loop-f.f c.face_edges.result.now c.face_edges.ensures

pub loop-f-preserved : goal.loop-f-preserved
loop-f-preserved c =
    sides-more c.args.level.now.level c.args.apart.now c.args.numbers.now c.loop-f.f c.cut_face.result.now c.face_edges.result.now c.args.builder.now c.loop-f.builder c.add_face_sides.new.builder c.cut_face.ensures c.face_edges.ensures c.loop-f.invariant c.add_face_sides.ensures
