use Rattle.std.proofs.Common.{arith, sym, subst, ◌≡◌, ◌+◌, ◌<◌, ◌^◌, length, get_or, true}
use Rattle.std.specs.List.{sum_by}
use Rattle.point_fans.specs.Built.{Built}
use Rattle.level_builder.specs.Builder.{has_new_sides}
use Rattle.face_varying.proofs.BuiltFaceLemmas.{face-simple, face-size, face-inside, face-short, face-few, face-new, cut-faces-more, all-faces}
use Rattle.face_varying.proofs.build_faces.add_faces.Goals as goal

pub add_face-requires-clause-simple : goal.add_face-requires-clause-simple
add_face-requires-clause-simple g c =
    let faces = c.args.level.now.level.polygons in
    let numbers = c.args.numbers.now in
    face-simple faces numbers c.requires.fit c.loop-f.f c.faces-f-end.result c.cut_face.result.now c.loop-f-test.true c.faces-f-end.ensures c.cut_face.ensures

pub add_face-requires-clause-inside : goal.add_face-requires-clause-inside
add_face-requires-clause-inside g c = λ k d h.
    let faces = c.args.level.now.level.polygons in
    let numbers = c.args.numbers.now in
    subst (λ (b : Built). get_or c.cut_face.result.now k d < b.level.point_count) (sym c.loop-f.invariant.faces) (face-inside faces numbers c.requires.fit c.loop-f.f c.faces-f-end.result c.cut_face.result.now c.loop-f-test.true c.faces-f-end.ensures c.cut_face.ensures k d h)

pub add_face-requires-clause-size : goal.add_face-requires-clause-size
add_face-requires-clause-size g c =
    let faces = c.args.level.now.level.polygons in
    let numbers = c.args.numbers.now in
    face-size faces numbers c.requires.fit c.loop-f.f c.faces-f-end.result c.cut_face.result.now c.loop-f-test.true c.faces-f-end.ensures c.cut_face.ensures

pub add_face-requires-clause-short : goal.add_face-requires-clause-short
add_face-requires-clause-short g c =
    let faces = c.args.level.now.level.polygons in
    let numbers = c.args.numbers.now in
    subst (λ (b : Built). sum_by length b.level.polygons + length c.cut_face.result.now < 2 ^ 28) (sym c.loop-f.invariant.faces)
    (omega (arith, face-short faces numbers c.requires.fit c.loop-f.f c.faces-f-end.result c.cut_face.result.now c.loop-f-test.true c.faces-f-end.ensures c.cut_face.ensures))

pub add_face-requires-clause-few : goal.add_face-requires-clause-few
add_face-requires-clause-few g c =
    let faces = c.args.level.now.level.polygons in
    let numbers = c.args.numbers.now in
    subst (λ (b : Built). length b.level.polygons < 2 ^ 22) (sym c.loop-f.invariant.faces) (face-few faces numbers c.requires.fit c.loop-f.f c.faces-f-end.result c.cut_face.result.now c.loop-f-test.true c.faces-f-end.ensures c.cut_face.ensures)

pub add_face-requires-clause-new_sides : goal.add_face-requires-clause-new_sides
add_face-requires-clause-new_sides g c =
    let faces = c.args.level.now.level.polygons in
    let numbers = c.args.numbers.now in
    subst (λ (b : Built). has_new_sides b.level.polygons c.cut_face.result.now ≡ true) (sym c.loop-f.invariant.faces)
    (face-new faces numbers c.requires.fit c.loop-f.f c.faces-f-end.result c.cut_face.result.now c.loop-f-test.true c.faces-f-end.ensures c.cut_face.ensures)

pub loop-f-preserved : goal.loop-f-preserved
loop-f-preserved g c =
    let faces = c.args.level.now.level.polygons in
    let numbers = c.args.numbers.now in
    record {
      faces = cut-faces-more c.args.builder.now.level.point_count c.args.builder.now.level.method faces numbers c.args.level.now.level.holes c.loop-f.f c.faces-f-end.result c.cut_face.result.now c.is_hole.result c.loop-f.builder c.add_face.new.self c.loop-f-test.true c.faces-f-end.ensures c.cut_face.ensures c.requires.holes c.is_hole.ensures
          c.loop-f.invariant.faces c.in_ok-add_face.ensures.added;
      steps = omega (arith, c.add_face.ensures.steps, c.loop-f.invariant.steps);
    }

pub returns-clause-faces : goal.returns-clause-faces
returns-clause-faces g c =
    let faces = c.args.level.now.level.polygons in
    let numbers = c.args.numbers.now in
    all-faces c.args.builder.now.level.point_count c.args.builder.now.level.method faces numbers c.args.level.now.level.holes c.loop-f.f c.faces-f-end.result c.loop-f.builder c.loop-f-test.false c.faces-f-end.ensures c.requires.holes c.loop-f.invariant.faces
