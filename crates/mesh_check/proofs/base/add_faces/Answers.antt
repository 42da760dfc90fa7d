use Rattle.std.proofs.Common.{arith, ◌≤◌, subst, sym, ◌+◌, ◌<◌, ◌^◌, ◌≡◌, length, get_or, true}
use Rattle.std.specs.List.{sum_by}
use Rattle.point_fans.specs.Built.{Built}
use Rattle.level_builder.specs.Builder.{has_new_sides}
use Rattle.mesh_check.proofs.BaseFaceLemmas.{face-simple, face-size, face-inside, face-short, sound-sides, sides-new, faces-more, faces-all}
use Rattle.mesh_check.proofs.base.add_faces.Goals as goal

pub add_face-requires-clause-simple : goal.add_face-requires-clause-simple
add_face-requires-clause-simple g c = face-simple c.args.raw.now c.loop-f.f c.face.result.now c.requires.fit c.face.ensures

pub add_face-requires-clause-inside : goal.add_face-requires-clause-inside
add_face-requires-clause-inside g c = λ k d h. subst (λ (b : Built). get_or c.face.result.now k d < b.level.point_count) (sym c.loop-f.invariant.faces) (face-inside c.args.raw.now c.loop-f.f c.face.result.now k d c.requires.fit c.face.ensures h)

pub add_face-requires-clause-size : goal.add_face-requires-clause-size
add_face-requires-clause-size g c = face-size c.args.raw.now c.loop-f.f c.face.result.now c.requires.fit c.face.ensures

pub add_face-requires-clause-short : goal.add_face-requires-clause-short
add_face-requires-clause-short g c = subst (λ (b : Built). sum_by length b.level.polygons + length c.face.result.now < 2 ^ 28) (sym c.loop-f.invariant.faces) (omega (arith, face-short c.args.raw.now c.loop-f.f c.face.result.now c.requires.fit c.face.ensures))

pub add_face-requires-clause-new_sides : goal.add_face-requires-clause-new_sides
add_face-requires-clause-new_sides g c = subst (λ (b : Built). has_new_sides b.level.polygons c.face.result.now ≡ true) (sym c.loop-f.invariant.faces) (sides-new c.args.raw.now.faces c.loop-f.f c.face.result.now (sound-sides (length c.args.raw.now.points) c.args.raw.now.faces c.requires.fit.sound) c.face.ensures)

pub loop-f-preserved : goal.loop-f-preserved
loop-f-preserved g c = record {
  faces = faces-more (length c.args.raw.now.points) c.args.raw.now.method c.args.raw.now.faces c.args.holes.now c.loop-f.f c.face.result.now _ _ c.face.ensures c.requires.holes c.loop-f.invariant.faces c.in_ok-add_face.ensures.added;
  steps = omega (arith, c.add_face.ensures.steps, c.loop-f.invariant.steps);
}

pub returns-clause-faces : goal.returns-clause-faces
returns-clause-faces g c =
    let all : length c.args.raw.now.faces ≤ c.loop-f.f = omega (arith, c.loop-f-test.false, c.faces-f-end.ensures) in
    faces-all (length c.args.raw.now.points) c.args.raw.now.method c.args.raw.now.faces c.args.holes.now c.loop-f.f c.loop-f.builder all (omega (arith, all, c.requires.holes)) c.loop-f.invariant.faces
