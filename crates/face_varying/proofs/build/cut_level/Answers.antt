use Rattle.std.proofs.Common.{arith, ap, ◌∙◌, length}
use Rattle.std.proofs.lemmas.Result.{IfOk-weaker}
use Rattle.subdiv_model.specs.Level.{Level}
use Rattle.point_fans.specs.Built.{Built}
use Rattle.face_varying.specs.View.{mode_of}
use Rattle.face_varying.proofs.CutBuiltLemmas.{parts-of, few-points, few-numbers, parts-fit, parts-numbers, parts-holes, parts-apart, parts-kept, parts-vertices, points-only-itself, with-sides, sides-points, sides-sharp, sides-marks, with-all, all-fans}
use Rattle.face_varying.proofs.build.cut_level.Goals as goal

pub add_sides-requires-clause-faces : goal.add_sides-requires-clause-faces
add_sides-requires-clause-faces g c = ap (λ (b : Built). b.level.polygons) c.in_ok-add_faces.ensures.faces

pub returns-clause-steps : goal.returns-clause-steps
returns-clause-steps g c = omega (arith, c.in_ok-add_faces.ensures.steps, ap (λ (l : Level). length l.polygons) c.requires.cuttable.accepted.level_is)

pub overflow_cast-points : goal.overflow_cast-points
overflow_cast-points g c =
    let parts = parts-of (mode_of c.args.mode) c.requires.cuttable c.facts.ensures c.requires.apart c.requires.numbers c.requires.vertices c.requires.kept in
    omega (arith, few-points parts)

pub builder_of_points-requires-clause-points : goal.builder_of_points-requires-clause-points
builder_of_points-requires-clause-points g c =
    let parts = parts-of (mode_of c.args.mode) c.requires.cuttable c.facts.ensures c.requires.apart c.requires.numbers c.requires.vertices c.requires.kept in
    omega (arith, few-points parts)

pub builder_of_points-requires-clause-few : goal.builder_of_points-requires-clause-few
builder_of_points-requires-clause-few g c =
    let parts = parts-of (mode_of c.args.mode) c.requires.cuttable c.facts.ensures c.requires.apart c.requires.numbers c.requires.vertices c.requires.kept in
    omega (arith, few-numbers parts)

pub add_faces-requires-clause-fit : goal.add_faces-requires-clause-fit
add_faces-requires-clause-fit g c =
    let parts = parts-of (mode_of c.args.mode) c.requires.cuttable c.facts.ensures c.requires.apart c.requires.numbers c.requires.vertices c.requires.kept in
    parts-fit parts c.in_ok-builder.builder c.in_ok-builder.ensures

pub add_faces-requires-clause-numbers : goal.add_faces-requires-clause-numbers
add_faces-requires-clause-numbers g c =
    let parts = parts-of (mode_of c.args.mode) c.requires.cuttable c.facts.ensures c.requires.apart c.requires.numbers c.requires.vertices c.requires.kept in
    parts-numbers parts

pub add_faces-requires-clause-holes : goal.add_faces-requires-clause-holes
add_faces-requires-clause-holes g c =
    let parts = parts-of (mode_of c.args.mode) c.requires.cuttable c.facts.ensures c.requires.apart c.requires.numbers c.requires.vertices c.requires.kept in
    parts-holes parts

pub add_faces-requires-clause-no_faces : goal.add_faces-requires-clause-no_faces
add_faces-requires-clause-no_faces g c =
    let parts = parts-of (mode_of c.args.mode) c.requires.cuttable c.facts.ensures c.requires.apart c.requires.numbers c.requires.vertices c.requires.kept in
    points-only-itself parts c.in_ok-builder.builder c.in_ok-builder.ensures

pub add_sides-requires-clause-numbers : goal.add_sides-requires-clause-numbers
add_sides-requires-clause-numbers g c =
    let parts = parts-of (mode_of c.args.mode) c.requires.cuttable c.facts.ensures c.requires.apart c.requires.numbers c.requires.vertices c.requires.kept in
    parts-numbers parts

pub add_sides-requires-clause-apart : goal.add_sides-requires-clause-apart
add_sides-requires-clause-apart g c =
    let parts = parts-of (mode_of c.args.mode) c.requires.cuttable c.facts.ensures c.requires.apart c.requires.numbers c.requires.vertices c.requires.kept in
    parts-apart parts

pub add_points-requires-clause-points : goal.add_points-requires-clause-points
add_points-requires-clause-points g c =
    let parts = parts-of (mode_of c.args.mode) c.requires.cuttable c.facts.ensures c.requires.apart c.requires.numbers c.requires.vertices c.requires.kept in
    let sides = with-sides parts c.in_ok-builder.builder c.add_faces.new.builder c.add_sides.new.builder c.in_ok-builder.ensures c.in_ok-add_faces.ensures.faces c.add_sides.ensures in
    sides-points parts c.add_sides.new.builder sides

pub add_points-requires-clause-sharpness : goal.add_points-requires-clause-sharpness
add_points-requires-clause-sharpness g c =
    let parts = parts-of (mode_of c.args.mode) c.requires.cuttable c.facts.ensures c.requires.apart c.requires.numbers c.requires.vertices c.requires.kept in
    let sides = with-sides parts c.in_ok-builder.builder c.add_faces.new.builder c.add_sides.new.builder c.in_ok-builder.ensures c.in_ok-add_faces.ensures.faces c.add_sides.ensures in
    sides-sharp parts c.add_sides.new.builder sides

pub add_points-requires-clause-marks : goal.add_points-requires-clause-marks
add_points-requires-clause-marks g c =
    let parts = parts-of (mode_of c.args.mode) c.requires.cuttable c.facts.ensures c.requires.apart c.requires.numbers c.requires.vertices c.requires.kept in
    let sides = with-sides parts c.in_ok-builder.builder c.add_faces.new.builder c.add_sides.new.builder c.in_ok-builder.ensures c.in_ok-add_faces.ensures.faces c.add_sides.ensures in
    sides-marks parts c.add_sides.new.builder sides

pub add_points-requires-clause-few : goal.add_points-requires-clause-few
add_points-requires-clause-few g c =
    let parts = parts-of (mode_of c.args.mode) c.requires.cuttable c.facts.ensures c.requires.apart c.requires.numbers c.requires.vertices c.requires.kept in
    omega (arith, few-points parts)

pub add_points-requires-clause-kept : goal.add_points-requires-clause-kept
add_points-requires-clause-kept g c =
    let parts = parts-of (mode_of c.args.mode) c.requires.cuttable c.facts.ensures c.requires.apart c.requires.numbers c.requires.vertices c.requires.kept in
    parts-kept parts

pub add_points-requires-clause-vertices : goal.add_points-requires-clause-vertices
add_points-requires-clause-vertices g c =
    let parts = parts-of (mode_of c.args.mode) c.requires.cuttable c.facts.ensures c.requires.apart c.requires.numbers c.requires.vertices c.requires.kept in
    parts-vertices parts

pub finish-requires : goal.finish-requires
finish-requires g c =
    let parts = parts-of (mode_of c.args.mode) c.requires.cuttable c.facts.ensures c.requires.apart c.requires.numbers c.requires.vertices c.requires.kept in
    let sides = with-sides parts c.in_ok-builder.builder c.add_faces.new.builder c.add_sides.new.builder c.in_ok-builder.ensures c.in_ok-add_faces.ensures.faces c.add_sides.ensures in
    let whole = with-all parts c.add_sides.new.builder c.add_points.new.builder sides c.add_points.ensures in
    record { fans = all-fans parts c.add_points.new.builder whole }

pub returns-clause-level : goal.returns-clause-level
returns-clause-level g c =
    let parts = parts-of (mode_of c.args.mode) c.requires.cuttable c.facts.ensures c.requires.apart c.requires.numbers c.requires.vertices c.requires.kept in
    let sides = with-sides parts c.in_ok-builder.builder c.add_faces.new.builder c.add_sides.new.builder c.in_ok-builder.ensures c.in_ok-add_faces.ensures.faces c.add_sides.ensures in
    let whole = with-all parts c.add_sides.new.builder c.add_points.new.builder sides c.add_points.ensures in
    IfOk-weaker c.finish.result _ _ (λ cut is. is ∙ ap (λ (b : Built). b.level) whole) c.finish.ensures.level

pub returns-clause-complete : goal.returns-clause-complete
returns-clause-complete g c =
    let parts = parts-of (mode_of c.args.mode) c.requires.cuttable c.facts.ensures c.requires.apart c.requires.numbers c.requires.vertices c.requires.kept in
    let sides = with-sides parts c.in_ok-builder.builder c.add_faces.new.builder c.add_sides.new.builder c.in_ok-builder.ensures c.in_ok-add_faces.ensures.faces c.add_sides.ensures in
    let whole = with-all parts c.add_sides.new.builder c.add_points.new.builder sides c.add_points.ensures in
    IfOk-weaker c.finish.result _ _ (λ cut is. is ∙ ap (λ (b : Built). b.complete) whole) c.finish.ensures.complete
