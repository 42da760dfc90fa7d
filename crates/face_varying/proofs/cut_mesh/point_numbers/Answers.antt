use Rattle.std.proofs.Common.{arith, ap, length}
use Rattle.std.proofs.lemmas.Result.{IfOk-weaker}
use Rattle.subdiv_model.specs.Cut.{channel_point}
use Rattle.face_varying.specs.Corners.{AreLabels, corner_points}
use Rattle.face_varying.proofs.CornerLemmas.{corners-length}
use Rattle.face_varying.proofs.PatternLemmas.{labelled-numbers}
use Rattle.face_varying.proofs.cut_mesh.point_numbers.Goals as goal

pub number_corners-requires-clause-few : goal.number_corners-requires-clause-few
number_corners-requires-clause-few c =
    let mesh = c.args.raw.now in
    let are : AreLabels (corner_points mesh) c.in_ok-labels.labels.items = c.in_ok-labels.ensures mesh c.requires.cuttable c.requires.apart in
    omega (arith, ap length c.deref.ensures.value, are.each, corners-length (channel_point mesh) 0 mesh.faces, c.requires.cuttable.within.few_corners)

pub returns : goal.returns
returns c =
    let mesh = c.args.raw.now in
    let are : AreLabels (corner_points mesh) c.in_ok-labels.labels.items = c.in_ok-labels.ensures mesh c.requires.cuttable c.requires.apart in
    IfOk-weaker c.number_corners.result _ _ (λ numbers is. labelled-numbers mesh c.in_ok-labels.labels.items _ _ are c.deref.ensures.value is) c.number_corners.ensures
