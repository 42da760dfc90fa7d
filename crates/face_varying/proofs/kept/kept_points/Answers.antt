use Rattle.std.proofs.Common.{◌≡◌, ◌∙◌, ap, sym, length, map, nat_eq, replicate, false}
use Rattle.std.specs.List.{count_by, range_with_len}
use Rattle.std.proofs.lemmas.Result.{IfOk-weaker}
use Rattle.subdiv_model.specs.Cut.{stays_sharp}
use Rattle.texture_laws.specs.CutMesh.{cut_faces, cut_point_count}
use Rattle.face_varying.specs.declared.mode.SeamMode.{SeamMode}
use Rattle.face_varying.specs.Kept.{ends_before, with_ends}
use Rattle.face_varying.specs.View.{mode_of}
use Rattle.face_varying.proofs.CutFitLemmas.{accepted-manifold}
use Rattle.face_varying.proofs.CutKeptLemmas.{kept-smooth, kept-corners, kept-ends}
use Rattle.face_varying.proofs.kept.kept_points.Goals as goal

pub returns-in-Smooth : goal.returns-in-Smooth
returns-in-Smooth c = λ mesh cuttable are_apart are count.
    IfOk-weaker c.no_points.result (λ marks. marks.items ≡ replicate c.args.points false) (λ marks. marks.items ≡ map (stays_sharp (mode_of c.args.mode) (cut_faces mesh)) (range_with_len 0 (cut_point_count mesh)))
    (λ marks is. kept-smooth mesh c.args.points count marks.items is ∙ ap (λ (mode : SeamMode). map (stays_sharp (mode_of mode) (cut_faces mesh)) (range_with_len 0 (cut_point_count mesh))) (sym c.in-Smooth.is)) c.no_points.ensures

pub returns-in-Corners : goal.returns-in-Corners
returns-in-Corners c = λ mesh cuttable are_apart are count.
    IfOk-weaker c.single_points.result (λ marks. marks.items ≡ map (λ p. nat_eq (count_by (nat_eq p) c.args.numbers.now) 1) (range_with_len 0 c.args.points))
    (λ marks. marks.items ≡ map (stays_sharp (mode_of c.args.mode) (cut_faces mesh)) (range_with_len 0 (cut_point_count mesh)))
    (λ marks is. kept-corners mesh c.args.points count (accepted-manifold mesh cuttable.accepted.manifold) c.args.numbers.now marks.items are is ∙ ap (λ (mode : SeamMode). map (stays_sharp (mode_of mode) (cut_faces mesh)) (range_with_len 0 (cut_point_count mesh))) (sym c.in-Corners.is))
    c.single_points.ensures

pub returns-in-Boundaries : goal.returns-in-Boundaries
returns-in-Boundaries c = λ mesh cuttable are_apart are count.
    IfOk-weaker c.end_points.result (λ marks. marks.items ≡ with_ends (ends_before c.args.level.now.level c.args.apart.now c.args.numbers.now (length c.args.level.now.level.polygons)) (replicate c.args.points false))
    (λ marks. marks.items ≡ map (stays_sharp (mode_of c.args.mode) (cut_faces mesh)) (range_with_len 0 (cut_point_count mesh)))
    (λ marks is.
    kept-ends mesh c.args.points count (accepted-manifold mesh cuttable.accepted.manifold) c.args.level.now.level c.args.apart.now c.args.numbers.now marks.items cuttable.accepted.level_is are_apart are is
    ∙ ap (λ (mode : SeamMode). map (stays_sharp (mode_of mode) (cut_faces mesh)) (range_with_len 0 (cut_point_count mesh))) (sym c.in-Boundaries.is))
    c.end_points.ensures
