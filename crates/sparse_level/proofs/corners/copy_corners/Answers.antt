use Rattle.std.proofs.Common.{◌<◌, ◌≤◌, ◌∙◌, ◌++◌, ap, sym, arith, length, take, List, ℕ}
use Rattle.std.proofs.lemmas.List.{take_all}
use Rattle.subdiv_model.specs.Sparse.{corners_of}
use Rattle.sparse_level.proofs.FaceLemmas.{corners-more}
use Rattle.sparse_level.proofs.corners.copy_corners.Goals as goal

pub loop-f-preserved : goal.loop-f-preserved
loop-f-preserved c =
    let polygons = c.args.level.now.level.polygons in
    let inside : c.loop-f.f < length polygons = omega (arith, c.loop-f-test.true, c.faces-f-end.ensures) in
    c.in_ok-extend_from_slice.ensures.items ∙ ap (λ (l : List ℕ). l ++ c.face_vertices.result.now) c.loop-f.invariant
    ∙ ap (λ (l : List ℕ). corners_of (take c.loop-f.f polygons) ++ l) c.face_vertices.ensures ∙ sym (corners-more polygons c.loop-f.f inside)

pub returns : goal.returns
returns c =
    let polygons = c.args.level.now.level.polygons in
    let past : length polygons ≤ c.loop-f.f = omega (arith, c.loop-f-test.false, c.faces-f-end.ensures) in
    c.loop-f.invariant ∙ ap corners_of (take_all c.loop-f.f polygons past)
