use Rattle.std.proofs.Common.{◌∙◌, ◌<◌, ap, length, nat_eq, arith}
use Rattle.std.proofs.lemmas.List.{take_all}
use Rattle.subdiv_model.specs.Lists.{each_once_by}
use Rattle.subdiv_model.specs.Sparse.{corners_of}
use Rattle.sparse_level.specs.Places.{with_points}
use Rattle.channel_refine.proofs.SparseMarkLemmas.{corners-inside, face-more}
use Rattle.channel_refine.proofs.sparse_points.used_points.Goals as goal

pub note_points-requires : goal.note_points-requires
note_points-requires c = record {
  marks = c.loop-f.invariant.marks;
  inside = corners-inside c.args.level.now c.facts.ensures c.loop-f.f _ _ (omega (arith, c.loop-f-test.true, c.faces-f-end.ensures)) c.loop-f.invariant.size c.face_vertices.ensures;
}

pub loop-f-preserved : goal.loop-f-preserved
loop-f-preserved c =
    let polygons = c.args.level.now.level.polygons in
    let inside : c.loop-f.f < length polygons = omega (arith, c.loop-f-test.true, c.faces-f-end.ensures) in
    record {
      points = c.in_ok-note_points.ensures.points ∙ ap (with_points c.loop-f.points.items) c.face_vertices.ensures ∙ face-more polygons c.loop-f.points.items c.loop-f.f inside c.loop-f.invariant.points;
      marks = c.in_ok-note_points.ensures.marks;
      size = c.in_ok-note_points.ensures.size ∙ c.loop-f.invariant.size;
    }

pub returns : goal.returns
returns c =
    let polygons = c.args.level.now.level.polygons in
    c.loop-f.invariant.points ∙ ap (λ some. each_once_by nat_eq (corners_of some)) (take_all c.loop-f.f polygons (omega (arith, c.loop-f-test.false, c.faces-f-end.ensures)))
