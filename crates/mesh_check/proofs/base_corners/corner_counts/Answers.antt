use Rattle.std.proofs.Common.{arith, List, nat_eq, length, ◌∙◌, ap}
use Rattle.std.proofs.lemmas.List.{take_all}
use Rattle.std.specs.List.{count_by, sum_by}
use Rattle.subdiv_model.specs.Polygons.{Polygon}
use Rattle.mesh_check.proofs.CountLemmas.{point-count}
use Rattle.mesh_check.proofs.MarkLemmas.{none-set, as-many, face-inside}
use Rattle.mesh_check.proofs.BaseMarkLemmas.{counts-room, counts-more}
use Rattle.mesh_check.proofs.base_corners.corner_counts.Goals as goal

pub count_face-requires-clause-countable : goal.count_face-requires-clause-countable
count_face-requires-clause-countable c = λ v. counts-room c.args.raw.now.faces c.loop-f.f v _ c.face.result.now c.facts.ensures.few_corners c.face.ensures (c.loop-f.invariant.counts v)

pub loop-f-preserved : goal.loop-f-preserved
loop-f-preserved c = record {
  counts = λ v. counts-more c.args.raw.now.faces c.loop-f.f v _ _ c.face.result.now c.face.ensures (c.loop-f.invariant.counts v) (c.count_face.ensures.counts v);
  size = c.count_face.ensures.size ∙ c.loop-f.invariant.size;
}

pub loop-f-init : goal.loop-f-init
loop-f-init c = record {
  counts = λ v. none-set c.in_ok-counts.counts.items (length c.points.result.now) v c.in_ok-counts.ensures;
  size = as-many c.in_ok-counts.counts.items _ _ c.in_ok-counts.ensures (point-count c.points.result.now _ c.points.ensures);
}

pub count_face-requires-clause-inside : goal.count_face-requires-clause-inside
count_face-requires-clause-inside c = face-inside c.args.raw.now.faces c.loop-f.f _ _ c.face.result.now c.facts.ensures.faces c.face.ensures c.loop-f.invariant.size

pub returns-clause-counts : goal.returns-clause-counts
returns-clause-counts c = λ v.
    c.loop-f.invariant.counts v
    ∙ ap (λ (faces : List Polygon). sum_by (count_by (nat_eq v)) faces) (take_all c.loop-f.f c.args.raw.now.faces (omega (arith, c.loop-f-test.false, c.faces-f-end.ensures)))
