use Rattle.std.proofs.Common.{arith, refl, length, ◌∙◌, not}
use Rattle.subdiv_model.specs.Polygons.{Polygon, is_distinct}
use Rattle.subdiv_model.specs.MeshFault.{RepeatedVertex}
use Rattle.mesh_check.proofs.PlaceLemmas.{place-put, places-end}
use Rattle.mesh_check.proofs.CountLemmas.{point-count}
use Rattle.mesh_check.proofs.MarkLemmas.{none-set, as-many, face-inside}
use Rattle.mesh_check.proofs.corners.put_repeating_faces.Goals as goal

pub has_twice-twice-requires-clause-inside : goal.has_twice-twice-requires-clause-inside
has_twice-twice-requires-clause-inside c = face-inside c.args.raw.now.faces c.loop-f.f _ _ c.face.result.now c.facts.ensures.faces c.face.ensures c.loop-f.invariant.size

pub loop-f-init : goal.loop-f-init
loop-f-init c = record {
  put = refl;
  low = λ v. omega (arith, none-set c.in_ok-marks.marks.items (length c.points.result.now) v c.in_ok-marks.ensures);
  size = as-many c.in_ok-marks.marks.items _ _ c.in_ok-marks.ensures (point-count c.points.result.now _ c.points.ensures);
}

pub loop-f-preserved : goal.loop-f-preserved
loop-f-preserved c = record {
  put = place-put RepeatedVertex (λ (polygon : Polygon). not (is_distinct polygon)) c.args.raw.now.faces c.loop-f.f c.face.result.now _ _ _ _ c.face.ensures c.has_twice-twice.ensures.twice c.in_ok-put_if.ensures c.loop-f.invariant.put;
  low = λ v. c.has_twice-twice.ensures.marks v;
  size = c.has_twice-twice.ensures.size ∙ c.loop-f.invariant.size;
}

pub returns : goal.returns
returns c = places-end RepeatedVertex (λ (polygon : Polygon). not (is_distinct polygon)) c.args.raw.now.faces c.loop-f.f _ _ (omega (arith, c.loop-f-test.false, c.faces-f-end.ensures)) c.loop-f.invariant.put
