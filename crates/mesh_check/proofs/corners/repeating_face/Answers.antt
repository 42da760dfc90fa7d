use Rattle.std.proofs.Common.{arith, refl, length, ◌∙◌, sym, not}
use Rattle.subdiv_model.specs.Polygons.{Polygon, is_distinct}
use Rattle.mesh_check.proofs.PlaceLemmas.{place-found, place-passed, place-none}
use Rattle.mesh_check.proofs.CountLemmas.{point-count}
use Rattle.mesh_check.proofs.MarkLemmas.{none-set, as-many, face-inside}
use Rattle.mesh_check.proofs.corners.repeating_face.Goals as goal

pub returns-then-has_twice : goal.returns-then-has_twice
returns-then-has_twice c =
    sym (place-found (λ (polygon : Polygon). not (is_distinct polygon)) c.args.raw.now.faces c.loop-f.f c.face.result.now c.face.ensures (sym c.has_twice.ensures.twice ∙ c.if-has_twice.true)) ∙ c.loop-f.invariant.decides

pub loop-f-preserved : goal.loop-f-preserved
loop-f-preserved c = record {
  decides = sym (place-passed (λ (polygon : Polygon). not (is_distinct polygon)) c.args.raw.now.faces c.loop-f.f c.face.result.now c.face.ensures (sym c.has_twice.ensures.twice ∙ c.if-has_twice.false)) ∙ c.loop-f.invariant.decides;
  low = λ v. c.has_twice.ensures.marks v;
  size = c.has_twice.ensures.size ∙ c.loop-f.invariant.size;
}

pub loop-f-init : goal.loop-f-init
loop-f-init c = record {
  decides = refl;
  low = λ v. omega (arith, none-set c.in_ok-marks.marks.items (length c.points.result.now) v c.in_ok-marks.ensures);
  size = as-many c.in_ok-marks.marks.items _ _ c.in_ok-marks.ensures (point-count c.points.result.now _ c.points.ensures);
}

pub has_twice-requires-clause-inside : goal.has_twice-requires-clause-inside
has_twice-requires-clause-inside c = face-inside c.args.raw.now.faces c.loop-f.f _ _ c.face.result.now c.facts.ensures.faces c.face.ensures c.loop-f.invariant.size

pub returns : goal.returns
returns c = place-none (λ (polygon : Polygon). not (is_distinct polygon)) c.args.raw.now.faces c.loop-f.f (omega (arith, c.loop-f-test.false, c.faces-f-end.ensures)) ∙ c.loop-f.invariant.decides
