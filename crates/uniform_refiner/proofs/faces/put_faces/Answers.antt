use Rattle.std.proofs.Common.{◌≡◌, ◌+◌, ◌∙◌, ap, arith, length}
use Rattle.child_slots.specs.Slots.{first_child}
use Rattle.uniform_refiner.specs.Put.{with_children}
use Rattle.child_slots.proofs.SlotLemmas.{first-all}
use Rattle.child_slots.proofs.ChildNumberLemmas.{first-more}
use Rattle.uniform_refiner.proofs.faces.put_faces.Goals as goal

pub loop-f-preserved : goal.loop-f-preserved
loop-f-preserved g c = record {
  put = c.put_children.ensures.put ∙ ap (with_children c.args.level.now.level (first_child c.args.level.now.level.polygons (c.loop-f.f + 1))) c.loop-f.invariant.put;
  steps = omega (arith, c.put_children.ensures.steps, c.loop-f.invariant.steps, first-more c.args.level.now.level.polygons c.loop-f.f (omega (arith, c.loop-f-test.true, c.faces-f-end.ensures)));
}

pub returns-clause-put : goal.returns-clause-put
returns-clause-put g c =
    let all : c.loop-f.f ≡ length c.args.level.now.level.polygons = omega (arith, c.loop-f-test.false, c.loop-f.auto.f-end, c.faces-f-end.ensures) in
    c.loop-f.invariant.put ∙ ap (λ k. with_children c.args.level.now.level k c.args.rows.now) (ap (first_child c.args.level.now.level.polygons) all ∙ first-all c.args.level.now.level.polygons)

pub returns-clause-steps : goal.returns-clause-steps
returns-clause-steps g c =
    let all : c.loop-f.f ≡ length c.args.level.now.level.polygons = omega (arith, c.loop-f-test.false, c.loop-f.auto.f-end, c.faces-f-end.ensures) in
    c.loop-f.invariant.steps ∙ ap (λ k. c.args.steps.now + k) (ap (first_child c.args.level.now.level.polygons) all ∙ first-all c.args.level.now.level.polygons)
