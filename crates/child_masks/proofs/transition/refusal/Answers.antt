use Rattle.std.proofs.Common.{not, refl, ap, ◌∙◌}
use Rattle.level_topology.specs.Child.{FromVertex}
use Rattle.child_masks.proofs.TransitionLemmas.{has-point, no-point}
use Rattle.child_masks.proofs.transition.refusal.Goals.{in-Ok, in-Err-Transition, in-Err-Memory}
use Rattle.child_masks.proofs.transition.refusal.Goals as goal

pub returns-then-is_none : goal.returns-then-is_none
returns-then-is_none c has = absurd (no-point c.args.child.now.origins (FromVertex c.args.v) _ _ c.is_none.ensures c.vertex_point.ensures c.if-is_none.true has)

pub vertex_mask-requires-clause-complete : goal.vertex_mask-requires-clause-complete
vertex_mask-requires-clause-complete c =
    c.requires.child.complete c.args.v (has-point c.args.child.now.origins (FromVertex c.args.v) _ _ c.is_none.ensures c.vertex_point.ensures ∙ ap not c.if-is_none.false)

pub vertex_mask-requires-clause-boundary : goal.vertex_mask-requires-clause-boundary
vertex_mask-requires-clause-boundary c by_rules =
    c.requires.child.boundary by_rules c.args.v (has-point c.args.child.now.origins (FromVertex c.args.v) _ _ c.is_none.ensures c.vertex_point.ensures ∙ ap not c.if-is_none.false)

pub vertex_mask-requires-clause-fine : goal.vertex_mask-requires-clause-fine
vertex_mask-requires-clause-fine c by_rules =
    c.requires.child.fine by_rules c.args.v (has-point c.args.child.now.origins (FromVertex c.args.v) _ _ c.is_none.ensures c.vertex_point.ensures ∙ ap not c.if-is_none.false)

pub returns : goal.returns
returns c =
    let has = has-point c.args.child.now.origins (FromVertex c.args.v) _ _ c.is_none.ensures c.vertex_point.ensures ∙ ap not c.if-is_none.false in
    elim c.match-vertex_mask.branch [
      | in-Ok w ↦ rw w.result-is (λ _. w.in-Ok.ensures.mask.1)
      | in-Err-Transition w ↦ rw w.result-is (has, (refl, rw w.in-Err-Transition.field-0-is at w.in-Err-Transition.ensures.mask))
      | in-Err-Memory w ↦ rw w.result-is (has, tt)
    ]
