use Rattle.std.proofs.Common.{arith, refl, ◌∙◌}
use Rattle.mesh_check.proofs.HoleLemmas.{hole-next, hole-end, hole-is}
use Rattle.mesh_check.proofs.holes.holes_by.Goals as goal

pub loop-f-preserved : goal.loop-f-preserved
loop-f-preserved c =
    hole-next c.args.raw.now c.loop-f.f c.face.result.now c.is_hole.result _ _ _ c.face.ensures
    (c.is_hole.ensures ∙ hole-is c.args.raw.now _ c.args.named.now c.args.hiding.now c.args.raw.now.holes c.loop-f.f c.face.result.now c.facts.ensures refl refl c.requires.named c.requires.hiding c.face.ensures)
    c.in_ok-push.ensures.items c.loop-f.invariant

pub returns : goal.returns
returns c = hole-end c.args.raw.now c.loop-f.f c.loop-f.holes.items _ (omega (arith, c.loop-f-test.false, c.faces-f-end.ensures)) c.loop-f.invariant
