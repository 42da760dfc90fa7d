use Rattle.std.proofs.Common.{arith}
use Rattle.child_masks.proofs.FaceLemmas.{faces-more, face-list}
use Rattle.child_masks.proofs.face.face_denominators.Goals as goal

pub loop-f-preserved : goal.loop-f-preserved
loop-f-preserved c = faces-more c.args.level.now.level c.args.dens.now c.loop-f.faces.items _ c.loop-f.f _ c.loop-f.invariant c.face_denominator.ensures c.in_ok-push.ensures.items

pub returns : goal.returns
returns c = face-list c.args.level.now.level c.args.dens.now c.loop-f.faces.items c.loop-f.f (omega (arith, c.loop-f-test.false, c.loop-f.auto.f-end, c.faces.ensures, c.faces-f-end.ensures)) c.loop-f.invariant
