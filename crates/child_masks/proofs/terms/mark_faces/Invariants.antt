use Rattle.std.proofs.Common.{take}
use Rattle.mask_rules.specs.View.{terms_of}
use Rattle.child_masks.specs.Found.{AreMarked}
use Rattle.child_masks.proofs.terms.mark_faces.Given as goal

-- the faces of the terms so far are marked
abbrev pub invariant-loop-term : goal.invariant-loop-term
invariant-loop-term l = AreMarked l.fn.named (take l.term-index (terms_of l.terms)) l.named
