use Rattle.child_slots.proofs.SlotLemmas.{start-is}
use Rattle.child_slots.proofs.corners.first_child_of.Goals as goal

pub bounds-corner_starts-f : goal.bounds-corner_starts-f
bounds-corner_starts-f c = (start-is c.corner_starts.result.now c.args.level.now.level.polygons c.args.f c.corner_starts.ensures.gaps c.corner_starts.ensures.ascend c.requires).0

pub returns : goal.returns
returns c = (start-is c.corner_starts.result.now c.args.level.now.level.polygons c.args.f c.corner_starts.ensures.gaps c.corner_starts.ensures.ascend c.requires).1
