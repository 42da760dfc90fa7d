use Rattle.std.proofs.Common.{◌∙◌, ap, arith, get_or}
use Rattle.child_slots.proofs.SlotLemmas.{start-last}
use Rattle.uniform_refiner.proofs.count.next_faces.Goals as goal

pub bounds-corner_starts-faces : goal.bounds-corner_starts-faces
bounds-corner_starts-faces c = omega (arith, c.faces.ensures, (start-last c.corner_starts.result.now c.args.level.now.level.polygons c.corner_starts.ensures.gaps c.corner_starts.ensures.ascend).0)

pub returns : goal.returns
returns c = ap (λ n. get_or c.corner_starts.result.now n 0) c.faces.ensures ∙ (start-last c.corner_starts.result.now c.args.level.now.level.polygons c.corner_starts.ensures.gaps c.corner_starts.ensures.ascend).1
