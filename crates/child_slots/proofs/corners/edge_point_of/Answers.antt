use Rattle.std.proofs.Common.{arith}
use Rattle.child_slots.proofs.SlotLemmas.{few-edges}
use Rattle.child_slots.proofs.corners.edge_point_of.Goals as goal

pub overflow_add-result-2 : goal.overflow_add-result-2
overflow_add-result-2 c = record { fits = omega (arith, few-edges c.args.level.now c.facts.ensures, c.facts.ensures.small.points, c.facts.ensures.small.faces, c.requires, c.points.ensures, c.faces.ensures) }
