use Rattle.std.proofs.Common.{arith}
use Rattle.child_slots.proofs.SlotLemmas.{few-edges, end-low}
use Rattle.child_slots.proofs.corners.half_slot_of.Goals as goal

pub overflow_mul-result : goal.overflow_mul-result
overflow_mul-result c = record { fits = omega (arith, few-edges c.args.level.now c.facts.ensures, c.requires) }

pub overflow_add-result : goal.overflow_add-result
overflow_add-result c = record { fits = omega (arith, few-edges c.args.level.now c.facts.ensures, c.requires, c.end.ensures, end-low c.args.level.now.level.polygons c.args.v c.args.e) }
