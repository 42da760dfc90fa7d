use Rattle.std.proofs.Common.{arith}
use Rattle.child_slots.proofs.SlotLemmas.{few-edges, first-below}
use Rattle.child_slots.proofs.QuadLemmas.{face-below}
use Rattle.child_slots.proofs.ChildNumberLemmas.{child-few}
use Rattle.child_slots.proofs.corners.inner_slot_of.Goals as goal

pub overflow_mul-result : goal.overflow_mul-result
overflow_mul-result c = record { fits = omega (arith, few-edges c.args.level.now c.facts.ensures, c.edges.ensures) }

pub overflow_add-result-2 : goal.overflow_add-result-2
overflow_add-result-2 c = record { fits = omega (arith, few-edges c.args.level.now c.facts.ensures, c.edges.ensures, c.facts.ensures.small.corners, c.first_child_of.ensures, first-below c.args.level.now.level.polygons c.args.f c.args.c c.requires) }

pub first_child_of-requires : goal.first_child_of-requires
first_child_of-requires c = omega (arith, face-below c.args.level.now.level.polygons c.args.f c.args.c c.requires)

pub overflow_add-result : goal.overflow_add-result
overflow_add-result c = omega (arith, c.first_child_of.ensures, child-few c.args.level.now c.facts.ensures c.args.f c.args.c c.requires)

pub overflow_cast-result : goal.overflow_cast-result
overflow_cast-result c = omega (arith, child-few c.args.level.now c.facts.ensures c.args.f c.args.c c.requires)
