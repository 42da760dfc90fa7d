use Rattle.std.proofs.Common.{ap, arith}
use Rattle.child_slots.proofs.SlotLemmas.{few-edges, first-all}
use Rattle.child_slots.specs.Slots.{first_child}
use Rattle.child_slots.proofs.walk.no_edges.Goals as goal

pub overflow_mul-count : goal.overflow_mul-count
overflow_mul-count c = record { fits = omega (arith, few-edges c.args.level.now c.facts.ensures, c.edges.ensures) }

pub overflow_add-count : goal.overflow_add-count
overflow_add-count c = record { fits = omega (arith, few-edges c.args.level.now c.facts.ensures, c.edges.ensures, c.facts.ensures.small.corners, c.first_child_of.ensures, ap (first_child c.args.level.now.level.polygons) c.faces.ensures, first-all c.args.level.now.level.polygons) }
