use Rattle.std.proofs.Common.{◌+◌, ◌*◌, ◌∙◌, ap, arith}
use Rattle.subdiv_model.specs.Polygons.{is_among}
use Rattle.child_slots.specs.Slotted.{number_at}
use Rattle.child_slots.proofs.SlotLemmas.{few-edges}
use Rattle.uniform_refiner.proofs.edge_points.inner_of.Goals as goal

pub overflow_mul-edges : goal.overflow_mul-edges
overflow_mul-edges c = record { fits = omega (arith, few-edges c.args.level.now c.facts.ensures, c.edges.ensures) }

pub overflow_add-edges : goal.overflow_add-edges
overflow_add-edges c = record { fits = omega (arith, few-edges c.args.level.now c.facts.ensures, c.edges.ensures, c.requires.slot, c.requires.edges.count_is, c.facts.ensures.small.corners) }

pub number-requires-clause-slot : goal.number-requires-clause-slot
number-requires-clause-slot c = omega (arith, c.requires.slot, c.edges.ensures)

pub number-requires-clause-there : goal.number-requires-clause-there
number-requires-clause-there c = ap (λ k. is_among c.args.edges.now.slots (2 * k + c.args.child)) c.edges.ensures ∙ c.requires.there

pub returns : goal.returns
returns c = c.number.ensures ∙ ap (λ k. number_at c.args.edges.now.slots (2 * k + c.args.child)) c.edges.ensures
