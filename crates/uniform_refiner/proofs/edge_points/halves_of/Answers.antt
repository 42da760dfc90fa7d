use Rattle.std.proofs.Common.{◌+◌, ◌*◌, arith}
use Rattle.child_slots.proofs.SlotLemmas.{few-edges}
use Rattle.child_slots.proofs.SlotTableLemmas.{among-number}
use Rattle.uniform_refiner.proofs.EdgeHalfLemmas.{halves-there}
use Rattle.uniform_refiner.proofs.edge_points.halves_of.Goals as goal

pub overflow_mul-e : goal.overflow_mul-e
overflow_mul-e c = record { fits = omega (arith, few-edges c.args.level.now c.facts.ensures, c.requires.edge) }

pub number-requires-clause-there : goal.number-requires-clause-there
number-requires-clause-there c = (halves-there c.args.level.now c.facts.ensures c.args.edges.now c.requires.edges c.args.e c.requires.edge (0, 0) (0, 0)).0.1

pub overflow_mul-e-2 : goal.overflow_mul-e-2
overflow_mul-e-2 c = record { fits = omega (arith, few-edges c.args.level.now c.facts.ensures, c.requires.edge) }

pub overflow_add-e : goal.overflow_add-e
overflow_add-e c = record { fits = omega (arith, few-edges c.args.level.now c.facts.ensures, c.requires.edge) }

pub number-requires-2-clause-there : goal.number-requires-2-clause-there
number-requires-2-clause-there c = (halves-there c.args.level.now c.facts.ensures c.args.edges.now c.requires.edges c.args.e c.requires.edge (0, 0) (0, 0)).1.1

pub returns-clause-first_there : goal.returns-clause-first_there
returns-clause-first_there c =
    let there = (halves-there c.args.level.now c.facts.ensures c.args.edges.now c.requires.edges c.args.e c.requires.edge (0, 0) (0, 0)).0.1 in
    omega (arith, c.number.ensures, among-number c.args.edges.now.slots (2 * c.args.e) there, c.requires.edges.listed)

pub returns-clause-second_there : goal.returns-clause-second_there
returns-clause-second_there c =
    let there = (halves-there c.args.level.now c.facts.ensures c.args.edges.now c.requires.edges c.args.e c.requires.edge (0, 0) (0, 0)).1.1 in
    omega (arith, c.number-2.ensures, among-number c.args.edges.now.slots (2 * c.args.e + 1) there, c.requires.edges.listed)
