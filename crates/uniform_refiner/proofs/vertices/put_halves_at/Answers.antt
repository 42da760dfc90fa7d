use Rattle.std.proofs.Common.{◌≡◌, ◌<◌, ◌∙◌, ap, arith, length, get_or, []}
use Rattle.subdiv_model.specs.Polygons.{is_among}
use Rattle.child_slots.specs.Slots.{half_slot}
use Rattle.child_slots.specs.Slotted.{number_at}
use Rattle.child_slots.proofs.ChildNumberLemmas.{mapped-all}
use Rattle.level_topology.proofs.ListPlaceLemmas.{mapped-more}
use Rattle.uniform_refiner.proofs.VertexRowLemmas.{half-there}
use Rattle.uniform_refiner.proofs.vertices.put_halves_at.Goals as goal

pub half_slot_of-requires : goal.half_slot_of-requires
half_slot_of-requires c =
    let inside : c.loop-i.i < length (get_or c.args.level.now.edges_at c.args.v []) = omega (arith, c.loop-i-test.true, ap length c.vertex_edges-around.ensures) in
    omega (arith, (half-there c.args.level.now c.facts.ensures c.args.edges.now c.requires.edges c.args.v c.requires.point c.loop-i.i inside).0, ap (λ xs. get_or xs c.loop-i.i 0) c.vertex_edges-around.ensures)

pub number-requires-clause-slot : goal.number-requires-clause-slot
number-requires-clause-slot c =
    let inside : c.loop-i.i < length (get_or c.args.level.now.edges_at c.args.v []) = omega (arith, c.loop-i-test.true, ap length c.vertex_edges-around.ensures) in
    let slot : c.half_slot_of.result ≡ half_slot c.args.level.now.level.polygons c.args.v (get_or (get_or c.args.level.now.edges_at c.args.v []) c.loop-i.i 0) = c.half_slot_of.ensures ∙ ap (λ xs. half_slot c.args.level.now.level.polygons c.args.v (get_or xs c.loop-i.i 0)) c.vertex_edges-around.ensures in
    omega (arith, slot, (half-there c.args.level.now c.facts.ensures c.args.edges.now c.requires.edges c.args.v c.requires.point c.loop-i.i inside).1)

pub number-requires-clause-there : goal.number-requires-clause-there
number-requires-clause-there c =
    let inside : c.loop-i.i < length (get_or c.args.level.now.edges_at c.args.v []) = omega (arith, c.loop-i-test.true, ap length c.vertex_edges-around.ensures) in
    let slot : c.half_slot_of.result ≡ half_slot c.args.level.now.level.polygons c.args.v (get_or (get_or c.args.level.now.edges_at c.args.v []) c.loop-i.i 0) = c.half_slot_of.ensures ∙ ap (λ xs. half_slot c.args.level.now.level.polygons c.args.v (get_or xs c.loop-i.i 0)) c.vertex_edges-around.ensures in
    ap (is_among c.args.edges.now.slots) slot ∙ (half-there c.args.level.now c.facts.ensures c.args.edges.now c.requires.edges c.args.v c.requires.point c.loop-i.i inside).2

pub loop-i-preserved : goal.loop-i-preserved
loop-i-preserved c =
    let inside : c.loop-i.i < length (get_or c.args.level.now.edges_at c.args.v []) = omega (arith, c.loop-i-test.true, ap length c.vertex_edges-around.ensures) in
    let slot : c.half_slot_of.result ≡ half_slot c.args.level.now.level.polygons c.args.v (get_or (get_or c.args.level.now.edges_at c.args.v []) c.loop-i.i 0) = c.half_slot_of.ensures ∙ ap (λ xs. half_slot c.args.level.now.level.polygons c.args.v (get_or xs c.loop-i.i 0)) c.vertex_edges-around.ensures in
    mapped-more (λ e. number_at c.args.edges.now.slots (half_slot c.args.level.now.level.polygons c.args.v e)) (get_or c.args.level.now.edges_at c.args.v []) c.loop-i.list.items c.push.new.self.items c.loop-i.i c.number.result inside c.loop-i.invariant c.in_ok-push.ensures.items (c.number.ensures ∙ ap (number_at c.args.edges.now.slots) slot)

pub returns : goal.returns
returns c = mapped-all _ (get_or c.args.level.now.edges_at c.args.v []) _ c.loop-i.i (omega (arith, c.loop-i-test.false, ap length c.vertex_edges-around.ensures)) c.loop-i.invariant
