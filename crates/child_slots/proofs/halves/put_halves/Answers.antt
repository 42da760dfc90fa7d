use Rattle.std.proofs.Common.{◌≡◌, ◌<◌, ◌≤◌, [], length, map, get_or, arith, ap, sym, ◌∙◌}
use Rattle.std.proofs.lemmas.List.{length-set, get_or-map, map-set}
use Rattle.subdiv_model.specs.Sharpness.{Smooth}
use Rattle.sharpness_rules.specs.View.{sharpness_of}
use Rattle.child_slots.specs.Slots.{half_slot}
use Rattle.child_slots.proofs.HalfTableLemmas.{ring-short, ring-long, edge-within, slot-within, overflow-is, half-is, half-more, point-done}
use Rattle.child_slots.proofs.halves.put_halves.Goals as goal

pub of-around-requires : goal.of-around-requires
of-around-requires c =
    record { short = omega (arith, ring-long c.args.level.now c.facts.ensures c.args.v c.requires.known c.args.ring.now c.requires.ring, ring-short c.args.level.now c.facts.ensures c.args.v c.requires.known) }

pub returns-then-overflows : goal.returns-then-overflows
returns-then-overflows c =
    let same = overflow-is c.args.level.now c.facts.ensures c.args.v c.requires.known c.method.result c.args.ring.now c.method.ensures c.requires.ring in
    let tested = c.overflows.ensures c.method.result c.args.ring.now c.of-around.ensures in
    λ has own before. record { exists = c.requires.known; there = own; overflows = sym same ∙ sym tested ∙ c.if-overflows.true; first = before.fine }

pub half_slot_of-slot-requires : goal.half_slot_of-slot-requires
half_slot_of-slot-requires c =
    let items = c.vertex_edges-edges.ensures in
    let inside : c.loop-i.i < length (get_or c.args.level.now.edges_at c.args.v []) = omega (arith, c.loop-i-test.true, ap length items) in
    omega (arith, edge-within c.args.level.now c.facts.ensures c.args.v c.requires.known c.loop-i.i inside, ap (λ es. get_or es c.loop-i.i 0) items)

pub bounds-halves-slot : goal.bounds-halves-slot
bounds-halves-slot c =
    let items = c.vertex_edges-edges.ensures in
    let inside : c.loop-i.i < length (get_or c.args.level.now.edges_at c.args.v []) = omega (arith, c.loop-i-test.true, ap length items) in
    let slot = c.half_slot_of-slot.ensures ∙ ap (λ es. half_slot c.args.level.now.level.polygons c.args.v (get_or es c.loop-i.i 0)) items in
    omega (arith, slot, slot-within c.args.level.now c.facts.ensures c.args.v c.requires.known c.loop-i.i inside, c.loop-i.invariant.count, c.requires.size)

pub loop-i-preserved : goal.loop-i-preserved
loop-i-preserved c =
    let t = c.args.level.now in
    let items = c.vertex_edges-edges.ensures in
    let inside : c.loop-i.i < length (get_or t.edges_at c.args.v []) = omega (arith, c.loop-i-test.true, ap length items) in
    let slot = c.half_slot_of-slot.ensures ∙ ap (λ es. half_slot t.level.polygons c.args.v (get_or es c.loop-i.i 0)) items in
    let within : c.loop-i.i < length c.args.ring.now = omega (arith, inside, ring-long t c.facts.ensures c.args.v c.requires.known c.args.ring.now c.requires.ring) in
    let same = overflow-is t c.facts.ensures c.args.v c.requires.known c.method.result c.args.ring.now c.method.ensures c.requires.ring in
    let tested = c.overflows.ensures c.method.result c.args.ring.now c.of-around.ensures in
    let made = c.half_of.ensures c.method.result c.args.ring.now c.loop-i.i c.of-around.ensures (sym tested ∙ c.if-overflows.false) within c.index-ring-i.is in
    let at : sharpness_of c.index-ring-i.result ≡ get_or (map sharpness_of c.args.ring.now) c.loop-i.i Smooth =
    ap sharpness_of c.index-ring-i.is ∙ sym (get_or-map sharpness_of c.args.ring.now c.loop-i.i c.index-ring-i.result Smooth within) in
    let half = half-is t c.facts.ensures c.args.v c.requires.known c.method.result c.args.ring.now c.loop-i.i (sharpness_of c.index-ring-i.result) (sharpness_of c.half_of.result) c.method.ensures c.requires.ring inside at made in
    record {
      count = length-set c.loop-i.halves c.half_slot_of-slot.result c.half_of.result ∙ c.loop-i.invariant.count;
      put = λ has before. half-more t c.facts.ensures c.args.v c.requires.known has c.loop-i.i c.half_slot_of-slot.result (map sharpness_of c.loop-i.halves) _ (sharpness_of c.half_of.result) inside slot half
          (map-set sharpness_of c.loop-i.halves c.half_slot_of-slot.result c.half_of.result) (c.loop-i.invariant.put has before);
    }

pub returns : goal.returns
returns c =
    let t = c.args.level.now in
    let all : length (get_or t.edges_at c.args.v []) ≤ c.loop-i.i = omega (arith, c.loop-i-test.false, c.loop-i.auto.i-end, ap length c.vertex_edges-edges.ensures) in
    let same = overflow-is t c.facts.ensures c.args.v c.requires.known c.method.result c.args.ring.now c.method.ensures c.requires.ring in
    let tested = c.overflows.ensures c.method.result c.args.ring.now c.of-around.ensures in
    λ has own before. point-done t c.facts.ensures c.args.v c.requires.known has c.loop-i.i (map sharpness_of c.loop-i.halves) all (sym same ∙ sym tested ∙ c.if-overflows.false) (c.loop-i.invariant.put has before)

pub bounds-ring-i : goal.bounds-ring-i
bounds-ring-i c = omega (arith, c.loop-i-test.true, ap length c.vertex_edges-edges.ensures, ring-long c.args.level.now c.facts.ensures c.args.v c.requires.known c.args.ring.now c.requires.ring)

pub offset_bounds-ring-i : goal.offset_bounds-ring-i
offset_bounds-ring-i c = omega (arith, c.loop-i-test.true, ap length c.vertex_edges-edges.ensures, ring-short c.args.level.now c.facts.ensures c.args.v c.requires.known)
