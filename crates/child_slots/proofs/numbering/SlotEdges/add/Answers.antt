use Rattle.std.proofs.Common.{◌≡◌, ◌<◌, ◌∙◌, ap, sym, arith, ◌≤◌, ◌^◌, length, get_or}
use Rattle.std.proofs.lemmas.List.{get_or_default}
use Rattle.subdiv_model.specs.Polygons.{is_among}
use Rattle.child_slots.specs.Slotted.{Slotted, slotted}
use Rattle.child_slots.proofs.SlotTableLemmas.{entry-none, entry-some, entry-of, known-slot, among-number}
use Rattle.child_slots.proofs.numbering.SlotEdges.add.Goals as goal

pub add_new-requires-clause-absent : goal.add_new-requires-clause-absent
add_new-requires-clause-absent c =
    let inside = c.self.inside in
    let below : c.args.slot < length inside.table.items = omega (arith, c.requires.slot, ap (λ (n : Slotted). n.count) c.self.view_is) in
    let there : c.index-e.result.now ≡ get_or inside.table.items c.args.slot 0 = c.index-e.ensures ∙ get_or_default inside.table.items c.args.slot c.index-e.result.now 0 below in
    sym (ap (λ (n : Slotted). is_among n.slots c.args.slot) c.self.view_is)
    ∙ entry-none inside.slots.items inside.table.items c.args.slot c.index-e.result.now c.self.invariant.inverse below (omega (arith, c.self.invariant.few)) there c.if-e.true

pub returns : goal.returns
returns c =
    let inside = c.self.inside in
    let below : c.args.slot < length inside.table.items = omega (arith, c.requires.slot, ap (λ (n : Slotted). n.count) c.self.view_is) in
    let there : c.index-e.result.now ≡ get_or inside.table.items c.args.slot 0 = c.index-e.ensures ∙ get_or_default inside.table.items c.args.slot c.index-e.result.now 0 below in
    let few : length inside.slots.items ≤ 2 ^ 31 = omega (arith, c.self.invariant.few) in
    let among = entry-some inside.slots.items inside.table.items c.args.slot c.index-e.result.now c.self.invariant.inverse below few there c.if-e.false in
    let number = entry-of inside.slots.items inside.table.items c.args.slot c.index-e.result.now c.self.invariant.inverse below few there among in
    let within : c.index-e.result.now < length inside.faces.items = omega (arith, number, among-number inside.slots.items c.args.slot among, c.self.invariant.face_count) in
    rw (← c.self.view_is)
    (known-slot c.args.face (slotted (length inside.table.items) inside.slots.items inside.ends.items inside.faces.items) c.args.slot c.index-e.result.now c.args.side c.index_mut.result.now among number
    (c.index_mut.ensures.value ∙ get_or_default inside.faces.items c.index-e.result.now c.index_mut.result.now (0, 0) within))
