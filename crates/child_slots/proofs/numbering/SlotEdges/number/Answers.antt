use Rattle.std.proofs.Common.{◌≡◌, ◌<◌, ◌∙◌, ap, arith, true, length, get_or}
use Rattle.std.proofs.lemmas.List.{get_or_default}
use Rattle.subdiv_model.specs.Polygons.{is_among}
use Rattle.child_slots.specs.Slotted.{Slotted, number_at}
use Rattle.child_slots.proofs.SlotTableLemmas.{entry-of}
use Rattle.child_slots.proofs.numbering.SlotEdges.number.Goals as goal

pub returns : goal.returns
returns c =
    let inside = c.self.inside in
    let below : c.args.slot < length inside.table.items = omega (arith, c.requires.slot, ap (λ (n : Slotted). n.count) c.self.view_is) in
    let there : c.index.result.now ≡ get_or inside.table.items c.args.slot 0 = c.index.ensures ∙ get_or_default inside.table.items c.args.slot c.index.result.now 0 below in
    let among : is_among inside.slots.items c.args.slot ≡ true = ap (λ (n : Slotted). is_among n.slots c.args.slot) c.self.view_is ∙ c.requires.there in
    entry-of inside.slots.items inside.table.items c.args.slot c.index.result.now c.self.invariant.inverse below (omega (arith, c.self.invariant.few)) there among
    ∙ ap (λ (n : Slotted). number_at n.slots c.args.slot) c.self.view_is
