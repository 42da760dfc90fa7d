use Rattle.std.proofs.Common.{rules, ◌≡◌, ◌<◌, ◌∙◌, ap, arith, false, length}
use Rattle.subdiv_model.specs.Polygons.{is_among}
use Rattle.child_slots.specs.Slotted.{Slotted}
use Rattle.child_slots.proofs.SlotTableLemmas.{table-more}
use Rattle.child_slots.proofs.numbering.SlotEdges.add_new.Goals as goal

pub invariant_of-self-2 : goal.invariant_of-self-2
invariant_of-self-2 c =
    let inside = c.self.inside in
    let absent : is_among inside.slots.items c.args.slot ≡ false = ap (λ (n : Slotted). is_among n.slots c.args.slot) c.self.view_is ∙ c.requires.absent in
    let below : c.args.slot < length inside.table.items = omega (arith, c.requires.slot, ap (λ (n : Slotted). n.count) c.self.view_is) in
    table-more inside.table.items inside.slots.items inside.ends.items inside.faces.items c.args.slot c.len.result c.args.side (c.args.face, c.args.face) _ _ _
    c.self.invariant below absent (search rules) (omega (arith, c.requires.few, ap (λ (n : Slotted). length n.ends) c.self.view_is)) (search rules) (search rules) (search rules)
