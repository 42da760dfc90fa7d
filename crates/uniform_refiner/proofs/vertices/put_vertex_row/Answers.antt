use Rattle.std.proofs.Common.{◌≡◌, ◌<◌, ◌∙◌, ap, sym, subst, length, rules, ℕ, List, map, replicate}
use Rattle.std.specs.List.{All}
use Rattle.child_slots.specs.Slotted.{end_in}
use Rattle.uniform_refiner.proofs.VertexRowLemmas.{halves-inside, vertex-row}
use Rattle.uniform_refiner.proofs.vertices.put_vertex_row.Goals as goal

pub put_ends-requires-clause-inside : goal.put_ends-requires-clause-inside
put_ends-requires-clause-inside c =
    subst (λ (xs : List ℕ). All (λ e. e < length c.args.edges.now.ends) xs) (sym c.deref.ensures.value)
    (halves-inside c.args.level.now c.facts.ensures c.args.edges.now c.requires.edges c.args.v c.requires.point c.put_halves_at.new.list.items c.in_ok-put_halves_at.ensures)

pub returns : goal.returns
returns c =
    let count : c.len.result ≡ length c.put_children_at.new.list.items = search rules in
    vertex-row c.args.level.now c.facts.ensures c.args.edges.now c.requires.edges c.args.v c.requires.point c.requires.whole
    c.put_children_at.new.list.items c.put_corner.new.at.items c.put_halves_at.new.list.items c.put_ends.new.ends.items
    c.in_ok-put_children_at.ensures (c.in_ok-put_corner.ensures ∙ ap (λ k. replicate k 0) count) c.in_ok-put_halves_at.ensures
    (c.in_ok-put_ends.ensures ∙ ap (map (end_in c.args.edges.now.ends c.args.v)) c.deref.ensures.value)
