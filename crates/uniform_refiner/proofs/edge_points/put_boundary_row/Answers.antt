use Rattle.std.proofs.Common.{◌<◌, ◌∙◌, ◌++◌, ◌∷◌, [], ap, sym, subst, length, map, List, ℕ}
use Rattle.std.specs.List.{All}
use Rattle.child_slots.specs.Slotted.{end_in}
use Rattle.uniform_refiner.proofs.EdgeHalfLemmas.{same-three, edge-directions, start-inner, boundary-inside, boundary-row}
use Rattle.uniform_refiner.proofs.edge_points.put_boundary_row.Goals as goal

pub inner_of-inner-requires-clause-slot : goal.inner_of-inner-requires-clause-slot
inner_of-inner-requires-clause-slot c =
    let directions = edge-directions c.args.level.now c.facts.ensures c.args.edges.now c.requires.edges c.args.e c.requires.edge c.args.starts c.args.ends c.requires.starts c.requires.ends in
    (start-inner c.args.level.now c.facts.ensures c.args.edges.now c.requires.edges c.args.e c.requires.edge c.args.starts c.args.ends directions).0

pub inner_of-inner-requires-clause-there : goal.inner_of-inner-requires-clause-there
inner_of-inner-requires-clause-there c =
    let directions = edge-directions c.args.level.now c.facts.ensures c.args.edges.now c.requires.edges c.args.e c.requires.edge c.args.starts c.args.ends c.requires.starts c.requires.ends in
    (start-inner c.args.level.now c.facts.ensures c.args.edges.now c.requires.edges c.args.e c.requires.edge c.args.starts c.args.ends directions).1

pub put_ends-requires-clause-inside : goal.put_ends-requires-clause-inside
put_ends-requires-clause-inside c =
    let directions = edge-directions c.args.level.now c.facts.ensures c.args.edges.now c.requires.edges c.args.e c.requires.edge c.args.starts c.args.ends c.requires.starts c.requires.ends in
    subst (λ (xs : List ℕ). All (λ k. k < length c.args.edges.now.ends) xs) (sym c.deref.ensures.value)
    (boundary-inside c.args.level.now c.facts.ensures c.args.edges.now c.requires.edges c.args.e c.requires.edge c.args.starts c.args.ends directions c.extend_from_slice-3.new.self.items
    (c.in_ok-extend_from_slice-3.ensures.items ∙ ap (λ (xs : List ℕ). xs ++ (c.halves_of-start.result.0 ∷ c.inner_of-inner.result ∷ c.halves_of-start.result.1 ∷ [])) c.clear.ensures.edges ∙ same-three c.halves_of-start.ensures.first c.inner_of-inner.ensures c.halves_of-start.ensures.second))

pub returns : goal.returns
returns c =
    let directions = edge-directions c.args.level.now c.facts.ensures c.args.edges.now c.requires.edges c.args.e c.requires.edge c.args.starts c.args.ends c.requires.starts c.requires.ends in
    boundary-row c.args.level.now c.facts.ensures c.args.edges.now c.requires.edges c.args.e c.requires.edge c.args.starts c.args.ends directions c.requires.boundary c.extend_from_slice.new.self.items c.extend_from_slice-2.new.self.items c.extend_from_slice-3.new.self.items c.put_ends.new.ends.items
    (c.in_ok-extend_from_slice.ensures.items ∙ ap (λ (xs : List ℕ). xs ++ (c.args.starts.0 ∷ (c.args.ends.0 ∷ []))) c.clear.ensures.faces)
    (c.in_ok-extend_from_slice-2.ensures.items ∙ ap (λ (xs : List ℕ). xs ++ (1 ∷ (3 ∷ []))) c.clear.ensures.faces_at)
    (c.in_ok-extend_from_slice-3.ensures.items ∙ ap (λ (xs : List ℕ). xs ++ (c.halves_of-start.result.0 ∷ c.inner_of-inner.result ∷ c.halves_of-start.result.1 ∷ [])) c.clear.ensures.edges ∙ same-three c.halves_of-start.ensures.first c.inner_of-inner.ensures c.halves_of-start.ensures.second)
    (c.in_ok-put_ends.ensures ∙ ap (map (end_in c.args.edges.now.ends c.edge_point_of.result)) c.deref.ensures.value ∙ ap (λ (v : ℕ). map (end_in c.args.edges.now.ends v) c.extend_from_slice-3.new.self.items) c.edge_point_of.ensures)
