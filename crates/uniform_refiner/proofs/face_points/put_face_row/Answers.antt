use Rattle.std.proofs.Common.{◌≡◌, ◌+◌, ◌<◌, ◌∙◌, ap, sym, subst, length, rules, ℕ, List, map, replicate}
use Rattle.std.specs.List.{All}
use Rattle.subdiv_model.specs.Child.{face_point}
use Rattle.child_slots.specs.Slotted.{end_in}
use Rattle.uniform_refiner.proofs.FacePointLemmas.{inner-inside, face-row}
use Rattle.uniform_refiner.proofs.face_points.put_face_row.Goals as goal

pub put_ends-requires-clause-inside : goal.put_ends-requires-clause-inside
put_ends-requires-clause-inside c =
    subst (λ (xs : List ℕ). All (λ e. e < length c.args.edges.now.ends) xs) (sym c.deref.ensures.value)
    (inner-inside c.args.level.now c.facts.ensures c.args.edges.now c.requires.edges c.args.f c.requires.face c.put_inner_edges.new.list.items c.in_ok-put_inner_edges.ensures)

pub returns : goal.returns
returns c =
    let count : c.len.result ≡ length c.put_children_of.new.list.items = search rules in
    face-row c.args.level.now c.facts.ensures c.args.edges.now c.requires.edges c.args.f c.requires.face
    c.put_children_of.new.list.items c.put_corner.new.at.items c.put_inner_edges.new.list.items c.put_ends.new.ends.items
    c.in_ok-put_children_of.ensures (c.in_ok-put_corner.ensures ∙ ap (λ k. replicate k 2) count) c.in_ok-put_inner_edges.ensures
    (c.in_ok-put_ends.ensures ∙ ap (map (end_in c.args.edges.now.ends (c.points.result + c.args.f))) c.deref.ensures.value ∙ ap (λ (p : ℕ). map (end_in c.args.edges.now.ends (face_point p c.args.f)) c.put_inner_edges.new.list.items) c.points.ensures)
