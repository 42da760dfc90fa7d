use Rattle.std.proofs.Common.{◌∙◌, ◌++◌, refl, sym, ap, map, append-nil}
use Rattle.mesh_check.specs.View.{mesh_fault_of}
use Rattle.mesh_check.proofs.EdgeFaultLemmas.{edges-once, edges-put}
use Rattle.mesh_check.proofs.TurnSideLemmas.{sides-once}
use Rattle.mesh_check.proofs.edge_list.put_edge_faults.Goals as goal

pub returns-then-not-has_equal_neighbours : goal.returns-then-not-has_equal_neighbours
returns-then-not-has_equal_neighbours c =
    let faces = c.args.raw.now.faces in
    let old = map mesh_fault_of c.args.faults.now.items in
    let none = edges-once faces _ _ refl refl (sides-once faces c.args.turns.now c.requires (sym c.has_equal_neighbours.ensures ∙ c.if-not-has_equal_neighbours.true)) in
    sym (ap (λ faults. old ++ faults) none ∙ append-nil old)

pub returns : goal.returns
returns c =
    edges-put c.args.raw.now.faces _ _ _ _ _ c.in_ok-put_edges.ensures c.in_ok-put_edges-2.ensures
    (c.deref-2.ensures.value ∙ c.in_ok-crowded_edges.ensures) (c.deref-4.ensures.value ∙ c.in_ok-clashing_edges.ensures)
