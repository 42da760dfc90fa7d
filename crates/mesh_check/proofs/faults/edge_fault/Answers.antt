use Rattle.std.proofs.Common.{◌∙◌, refl, sym}
use Rattle.mesh_check.proofs.EdgeFaultLemmas.{crowded-first, clashing-first, edge-first, edge-once}
use Rattle.mesh_check.proofs.TurnSideLemmas.{sides-once}
use Rattle.mesh_check.proofs.faults.edge_fault.Goals as goal

pub returns-then-not-has_equal_neighbours : goal.returns-then-not-has_equal_neighbours
returns-then-not-has_equal_neighbours c = edge-once c.args.raw.now.faces _ _ refl refl (sides-once c.args.raw.now.faces c.args.turns.now c.requires (sym c.has_equal_neighbours.ensures ∙ c.if-not-has_equal_neighbours.true))

pub returns : goal.returns
returns c =
    c.edge_named.ensures
    ∙ edge-first c.args.raw.now.faces c.in_ok-crowded.crowded c.in_ok-clashing.clashing
    (crowded-first c.args.raw.now.faces _ _ _ c.deref.ensures.value c.in_ok-sides.ensures c.in_ok-crowded.ensures)
    (clashing-first c.args.raw.now.faces _ _ _ c.deref-2.ensures.value c.in_ok-sides.ensures c.in_ok-clashing.ensures)
