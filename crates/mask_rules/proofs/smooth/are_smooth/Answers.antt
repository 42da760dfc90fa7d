use Rattle.std.proofs.Common.{◌≡◌, ◌<◌, ℕ, true, length, map, get_or, [], arith, ap, sym, ◌∙◌}
use Rattle.std.proofs.lemmas.List.{length-map, get_or-map}
use Rattle.std.specs.List.{list_any}
use Rattle.std.proofs.lemmas.List.Folds.{list_any_at}
use Rattle.subdiv_model.specs.Sharpness.{Smooth, is_sharp}
use Rattle.level_topology.proofs.LawLemmas.{edges-each}
use Rattle.mask_rules.proofs.smooth.are_smooth.Goals as goal

pub edge_sharpness-requires : goal.edge_sharpness-requires
edge_sharpness-requires c =
    let inside : c.loop-e.e-index < length (get_or c.args.level.now.edges_at c.args.v []) = omega (arith, ap length c.vertex_edges-e-items.ensures, c.loop-e-test.true) in
    rw c.vertex_edges-e-items.ensures
    (edges-each c.args.level.now c.args.v c.loop-e.e-index c.facts.ensures c.requires inside).exists

-- the edge found is one of the ring
pub returns-then-is_sharp : goal.returns-then-is_sharp
returns-then-is_sharp c =
    let items = c.vertex_edges-e-items.result.now in
    let sharpness = λ (e : ℕ). get_or c.args.level.now.level.edge_sharpness e Smooth in
    let found : is_sharp (sharpness (get_or items c.loop-e.e-index 0)) ≡ true =
    sym (ap is_sharp c.edge_sharpness.ensures) ∙ sym c.is_sharp.ensures ∙ c.if-is_sharp.true in
    ap (λ es. list_any is_sharp (map sharpness es)) (sym c.vertex_edges-e-items.ensures)
    ∙ list_any_at is_sharp (map sharpness items) c.loop-e.e-index Smooth (omega (arith, c.loop-e-test.true, length-map items sharpness))
    (ap is_sharp (get_or-map sharpness items c.loop-e.e-index 0 Smooth c.loop-e-test.true) ∙ found)
