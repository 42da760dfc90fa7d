use Rattle.std.proofs.Common.{ℕ, ◌<◌, ◌||◌, length, get_or, [], arith, ap, sym, ◌∙◌}
use Rattle.std.proofs.lemmas.List.{length-map, get_or-map}
use Rattle.subdiv_model.specs.Sharpness.{Sharpness, Smooth}
use Rattle.sharpness_rules.specs.View.{sharpness_of}
use Rattle.level_topology.proofs.LawLemmas.{edges-each}
use Rattle.mask_rules.specs.Around.{ring_in}
use Rattle.limit_stencils.proofs.LastingLemmas.{semi-step}
use Rattle.limit_stencils.proofs.semi.has_semi_edge.Goals as goal

pub edge_sharpness-requires : goal.edge_sharpness-requires
edge_sharpness-requires c =
    let inside : c.loop-e.e-index < length (get_or c.args.level.now.edges_at c.args.v []) = omega (arith, ap length c.vertex_edges-e-items.ensures, c.loop-e-test.true) in
    rw c.vertex_edges-e-items.ensures
    (edges-each c.args.level.now c.args.v c.loop-e.e-index c.facts.ensures c.requires inside).exists

pub loop-e-preserved : goal.loop-e-preserved
loop-e-preserved c =
    let t = c.args.level.now in
    let items = get_or t.edges_at c.args.v [] in
    let kept : ℕ → Sharpness = λ e. get_or t.level.edge_sharpness e Smooth in
    let within : c.loop-e.e-index < length items = omega (arith, ap length c.vertex_edges-e-items.ensures, c.loop-e-test.true) in
    let inside : c.loop-e.e-index < length (ring_in t c.args.v) = omega (arith, within, length-map items kept) in
    semi-step (ring_in t c.args.v) c.loop-e.e-index (sharpness_of c.edge_sharpness.result) c.loop-e.semi _ inside c.loop-e.invariant
    (c.edge_sharpness.ensures ∙ ap (λ es. kept (get_or es c.loop-e.e-index 0)) c.vertex_edges-e-items.ensures
    ∙ sym (get_or-map kept items c.loop-e.e-index 0 Smooth within))
    (ap (λ b. c.loop-e.semi || b) c.is_semi_sharp-semi.ensures)
