use Rattle.std.proofs.Common.{◌<◌, ◌++◌, ◌∷◌, [], List, length, map, take, get_or, arith, ap, sym, ◌∙◌}
use Rattle.std.proofs.lemmas.List.{map-append, take_more}
use Rattle.subdiv_model.specs.Sharpness.{Sharpness, Smooth}
use Rattle.sharpness_rules.specs.View.{sharpness_of}
use Rattle.child_slots.specs.HalfTable.{ring_listed}
use Rattle.child_slots.proofs.HalfTableLemmas.{edge-within, ring-at}
use Rattle.child_slots.proofs.halves.put_ring.Goals as goal

pub edge_sharpness-requires : goal.edge_sharpness-requires
edge_sharpness-requires c =
    let items = c.vertex_edges-edges.ensures in
    let inside : c.loop-i.i < length (get_or c.args.level.now.edges_at c.args.v []) = omega (arith, c.loop-i-test.true, ap length items) in
    omega (arith, edge-within c.args.level.now c.facts.ensures c.args.v c.requires.known c.loop-i.i inside, ap (λ es. get_or es c.loop-i.i 0) items)

pub loop-i-preserved : goal.loop-i-preserved
loop-i-preserved c =
    let t = c.args.level.now in
    let items = c.vertex_edges-edges.ensures in
    let inside : c.loop-i.i < length (get_or t.edges_at c.args.v []) = omega (arith, c.loop-i-test.true, ap length items) in
    let here = ring-at t c.facts.ensures c.args.v c.requires.known c.loop-i.i inside in
    ap (map sharpness_of) c.in_ok-push.ensures.items ∙ map-append sharpness_of c.loop-i.ring.items (c.edge_sharpness.result ∷ [])
    ∙ ap (λ (xs : List Sharpness). xs ++ sharpness_of c.edge_sharpness.result ∷ []) c.loop-i.invariant
    ∙ ap (λ (s : Sharpness). take c.loop-i.i (ring_listed t c.args.v) ++ s ∷ []) (c.edge_sharpness.ensures ∙ ap (λ es. get_or t.level.edge_sharpness (get_or es c.loop-i.i 0) Smooth) items ∙ sym here.1)
    ∙ sym (take_more (ring_listed t c.args.v) c.loop-i.i Smooth here.0)
