use Rattle.std.proofs.Common.{ℕ, ◌<◌, ap, sym, ◌∙◌, arith, length, get_or, []}
use Rattle.std.proofs.lemmas.List.{length-map, get_or-map}
use Rattle.subdiv_model.specs.Sharpness.{Sharpness, Smooth}
use Rattle.sharpness_rules.specs.View.{sharpness_of}
use Rattle.level_topology.proofs.LawLemmas.{edges-each}
use Rattle.mask_rules.specs.Around.{ring_in}
use Rattle.mask_rules.proofs.RingLemmas.{ring-step}
use Rattle.mask_rules.proofs.ring.put_ring.Goals as goal

pub edge_sharpness-requires : goal.edge_sharpness-requires
edge_sharpness-requires c =
    let inside : c.loop-place.place < length (get_or c.args.level.now.edges_at c.args.v []) = omega (arith, ap length c.vertex_edges-e-items.ensures) in
    rw c.vertex_edges-e-items.ensures
    (edges-each c.args.level.now c.args.v c.loop-place.place c.facts.ensures c.requires.known inside).exists

pub loop-place-preserved : goal.loop-place-preserved
loop-place-preserved c =
    let t = c.args.level.now in
    let items = get_or t.edges_at c.args.v [] in
    let kept : ℕ → Sharpness = λ e. get_or t.level.edge_sharpness e Smooth in
    let within : c.loop-place.place < length items = omega (arith, ap length c.vertex_edges-e-items.ensures) in
    let target : c.loop-place.place < length (ring_in t c.args.v) = omega (arith, length-map items kept) in
    let inside : c.loop-place.place < length c.loop-place.ring = omega (arith, c.loop-place.auto.ring, c.requires.len) in
    ring-step sharpness_of c.loop-place.ring c.loop-place.place c.edge_sharpness.result (ring_in t c.args.v) inside target c.loop-place.invariant
    (c.edge_sharpness.ensures ∙ ap (λ es. kept (get_or es c.loop-place.place 0)) c.vertex_edges-e-items.ensures
    ∙ sym (get_or-map kept items c.loop-place.place 0 Smooth within))
