use Rattle.std.proofs.Common.{◌<◌, ap, sym, ◌∙◌, arith, length, get_or, []}
use Rattle.std.proofs.lemmas.List.{length-map, get_or-map}
use Rattle.sharpness_rules.specs.View.{rule_of}
use Rattle.level_topology.proofs.LawLemmas.{edges-each}
use Rattle.mask_rules.specs.View.{terms_of}
use Rattle.mask_rules.specs.Spread.{end_share}
use Rattle.mask_rules.specs.Around.{end_of_edge, ends_in}
use Rattle.mask_rules.proofs.WalkLemmas.{ends-step}
use Rattle.mask_rules.proofs.GrowthLemmas.{grows-then}
use Rattle.mask_rules.proofs.vertex.put_ends.Goals as goal

pub other_end-requires : goal.other_end-requires
other_end-requires c =
    let inside : c.loop-place.place < length (get_or c.args.level.now.edges_at c.args.v []) = omega (arith, ap length c.vertex_edges-e-items.ensures) in
    rw c.vertex_edges-e-items.ensures
    (edges-each c.args.level.now c.args.v c.loop-place.place c.facts.ensures c.requires.known inside).exists

pub loop-place-preserved : goal.loop-place-preserved
loop-place-preserved c =
    let t = c.args.level.now in
    let items = get_or t.edges_at c.args.v [] in
    let number = end_of_edge t.level.polygons c.args.v in
    let within : c.loop-place.place < length items = omega (arith, ap length c.vertex_edges-e-items.ensures) in
    let inside : c.loop-place.place < length (ends_in t c.args.v) = omega (arith, length-map items number) in
    let end = c.other_end.ensures ∙ ap (λ es. number (get_or es c.loop-place.place 0)) c.vertex_edges-e-items.ensures
    ∙ sym (get_or-map number items c.loop-place.place 0 0 within) in (
      ends-step (end_share (rule_of c.args.parts.parent) (rule_of c.args.parts.child) c.args.parts.by c.args.parts.rest)
          (ends_in t c.args.v) c.loop-place.place c.of_end.result c.other_end.result (terms_of c.args.terms.now.items) (terms_of c.loop-place.terms.items)
          (terms_of c.put.new.terms.items) inside c.loop-place.invariant.0 c.in_ok-put.ensures.terms c.of_end.ensures end,
      grows-then _ _ _ c.loop-place.place 1 c.loop-place.invariant.1 c.in_ok-put.ensures.grows,
    )
