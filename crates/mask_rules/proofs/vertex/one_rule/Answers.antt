use Rattle.std.proofs.Common.{◌≡◌, ap, sym, ◌∙◌, length, get_or, []}
use Rattle.std.proofs.lemmas.List.{length-map}
use Rattle.sharpness_rules.specs.View.{rule_of}
use Rattle.mask_rules.specs.Around.{end_of_edge, ends_in}
use Rattle.mask_rules.specs.Spread.{rule_denominator}
use Rattle.mask_rules.specs.View.{seen_vertex}
use Rattle.mask_rules.proofs.VertexLemmas.{ok-weaker, one-joined}
use Rattle.mask_rules.proofs.vertex.one_rule.Goals as goal

pub returns-clause-mask : goal.returns-clause-mask
returns-clause-mask c =
    let t = c.args.level.now in
    let many : length c.vertex_edges.result.now ≡ length (ends_in t c.args.v) =
    ap length c.vertex_edges.ensures ∙ sym (length-map (get_or t.edges_at c.args.v []) (end_of_edge t.level.polygons c.args.v)) in
    ok-weaker c.spread.result _ _ (λ m same. one-joined t c.args.v c.facts.ensures c.requires.known (rule_of c.args.rule) c.rule_denominator.result (seen_vertex m)
    (c.rule_denominator.ensures ∙ ap (rule_denominator (rule_of c.args.rule)) many) c.requires.among same) c.spread.ensures.mask
