use Rattle.std.proofs.Common.{◌≡◌, Some, None, ◌∷◌, [], subst, sym, ap, ◌∙◌}
use Rattle.std.specs.Option.{option_to_list}
use Rattle.subdiv_model.specs.Edges.{faces_of_edge}
use Rattle.level_topology.specs.Topology.{edge_at}
use Rattle.mask_rules.specs.View.{scheme_of}
use Rattle.mask_rules.specs.Masks.{IsPartBelowOne}
use Rattle.mask_rules.proofs.EdgeLemmas.{edge-without, edge-with}
use Rattle.mask_rules.proofs.made.MadeMask.put_edge.Goals as goal

pub returns-in_default : goal.returns-in_default
returns-in_default c =
    let none = subst (λ s. IsPartBelowOne (scheme_of c.args.scheme) s None) c.edge_sharpness.ensures c.in_default.ensures in
    rw (c.put_middle.ensures, c.edge_vertices-ends.ensures)
    (edge-without c.args.level.now c.args.e c.facts.ensures c.requires.known (scheme_of c.args.scheme) none)

pub returns : goal.returns
returns c =
    let below = subst (λ s. IsPartBelowOne (scheme_of c.args.scheme) s (Some c.in-Some.part)) c.edge_sharpness.ensures c.in-Some.ensures in
    let two : c.edge_faces-faces.result.first ∷ c.in-Some-second.second ∷ [] ≡ faces_of_edge c.args.level.now.level.polygons (edge_at c.args.level.now.level.polygons c.args.e) =
    ap (λ o. c.edge_faces-faces.result.first ∷ option_to_list o) (sym c.in-Some-second.is) ∙ c.edge_faces-faces.ensures in
    rw (c.put_beside.ensures, c.edge_vertices-ends.ensures)
    (edge-with c.args.level.now c.args.e c.facts.ensures c.requires.known (scheme_of c.args.scheme) c.in-Some.part
    c.edge_faces-faces.result.first c.in-Some-second.second below two)
