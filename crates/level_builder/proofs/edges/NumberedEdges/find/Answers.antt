use Rattle.std.proofs.Common.{◌∙◌, ap, ◌≡◌, true}
use Rattle.std.specs.List.{list_any}
use Rattle.subdiv_model.specs.Polygons.{same_edge}
use Rattle.level_topology.specs.Numbering.{Numbered}
use Rattle.level_builder.proofs.EdgeNumberLemmas.{found-number}
use Rattle.level_builder.proofs.edges.NumberedEdges.find.Goals as goal

pub returns : goal.returns
returns c =
    let there : list_any (same_edge (c.args.a, c.args.b)) c.self.inside.ends.items ≡ true = ap (λ (n : Numbered). list_any (same_edge (c.args.a, c.args.b)) n.ends) c.self.view_is ∙ c.requires in
    rw (← c.self.view_is)
    (c.unwrap_or.ensures
    ∙ found-number c.place_of.result (c.args.a, c.args.b) c.lower_first.result c.self.inside.keys.keys c.self.inside.ends.items c.lower_first.ensures c.self.invariant.keys_are there c.place_of.ensures 0)
