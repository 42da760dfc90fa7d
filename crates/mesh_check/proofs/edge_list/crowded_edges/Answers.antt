use Rattle.std.proofs.Common.{◌∙◌, ap}
use Rattle.subdiv_model.specs.Edges.{first_named}
use Rattle.mesh_check.proofs.NamedLemmas.{crowded-listed}
use Rattle.mesh_check.proofs.edge_list.crowded_edges.Goals as goal

pub returns : goal.returns
returns c = crowded-listed c.args.raw.now.faces c.args.sides.now _ _ c.requires c.in_ok-named.ensures (c.in_ok-found.ensures ∙ ap first_named c.deref.ensures.value)
