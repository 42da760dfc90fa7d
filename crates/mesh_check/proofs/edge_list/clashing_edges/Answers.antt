use Rattle.std.proofs.Common.{◌∙◌, ap}
use Rattle.subdiv_model.specs.Edges.{first_named}
use Rattle.mesh_check.proofs.NamedLemmas.{clashing-listed}
use Rattle.mesh_check.proofs.edge_list.clashing_edges.Goals as goal

pub returns : goal.returns
returns c = clashing-listed c.args.raw.now.faces c.args.sides.now _ _ c.requires c.in_ok-named.ensures (c.in_ok-found.ensures ∙ ap first_named c.deref.ensures.value)
