use Rattle.std.proofs.Common.{◌∙◌, ◌<◌, ap, length}
use Rattle.subdiv_model.specs.Edges.{edges_of, faces_of_edge}
use Rattle.level_topology.specs.Topology.{Topology}
use Rattle.level_topology.specs.View.{faces_of_pair}
use Rattle.level_topology.proofs.RowLemmas.{maps-at}
use Rattle.level_topology.proofs.level.Level.edge_faces.Goals as goal

pub returns : goal.returns
returns c =
    let polygons = c.self.inside.tables.faces.lists in
    let inside : c.args.e < length (edges_of polygons) = rw (ap (λ (t : Topology). t.level.polygons) c.self.view_is) c.requires in
    rw (← c.self.view_is)
    (c.faces_from.ensures ∙ ap faces_of_pair c.index.ensures
    ∙ maps-at faces_of_pair (faces_of_edge polygons) c.self.inside.tables.edge_faces.items (edges_of polygons) c.args.e c.index.result.now (0, 0) c.self.invariant.edge_faces inside)
