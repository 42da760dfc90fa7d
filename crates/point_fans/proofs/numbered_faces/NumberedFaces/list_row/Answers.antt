use Rattle.std.proofs.Common.{◌∙◌, ap, sym, map}
use Rattle.subdiv_model.specs.Edges.{edges_of}
use Rattle.level_topology.specs.Topology.{corner_of, end_of}
use Rattle.level_topology.specs.ListPlaces.{pair_list}
use Rattle.level_topology.proofs.TurnLemmas.{edges-listed}
use Rattle.point_fans.proofs.PointPlaceLemmas.{ends-listed}
use Rattle.point_fans.proofs.numbered_faces.NumberedFaces.list_row.Goals as goal

pub returns-clause-faces : goal.returns-clause-faces
returns-clause-faces c = c.in_ok-put.ensures.owners c.args.self.now.level.polygons c.args.self.now.level.point_count c.requires.point c.requires.places.corners

pub returns-clause-at : goal.returns-clause-at
returns-clause-at c =
    let now = c.args.self.now.level in
    c.in_ok-put.ensures.within now.polygons now.point_count c.requires.point c.requires.places.corners
    ∙ ap (map (corner_of now.polygons c.args.v)) (sym (c.in_ok-put.ensures.owners now.polygons now.point_count c.requires.point c.requires.places.corners))

pub returns-clause-edges : goal.returns-clause-edges
returns-clause-edges c =
    let now = c.args.self.now.level in
    c.in_ok-put-2.ensures.owners (map pair_list (edges_of now.polygons)) now.point_count c.requires.point c.requires.places.ends ∙ edges-listed now.polygons c.args.v

pub returns-clause-ends : goal.returns-clause-ends
returns-clause-ends c =
    let now = c.args.self.now.level in
    c.in_ok-put-2.ensures.within (map pair_list (edges_of now.polygons)) now.point_count c.requires.point c.requires.places.ends ∙ ends-listed now.polygons c.args.v
    ∙ ap (map (end_of now.polygons c.args.v)) (sym (c.in_ok-put-2.ensures.owners (map pair_list (edges_of now.polygons)) now.point_count c.requires.point c.requires.places.ends ∙ edges-listed now.polygons c.args.v))
