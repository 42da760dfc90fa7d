use Rattle.std.proofs.Common.{◌∙◌, ap}
use Rattle.subdiv_model.specs.Edges.{faces_of_edge}
use Rattle.level_topology.specs.Topology.{edge_at}
use Rattle.point_fans.proofs.AcrossLemmas.{before-exists, across-before}
use Rattle.point_fans.proofs.numbered_faces.NumberedFaces.face_before.Goals as goal

pub face_pair-requires : goal.face_pair-requires
face_pair-requires c =
    let polygons = c.args.self.now.level.polygons in
    rw c.edge_before-e.ensures (before-exists polygons c.facts.ensures.simple c.facts.ensures.sides_once c.args.v c.args.f c.requires.there (0, 0))

pub returns : goal.returns
returns c =
    let polygons = c.args.self.now.level.polygons in
    across-before polygons c.facts.ensures.simple c.facts.ensures.sides_once c.args.v c.args.f c.requires.there c.face_pair.result c.other_face.result
    (c.face_pair.ensures ∙ ap (λ k. faces_of_edge polygons (edge_at polygons k)) c.edge_before-e.ensures) c.other_face.ensures
