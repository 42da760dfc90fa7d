use Rattle.std.proofs.Common.{◌∙◌, ap, sym, arith, length, true}
use Rattle.std.proofs.lemmas.List.{length-map, length-replicate}
use Rattle.sharpness_rules.specs.View.{sharpness_of}
use Rattle.level_topology.specs.Topology.{corner_of, end_of}
use Rattle.uniform_refiner.specs.Points.{children_of}
use Rattle.uniform_refiner.proofs.PutPointLemmas.{point-fits, points-step, row-moved}
use Rattle.uniform_refiner.proofs.WholeLemmas.{sharp-count}
use Rattle.uniform_refiner.proofs.points.put_row.Goals as goal

pub put_vertex-requires-clause-equal_faces : goal.put_vertex-requires-clause-equal_faces
put_vertex-requires-clause-equal_faces c = ap length c.deref-2.ensures.value ∙ ap length c.requires.row.corners_are ∙ length-map c.args.row.now.faces.items (corner_of (children_of c.args.level.now.level) c.args.v) ∙ sym (ap length c.deref.ensures.value)

pub put_vertex-requires-clause-equal_edges : goal.put_vertex-requires-clause-equal_edges
put_vertex-requires-clause-equal_edges c = ap length c.deref-4.ensures.value ∙ ap length c.requires.row.ends_are ∙ length-map c.args.row.now.edges.items (end_of (children_of c.args.level.now.level) c.args.v) ∙ sym (ap length c.deref-3.ensures.value)

pub put_vertex-requires-clause-points : goal.put_vertex-requires-clause-points
put_vertex-requires-clause-points c = omega (arith, ap length c.requires.before.complete, length-replicate c.args.v true, c.requires.before.point_total, c.requires.point)

pub put_vertex-requires-clause-face_places : goal.put_vertex-requires-clause-face_places
put_vertex-requires-clause-face_places c = omega (arith, (point-fits c.args.level.now c.facts.ensures c.args.v c.args.rows.now c.args.row.now.faces.items c.args.row.now.faces_at.items c.args.row.now.edges.items c.args.row.now.edges_at.items c.requires.before c.requires.row).0.1, ap length c.deref.ensures.value)

pub put_vertex-requires-clause-edge_places : goal.put_vertex-requires-clause-edge_places
put_vertex-requires-clause-edge_places c = omega (arith, (point-fits c.args.level.now c.facts.ensures c.args.v c.args.rows.now c.args.row.now.faces.items c.args.row.now.faces_at.items c.args.row.now.edges.items c.args.row.now.edges_at.items c.requires.before c.requires.row).1.1, ap length c.deref-3.ensures.value)

pub returns-clause-put : goal.returns-clause-put
returns-clause-put c =
    points-step c.args.level.now c.facts.ensures c.args.v c.args.rows.now c.put_vertex.new.self c.deref.result.now c.deref-2.result.now c.deref-3.result.now c.deref-4.result.now (sharpness_of c.args.s) c.requires.before c.requires.point (sharp-count c.args.level.now c.facts.ensures)
    (row-moved (children_of c.args.level.now.level) c.args.v c.args.row.now.faces.items c.args.row.now.faces_at.items c.args.row.now.edges.items c.args.row.now.edges_at.items c.deref.result.now c.deref-2.result.now c.deref-3.result.now c.deref-4.result.now c.deref.ensures.value c.deref-2.ensures.value c.deref-3.ensures.value c.deref-4.ensures.value c.requires.row)
    c.requires.sharp c.put_vertex.ensures
