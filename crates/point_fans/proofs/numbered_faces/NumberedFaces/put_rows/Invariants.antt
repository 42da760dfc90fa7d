use Rattle.std.proofs.Common.{◌≡◌, ◌*◌, nat_lt, length}
use Rattle.std.specs.List.{count_by, sum_by}
use Rattle.subdiv_model.specs.Edges.{edges_of}
use Rattle.level_topology.specs.PointRows.{AreRows}
use Rattle.point_fans.proofs.numbered_faces.NumberedFaces.put_rows.Given as goal

-- the lists of the points before this one are kept, and take the room of the places of these points
abbrev pub invariant-loop-v : goal.invariant-loop-v
invariant-loop-v l = record {
  rows : AreRows l.self.level.polygons l.self.complete l.v l.faces.lists l.faces.beside l.edges.lists l.edges.beside;
  face_sum : sum_by length l.faces.lists ≡ count_by (λ x. nat_lt x l.v) l.places.faces.places.items.items;
  edge_sum : sum_by length l.edges.lists ≡ count_by (λ x. nat_lt x l.v) l.places.edges.places.items.items;
  size : length l.turning.corners.items ≡ length l.self.level.polygons;
  face_limit : l.faces.list_limit ≡ l.points;
  face_items : l.faces.item_limit ≡ sum_by length l.self.level.polygons;
  edge_limit : l.edges.list_limit ≡ l.points;
  edge_items : l.edges.item_limit ≡ 2 * length (edges_of l.self.level.polygons);
}
