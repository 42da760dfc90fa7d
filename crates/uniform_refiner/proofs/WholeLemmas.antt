-- The lists that are put are those of the next level.
use Rattle.std.proofs.Common.{◌≡◌, ℕ, ◌+◌, ◌*◌, ◌≤◌, ◌^◌, Bool, true, ◌&&◌, nat_eq, List, [], length, map, get_or, replicate, arith, ap, sym, ◌∙◌, subst}
use Rattle.std.specs.List.{range_with_len, sum_by}
use Rattle.std.proofs.lemmas.Bool.{and_parts, eqb-true}
use Rattle.std.proofs.lemmas.List.{take_all, length-map, length-append, length-replicate}
use Rattle.std.proofs.lemmas.List.FromFn.{length-map-range_with_len}
use Rattle.subdiv_model.specs.Polygons.{Polygon, is_distinct}
use Rattle.subdiv_model.specs.Edges.{edges_of, faces_of_edge}
use Rattle.subdiv_model.specs.Sharpness.{Sharpness, Smooth, Method, uniform_child}
use Rattle.subdiv_model.specs.Child.{child_polygons, child_points, child_level, child_holes, child_edge_sharpness, child_vertex_sharpness, halves_of, sharpness_among}
use Rattle.subdiv_model.specs.Level.{Level, vertex_sharpness_of}
use Rattle.level_laws.proofs.FaceLemmas.{child_polygons-length, child_holes-length, faces-after}
use Rattle.level_laws.proofs.WellFormedLemmas.{levels-well-formed}
use Rattle.mesh_laws.proofs.ClosedLemmas.{all-at}
use Rattle.mesh_laws.proofs.ChildFaceLemmas.{is_child, all-child}
use Rattle.level_topology.specs.Topology.{Topology, IsTopology, face_edges_of, corner_of, end_of}
use Rattle.level_topology.specs.PointRows.{AreRows}
use Rattle.level_topology.specs.Rows.{Counts, Rows, AreOfLevel, AreAllPut, no_rows, topology_of}
use Rattle.level_topology.proofs.ChildLemmas.{edges-corners}
use Rattle.child_slots.specs.Slotted.{Slotted}
use Rattle.uniform_refiner.specs.Put.{AreChildEdges, with_children, with_child_edges}
use Rattle.uniform_refiner.specs.Points.{ArePoints, without_points}
use Rattle.child_slots.proofs.SlotLemmas.{over-of}
use Rattle.uniform_refiner.proofs.WholeEdgeLemmas.{ends-all}
use Rattle.uniform_refiner.proofs.PointLemmas.{kids-simple, kids-distinct}

abbrev level_of : ℕ → List Polygon → List Bool → List Sharpness → List Sharpness → Method → Level
level_of points polygons holes edges vertices method = record { point_count = points; polygons = polygons; holes = holes; edge_sharpness = edges; vertex_sharpness = vertices; method = method }

level-same : {points points' : ℕ} {polygons polygons' : List Polygon} {holes holes' : List Bool} {edges edges' vertices vertices' : List Sharpness} {method method' : Method} → points ≡ points' → polygons ≡ polygons' → holes ≡ holes' → edges ≡ edges' → vertices ≡ vertices' → method ≡ method' → level_of points polygons holes edges vertices method ≡ level_of points' polygons' holes' edges' vertices' method'
level-same a b c d e f = cc

module _ (t : Topology) (is : IsTopology t) where
  abbrev points : ℕ
  points = t.level.point_count

  abbrev polygons : List Polygon
  polygons = t.level.polygons

  abbrev quads : List Polygon
  quads = child_polygons t.level.point_count t.level.polygons

  abbrev total : ℕ
  total = child_points t.level.point_count t.level.polygons

  -- the child faces have four corners each
  pub corners-total : sum_by length quads ≡ 4 * sum_by length polygons
  corners-total = sym (child_polygons-length total quads) ∙ faces-after t.level 2

  -- there is a sharpness for each point
  pub sharp-count : length (child_vertex_sharpness t.level) ≡ total
  sharp-count = omega (
    arith,
    length-append (map (λ v. uniform_child (vertex_sharpness_of t.level v)) (range_with_len 0 points)) (replicate (length polygons + length (edges_of polygons)) Smooth),
    length-map-range_with_len (λ v. uniform_child (vertex_sharpness_of t.level v)) 0 points,
    length-replicate (length polygons + length (edges_of polygons)) Smooth,
  )

  module _ (few : sum_by length t.level.polygons ≤ 2 ^ 22) (short : t.level.point_count ≤ 2 ^ 29) where
    -- the next level with rows for all its points is a level
    whole : (complete : List Bool) (faces at edges ends : List (List ℕ)) → complete ≡ replicate total true → AreRows quads (replicate total true) total faces at edges ends → IsTopology (record { level = child_level t.level; faces_at = faces; edges_at = edges; complete = complete })
    whole complete faces at edges ends marks are = subst (λ (bs : List Bool). IsTopology (record { level = child_level t.level; faces_at = faces; edges_at = edges; complete = bs })) (sym marks) (record {
      formed = levels-well-formed t.level 1 is.formed;
      simple = kids-simple t is;
      sides_once = kids-distinct t is;
      small = record {
        points = omega (arith, short, few, is.small.faces, edges-corners polygons);
        faces = omega (arith, few, child_polygons-length points polygons);
        corners = omega (arith, few, corners-total);
        sizes = λ k d h. four (get_or quads k d) (all-at (is_child points polygons) quads k d h (all-child points polygons (over-of t is) is.simple));
      };
      face_lists = are.face_count;
      edge_lists = are.edge_count;
      marks = length-replicate total true;
      listed = λ v h. record {
        faces = (are.rows v h).faces_are;
        edges = (are.rows v h).edges_are;
        fan = (are.rows v h).fan;
        ascending_faces = (are.rows v h).plain_faces;
        ascending_edges = (are.rows v h).plain_edges;
      };
    })
      where
        four : (q : Polygon) → is_child points polygons q ≡ true → length q ≤ 2 ^ 16
        four q h =
            let shape = and_parts (nat_eq (length q) 4 && is_distinct q) _ h in
            let same = eqb-true (length q) 4 (and_parts (nat_eq (length q) 4) (is_distinct q) shape.0).0 in
            omega (arith, same)

    module _ (n : Slotted) (are : AreChildEdges t.level n) (rows : Rows) (counts : Counts) (rest : without_points rows ≡ without_points (with_child_edges t.level (length n.ends) (with_children t.level (sum_by length t.level.polygons) (no_rows counts t.level.method)))) (put : ArePoints t.level (child_points t.level.point_count t.level.polygons) rows) where
      faces-are : rows.face_vertices ≡ quads
      faces-are = ap (λ (r : Rows). r.face_vertices) rest ∙ take_all (sum_by length polygons) quads (omega (arith, child_polygons-length points polygons))

      face-edges : rows.face_edges ≡ map (face_edges_of quads) quads
      face-edges = ap (λ (r : Rows). r.face_edges) rest ∙ ap (map (face_edges_of quads)) (take_all (sum_by length polygons) quads (omega (arith, child_polygons-length points polygons)))

      holes-are : rows.holes ≡ child_holes t.level
      holes-are = ap (λ (r : Rows). r.holes) rest ∙ take_all (sum_by length polygons) (child_holes t.level) (omega (arith, child_holes-length t.level))

      edge-count : length n.ends ≡ length (edges_of quads)
      edge-count = ap length (ends-all t is n are)

      edges-are : rows.edge_vertices ≡ edges_of quads
      edges-are = ap (λ (r : Rows). r.edge_vertices) rest ∙ take_all (length n.ends) (edges_of quads) (omega (arith, edge-count))

      edge-faces : rows.edge_faces ≡ map (faces_of_edge quads) (edges_of quads)
      edge-faces = ap (λ (r : Rows). r.edge_faces) rest ∙ take_all (length n.ends) (map (faces_of_edge quads) (edges_of quads)) (omega (arith, edge-count, length-map (edges_of quads) (faces_of_edge quads)))

      edge-sharp : rows.edge_sharpness ≡ child_edge_sharpness t.level
      edge-sharp = ap (λ (r : Rows). r.edge_sharpness) rest ∙ take_all (length n.ends) (child_edge_sharpness t.level) (omega (arith, edge-count, length-map (edges_of quads) (sharpness_among (halves_of t.level))))

      vertex-sharp : rows.vertex_sharpness ≡ child_vertex_sharpness t.level
      vertex-sharp = put.sharpness ∙ take_all total (child_vertex_sharpness t.level) (omega (arith, sharp-count))

      point-count : length rows.complete ≡ total
      point-count = ap length put.complete ∙ length-replicate total true

      -- the parts are exactly those of the next level
      pub level-is : (topology_of rows).level ≡ child_level t.level
      level-is = level-same point-count faces-are holes-are edge-sharp vertex-sharp (ap (λ (r : Rows). r.method) rest)

      pub all-put : counts.faces ≡ sum_by length polygons → counts.edges ≡ length n.ends → AreAllPut rows
      all-put faces edges =
          let same : rows.counts ≡ counts = ap (λ (r : Rows). r.counts) rest in
          record {
            faces = ap length faces-are ∙ child_polygons-length points polygons ∙ sym (ap (λ (k : Counts). k.faces) same ∙ faces);
            edges = ap length edges-are ∙ sym edge-count ∙ sym (ap (λ (k : Counts). k.edges) same ∙ edges);
            points = point-count ∙ sym put.point_total;
          }

      -- the lists are those of a level
      pub rows-of-level : AreOfLevel rows
      rows-of-level = record {
        topology = subst (λ (l : Level). IsTopology (record { level = l; faces_at = rows.vertex_faces; edges_at = rows.vertex_edges; complete = rows.complete })) (sym level-is) (whole rows.complete rows.vertex_faces rows.vertex_faces_at rows.vertex_edges rows.vertex_edges_at put.complete put.rows_are);
        face_edges = face-edges ∙ ap (λ qs. map (face_edges_of qs) qs) (sym faces-are);
        edge_vertices = edges-are ∙ ap edges_of (sym faces-are);
        edge_faces = edge-faces ∙ ap (λ qs. map (faces_of_edge qs) (edges_of qs)) (sym faces-are);
        faces_listed = put.rows_are.at_count ∙ sym point-count;
        edges_listed = put.rows_are.end_count ∙ sym point-count;
        corners = λ v h. (put.rows_are.rows v (omega (arith, h, point-count))).corners_are ∙ ap (λ qs. map (corner_of qs v) (get_or rows.vertex_faces v [])) (sym faces-are);
        ends = λ v h. (put.rows_are.rows v (omega (arith, h, point-count))).ends_are ∙ ap (λ qs. map (end_of qs v) (get_or rows.vertex_edges v [])) (sym faces-are);
      }
