-- The lists of the next level with one point more.
use Rattle.std.proofs.Common.{◌≡◌, ℕ, ◌+◌, ◌*◌, ◌<◌, ◌≤◌, Bool, true, false, not, nat_eq, nat_lt, List, [], ◌∷◌, ◌++◌, length, map, take, get_or, replicate, arith, refl, ap, sym, ◌∙◌, subst}
use Rattle.std.specs.List.{list_all, count_by, sum_by}
use Rattle.std.proofs.lemmas.Bool.Decides.{nat_tests}
use Rattle.std.proofs.lemmas.Bool.{and_parts, and_from}
use Rattle.std.proofs.lemmas.List.{take_more, get_or-replicate}
use Rattle.std.proofs.lemmas.List.Sorted.{length_permutation}
use Rattle.subdiv_model.specs.Polygons.{Polygon, has_corner, is_among, is_distinct}
use Rattle.subdiv_model.specs.Lists.{places_from}
use Rattle.subdiv_model.specs.Edges.{edges_of, faces_of_point}
use Rattle.subdiv_model.specs.Sharpness.{Sharpness, Smooth}
use Rattle.subdiv_model.specs.Child.{child_points, child_vertex_sharpness}
use Rattle.number_laws.proofs.CountLemmas.{count-append, count-some, count-none}
use Rattle.mesh_laws.proofs.SideLemmas.{distinct-number-count}
use Rattle.level_topology.specs.Topology.{Topology, IsTopology, edge_numbers_at}
use Rattle.level_topology.specs.PointRows.{IsRow}
use Rattle.level_topology.specs.ListPlaces.{joined, pair_list, lists_with}
use Rattle.level_topology.specs.Rows.{Rows, with_vertex}
use Rattle.level_topology.proofs.ListPlaceLemmas.{joined-length, pairs-total, replicate-push}
use Rattle.level_topology.proofs.ListPlaceLemmas.{faces-distinct, ends-distinct}
use Rattle.level_topology.proofs.PointRowLemmas.{below-more, below-none, count-le, sum-push, rows-push, rows-none}
use Rattle.level_topology.proofs.TurnLemmas.{edges-listed}
use Rattle.uniform_refiner.specs.Points.{ArePoints, children_of, without_points}
use Rattle.uniform_refiner.proofs.PointLemmas.{kids-simple}

-- a number is in as many lists without repetition as it has places among all their items
lists-count : (v place : ℕ) (lists : List Polygon) → list_all is_distinct lists ≡ true → length (places_from place (has_corner v) lists) ≡ count_by (nat_eq v) (joined lists)
lists-count v place [] h = refl
lists-count v place (list ∷ lists) h =
    let parts = and_parts (is_distinct list) (list_all is_distinct lists) h in
    go (is_among list v) refl (lists-count v (place + 1) lists parts.1) (distinct-number-count v list parts.0)
  where
    go : (b : Bool) → is_among list v ≡ b → length (places_from (place + 1) (has_corner v) lists) ≡ count_by (nat_eq v) (joined lists) → count_by (nat_eq v) list ≤ 1 → length (places_from place (has_corner v) (list ∷ lists)) ≡ count_by (nat_eq v) (joined (list ∷ lists))
    go true e behind once = rw e (omega (arith, behind, once, count-some (nat_eq v) list e, count-append (nat_eq v) list (joined lists)))
    go false e behind once = rw e (omega (arith, behind, count-none (nat_eq v) list e, count-append (nat_eq v) list (joined lists)))

-- the lists at a point take the memory of its places
row-fits : (v sum : ℕ) (lists : List Polygon) (row : List ℕ) → list_all is_distinct lists ≡ true → sum ≡ count_by (λ x. nat_lt x v) (joined lists) → length row ≡ length (lists_with lists v) → (sum + length row ≡ count_by (λ x. nat_lt x (v + 1)) (joined lists)) × (sum + length row ≤ sum_by length lists)
row-fits v sum lists row distinct e count =
    let own = lists-count v 0 lists distinct in
    let more = below-more (joined lists) v in
    (omega (arith, own, e, count, more), omega (arith, own, e, count, more, joined-length lists, count-le (λ x. nat_lt x (v + 1)) (joined lists)))

pairs-distinct : (ends : List (ℕ × ℕ)) → list_all (λ s. not (nat_eq s.0 s.1)) ends ≡ true → list_all is_distinct (map pair_list ends) ≡ true
pairs-distinct [] h = refl
pairs-distinct (s ∷ ends) h =
    let parts = and_parts (not (nat_eq s.0 s.1)) (list_all (λ u. not (nat_eq u.0 u.1)) ends) h in
    let behind = pairs-distinct ends parts.1 in
    let here : is_distinct (pair_list s) ≡ true = pair s parts.0 in
    and_from _ _ here behind
  where
    pair : (s : ℕ × ℕ) → not (nat_eq s.0 s.1) ≡ true → is_distinct (pair_list s) ≡ true
    pair s apart = grind (arith, nat_tests)

-- the same row for lists that are equal to these
pub row-moved : (polygons : List Polygon) (v : ℕ) (faces at edges ends faces' at' edges' ends' : List ℕ) → faces' ≡ faces → at' ≡ at → edges' ≡ edges → ends' ≡ ends → IsRow polygons v true faces at edges ends → IsRow polygons v true faces' at' edges' ends'
row-moved polygons v faces at edges ends faces' at' edges' ends' f a e n row =
    subst (λ k. IsRow polygons v true faces' at' edges' k) (sym n) (subst (λ k. IsRow polygons v true faces' at' k ends) (sym e) (subst (λ k. IsRow polygons v true faces' k edges ends) (sym a) (subst (λ k. IsRow polygons v true k at edges ends) (sym f) row)))

module _ (t : Topology) (is : IsTopology t) where
  abbrev quads : List Polygon
  quads = children_of t.level

  -- there is memory for the lists of one more point
  pub point-fits : (v : ℕ) (rows : Rows) (faces at edges ends : List ℕ) → ArePoints t.level v rows → IsRow quads v true faces at edges ends
      → ((sum_by length rows.vertex_faces + length faces ≡ count_by (λ x. nat_lt x (v + 1)) (joined quads)) × (sum_by length rows.vertex_faces + length faces ≤ rows.counts.face_places))
      × ((sum_by length rows.vertex_edges + length edges ≡ count_by (λ x. nat_lt x (v + 1)) (joined (map pair_list (edges_of quads)))) × (sum_by length rows.vertex_edges + length edges ≤ rows.counts.edge_places))
  point-fits v rows faces at edges ends are row =
      let one = row-fits v (sum_by length rows.vertex_faces) quads faces (faces-distinct quads (kids-simple t is)) are.face_sum (length_permutation (faces_of_point quads v) faces row.faces_are) in
      let two = row-fits v (sum_by length rows.vertex_edges) (map pair_list (edges_of quads)) edges (pairs-distinct (edges_of quads) (ends-distinct quads (edges_of quads) (kids-simple t is) refl)) are.edge_sum (length_permutation (edge_numbers_at quads v) edges row.edges_are ∙ ap length (sym (edges-listed quads v))) in
      ((one.0, omega (arith, one.1, are.face_total)), (two.0, omega (arith, two.1, are.edge_total, pairs-total (edges_of quads))))

  -- a point more
  pub points-step : (v : ℕ) (rows next : Rows) (faces at edges ends : List ℕ) (sharp : Sharpness) → ArePoints t.level v rows → v < child_points t.level.point_count t.level.polygons → length (child_vertex_sharpness t.level) ≡ child_points t.level.point_count t.level.polygons
      → IsRow quads v true faces at edges ends → sharp ≡ get_or (child_vertex_sharpness t.level) v Smooth → next ≡ with_vertex faces at edges ends sharp true rows → ArePoints t.level (v + 1) next
  points-step v rows next faces at edges ends sharp are low long row s made =
      let fits = point-fits v rows faces at edges ends are row in
      let mark : get_or (replicate (child_points t.level.point_count t.level.polygons) true) v false ≡ true = get_or-replicate (child_points t.level.point_count t.level.polygons) v true false low in
      subst (λ r. ArePoints t.level (v + 1) r) (sym made) (record {
        rows_are = rows-push quads (replicate (child_points t.level.point_count t.level.polygons) true) v rows.vertex_faces rows.vertex_faces_at rows.vertex_edges rows.vertex_edges_at are.rows_are (subst (λ b. IsRow quads v b faces at edges ends) (sym mark) row) refl refl refl refl;
        sharpness = ap (λ xs. xs ++ sharp ∷ []) are.sharpness ∙ ap (λ x. take v (child_vertex_sharpness t.level) ++ x ∷ []) s ∙ sym (take_more (child_vertex_sharpness t.level) v Smooth (omega (arith, low, long)));
        complete = ap (λ xs. xs ++ true ∷ []) are.complete ∙ sym (replicate-push v true);
        face_sum = sum-push rows.vertex_faces (rows.vertex_faces ++ faces ∷ []) faces refl ∙ fits.0.0;
        edge_sum = sum-push rows.vertex_edges (rows.vertex_edges ++ edges ∷ []) edges refl ∙ fits.1.0;
        point_total = are.point_total;
        face_total = are.face_total;
        edge_total = are.edge_total;
      })

  -- before the first one
  pub points-none : (rows : Rows) → rows ≡ without_points rows → rows.counts.points ≡ child_points t.level.point_count t.level.polygons → rows.counts.face_places ≡ sum_by length quads → rows.counts.edge_places ≡ 2 * length (edges_of quads) → ArePoints t.level 0 rows
  points-none rows none points faces edges = record {
    rows_are = rows-none quads (replicate (child_points t.level.point_count t.level.polygons) true) rows.vertex_faces rows.vertex_faces_at rows.vertex_edges rows.vertex_edges_at (ap (λ (r : Rows). r.vertex_faces) none) (ap (λ (r : Rows). r.vertex_faces_at) none) (ap (λ (r : Rows). r.vertex_edges) none) (ap (λ (r : Rows). r.vertex_edges_at) none);
    sharpness = ap (λ (r : Rows). r.vertex_sharpness) none;
    complete = ap (λ (r : Rows). r.complete) none;
    face_sum = ap (λ (r : Rows). sum_by length r.vertex_faces) none ∙ sym (below-none (joined quads));
    edge_sum = ap (λ (r : Rows). sum_by length r.vertex_edges) none ∙ sym (below-none (joined (map pair_list (edges_of quads))));
    point_total = points;
    face_total = faces;
    edge_total = edges;
  }
