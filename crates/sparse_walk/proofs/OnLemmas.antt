-- Each point that is present in the next level comes from a vertex on a selected face, and each such vertex is complete.
use Rattle.std.proofs.Common.{◌≡◌, ℕ, true, false, nat_lt, List, length, get_or}
use Rattle.std.specs.List.{range_with_len}
use Rattle.std.proofs.lemmas.Bool.{and_parts, ltb-true}
use Rattle.subdiv_model.specs.Polygons.{Polygon, has_corner, is_among, polygon_at}
use Rattle.subdiv_model.specs.Sparse.{is_on}
use Rattle.mesh_laws.proofs.FanLemmas.{any-number}
use Rattle.sparse_laws.specs.NextSparse.{next_points, vertex_at, vertices_of}
use Rattle.sparse_laws.specs.Selected.{is_selected_in}
use Rattle.sparse_laws.specs.Laws.{SparseRefinement, AgreeingTest, chosen_by}
use Rattle.sparse_laws.proofs.FactLemmas.{kept-pass}
use Rattle.sparse_laws.proofs.SelectedLemmas.{among-all}
use Rattle.sparse_laws.proofs.CornerLemmas.{own-vertex}
use Rattle.sparse_laws.proofs.NextSparseLemmas.{selection}
use Rattle.sparse_laws.proofs.OverflowLemmas.{child-corner}

module _ (kept : SparseRefinement) (by : AgreeingTest kept) where
  abbrev polygons : List Polygon
  polygons = kept.sparse.level.polygons

  -- a vertex on a selected face is complete, since such a face is inner
  pub on-complete : (w : ℕ) → is_on polygons (chosen_by by) w ≡ true → get_or kept.sparse.complete w false ≡ true
  on-complete w on =
      let found = any-number (λ f. has_corner w (polygon_at polygons f)) (chosen_by by) on in
      let passes : is_selected_in by.test kept.sparse found.0 ≡ true =
      among-all (is_selected_in by.test kept.sparse) (chosen_by by) found.0 found.2 (kept-pass (is_selected_in by.test kept.sparse) (range_with_len 0 (length polygons))) in
      kept.is.inside found.0 w (and_parts (get_or kept.sparse.inner found.0 false) _ passes).0 found.1

  -- a vertex on a selected face that a point of the next level comes from
  pub record HasVertexOn (n : ℕ) : Type 0 where
    pub w : ℕ
    pub among : is_among (vertices_of kept.sparse.level n) w ≡ true
    pub on : is_on polygons (chosen_by by) w ≡ true

  pub vertex-on : (n : ℕ) → is_among (next_points kept.sparse.level (chosen_by by)) n ≡ true → HasVertexOn n
  vertex-on n among =
      let found = child-corner (selection kept by) n among in
      let place = found.place in
      let parts = and_parts (nat_lt place.0 (length polygons)) (nat_lt place.1 (length (polygon_at polygons place.0))) found.is in
      record {
        w = vertex_at polygons place;
        among = own-vertex kept.sparse.level kept.is.over place.0 place.1 n (ltb-true _ _ parts.0) (ltb-true _ _ parts.1) found.corner;
        on = found.on;
      }
