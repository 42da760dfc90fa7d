-- Each quad of a level gives a quad of the next level at each of its corners. The nine quads of a grid give those of a child.
use Rattle.std.proofs.Common.{◌≡◌, ℕ, zero, suc, ◌<◌, true, List, [], ◌∷◌, arith, refl, ap, sym, ◌∙◌}
use Rattle.std.specs.List.{list_all}
use Rattle.subdiv_model.specs.Polygons.{Polygon, polygon_at, has_distinct_sides}
use Rattle.subdiv_model.specs.Edges.{all_sides}
use Rattle.subdiv_model.specs.Manifold.{is_simple}
use Rattle.subdiv_model.specs.Level.{Level}
use Rattle.subdiv_model.specs.Child.{edge_point, face_point, child_polygons, child_level}
use Rattle.mesh_laws.proofs.FanLemmas.{follower-unique, leader-unique, distinct-at}
use Rattle.mesh_laws.proofs.ChildClosedLemmas.{back-point}
use Rattle.mesh_laws.proofs.ChildPlaceLemmas.{child_at}
use Rattle.mesh_laws.proofs.ChildCornerLemmas.{corner-place, corner-self, at-corner}
use Rattle.mask_laws.specs.Laws.{IsManifoldWithSharpBoundary}
use Rattle.limit_laws.proofs.LevelLemmas.{level-over}
use Rattle.grid_laws.specs.Grids.{from_first, HasQuad, HasGridQuad, IsGrid, grid_at, middle_of, child_grid}
use Rattle.grid_laws.proofs.QuadLemmas.{turned-quad, quad-corner, quad-face}
use Rattle.grid_laws.proofs.StarLemmas.{in-side, out-side}
use Rattle.grid_laws.proofs.GridLemmas.{quad-alike, level-simple, level-distinct}

module _ (level : Level) (well : IsManifoldWithSharpBoundary level) where
  abbrev points : ℕ
  points = level.point_count

  abbrev polygons : List Polygon
  polygons = level.polygons

  abbrev simple : list_all is_simple polygons ≡ true
  simple = level-simple level well

  abbrev distinct : has_distinct_sides (all_sides polygons) ≡ true
  distinct = level-distinct level well

  -- the child of a quad at its first corner
  pub child-quad : {p q r s : ℕ} → (quad : HasQuad level.polygons p q r s)
      → HasQuad (child_level level).polygons p (edge_point level.point_count level.polygons (p, q)) (face_point level.point_count quad.face)
      (edge_point level.point_count level.polygons (s, p))
  child-quad {p} {q} {r} {s} quad =
      let k = quad.face in
      let children = child_polygons points polygons in
      let c = at-corner points polygons simple (level-over level well) distinct k p (quad-corner polygons k p q r s quad.is) in
      let place = child_at points polygons k p in
      let next : c.w ≡ q = follower-unique (polygon_at polygons k) p c.w q (distinct-at polygons k simple) c.after (out-side quad) in
      let before : c.u ≡ s = leader-unique (polygon_at polygons k) p c.u s (distinct-at polygons k simple) c.before (in-side quad) in
      record {
        face = place;
        inside = corner-place children place p (corner-self points polygons k p (polygon_at children place) c);
        is =
            from_first (c.is
            ∙ ap (λ (n : ℕ). p ∷ edge_point points polygons (p, n) ∷ face_point points k ∷ edge_point points polygons (c.u, p) ∷ []) next
            ∙ ap (λ (n : ℕ). p ∷ edge_point points polygons (p, q) ∷ face_point points k ∷ edge_point points polygons (n, p) ∷ []) before);
      }

  -- an edge has one new point, named in either direction
  pub edge-back : (a b : ℕ) → edge_point level.point_count level.polygons (a, b) ≡ edge_point level.point_count level.polygons (b, a)
  edge-back a b = back-point points polygons (level-over level well) simple (b, a)

-- the quads of the grid of a child
module _ (level : Level) (well : IsManifoldWithSharpBoundary level) (grid : List (List ℕ)) (is : IsGrid level grid) where
  -- the point of a quad of the grid
  pub quad-middle : (i j : ℕ) (h : i < 3) (k : j < 3) → face_point level.point_count (is.quads i j h k).face ≡ middle_of level grid i j
  quad-middle i j h k = ap (face_point level.point_count) (sym (quad-face level.polygons (level-simple level well) (level-distinct level well) (is.quads i j h k)))

  pub child-quads-of : (i j : ℕ) → i < 3 → j < 3 → HasGridQuad (child_level level).polygons (child_grid level grid) i j
  child-quads-of zero zero h k =
      quad-alike (quad-middle 0 0 (omega arith) (omega arith)) refl refl (edge-back level well (grid_at grid 1 1) (grid_at grid 0 1))
      (turned-quad (turned-quad (child-quad level well (turned-quad (turned-quad (is.quads 0 0 (omega arith) (omega arith)))))))
  child-quads-of (suc zero) zero h k =
      quad-alike (edge-back level well (grid_at grid 1 1) (grid_at grid 1 0)) (quad-middle 1 0 (omega arith) (omega arith)) (edge-back level well (grid_at grid 2 1) (grid_at grid 1 1)) refl
      (turned-quad (child-quad level well (turned-quad (turned-quad (turned-quad (is.quads 1 0 (omega arith) (omega arith)))))))
  child-quads-of (suc (suc zero)) zero h k =
      quad-alike (quad-middle 1 0 (omega arith) (omega arith)) refl refl (edge-back level well (grid_at grid 2 1) (grid_at grid 1 1))
      (turned-quad (turned-quad (child-quad level well (turned-quad (turned-quad (is.quads 1 0 (omega arith) (omega arith)))))))
  child-quads-of zero (suc zero) h k =
      quad-alike refl refl refl (quad-middle 0 1 (omega arith) (omega arith))
      (turned-quad (turned-quad (turned-quad (child-quad level well (turned-quad (is.quads 0 1 (omega arith) (omega arith)))))))
  child-quads-of (suc zero) (suc zero) h k =
      quad-alike refl refl (quad-middle 1 1 (omega arith) (omega arith)) (edge-back level well (grid_at grid 1 2) (grid_at grid 1 1)) (child-quad level well (is.quads 1 1 (omega arith) (omega arith)))
  child-quads-of (suc (suc zero)) (suc zero) h k =
      quad-alike refl refl refl (quad-middle 1 1 (omega arith) (omega arith))
      (turned-quad (turned-quad (turned-quad (child-quad level well (turned-quad (is.quads 1 1 (omega arith) (omega arith)))))))
  child-quads-of zero (suc (suc zero)) h k =
      quad-alike (quad-middle 0 1 (omega arith) (omega arith)) refl refl (edge-back level well (grid_at grid 1 2) (grid_at grid 0 2))
      (turned-quad (turned-quad (child-quad level well (turned-quad (turned-quad (is.quads 0 1 (omega arith) (omega arith)))))))
  child-quads-of (suc zero) (suc (suc zero)) h k =
      quad-alike (edge-back level well (grid_at grid 1 2) (grid_at grid 1 1)) (quad-middle 1 1 (omega arith) (omega arith)) (edge-back level well (grid_at grid 2 2) (grid_at grid 1 2)) refl
      (turned-quad (child-quad level well (turned-quad (turned-quad (turned-quad (is.quads 1 1 (omega arith) (omega arith)))))))
  child-quads-of (suc (suc zero)) (suc (suc zero)) h k =
      quad-alike (quad-middle 1 1 (omega arith) (omega arith)) refl refl (edge-back level well (grid_at grid 2 2) (grid_at grid 1 2))
      (turned-quad (turned-quad (child-quad level well (turned-quad (turned-quad (is.quads 1 1 (omega arith) (omega arith)))))))
  child-quads-of (suc (suc (suc i))) j h k = absurd (omega arith)
  child-quads-of i (suc (suc (suc j))) h k = absurd (omega arith)
