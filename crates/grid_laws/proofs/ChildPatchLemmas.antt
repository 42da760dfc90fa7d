-- The four children of a face with a patch have patches, whose points follow from the points of its patch.
use Rattle.std.proofs.Common.{◌≡◌, ℕ, zero, suc, ◌<◌, true, List, [], ◌∷◌, length, get_or, arith, ap, sym, ◌∙◌}
use Rattle.std.proofs.lemmas.List.Sums.{sum_by_more_le}
use Rattle.subdiv_model.specs.Lists.{last_of}
use Rattle.subdiv_model.specs.Polygons.{Polygon, sides_of, polygon_at}
use Rattle.subdiv_model.specs.Level.{Level}
use Rattle.subdiv_model.specs.Child.{edge_point, face_point, child_face, child_level}
use Rattle.subdiv_model.specs.Patch.{has_patch, patch_points}
use Rattle.subdiv_model.specs.Sparse.{child_number}
use Rattle.level_laws.proofs.FaceLemmas.{child_polygons-length, child-stands}
use Rattle.mask_laws.specs.Laws.{IsManifoldWithSharpBoundary}
use Rattle.grid_laws.specs.Grids.{from_first, HasQuad, IsGrid, grid_at, inner_corners, grid_from, face_beside, child_grid}
use Rattle.grid_laws.proofs.QuadLemmas.{turned-quad, quad-face}
use Rattle.grid_laws.proofs.GridLemmas.{level-simple, level-distinct, patch-parts, patch-middle, patch-grid, grid-patch, grid-points, grid-from}
use Rattle.grid_laws.proofs.ChildQuadLemmas.{edge-back}
use Rattle.grid_laws.proofs.NextGridLemmas.{next-well, next-grid}

-- the children of a face with a patch are faces of the next level
pub child-inside : (level : Level) (face c : ℕ) → face < length level.polygons → has_patch level face ≡ true → c < 4
    → child_number level.polygons (face, c) < length (child_level level).polygons
child-inside level face c inside h below =
    let four = (patch-parts level face h).0 in
    let sums = sum_by_more_le length level.polygons face [] inside in
    let all = child_polygons-length level.point_count level.polygons in
    omega (arith, four, sums, all, below)

module _ (level : Level) (well : IsManifoldWithSharpBoundary level) (face : ℕ) (inside : face < length level.polygons) (h : has_patch level face ≡ true) where
  abbrev grid : ℕ → List (List ℕ)
  grid c = grid_from c (patch_points level face)

  abbrev own : HasQuad level.polygons (grid_at (grid 0) 1 1) (grid_at (grid 0) 2 1) (grid_at (grid 0) 2 2) (grid_at (grid 0) 1 2)
  own = record { face = face; inside = inside; is = from_first (patch-middle level face h) }

  -- a child by its face, as the child grid has it
  named : {p q r s : ℕ} → (quad : HasQuad level.polygons p q r s)
      → child_face level.point_count level.polygons quad.face (s, p) (p, q)
      ≡ p ∷ edge_point level.point_count level.polygons (p, q) ∷ face_point level.point_count (face_beside level.polygons (p, q))
      ∷ edge_point level.point_count level.polygons (p, s) ∷ []
  named {p} {q} {r} {s} quad =
      ap (λ n. p ∷ edge_point level.point_count level.polygons (p, q) ∷ face_point level.point_count n ∷ edge_point level.point_count level.polygons (s, p) ∷ [])
      (sym (quad-face level.polygons (level-simple level well) (level-distinct level well) quad))
      ∙ ap (λ n. p ∷ edge_point level.point_count level.polygons (p, q) ∷ face_point level.point_count (face_beside level.polygons (p, q)) ∷ n ∷ [])
      (edge-back level well s p)

  -- the child at a place
  stands : (c : ℕ) → c < 4 → (corners : Polygon) → polygon_at level.polygons face ≡ corners
      → polygon_at (child_level level).polygons (child_number level.polygons (face, c))
      ≡ child_face level.point_count level.polygons face (get_or (last_of (0, 0) (sides_of corners) ∷ sides_of corners) c (0, 0)) (get_or (sides_of corners) c (0, 0))
  stands c below corners e =
      let four = (patch-parts level face h).0 in
      child-stands level.point_count level.polygons face c inside (omega (arith, four, below))
      ∙ ap (λ (p : Polygon). child_face level.point_count level.polygons face (get_or (last_of (0, 0) (sides_of p) ∷ sides_of p) c (0, 0)) (get_or (sides_of p) c (0, 0))) e

  -- the child of a corner is the middle of the child grid from there
  child-middle : (c : ℕ) → c < 4
      → polygon_at (child_level level).polygons (child_number level.polygons (face, c)) ≡ inner_corners (child_grid level (grid c))
  child-middle zero below = stands 0 below (inner_corners (patch_points level face)) (patch-middle level face h) ∙ named own
  child-middle (suc zero) below = stands 1 below (inner_corners (patch_points level face)) (patch-middle level face h) ∙ named (turned-quad own)
  child-middle (suc (suc zero)) below = stands 2 below (inner_corners (patch_points level face)) (patch-middle level face h) ∙ named (turned-quad (turned-quad own))
  child-middle (suc (suc (suc zero))) below =
      stands 3 below (inner_corners (patch_points level face)) (patch-middle level face h) ∙ named (turned-quad (turned-quad (turned-quad own)))
  child-middle (suc (suc (suc (suc c)))) below = absurd (omega arith)

  child-grid : (c : ℕ) → IsGrid (child_level level) (child_grid level (grid c))
  child-grid c = next-grid level well (grid c) (grid-from level (patch_points level face) c (patch-grid level face well inside h))

  pub child-patch : (c : ℕ) → c < 4 → has_patch (child_level level) (child_number level.polygons (face, c)) ≡ true
  child-patch c below = grid-patch (child_level level) (child_number level.polygons (face, c)) (child_grid level (grid c)) (child-grid c) (child-middle c below)

  pub child-points : (c : ℕ) → c < 4
      → patch_points (child_level level) (child_number level.polygons (face, c)) ≡ child_grid level (grid_from c (patch_points level face))
  child-points c below =
      grid-points (child_level level) (child_number level.polygons (face, c)) (child_grid level (grid c)) (next-well level well) (child-grid c) (child-middle c below)
