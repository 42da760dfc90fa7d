-- The 16 points around a regular face, as four rows of four: the corners of nine quads with the face in the middle.
-- Source: Drillolive.
use Rattle.std.specs.Prelude.{ℕ, zero, suc, ◌≡◌, true, ◌+◌, ◌<◌, List, [], ◌∷◌, IsTrue, length, get_or}
use Rattle.std.specs.List.{list_all, position_or_len}
use Rattle.subdiv_model.specs.Polygons.{Polygon, polygon_at, has_side}
use Rattle.subdiv_model.specs.Level.{Level}
use Rattle.subdiv_model.specs.Child.{child_level, face_point, edge_point}
use Rattle.subdiv_model.specs.Patch.{has_patch, is_regular_in_quads, patch_points}
use Rattle.subdiv_model.specs.Sparse.{child_number}
use Rattle.mask_laws.specs.Laws.{IsManifoldWithSharpBoundary}

-- the point in column i of row j
abbrev pub grid_at : List (List ℕ) → ℕ → ℕ → ℕ
grid_at grid i j = get_or (get_or grid j []) i 0

-- the four points of row j
abbrev pub grid_row : List (List ℕ) → ℕ → List ℕ
grid_row grid j = grid_at grid 0 j ∷ grid_at grid 1 j ∷ grid_at grid 2 j ∷ grid_at grid 3 j ∷ []

-- the first four points of each of the first four rows of the grid
abbrev pub listed_grid : List (List ℕ) → List (List ℕ)
listed_grid grid = grid_row grid 0 ∷ grid_row grid 1 ∷ grid_row grid 2 ∷ grid_row grid 3 ∷ []

-- the corners of the quad in the middle
abbrev pub inner_corners : List (List ℕ) → List ℕ
inner_corners grid = grid_at grid 1 1 ∷ grid_at grid 2 1 ∷ grid_at grid 2 2 ∷ grid_at grid 1 2 ∷ []

-- the face is the quad p, q, r, s, listed from any of its corners
pub data IsQuad (polygons : List Polygon) (face p q r s : ℕ) : Type 0 where
  from_first : polygon_at polygons face ≡ p ∷ q ∷ r ∷ s ∷ [] → IsQuad polygons face p q r s
  from_second : polygon_at polygons face ≡ q ∷ r ∷ s ∷ p ∷ [] → IsQuad polygons face p q r s
  from_third : polygon_at polygons face ≡ r ∷ s ∷ p ∷ q ∷ [] → IsQuad polygons face p q r s
  from_fourth : polygon_at polygons face ≡ s ∷ p ∷ q ∷ r ∷ [] → IsQuad polygons face p q r s

-- some face is the quad p, q, r, s
pub record HasQuad (polygons : List Polygon) (p q r s : ℕ) : Type 0 where
  pub face : ℕ
  pub inside : face < length polygons
  pub is : IsQuad polygons face p q r s

-- the quad of the grid whose least column and row are i and j is a face
abbrev pub HasGridQuad : List Polygon → List (List ℕ) → ℕ → ℕ → Type 0
HasGridQuad polygons grid i j = HasQuad polygons (grid_at grid i j) (grid_at grid (i + 1) j) (grid_at grid (i + 1) (j + 1)) (grid_at grid i (j + 1))

-- The grid has four rows of four points. Its nine quads are faces of the level, and the corners of the quad in the middle are
-- regular.
pub record IsGrid (level : Level) (grid : List (List ℕ)) : Type 0 where
  pub listed : grid ≡ listed_grid grid
  pub quads : (i j : ℕ) → i < 3 → j < 3 → HasGridQuad level.polygons grid i j
  pub regular : list_all (is_regular_in_quads level) (inner_corners grid) ≡ true

-- a regular point v with its four quads in order; a to d end its edges, and w to z are the opposite corners
pub record IsStar (level : Level) (v a b c d w x y z : ℕ) : Type 0 where
  pub regular : is_regular_in_quads level v ≡ true
  pub first : HasQuad level.polygons v a w b
  pub second : HasQuad level.polygons v b x c
  pub third : HasQuad level.polygons v c y d
  pub fourth : HasQuad level.polygons v d z a

-- the grid seen from the next corner of the face
abbrev pub turned_grid : List (List ℕ) → List (List ℕ)
turned_grid grid =
    (grid_at grid 3 0 ∷ grid_at grid 3 1 ∷ grid_at grid 3 2 ∷ grid_at grid 3 3 ∷ [])
    ∷ (grid_at grid 2 0 ∷ grid_at grid 2 1 ∷ grid_at grid 2 2 ∷ grid_at grid 2 3 ∷ [])
    ∷ (grid_at grid 1 0 ∷ grid_at grid 1 1 ∷ grid_at grid 1 2 ∷ grid_at grid 1 3 ∷ [])
    ∷ (grid_at grid 0 0 ∷ grid_at grid 0 1 ∷ grid_at grid 0 2 ∷ grid_at grid 0 3 ∷ [])
    ∷ []

-- the grid seen from a later corner of the face, counted from its first
abbrev pub grid_from : ℕ → List (List ℕ) → List (List ℕ)
grid_from zero grid = grid
grid_from (suc c) grid = turned_grid (grid_from c grid)

-- the first face that has the directed edge
abbrev pub face_beside : List Polygon → ℕ × ℕ → ℕ
face_beside polygons side = position_or_len (has_side side) polygons

-- the new point of the quad whose least column and row are i and j
abbrev pub middle_of : Level → List (List ℕ) → ℕ → ℕ → ℕ
middle_of level grid i j = face_point level.point_count (face_beside level.polygons (grid_at grid i j, grid_at grid (i + 1) j))

-- the new point of the edge along the row, from column i of row j
abbrev pub along_of : Level → List (List ℕ) → ℕ → ℕ → ℕ
along_of level grid i j = edge_point level.point_count level.polygons (grid_at grid i j, grid_at grid (i + 1) j)

-- the new point of the edge across the rows, from column i of row j
abbrev pub across_of : Level → List (List ℕ) → ℕ → ℕ → ℕ
across_of level grid i j = edge_point level.point_count level.polygons (grid_at grid i j, grid_at grid i (j + 1))

-- the grid of the child of the first corner
abbrev pub child_grid : Level → List (List ℕ) → List (List ℕ)
child_grid level grid =
    (middle_of level grid 0 0 ∷ across_of level grid 1 0 ∷ middle_of level grid 1 0 ∷ across_of level grid 2 0 ∷ [])
    ∷ (along_of level grid 0 1 ∷ grid_at grid 1 1 ∷ along_of level grid 1 1 ∷ grid_at grid 2 1 ∷ [])
    ∷ (middle_of level grid 0 1 ∷ across_of level grid 1 1 ∷ middle_of level grid 1 1 ∷ across_of level grid 2 1 ∷ [])
    ∷ (along_of level grid 0 2 ∷ grid_at grid 1 2 ∷ along_of level grid 1 2 ∷ grid_at grid 2 2 ∷ [])
    ∷ []

-- the grid of the child of the corner that is c places after the first
abbrev pub corner_grid : Level → ℕ → List (List ℕ) → List (List ℕ)
corner_grid level c grid = child_grid level (grid_from c grid)

-- a face that has a patch, in a manifold whose boundary is infinitely sharp
pub record HasFacePatch (level : Level) (face : ℕ) : Type 0 where
  pub well : IsManifoldWithSharpBoundary level
  pub inside : face < length level.polygons
  pub is : IsTrue (has_patch level face)

-- a grid whose middle quad is the face, in a manifold whose boundary is infinitely sharp
pub record HasGridAbout (level : Level) (face : ℕ) (grid : List (List ℕ)) : Type 0 where
  pub well : IsManifoldWithSharpBoundary level
  pub is : IsGrid level grid
  pub middle : polygon_at level.polygons face ≡ inner_corners grid

-- the points of the patch of the child of a corner
abbrev pub child_patch_points : Level → ℕ → ℕ → List (List ℕ)
child_patch_points level face c = patch_points (child_level level) (child_number level.polygons (face, c))
