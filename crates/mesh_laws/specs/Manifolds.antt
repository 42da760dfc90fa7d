-- Manifolds over a number of points, and closed ones, for the laws of levels.
use Rattle.std.specs.Prelude.{ℕ, List, IsTrue}
use Rattle.subdiv_model.specs.Polygons.{Polygon, is_over}
use Rattle.subdiv_model.specs.Edges.{is_closed}
use Rattle.subdiv_model.specs.Manifold.{IsManifold}

-- each corner is less than `points`, and the polygons are a manifold
pub record IsManifoldOver (points : ℕ) (polygons : List Polygon) : Type 0 where
  pub over : IsTrue (is_over points polygons)
  pub manifold : IsManifold points polygons

-- each corner is less than `points`, the polygons are a manifold, and each edge is in exactly two polygons
pub record IsClosedManifold (points : ℕ) (polygons : List Polygon) : Type 0 where
  pub over : IsTrue (is_over points polygons)
  pub manifold : IsManifold points polygons
  pub closed : IsTrue (is_closed polygons)
