-- The content of a builder of levels before points are marked.
use Rattle.std.specs.Prelude.{ℕ, ◌≡◌, false, List, replicate}
use Rattle.subdiv_model.specs.Polygons.{Polygon}
use Rattle.point_fans.specs.Built.{Built}

-- the builder has these faces over this many points, none of which is marked
pub record IsUnmarked (built : Built) (points : ℕ) (polygons : List Polygon) : Type 0 where
  pub faces : built.level.polygons ≡ polygons
  pub count : built.level.point_count ≡ points
  pub marks : built.complete ≡ replicate points false
