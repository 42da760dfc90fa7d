-- The terms of the laws of origins.
use Rattle.std.specs.Prelude.{◌<◌, length}
use Rattle.std.specs.List.{All}
use Rattle.subdiv_model.specs.Edges.{edges_of}
use Rattle.subdiv_model.specs.Level.{Level}
use Rattle.level_walk.specs.Origins.{Origin, OnPoint, OnEdge, OnFace, Origins}

-- level 0 has this part
abbrev pub IsPart : Level → Origin → Type 0
IsPart base (OnPoint v) = v < base.point_count
IsPart base (OnEdge e) = e < length (edges_of base.polygons)
IsPart base (OnFace f) = f < length base.polygons

-- level 0 has all parts that the origins name
pub record AreParts (base : Level) (origins : Origins) : Type 0 where
  pub points : All (IsPart base) origins.points
  pub edges : All (IsPart base) origins.edges
  pub faces : All (λ f. f < length base.polygons) origins.faces
