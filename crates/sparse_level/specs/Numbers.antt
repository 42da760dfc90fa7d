-- Points numbered by first appearance.
use Rattle.std.specs.Prelude.{ℕ, nat_eq, List, [], ◌∷◌, length, map}
use Rattle.std.specs.List.{position_or_len}
use Rattle.subdiv_model.specs.Lists.{each_once_by}
use Rattle.subdiv_model.specs.Polygons.{Polygon}
use Rattle.subdiv_model.specs.Level.{Level}
use Rattle.sparse_laws.specs.Written.{used_points}
use Rattle.sparse_level.specs.Places.{with_point}

-- for each point its place in a list of points
abbrev pub places_among : List ℕ → List ℕ → List ℕ
places_among points list = map (λ v. position_or_len (nat_eq v) points) list

-- the number of each point of a list, by first appearance in the list
abbrev pub numbers_of : List ℕ → List ℕ
numbers_of list = places_among (each_once_by nat_eq list) list

-- the number of each point: its place among the points before, or their number if it is new
abbrev pub numbers_after : List ℕ → List ℕ → List ℕ
numbers_after earlier [] = []
numbers_after earlier (v ∷ list) = position_or_len (nat_eq v) earlier ∷ numbers_after (with_point earlier v) list

-- the corners of faces as numbers of points, and the number of points
pub record NumberedFaces : Type 0 where
  pub points : ℕ
  pub faces : List Polygon

abbrev pub numbered : ℕ → List Polygon → NumberedFaces
numbered points faces = record { points = points; faces = faces }

abbrev pub numbered_faces : Level → NumberedFaces
numbered_faces level = numbered (length (used_points level)) (map (places_among (used_points level)) level.polygons)
