-- Origins in a caller's arrays: the lengths of the arrays, and what they contain.
use Rattle.std.specs.Prelude.{ℕ, ◌≡◌, ◌&&◌, Bool, nat_le, length, map, take, drop}
use Rattle.level_walk.specs.Origins.{Origin, OnPoint, OnEdge, OnFace, number_of, Origins}
use Rattle.level_walk.specs.declared.origin_places.OriginCounts.{OriginCounts}
use Rattle.level_walk.specs.declared.origin_places.OriginPlaces.{OriginPlaces}

-- 0 for a point of level 0, 1 for the inside of an edge, 2 for the inside of a face
abbrev pub kind_of : Origin → ℕ
kind_of (OnPoint v) = 0
kind_of (OnEdge e) = 1
kind_of (OnFace f) = 2

-- the number of points and faces
abbrev pub counts_of : Origins → OriginCounts
counts_of origins = record { points = length origins.points; faces = length origins.faces }

abbrev pub are_long_enough : Origins → OriginPlaces → Bool
are_long_enough origins places =
    nat_le (length origins.points) (length places.kinds.now)
    && (nat_le (length origins.points) (length places.numbers.now) && nat_le (length origins.faces) (length places.faces.now))

-- the kind and the number of the origin of each point, and the face of level 0 of each face
pub record IsWritten (origins : Origins) (places : OriginPlaces) : Type 0 where
  pub kinds : take (length origins.points) places.kinds.now ≡ map kind_of origins.points
  pub numbers : take (length origins.points) places.numbers.now ≡ map number_of origins.points
  pub faces : take (length origins.faces) places.faces.now ≡ origins.faces

-- the places behind the written ones are unchanged
pub record IsRestKept (origins : Origins) (old new : OriginPlaces) : Type 0 where
  pub kinds : drop (length origins.points) new.kinds.now ≡ drop (length origins.points) old.kinds.now
  pub numbers : drop (length origins.points) new.numbers.now ≡ drop (length origins.points) old.numbers.now
  pub faces : drop (length origins.faces) new.faces.now ≡ drop (length origins.faces) old.faces.now
