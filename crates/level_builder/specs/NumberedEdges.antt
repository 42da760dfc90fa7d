-- The edges of a builder: their keys, their numbers and their faces.
use Rattle.std.specs.Prelude.{ℕ, ◌≡◌, ◌+◌, ◌^◌, ◌<◌, ◌≤◌, nat_le, List, [], ◌∷◌, length, map, if◌then◌else◌}
use Rattle.level_topology.specs.Numbering.{number_in, named_with}

-- The two ends, the lower first.
abbrev pub low_first : ℕ × ℕ → ℕ × ℕ
low_first s = if nat_le s.0 s.1 then s else (s.1, s.0)

-- The edges after these sides, in order.
abbrev pub named_with_all : List (ℕ × ℕ) → List (ℕ × ℕ) → List (ℕ × ℕ)
named_with_all edges [] = edges
named_with_all edges (s ∷ sides) = named_with_all (named_with edges s) sides

-- The numbers of the edges of these sides, in order.
abbrev pub numbers_in : List (ℕ × ℕ) → List (ℕ × ℕ) → List ℕ
numbers_in edges [] = []
numbers_in edges (s ∷ sides) = number_in edges s ∷ numbers_in (named_with edges s) sides

-- The invariant of the tables of edges: the keys are the edges with the lower end first, and there is room for every edge.
pub record IsEdgeTable (keys ends faces : List (ℕ × ℕ)) (sharpness limit key_room end_room face_room sharp_room : ℕ) : Type 0 where
  pub keys_are : keys ≡ map low_first ends
  pub faces_listed : length faces ≡ length ends
  pub sharp_listed : sharpness ≡ length ends
  pub within : length ends ≤ limit
  pub few : limit < 2 ^ 32
  pub key_fit : limit ≤ length ends + key_room
  pub end_fit : limit ≤ end_room
  pub face_fit : limit ≤ face_room
  pub sharp_fit : limit ≤ sharp_room
