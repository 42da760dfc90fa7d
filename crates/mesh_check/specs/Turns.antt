-- Each corner of each face with the corners before and after it.
use Rattle.std.specs.Prelude.{ℕ, ◌+◌, ◌-◌, nat_eq, List, [], ◌∷◌, ◌++◌, length, map, get_or}
use Rattle.std.specs.List.{filter}
use Rattle.std.specs.List.Sorted.{IsPermutation}
use Rattle.subdiv_model.specs.Polygons.{Polygon}
use Rattle.mesh_check.specs.declared.turns.Turn.{Turn}
use Rattle.level_builder.specs.Keys.{side_key, Rises}

-- the corners of a path in a face, with one corner before the path and `first` after it
abbrev pub turns_from : ℕ → ℕ → ℕ → Polygon → List Turn
turns_from face first before [] = []
turns_from face first before (v ∷ rest) =
    record { vertex = v; before = before; face = face; after = get_or rest 0 first } ∷ turns_from face first v rest

-- all corners of a face
abbrev pub turns_of : ℕ → Polygon → List Turn
turns_of face polygon = turns_from face (get_or polygon 0 0) (get_or polygon (length polygon - 1) 0) polygon

-- all corners of faces; the first face has this number
abbrev pub turns_after : ℕ → List Polygon → List Turn
turns_after face [] = []
turns_after face (polygon ∷ polygons) = turns_of face polygon ++ turns_after (face + 1) polygons

-- the side that comes to a corner as one number, with the corner in the high half
abbrev pub turn_key : Turn → ℕ
turn_key turn = side_key (turn.vertex, turn.before)

-- the corners at a vertex
abbrev pub turns_at : ℕ → List Turn → List Turn
turns_at v turns = filter (λ turn. nat_eq v turn.vertex) turns

-- all corners of all faces, which ascend by vertex, and at a vertex by the corner before it
pub record AreSortedTurns (polygons : List Polygon) (turns : List Turn) : Type 0 where
  pub moved : IsPermutation (turns_after 0 polygons) turns
  pub keys : Rises (map turn_key turns)
  pub vertices : Rises (map (λ (turn : Turn). turn.vertex) turns)
