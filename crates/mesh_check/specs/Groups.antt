-- Corners sorted by vertex, as groups: those at one vertex, and then those at others.
use Rattle.std.specs.Prelude.{ℕ, ◌≡◌, ◌<◌, ◌≤◌, ◌^◌, Bool, true, not, nat_eq, List, length, map, get_or, drop}
use Rattle.std.specs.List.{filter}
use Rattle.subdiv_model.specs.Polygons.{Polygon, is_among}
use Rattle.subdiv_model.specs.Manifold.{has_one_fan}
use Rattle.mesh_check.specs.declared.turns.Turn.{Turn}
use Rattle.level_builder.specs.Keys.{Rises}
use Rattle.mesh_check.specs.Turns.{turn_key, turns_at}
use Rattle.mesh_check.specs.Group.{IsGroup}

abbrev pub no_turn : Turn
no_turn = record { vertex = 0; before = 0; face = 0; after = 0 }

-- the vertices of corners
abbrev pub vertices : List Turn → List ℕ
vertices turns = map (λ (t : Turn). t.vertex) turns

-- the vertex of the first corner
abbrev pub first_vertex : List Turn → ℕ
first_vertex turns = (get_or turns 0 no_turn).vertex

-- the corners at other vertices
abbrev pub turns_off : ℕ → List Turn → List Turn
turns_off v turns = filter (λ t. not (nat_eq v t.vertex)) turns

-- the corners are a group at the vertex
abbrev pub IsGroupOf : List Polygon → ℕ → List Turn → Type 0
IsGroupOf polygons v group = IsGroup polygons v (map (λ (t : Turn). t.before) group) (map (λ (t : Turn). t.face) group) (map (λ (t : Turn). t.after) group)

-- sorted corners, which contain all corners at each of their vertices
pub record AreGroups (polygons : List Polygon) (turns : List Turn) : Type 0 where
  pub keys : Rises (map turn_key turns)
  pub vertices_rise : Rises (vertices turns)
  pub short : length turns < 2 ^ 32
  pub groups : (v : ℕ) → is_among (vertices turns) v ≡ true → IsGroupOf polygons v (turns_at v turns)

-- whether the faces at the first vertex are one fan, and the number of corners there; the other corners come after these
pub record IsFirstGroup (polygons : List Polygon) (turns : List Turn) (is_fan : Bool) (size : ℕ) : Type 0 where
  pub fan : is_fan ≡ has_one_fan polygons (first_vertex turns)
  pub some : 0 < size
  pub within : size ≤ length turns
  pub behind : drop size turns ≡ turns_off (first_vertex turns) turns
  pub others : AreGroups polygons (drop size turns)
