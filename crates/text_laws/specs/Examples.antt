-- Two quads that share an edge, with a crease, a corner tag, a hole, a negative coordinate and the method `chaikin`.
-- Source: Drillolive.
use Rattle.std.specs.Prelude.{ℕ, pos, negsuc, true, false, List, [], ◌∷◌, ◌++◌, None}
use Rattle.subdiv_model.specs.Sharpness.{Smooth, Semi, Infinite, Chaikin}
use Rattle.subdiv_model.specs.Level.{Level}
use Rattle.subdiv_model.specs.Value.{Value}
use Rattle.subdiv_model.specs.Refined.{Point}
use Rattle.subdiv_model.specs.Text.{mesh_text, tags_text}

-- two quads that share the edge from 1 to 2; the second is a hole
abbrev pub marked_quads : Level
marked_quads = record {
  point_count = 6;
  polygons = (0 ∷ 1 ∷ 2 ∷ 3 ∷ []) ∷ (1 ∷ 4 ∷ 5 ∷ 2 ∷ []) ∷ [];
  holes = false ∷ true ∷ [];
  edge_sharpness = Infinite ∷ Semi 3 2 ∷ Infinite ∷ Infinite ∷ Infinite ∷ Infinite ∷ Infinite ∷ [];
  vertex_sharpness = Smooth ∷ Smooth ∷ Smooth ∷ Smooth ∷ Infinite ∷ Smooth ∷ [];
  method = Chaikin;
}

-- n halves
abbrev pub half : ℕ → Value
half n = record { num = pos n; den = 2 }

-- n + 1 thirds, negative
abbrev pub third_below : ℕ → Value
third_below n = record { num = negsuc n; den = 3 }

-- the points of the two quads
abbrev pub marked_points : List Point
marked_points =
    (half 0, half 0, half 0) ∷ (half 2, half 0, third_below 0) ∷ (half 2, half 1, half 0) ∷ (half 0, half 1, half 0)
    ∷ (half 3, half 0, third_below 5) ∷ (half 4, half 1, half 0) ∷ []

-- the text of the two quads with their tags
abbrev pub marked_text : List ℕ
marked_text = mesh_text None true marked_quads marked_points ++ tags_text marked_quads
