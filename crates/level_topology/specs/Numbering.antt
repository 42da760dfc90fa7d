-- Edges numbered by first appearance, as the sides of each face follow those of the faces before it.
use Rattle.std.specs.Prelude.{ℕ, ◌≡◌, ◌<◌, List, [], ◌∷◌, ◌++◌, length, get_or, slice_set, if◌then◌else◌}
use Rattle.std.specs.List.{list_any, position_or_len}
use Rattle.subdiv_model.specs.Polygons.{Polygon, same_edge}
use Rattle.subdiv_model.specs.Edges.{all_sides, first_named, faces_of_edge}
use Rattle.subdiv_model.specs.Sharpness.{Sharpness, Smooth}
use Rattle.level_topology.specs.View.{faces_of_pair}

-- The edges so far: the ends in the direction of their first appearance, the first and last face, and the sharpness. `limit` is the
-- greatest number of edges.
pub record Numbered : Type 0 where
  pub ends : List (ℕ × ℕ)
  pub faces : List (ℕ × ℕ)
  pub sharpness : List Sharpness
  pub limit : ℕ

-- The edges with these ends, faces and sharpness.
abbrev pub numbered : List (ℕ × ℕ) → List (ℕ × ℕ) → List Sharpness → ℕ → Numbered
numbered ends faces sharpness limit = record { ends = ends; faces = faces; sharpness = sharpness; limit = limit }

-- The number of the edge of a side, or the number of edges if the edge is new.
abbrev pub number_in : List (ℕ × ℕ) → ℕ × ℕ → ℕ
number_in edges s = position_or_len (same_edge s) edges

-- The edges after one more side.
abbrev pub named_with : List (ℕ × ℕ) → ℕ × ℕ → List (ℕ × ℕ)
named_with edges s = if list_any (same_edge s) edges then edges else edges ++ s ∷ []

-- The faces of the edges after one more face at edge e, which has a face already.
abbrev pub with_last_face : ℕ → ℕ → List (ℕ × ℕ) → List (ℕ × ℕ)
with_last_face e face faces = slice_set faces e ((get_or faces e (0, 0)).0, face)

-- The edges after one more side of a face.
abbrev pub with_side : ℕ → Numbered → ℕ × ℕ → Numbered
with_side face n s =
    if list_any (same_edge s) n.ends
    then record { ends = n.ends; faces = with_last_face (number_in n.ends s) face n.faces; sharpness = n.sharpness; limit = n.limit }
    else record { ends = n.ends ++ s ∷ []; faces = n.faces ++ (face, face) ∷ []; sharpness = n.sharpness ++ Smooth ∷ []; limit = n.limit }

-- The edges after these sides of a face, in order.
abbrev pub with_sides : ℕ → Numbered → List (ℕ × ℕ) → Numbered
with_sides face n [] = n
with_sides face n (s ∷ sides) = with_sides face (with_side face n s) sides

-- The faces of an edge before the next face, then that face if one of its sides so far is the edge.
abbrev pub faces_so_far : List Polygon → List (ℕ × ℕ) → ℕ × ℕ → List ℕ
faces_so_far polygons taken edge = faces_of_edge polygons edge ++ (if list_any (same_edge edge) taken then length polygons ∷ [] else [])

-- The edges are those of the polygons and of the sides so far of the next one.
pub record IsNumbering (polygons : List Polygon) (taken : List (ℕ × ℕ)) (n : Numbered) : Type 0 where
  pub ends : n.ends ≡ first_named (all_sides polygons ++ taken)
  pub faces_listed : length n.faces ≡ length n.ends
  pub sharp_listed : length n.sharpness ≡ length n.ends
  pub faces : (e : ℕ) → e < length n.ends → faces_of_pair (get_or n.faces e (0, 0)) ≡ faces_so_far polygons taken (get_or n.ends e (0, 0))
