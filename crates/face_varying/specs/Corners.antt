-- The corners of all faces, one after another, with the channel point of each and its number.
use Rattle.std.specs.Prelude.{ℕ, ◌≡◌, ◌<◌, Bool, ◌||◌, nat_eq, List, length, map, get_or, ◌↔◌}
use Rattle.std.specs.List.{All, flat_map, position_or_len, enumerate_from}
use Rattle.subdiv_model.specs.Lists.{each_once_by}
use Rattle.subdiv_model.specs.Polygons.{same_side}
use Rattle.subdiv_model.specs.Edges.{edges_of, is_boundary}
use Rattle.subdiv_model.specs.ObjMesh.{ObjMesh}
use Rattle.subdiv_model.specs.Cut.{is_seam, channel_point, channel_points}

-- the faces on the two sides of the edge are apart: the edge has one face or is a seam
abbrev pub is_apart : ObjMesh → ℕ × ℕ → Bool
is_apart mesh edge = is_boundary mesh.faces edge || is_seam mesh edge

-- for each edge whether its faces are apart
abbrev pub apart_marks : ObjMesh → List Bool
apart_marks mesh = map (is_apart mesh) (edges_of mesh.faces)

-- the channel point of each corner
abbrev pub corner_points : ObjMesh → List (ℕ × ℕ)
corner_points mesh = flat_map (λ face. map (channel_point mesh face.0) face.1) (enumerate_from 0 mesh.faces)

-- the number of the channel point of each corner
abbrev pub corner_numbers : ObjMesh → List ℕ
corner_numbers mesh = map (λ point. position_or_len (same_side point) (channel_points mesh)) (corner_points mesh)

-- a label for each item; labels are equal exactly where the items are
pub record AreLabels (items : List (ℕ × ℕ)) (labels : List ℕ) : Type 0 where
  pub each : length labels ≡ length items
  pub within : All (λ label. label < length labels) labels
  pub same : (i j : ℕ) → i < length items → j < length items → (get_or labels i 0 ≡ get_or labels j 0) ↔ (get_or items i (0, 0) ≡ get_or items j (0, 0))

-- each label's place among the labels by first appearance
abbrev pub numbers_of : List ℕ → List ℕ
numbers_of labels = map (λ label. position_or_len (nat_eq label) (each_once_by nat_eq labels)) labels
