-- The faces that are selected at each level, by their numbers only.
-- Source: Drillolive.
use Rattle.std.specs.Prelude.{ℕ, ◌≡◌, ◌<◌, Bool, true, false, not, ◌&&◌, List, [], length, map, get_or}
use Rattle.std.specs.List.{filter, range_with_len}
use Rattle.subdiv_model.specs.Polygons.{is_among}
use Rattle.subdiv_model.specs.Level.{Level, is_hole}
use Rattle.subdiv_model.specs.Child.{refined_level}
use Rattle.subdiv_model.specs.Feature.{FaceFacts, is_selectable}
use Rattle.subdiv_model.specs.SparseText.{FaceKind, HoleFace, OuterFace, SelectedFace, LeafFace, WrittenLevel}

-- the faces of a level that have these numbers and are no holes, ascending
abbrev pub faces_among : Level → List ℕ → List ℕ
faces_among level numbers = filter (λ face. is_among numbers face && not (is_hole level face)) (range_with_len 0 (length level.polygons))

-- `numbers` lists faces for each of `depth` levels from level 0 on. Each list ascends and contains only faces of its level that
-- are no holes.
pub record IsSelection (base : Level) (depth : ℕ) (numbers : List (List ℕ)) : Type 0 where
  pub levels : length numbers ≡ depth
  pub each : (k : ℕ) → k < depth → get_or numbers k [] ≡ faces_among (refined_level base k) (get_or numbers k [])

-- the face is no hole and has one of these numbers
abbrev pub is_chosen : List ℕ → FaceFacts → Bool
is_chosen numbers facts = is_among numbers facts.number && is_selectable facts

-- the face is no hole and has one of the numbers of its level; levels after the last have none
abbrev pub is_chosen_in : List (List ℕ) → FaceFacts → Bool
is_chosen_in numbers facts = is_chosen (get_or numbers facts.level []) facts

-- the kind is that of a selected face
abbrev pub is_selected_kind : FaceKind → Bool
is_selected_kind HoleFace = false
is_selected_kind OuterFace = false
is_selected_kind SelectedFace = true
is_selected_kind LeafFace = false

-- the numbers of the selected faces in the output of a level
abbrev pub selected_numbers : WrittenLevel → List ℕ
selected_numbers level = map (λ face. face.number) (filter (λ face. is_selected_kind face.kind) level.faces)
