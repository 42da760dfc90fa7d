-- What the reader keeps of a face line, corner by corner.
use Rattle.std.specs.Prelude.{ℕ, ◌≡◌, ◌+◌, true, false, ◌&&◌, List, [], ◌∷◌, ◌++◌, length, map, get_or, Option, Some, None, Result, unwrap_or, MatchResult, if◌then◌else◌}
use Rattle.std.specs.List.{flat_map}
use Rattle.subdiv_model.specs.ObjFault as fault
use Rattle.subdiv_model.specs.ObjWord.{Counts, corner_parts, is_face_corner, same_form, has_texture_part, corner_point, corner_texture, is_past_lists, corner_fault}
use Rattle.obj_tags.specs.declared.corner.Corner.{Corner}
use Rattle.obj_tags.specs.declared.face.Places.{Places}
use Rattle.obj_tags.specs.declared.fault.ObjCause.{ObjCause}
use Rattle.raw_mesh.specs.declared.mesh.Faces.{Faces}
use Rattle.obj_tags.specs.Corner.{HasParts, IsCornerOf}
use Rattle.obj_tags.specs.View.{cause_of}

-- The first corner of the line was read, or is the next word.
abbrev pub IsFirst : Option Corner → List ℕ → List ℕ → Type 0
IsFirst None first word = first ≡ word
IsFirst (Some corner) first word = IsCornerOf corner first

-- The word is a corner of the same form as the first of its line.
abbrev pub IsNextCorner : Result Corner ObjCause → List ℕ → List ℕ → Type 0
IsNextCorner result first word =
    MatchResult result (λ corner. (is_face_corner word && same_form first word ≡ true) × HasParts corner (corner_parts word))
    (λ cause. (is_face_corner word && same_form first word ≡ false) × (cause_of cause ≡ fault.BadCorner))

-- The point of a corner, given the counts of the lines before and of all lines.
abbrev pub named_point : Counts → Counts → List ℕ → ℕ
named_point before whole word = unwrap_or (corner_point before whole word) 0

-- The texture value of a corner as a list; it is empty without one.
abbrev pub named_textures : Counts → Counts → List ℕ → List ℕ
named_textures before whole word = if has_texture_part word then unwrap_or (corner_texture before whole word) 0 ∷ [] else []

-- The value, if it exists, as a list.
abbrev pub list_of : Option ℕ → List ℕ
list_of None = []
list_of (Some x) = x ∷ []

-- The places that a corner names.
pub record ArePlacesOf (places : Places) (before whole : Counts) (word : List ℕ) : Type 0 where
  pub point : places.point ≡ named_point before whole word
  pub texture : list_of places.texture ≡ named_textures before whole word

-- The corner names these places, or names a place past the lists.
abbrev pub NamesPlaces : Result Places ObjCause → Counts → Counts → List ℕ → Type 0
NamesPlaces result before whole word =
    MatchResult result (λ places. (is_past_lists before whole word ≡ false) × ArePlacesOf places before whole word)
    (λ cause. (is_past_lists before whole word ≡ true) × (cause_of cause ≡ fault.IndexRange))

-- One corner is appended.
pub record AddsCorner (places : Places) (old new : Faces) : Type 0 where
  pub corners : new.corners.items ≡ old.corners.items ++ places.point ∷ []
  pub textures : new.texture_corners.items ≡ old.texture_corners.items ++ list_of places.texture

-- The first fault among the corners of a face line.
abbrev pub corners_fault : Counts → Counts → List (List ℕ) → Option fault.ObjCause
corners_fault before whole words = fault.first_cause (corner_fault before whole (get_or words 0 [])) words

-- A face with the corners of these words is appended.
pub record AddsFace (before whole : Counts) (words : List (List ℕ)) (old new : Faces) : Type 0 where
  pub corners : new.corners.items ≡ old.corners.items ++ map (named_point before whole) words
  pub textures : new.texture_corners.items ≡ old.texture_corners.items ++ flat_map (named_textures before whole) words
  pub starts : new.starts.items ≡ old.starts.items ++ (length old.corners.items + length words) ∷ []
