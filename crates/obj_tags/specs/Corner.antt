-- A corner of a face line, as the reader keeps it.
use Rattle.std.specs.Prelude.{ℕ, ℤ, ◌≡◌, List, [], get_or, Option, nat_eq, length, true, false, MatchOption}
use Rattle.subdiv_model.specs.Index.{is_index, nearest_index}
use Rattle.subdiv_model.specs.ObjWord.{is_empty, are_corner_parts, corner_parts, is_face_corner}
use Rattle.obj_tags.specs.declared.corner.Corner.{Corner}

-- The index that a word spells, or the nearest one in 64 bits.
pub record IsIndexOf (index : ℤ) (word : List ℕ) : Type 0 where
  pub is : is_index word ≡ true
  pub says : index ≡ nearest_index word

-- The texture index that a part spells, if the part is not empty.
abbrev pub IsTextureOf : Option ℤ → List ℕ → Type 0
IsTextureOf texture part =
    MatchOption texture (is_empty part ≡ true) (λ t. (is_empty part ≡ false) × (t ≡ nearest_index part))

-- The indices of a corner, and whether it has a normal.
pub record HasParts (corner : Corner) (parts : List (List ℕ)) : Type 0 where
  pub vertex : corner.vertex ≡ nearest_index (get_or parts 0 [])
  pub texture : IsTextureOf corner.texture (get_or parts 1 [])
  pub normal : corner.has_normal ≡ nat_eq (length parts) 3

-- The corner of these parts, if they are the parts of a corner.
abbrev pub IsReadAs : Option Corner → List (List ℕ) → Type 0
IsReadAs read parts =
    MatchOption read (are_corner_parts parts ≡ false) (λ corner. (are_corner_parts parts ≡ true) × HasParts corner parts)

-- The corner of a word.
pub record IsCornerOf (corner : Corner) (word : List ℕ) : Type 0 where
  pub is : is_face_corner word ≡ true
  pub parts : HasParts corner (corner_parts word)
