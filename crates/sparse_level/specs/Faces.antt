-- The kinds of faces, and the kept faces, in the terms of the definitions.
use Rattle.std.specs.Prelude.{ℕ, ◌≡◌, ◌<◌, ◌^◌, List, [], length, map, get_or}
use Rattle.std.specs.List.{range_with_len}
use Rattle.subdiv_model.specs.SparseText as model
use Rattle.subdiv_model.specs.SparseText.{WrittenFace, WrittenLevel}
use Rattle.sparse_level.specs.Numbers.{NumberedFaces}
use Rattle.sparse_level.specs.declared.kind.FaceKind.{FaceKind}
use Rattle.sparse_level.specs.declared.kind.FaceKind.TheVariants.{Hole, Outer, Selected, Leaf}

abbrev pub kind_of : FaceKind → model.FaceKind
kind_of Hole = model.HoleFace
kind_of Outer = model.OuterFace
kind_of Selected = model.SelectedFace
kind_of Leaf = model.LeafFace

-- a face with its kind, its number and its corners
abbrev pub written_at : List FaceKind → List ℕ → NumberedFaces → ℕ → WrittenFace
written_at kinds numbers corners f = record { kind = kind_of (get_or kinds f Leaf); number = get_or numbers f 0; corners = get_or corners.faces f [] }

abbrev pub written_of : List FaceKind → List ℕ → NumberedFaces → WrittenLevel
written_of kinds numbers corners = record { point_count = corners.points; faces = map (written_at kinds numbers corners) (range_with_len 0 (length kinds)) }

-- each face has a kind, a number and corners
pub record IsWritten (kinds : List FaceKind) (numbers : List ℕ) (corners : NumberedFaces) : Type 0 where
  pub numbers_listed : length numbers ≡ length kinds
  pub corners_listed : length corners.faces ≡ length kinds
  pub few : length kinds < 2 ^ 32

-- the face with a number
abbrev pub face_at : WrittenLevel → ℕ → WrittenFace
face_at level f = get_or level.faces f (record { kind = model.LeafFace; number = 0; corners = [] })
