-- The output of a sparse level, from its own faces.
-- Source: Drillolive.
use Rattle.std.specs.Prelude.{ℕ, false, not, nat_eq, List, length, map, get_or, if◌then◌else◌}
use Rattle.std.specs.List.{position_or_len, range_with_len}
use Rattle.subdiv_model.specs.Lists.{each_once_by}
use Rattle.subdiv_model.specs.Polygons.{polygon_at, is_among}
use Rattle.subdiv_model.specs.Level.{Level, is_hole}
use Rattle.subdiv_model.specs.Sparse.{corners_of}
use Rattle.subdiv_model.specs.SparseText.{FaceKind, HoleFace, OuterFace, SelectedFace, LeafFace, WrittenFace, WrittenLevel}
use Rattle.sparse_laws.specs.SparseLevels.{SparseLevel}

-- the kind of a face, where these faces of the level are selected
abbrev pub kind_in : SparseLevel → List ℕ → ℕ → FaceKind
kind_in s selected f =
    if is_hole s.level f then HoleFace
    else if not (get_or s.inner f false) then OuterFace
    else if is_among selected f then SelectedFace
    else LeafFace

-- the corners of the faces of a level, by first appearance
abbrev pub used_points : Level → List ℕ
used_points level = each_once_by nat_eq (corners_of level.polygons)

-- a face of a sparse level as it is written
abbrev pub written_in : SparseLevel → List ℕ → ℕ → WrittenFace
written_in s selected f = record {
  kind = kind_in s selected f;
  number = get_or s.numbers f 0;
  corners = map (λ v. position_or_len (nat_eq v) (used_points s.level)) (polygon_at s.level.polygons f);
}

-- a sparse level as it is written
abbrev pub written_here : SparseLevel → List ℕ → WrittenLevel
written_here s selected = record {
  point_count = length (used_points s.level);
  faces = map (written_in s selected) (range_with_len 0 (length s.level.polygons));
}
