-- What the reader kept of the first lines of a text.
use Rattle.std.specs.Prelude.{ℕ, suc, ◌≡◌, ◌+◌, ◌<◌, ◌≤◌, ◌^◌, List, [], length, map, take, drop, get_or, codes, None, Result}
use Rattle.std.specs.List.{flat_map}
use Rattle.std.specs.Option.{option_or}
use Rattle.sharpness_rules.specs.View.{method_of}
use Rattle.subdiv_model.specs.Lists.{places}
use Rattle.subdiv_model.specs.ObjLine.{is_face_line}
use Rattle.subdiv_model.specs.ObjWord.{corner_point}
use Rattle.subdiv_model.specs.ObjTag.{tag_creases, tag_corners, tag_indices}
use Rattle.subdiv_model.specs.ReadObj as model
use Rattle.subdiv_model.specs.ReadObj.{counts_of, values_of, corner_numbers, tags_named, words_fault, fault_at}
use Rattle.obj_tags.specs.Channel.{ArePositions, AreTextureValues}
use Rattle.obj_tags.specs.Face.{named_textures}
use Rattle.obj_tags.specs.Kept.{KeptUnless}
use Rattle.obj_tags.specs.Keyword.{IsKeywordOf}
use Rattle.obj_tags.specs.Line.{Line}
use Rattle.raw_mesh.specs.Mesh.{AreShort, Ascend, pieces}
use Rattle.raw_mesh.specs.View.{boundary_of, crease_of, corner_tag_of}
use Rattle.obj_tags.specs.View as view
use Rattle.obj_tags.specs.declared.face.Counts as face
use Rattle.obj_tags.specs.declared.draft.Draft.{Draft}
use Rattle.obj_tags.specs.declared.fault.LineFault.{LineFault}
use Rattle.obj_tags.specs.declared.line.Keyword.{Keyword}
use Rattle.raw_mesh.specs.declared.mesh.Coordinates.{Coordinates}
use Rattle.raw_mesh.specs.declared.mesh.Faces.{Faces}
use Rattle.raw_mesh.specs.declared.tags.Tags.{Tags}
use Rattle.obj_tags.specs.declared.survey.Survey.{Survey}

-- The texture values that the corners of the line at place i name.
abbrev pub textures_at : List Line → ℕ → List ℕ
textures_at lines i = flat_map (named_textures (counts_of (take i lines)) (counts_of lines)) (values_of (get_or lines i []))

-- The faces are those of the first n lines, given the counts of all lines.
pub record AreFaces (faces : Faces) (lines : List Line) (n : ℕ) : Type 0 where
  pub ascend : Ascend faces.starts.items (length faces.corners.items)
  pub read : pieces faces.starts.items faces.corners.items ≡ map (corner_numbers corner_point lines) (places is_face_line (take n lines))
  pub corners : faces.corners.items ≡ flat_map (corner_numbers corner_point lines) (places is_face_line (take n lines))
  pub texture : faces.texture_corners.items ≡ flat_map (textures_at lines) (places is_face_line (take n lines))

-- The tags are those of the lines.
pub record AreTags (tags : Tags) (lines : List Line) : Type 0 where
  pub creases : map crease_of tags.creases.items ≡ flat_map tag_creases (tags_named (codes "crease") lines)
  pub corners : map corner_tag_of tags.corners.items ≡ flat_map tag_corners (tags_named (codes "corner") lines)
  pub holes : tags.holes.items ≡ flat_map tag_indices (tags_named (codes "hole") lines)
  pub boundary : boundary_of tags.boundary ≡ model.boundary_of lines
  pub method : method_of tags.method ≡ model.method_of lines

-- The draft has the contents of the first n lines, given the survey of all lines.
pub record IsDraftOf (all : Survey) (draft : Draft) (lines : List Line) (n : ℕ) : Type 0 where
  pub positions : ArePositions all.positions.value draft.positions (take n lines)
  pub texture : AreTextureValues all.texture.value draft.texture (take n lines)
  pub faces : AreFaces draft.faces lines n
  pub tags : AreTags draft.tags (take n lines)

-- The coordinates of a draft over the common denominators of all lines.
abbrev pub coordinates_of : Survey → Draft → Coordinates
coordinates_of all draft = record { points = draft.positions.points; scale = all.positions.value; texture = draft.texture.points; texture_scale = all.texture.value }

-- If neither channel has a late line, the kept numbers are short. The late line of a channel is the first at which it is too wide, or else
-- the first with a number that is too long.
abbrev pub HasShortNumbers : Survey → Draft → Type 0
HasShortNumbers all draft =
    option_or all.positions.wide draft.positions.long ≡ None → option_or all.texture.wide draft.texture.long ≡ None → AreShort (coordinates_of all draft)

-- The draft has no more than all lines have, and `more` further corners can be numbered.
pub record HasCapacity (draft : Draft) (all : face.Counts) (more : ℕ) : Type 0 where
  pub points : length draft.positions.points.items ≤ all.point_count
  pub textures : length draft.texture.points.items ≤ all.texture_count
  pub some : 1 ≤ length draft.faces.starts.items
  pub faces : length draft.faces.starts.items ≤ 2 ^ 32
  pub corners : length draft.faces.corners.items + more < 2 ^ 32

-- The line has place n among the lines, and this number, counted from 1.
pub record IsLineAt (all : face.Counts) (number : ℕ) (lines : List Line) (n : ℕ) (line : Line) : Type 0 where
  pub inside : n < length lines
  pub here : get_or lines n [] ≡ line
  pub place : number ≡ suc n
  pub counted : view.counts_of all ≡ counts_of lines

-- A line has these words after its keyword. From the draft of the n lines before it, the line gives the draft of n + 1 lines, or its
-- fault.
abbrev pub KeepsWords : {X : Type 0} → Survey → ℕ → Keyword → List (List ℕ) → Draft → Draft → Result X LineFault → Type 0
KeepsWords all number keyword words old new result =
    (lines : List Line) (n : ℕ) (line : Line) → IsLineAt all.counts number lines n line → IsKeywordOf keyword line → drop 1 line ≡ words
    → IsDraftOf all old lines n → KeptUnless result (words_fault (counts_of (take n lines)) (counts_of lines) line) (λ _. IsDraftOf all new lines (n + 1))

-- From the draft of the n lines before it, a line gives the draft of n + 1 lines, or its fault.
abbrev pub KeepsLine : {X : Type 0} → Survey → ℕ → Line → Draft → Draft → Result X LineFault → Type 0
KeepsLine all number line old new result =
    (lines : List Line) (n : ℕ) → IsLineAt all.counts number lines n line → IsDraftOf all old lines n
    → KeptUnless result (fault_at lines n) (λ _. IsDraftOf all new lines (n + 1))
