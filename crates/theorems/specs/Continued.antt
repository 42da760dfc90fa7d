-- A text that `refine` writes with tags, and the mesh read from it, for the laws of continued refinement.
-- Source: Drillolive.
use Rattle.std.specs.Prelude.{◌≡◌, ℕ, ◌+◌, ◌^◌, ◌≤◌, true, List, None, IsTrue}
use Rattle.std.specs.List.{All, list_all, filter}
use Rattle.subdiv_model.specs.Level.{Level}
use Rattle.subdiv_model.specs.Base.{base_level}
use Rattle.subdiv_model.specs.Child.{refined_level}
use Rattle.subdiv_model.specs.Value.{Value}
use Rattle.subdiv_model.specs.Refined.{Point}
use Rattle.subdiv_model.specs.Short.{IsShortPoint}
use Rattle.subdiv_model.specs.ObjLine.{is_vertex_line}
use Rattle.subdiv_model.specs.ObjMesh.{ObjMesh}
use Rattle.subdiv_model.specs.ReadObj.{obj_lines, read_obj_mesh}
use Rattle.far_model.specs.Command.{Refine, RefineOptions}
use Rattle.far_model.specs.Refusal.{Answer}
use Rattle.far_model.specs.Answer.{answer_of_bytes, points_after, texture_after}
use Rattle.text_laws.specs.Readable.{is_short_point, is_readable_sharpness, IsTextureReadable}

-- the answer of `refine` to the bytes
abbrev pub refined : RefineOptions → List ℕ → Answer
refined options bytes = answer_of_bytes (Refine options) bytes

-- bytes that `refine` accepts, with tags and without decimals
pub record TaggedText : Type 0 where
  pub options : RefineOptions
  pub bytes : List ℕ
  pub exact : options.decimals ≡ None
  pub tagged : options.tags ≡ true
  pub accepted : (refined options bytes).refusal ≡ None

-- the text that `refine` writes for the bytes
abbrev pub tagged_text : TaggedText → List ℕ
tagged_text given = (refined given.options given.bytes).text

-- the mesh of the bytes
abbrev pub first_mesh : TaggedText → ObjMesh
first_mesh given = read_obj_mesh given.bytes 0

-- the mesh of the text
abbrev pub second_mesh : TaggedText → ObjMesh
second_mesh given = read_obj_mesh (tagged_text given) 0

-- the level that the text contains
abbrev pub written_level : TaggedText → Level
written_level given = refined_level (base_level (first_mesh given)) given.options.depth

-- the points that the text contains
abbrev pub written_points : TaggedText → List Point
written_points given = points_after (first_mesh given) given.options.depth

-- the texture values that the text contains if the first mesh has texture
abbrev pub written_texture : TaggedText → List (Value × Value)
written_texture given = texture_after (first_mesh given) given.options.uv given.options.depth

-- no number of the text is too long to be read, as it is written and over the common denominator of its channel
pub record HasShortNumbers (given : TaggedText) : Type 0 where
  pub points : IsTrue (list_all is_short_point (written_points given))
  pub edges : IsTrue (list_all is_readable_sharpness (written_level given).edge_sharpness)
  pub vertices : IsTrue (list_all is_readable_sharpness (written_level given).vertex_sharpness)
  pub common : (second_mesh given).common ≤ 10 ^ 37
  pub numbers : All IsShortPoint (second_mesh given).points
  pub texture : (first_mesh given).has_texture ≡ true → IsTextureReadable (written_texture given) (second_mesh given)

-- `refine` accepts the text at some depth. It accepts the bytes at the depth of the text plus that depth. Both runs are without
-- decimals.
pub record FurtherSteps (given : TaggedText) : Type 0 where
  pub after : RefineOptions
  pub at_once : RefineOptions
  pub depths : at_once.depth ≡ given.options.depth + after.depth
  pub exact_after : after.decimals ≡ None
  pub exact_at_once : at_once.decimals ≡ None
  pub accepted_after : (refined after (tagged_text given)).refusal ≡ None
  pub accepted_at_once : (refined at_once given.bytes).refusal ≡ None

-- the text written after further steps from the text
abbrev pub text_after : {given : TaggedText} → FurtherSteps given → List ℕ
text_after {given} steps = (refined steps.after (tagged_text given)).text

-- the text written after all steps from the bytes
abbrev pub text_at_once : {given : TaggedText} → FurtherSteps given → List ℕ
text_at_once {given} steps = (refined steps.at_once given.bytes).text

-- the `v` lines of a text, each as its words
abbrev pub vertex_lines : List ℕ → List (List (List ℕ))
vertex_lines text = filter is_vertex_line (obj_lines text)
