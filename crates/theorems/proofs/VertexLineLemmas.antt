-- The `v` lines that `refine` writes are those of its points.
use Rattle.std.proofs.Common.{◌≡◌, ℕ, Bool, true, false, List, [], ◌++◌, map, zip, None, refl, ap, sym, ◌∙◌, append-nil, if◌then◌else◌}
use Rattle.std.specs.List.{list_all, filter}
use Rattle.std.proofs.lemmas.List.{map-append}
use Rattle.subdiv_model.specs.ObjLine.{is_vertex_line}
use Rattle.subdiv_model.specs.ObjMesh.{ObjMesh}
use Rattle.subdiv_model.specs.ReadObj.{obj_lines}
use Rattle.subdiv_model.specs.Level.{Level, plain_level}
use Rattle.subdiv_model.specs.Value.{Value}
use Rattle.subdiv_model.specs.Refined.{Point}
use Rattle.subdiv_model.specs.Cut.{cut_level}
use Rattle.subdiv_model.specs.Child.{refined_level}
use Rattle.subdiv_model.specs.Text.{shown}
use Rattle.mask_laws.specs.Laws.{mesh_level}
use Rattle.continued_laws.specs.Laws.{point_lines}
use Rattle.text_laws.specs.Laws.{Line, text_of, words_of, is_plain_line}
use Rattle.text_laws.specs.MeshLines.{vertex_line, texture_value_line, polygon_line, textured_polygon_line, tag_lines, lines_of_faces, mesh_lines, textured_mesh_lines}
use Rattle.text_laws.proofs.ListLemmas.{kept-all, kept-none, kept-both, map-twice}
use Rattle.text_laws.proofs.KeptLemmas.{vertex_words, texture_words, split-words, vertices-kept}
use Rattle.text_laws.proofs.ReadMeshLemmas.{corner_words}
use Rattle.text_laws.proofs.LineLemmas.{lines-back, both-back}
use Rattle.text_laws.proofs.PlainLemmas.{mesh-plain, textured_mesh-plain, tags-plain}
use Rattle.text_laws.proofs.MeshTextLemmas.{mesh-text, textured_mesh-text, tags-text}
use Rattle.far_model.specs.Command.{Refine, RefineOptions}
use Rattle.far_model.specs.Answer.{seams_of, points_after, texture_after, written_tags, command_text}
use Rattle.theorems.specs.Continued.{vertex_lines}
use Rattle.theorems.proofs.WrittenMeshLemmas.{plain-text, textured-text}

-- the lines of the tags, where they are written
abbrev asked_lines : Bool → Level → List Line
asked_lines tags level = if tags then tag_lines level else []

asked-text : (tags : Bool) (level : Level) → written_tags tags level ≡ text_of (asked_lines tags level)
asked-text true level = tags-text level
asked-text false level = refl

asked-plain : (tags : Bool) (level : Level) → list_all is_plain_line (asked_lines tags level) ≡ true
asked-plain true level = tags-plain level
asked-plain false level = refl

-- no tag line is a `v` line
tags-none : (level : Level) → filter is_vertex_line (map words_of (tag_lines level)) ≡ []
tags-none level = ap (filter is_vertex_line) (split-words [] [] corner_words [] level) ∙ vertices-kept [] [] corner_words [] level

asked-none : (tags : Bool) (level : Level) → filter is_vertex_line (map words_of (asked_lines tags level)) ≡ []
asked-none true level = tags-none level
asked-none false level = refl

-- the `v` lines of a mesh are the lines of its points
faces-vertices : {Face : Type 0} (points : List Point) (texture : List (Value × Value)) (face_line : Face → Line) (faces : List Face)
    → ((face : Face) → is_vertex_line (words_of (face_line face)) ≡ false)
    → filter is_vertex_line (map words_of (lines_of_faces points texture face_line faces)) ≡ map vertex_words points
faces-vertices points texture face_line faces none =
    let first = map vertex_line points in
    let second = map texture_value_line texture in
    let third = map face_line faces in
    ap (filter is_vertex_line) (map-append words_of first (second ++ third) ∙ ap (λ l. map words_of first ++ l) (map-append words_of second third))
    ∙ kept-both is_vertex_line (map words_of first) (map words_of second ++ map words_of third) (map vertex_words points) []
    (ap (filter is_vertex_line) (map-twice vertex_line words_of points) ∙ kept-all is_vertex_line vertex_words (λ p. refl) points)
    (kept-both is_vertex_line (map words_of second) (map words_of third) [] []
    (ap (filter is_vertex_line) (map-twice texture_value_line words_of texture) ∙ kept-none is_vertex_line texture_words (λ p. refl) texture)
    (ap (filter is_vertex_line) (map-twice face_line words_of faces) ∙ kept-none is_vertex_line (λ face. words_of (face_line face)) none faces))
    ∙ append-nil (map vertex_words points)

-- the vertex lines of a text of lines and tags
text-vertices : (text : List ℕ) (lines : List Line) (points : List Point) (tags : Bool) (level : Level) → text ≡ text_of lines
    → list_all is_plain_line lines ≡ true → filter is_vertex_line (map words_of lines) ≡ map vertex_words points
    → vertex_lines (text ++ written_tags tags level) ≡ map vertex_words points
text-vertices text lines points tags level same plain kept =
    ap (λ t. vertex_lines (t ++ written_tags tags level)) same
    ∙ ap (λ t. vertex_lines (text_of lines ++ t)) (asked-text tags level)
    ∙ ap (filter is_vertex_line) (both-back lines (asked_lines tags level) plain (asked-plain tags level))
    ∙ kept-both is_vertex_line (map words_of lines) (map words_of (asked_lines tags level)) (map vertex_words points) [] kept (asked-none tags level)
    ∙ append-nil (map vertex_words points)

-- the text of points is read back as their words
points-back : (points : List Point) → obj_lines (point_lines points) ≡ map vertex_words points
points-back points =
    let none = plain_level 0 [] in
    let lines = mesh_lines true none points in
    ap obj_lines (sym (append-nil (point_lines points)) ∙ mesh-text true none points)
    ∙ lines-back lines (mesh-plain true none points)
    ∙ ap (map words_of) (append-nil (map vertex_line points))
    ∙ map-twice vertex_line words_of points

module _ (options : RefineOptions) (mesh : ObjMesh) (exact : options.decimals ≡ None) where
  abbrev level : Level
  level = mesh_level mesh options.depth

  abbrev cut : Level
  cut = refined_level (cut_level (seams_of options.uv) mesh) options.depth

  abbrev points : List Point
  points = points_after mesh options.depth

  abbrev texture : List (Value × Value)
  texture = texture_after mesh options.uv options.depth

  written-points : vertex_lines (command_text (Refine options) mesh) ≡ map vertex_words points
  written-points = go mesh.has_texture refl
    where
      go : (b : Bool) → mesh.has_texture ≡ b → vertex_lines (command_text (Refine options) mesh) ≡ map vertex_words points
      go true some =
          ap vertex_lines (textured-text options mesh exact some)
          ∙ text-vertices _ (textured_mesh_lines options.tags level points cut texture) points options.tags level
          (textured_mesh-text options.tags level points cut texture) (textured_mesh-plain options.tags level points cut texture)
          (faces-vertices points texture textured_polygon_line (shown options.tags level (zip level.polygons cut.polygons)) (λ face. refl))
      go false none =
          ap vertex_lines (plain-text options mesh exact none)
          ∙ text-vertices _ (mesh_lines options.tags level points) points options.tags level (mesh-text options.tags level points)
          (mesh-plain options.tags level points) (faces-vertices points [] polygon_line (shown options.tags level level.polygons) (λ face. refl))

  -- the `v` lines are those of the points
  pub written-vertices : vertex_lines (command_text (Refine options) mesh) ≡ obj_lines (point_lines points)
  written-vertices = written-points ∙ sym (points-back points)
