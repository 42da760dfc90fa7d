-- The texts of a mesh are the texts of its lines, and are read back as these.
use Rattle.std.proofs.Common.{◌≡◌, ℕ, Bool, List, [], ◌∷◌, ◌++◌, map, zip, refl, ap, sym, ◌∙◌, append-nil}
use Rattle.std.specs.Prelude.{None}
use Rattle.std.specs.List.{flat_map}
use Rattle.std.proofs.lemmas.List.{map-append}
use Rattle.std.proofs.lemmas.List.Folds.{flat_map-map}
use Rattle.subdiv_model.specs.Sharpness.{Method, Normal, Chaikin}
use Rattle.subdiv_model.specs.Level.{Level}
use Rattle.subdiv_model.specs.Value.{Value}
use Rattle.subdiv_model.specs.Refined.{Point}
use Rattle.subdiv_model.specs.ReadObj.{obj_lines}
use Rattle.subdiv_model.specs.Text.{line_text, point_line, texture_line, shown, mesh_text, textured_mesh_text, method_line, crease_line, corner_tag_line, hole_line, tags_text}
use Rattle.text_laws.specs.Laws.{Line, text_of, words_of}
use Rattle.text_laws.specs.MeshLines.{vertex_line, texture_value_line, polygon_line, textured_polygon_line, mode_tag, method_tags, crease_tag, vertex_tag, hole_tag, written_edges, written_vertices, written_holes, tag_lines, mesh_lines, textured_mesh_lines}
use Rattle.text_laws.proofs.LineLemmas.{both-texts, both-back}
use Rattle.text_laws.proofs.PlainLemmas.{mesh-plain, textured_mesh-plain, tags-plain}

abbrev text_of_line : Line → List ℕ
text_of_line line = line_text line.0 line.1

-- the text of lines that a function makes
made-text : {X : Type 0} (make : X → Line) (xs : List X) → text_of (map make xs) ≡ flat_map (λ x. text_of_line (make x)) xs
made-text make xs = flat_map-map text_of_line make xs

pub mesh-text : (holes : Bool) (level : Level) (points : List Point) → mesh_text None holes level points ≡ text_of (mesh_lines holes level points)
mesh-text holes level points =
    let faces = shown holes level level.polygons in
    sym (both-texts (map vertex_line points) (map polygon_line faces)
    ∙ ap (λ text. text ++ text_of (map polygon_line faces)) (made-text vertex_line points)
    ∙ ap (λ text. flat_map (point_line None) points ++ text) (made-text polygon_line faces))

pub textured_mesh-text : (holes : Bool) (level : Level) (points : List Point) (cut : Level) (texture : List (Value × Value))
    → textured_mesh_text None holes level points cut texture ≡ text_of (textured_mesh_lines holes level points cut texture)
textured_mesh-text holes level points cut texture =
    let faces = shown holes level (zip level.polygons cut.polygons) in
    let values = map texture_value_line texture in
    let polygons = map textured_polygon_line faces in
    sym (both-texts (map vertex_line points) (values ++ polygons)
    ∙ ap (λ text. text ++ text_of (values ++ polygons)) (made-text vertex_line points)
    ∙ ap (λ text. flat_map (point_line None) points ++ text) (both-texts values polygons)
    ∙ ap (λ text. flat_map (point_line None) points ++ (text ++ text_of polygons)) (made-text texture_value_line texture)
    ∙ ap (λ text. flat_map (point_line None) points ++ (flat_map (texture_line None) texture ++ text)) (made-text textured_polygon_line faces))

methods-text : (method : Method) → text_of (method_tags method) ≡ method_line method
methods-text Normal = refl
methods-text Chaikin = append-nil (method_line Chaikin)

-- the text of two lists of lines, by the text of each
joined-text : (xs ys : List Line) (first second : List ℕ) → text_of xs ≡ first → text_of ys ≡ second → text_of (xs ++ ys) ≡ first ++ second
joined-text xs ys first second one other =
    both-texts xs ys ∙ ap (λ text. text ++ text_of ys) one ∙ ap (λ text. first ++ text) other

pub tags-text : (level : Level) → tags_text level ≡ text_of (tag_lines level)
tags-text level =
    sym (joined-text (mode_tag ∷ []) _ (text_of_line mode_tag) _ (append-nil (text_of_line mode_tag))
    (joined-text (method_tags level.method) _ (method_line level.method) _ (methods-text level.method)
    (joined-text (map (crease_tag level) (written_edges level)) _ (flat_map (crease_line level) (written_edges level)) _ (made-text (crease_tag level) (written_edges level))
    (joined-text (map (vertex_tag level) (written_vertices level)) (map hole_tag (written_holes level)) (flat_map (corner_tag_line level) (written_vertices level)) (flat_map hole_line (written_holes level))
    (made-text (vertex_tag level) (written_vertices level)) (made-text hole_tag (written_holes level))))))

-- a mesh with its tags is read back as its lines
pub mesh-back : (holes : Bool) (level : Level) (points : List Point)
    → obj_lines (mesh_text None holes level points ++ tags_text level) ≡ map words_of (mesh_lines holes level points ++ tag_lines level)
mesh-back holes level points =
    ap (λ text. obj_lines (text ++ tags_text level)) (mesh-text holes level points)
    ∙ ap (λ text. obj_lines (text_of (mesh_lines holes level points) ++ text)) (tags-text level)
    ∙ both-back (mesh_lines holes level points) (tag_lines level) (mesh-plain holes level points) (tags-plain level)
    ∙ sym (map-append words_of (mesh_lines holes level points) (tag_lines level))

pub textured_mesh-back : (holes : Bool) (level : Level) (points : List Point) (cut : Level) (texture : List (Value × Value))
    → obj_lines (textured_mesh_text None holes level points cut texture ++ tags_text level)
    ≡ map words_of (textured_mesh_lines holes level points cut texture ++ tag_lines level)
textured_mesh-back holes level points cut texture =
    let lines = textured_mesh_lines holes level points cut texture in
    ap (λ text. obj_lines (text ++ tags_text level)) (textured_mesh-text holes level points cut texture)
    ∙ ap (λ text. obj_lines (text_of lines ++ text)) (tags-text level)
    ∙ both-back lines (tag_lines level) (textured_mesh-plain holes level points cut texture) (tags-plain level)
    ∙ sym (map-append words_of lines (tag_lines level))
