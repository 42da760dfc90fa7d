-- A mesh that is written with its tags is read back: its points, its faces and its tags.
use Rattle.std.proofs.Common.{◌≡◌, ℕ, ◌+◌, true, not, ◌||◌, nat_eq, List, [], ◌∷◌, ◌++◌, length, map, zip, refl, ap, sym, subst, ◌∙◌}
use Rattle.std.specs.List.{filter, All, list_all, flat_map}
use Rattle.std.proofs.lemmas.Bool.{and_parts, eqb-true}
use Rattle.std.proofs.lemmas.List.{map-id, length-map}
use Rattle.std.proofs.lemmas.List.Sums.{length-filter}
use Rattle.std.proofs.lemmas.Slice.Zip.{firsts-zip}
use Rattle.subdiv_model.specs.Lists.{last_of}
use Rattle.subdiv_model.specs.Polygons.{Polygon, is_over}
use Rattle.subdiv_model.specs.Sharpness.{Normal, is_proper_sharpness}
use Rattle.subdiv_model.specs.Boundary.{EdgeOnly}
use Rattle.subdiv_model.specs.Level.{Level, is_well_formed}
use Rattle.subdiv_model.specs.Value.{Value}
use Rattle.subdiv_model.specs.Refined.{Point}
use Rattle.subdiv_model.specs.NumberText.{number_text}
use Rattle.subdiv_model.specs.ObjLine.{is_vertex_line}
use Rattle.subdiv_model.specs.ObjWord.{vertex_part}
use Rattle.subdiv_model.specs.ObjTag.{tag_creases, tag_corners, tag_indices, tag_mode, tag_method}
use Rattle.subdiv_model.specs.ReadObj.{obj_lines, counts_of, faces_of, mesh_of_lines, position_common, point_over}
use Rattle.subdiv_model.specs.Text.{shown}
use Rattle.text_laws.specs.Laws.{words_of}
use Rattle.text_laws.specs.MeshLines.{polygon_line, tag_lines, lines_of_faces, written_edges, written_vertices, written_holes}
use Rattle.text_laws.specs.ReadMesh.{IsPointOver, HasDenominators, WrittenMesh, written_text, mesh_read, IsReadBack}
use Rattle.text_laws.proofs.ListLemmas.{filter-all, as-many}
use Rattle.text_laws.proofs.KeptLemmas.{Words, vertex_words, all_words, split-words, vertices-kept, faces-kept, modes-kept, methods-kept, creases-kept, corners-kept, holes-kept}
use Rattle.text_laws.proofs.TagLemmas.{creases-back, corners-back, holes-back, method-back}
use Rattle.text_laws.proofs.FaceLemmas.{faces-back, number-vertex}
use Rattle.text_laws.proofs.PointLemmas.{points-back, points-common-positive}
use Rattle.text_laws.proofs.MeshTextLemmas.{mesh-back}
use Rattle.mesh_laws.proofs.FaultLemmas.{all-always}

-- what a well-formed level is
pub record IsWell (level : Level) : Type 0 where
  pub over : is_over level.point_count level.polygons ≡ true
  pub holes : length level.holes ≡ length level.polygons
  pub edges : list_all is_proper_sharpness level.edge_sharpness ≡ true
  pub vertices : list_all is_proper_sharpness level.vertex_sharpness ≡ true

pub well-parts : (level : Level) → is_well_formed level ≡ true → IsWell level
well-parts level h =
    let sixth = and_parts _ (list_all is_proper_sharpness level.vertex_sharpness) h in
    let fifth = and_parts _ (list_all is_proper_sharpness level.edge_sharpness) sixth.0 in
    let fourth = and_parts _ (nat_eq (length level.vertex_sharpness) level.point_count) fifth.0 in
    let third = and_parts _ _ fourth.0 in
    let second = and_parts (is_over level.point_count level.polygons) (nat_eq (length level.holes) (length level.polygons)) third.0 in
    record { over = second.0; holes = eqb-true (length level.holes) (length level.polygons) second.1; edges = fifth.1; vertices = sixth.1 }

-- with holes, all faces are shown
pub shown-all : {X : Type 0} (level : Level) (items : List X) → length level.holes ≡ length items → shown true level items ≡ items
shown-all level items same =
    ap (map (λ item. item.0)) (filter-all (λ item. true || not item.1) (zip items level.holes) (all-always (λ item. true || not item.1) (λ item. refl) (zip items level.holes)))
    ∙ firsts-zip items level.holes same

-- lines of faces whose corners are words, with the tags of a level
module _ {Face : Type 0} (points : List Point) (texture : List (Value × Value)) (corners : Face → List (List ℕ)) (faces : List Face) (level : Level)
    (well : is_well_formed level ≡ true) (counted : length points ≡ level.point_count) where
  abbrev lines : List Words
  lines = all_words points texture corners faces level

  -- a point is counted for each of its lines
  pub points-counted : (counts_of lines).point_count ≡ level.point_count
  points-counted =
      sym (length-filter is_vertex_line lines)
      ∙ ap length (vertices-kept points texture corners faces level)
      ∙ length-map points vertex_words
      ∙ counted

  -- if the corners of the faces are read back, the mesh is
  pub all-back : (least : ℕ) → All HasDenominators points → faces_of lines ≡ level.polygons → IsReadBack level points (mesh_of_lines lines least)
  all-back least positive same =
      let is = well-parts level well in
      let common = position_common least lines in
      let read = points-back lines points least (vertices-kept points texture corners faces level) positive in
      record {
        above_zero = points-common-positive lines points least (vertices-kept points texture corners faces level);
        count = as-many (IsPointOver common) points (map (point_over common) (filter is_vertex_line lines)) read ∙ counted;
        coordinates = read;
        faces = same;
        creases = ap (flat_map tag_creases) (creases-kept points texture corners faces level) ∙ creases-back level (written_edges level) is.edges;
        corner_tags = ap (flat_map tag_corners) (corners-kept points texture corners faces level) ∙ corners-back level (written_vertices level) is.vertices;
        holes = ap (flat_map tag_indices) (holes-kept points texture corners faces level) ∙ holes-back (written_holes level);
        boundary = ap (λ tags. last_of EdgeOnly (map tag_mode tags)) (modes-kept points texture corners faces level);
        method = ap (λ tags. last_of Normal (map tag_method tags)) (methods-kept points texture corners faces level) ∙ method-back level.method;
      }

-- without texture

abbrev pub corner_words : Polygon → List (List ℕ)
corner_words polygon = map (λ corner. number_text (corner + 1)) polygon

abbrev pub plain_words : List Point → Level → List Words
plain_words points level = all_words points [] corner_words level.polygons level

polygons-back : (points : List Point) (level : Level) → is_well_formed level ≡ true → length points ≡ level.point_count
    → faces_of (plain_words points level) ≡ level.polygons
polygons-back points level well counted =
    let lines = plain_words points level in
    let below : is_over (counts_of lines).point_count level.polygons ≡ true =
    ap (λ n. is_over n level.polygons) (points-counted points [] corner_words level.polygons level well counted) ∙ (well-parts level well).over in
    faces-back (λ counts. counts.point_count) vertex_part (λ corner. number_text (corner + 1)) (λ corner. corner) number-vertex lines (λ polygon. polygon) level.polygons
    (faces-kept points [] corner_words level.polygons level) below
    ∙ same level.polygons
  where
    same : (polygons : List Polygon) → map (λ polygon. map (λ corner. corner) polygon) polygons ≡ polygons
    same [] = refl
    same (polygon ∷ polygons) = ap (λ p. p ∷ map (λ q. map (λ corner. corner) q) polygons) (map-id polygon) ∙ ap (λ ps. polygon ∷ ps) (same polygons)

-- the lines that are read of a written mesh
pub lines-read : (mesh : WrittenMesh) → obj_lines (written_text mesh) ≡ plain_words mesh.points mesh.level
lines-read mesh =
    let level = mesh.level in
    mesh-back true level mesh.points
    ∙ ap (λ faces. map words_of (lines_of_faces mesh.points [] polygon_line faces ++ tag_lines level)) (shown-all level level.polygons (well-parts level mesh.well_formed).holes)
    ∙ split-words mesh.points [] corner_words level.polygons level

pub mesh_read-back : (mesh : WrittenMesh) (least : ℕ) → IsReadBack mesh.level mesh.points (mesh_read mesh least)
mesh_read-back mesh least =
    let level = mesh.level in
    subst (λ lines. IsReadBack level mesh.points (mesh_of_lines lines least)) (sym (lines-read mesh))
    (all-back mesh.points [] corner_words level.polygons level mesh.well_formed mesh.counted least mesh.positive
    (polygons-back mesh.points level mesh.well_formed mesh.counted))
