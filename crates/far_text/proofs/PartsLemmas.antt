-- The texts of a mesh and of its tags, from those of their parts.
use Rattle.std.proofs.Common.{◌≡◌, List, ◌++◌, codes, length, map, zip, ap, sym, ◌∙◌, IsTrue}
use Rattle.std.specs.List.{flat_map, filter, range_with_len}
use Rattle.std.proofs.lemmas.List.Folds.{flat_map-map}
use Rattle.ratio128.specs.declared.point.Point2.{Point2}
use Rattle.ratio128.specs.declared.point.Point3.{Point3}
use Rattle.ratio128.specs.declared.valued.Valued.{Valued}
use Rattle.subdiv_model.specs.Edges.{edges_of}
use Rattle.subdiv_model.specs.Sharpness.{is_sharp}
use Rattle.subdiv_model.specs.Level.{Level, vertex_sharpness_of, is_hole, is_well_formed}
use Rattle.subdiv_model.specs.Text.{point_line, texture_line, face_line, textured_face_line, shown, method_line, is_written_crease, crease_line, corner_tag_line, hole_line, tags_text}
use Rattle.far_text.specs.Points.{point_of, points_of}
use Rattle.far_text.specs.Texture.{texture_point_of, texture_points_of}
use Rattle.far_text.specs.Lines.{valued_line, valued_texture_line, shown_face, shown_textured_face, crease_where_sharp, corner_where_sharp, hole_where_marked}
use Rattle.far_text.specs.Mesh.{plain_lines, textured_lines}
use Rattle.far_text.specs.declared.mesh.MeshForm.{MeshForm}
use Rattle.far_text.specs.declared.mesh.RefinedMesh.{RefinedMesh}
use Rattle.far_text.specs.declared.mesh.RefinedTexture.{RefinedTexture}
use Rattle.far_text.proofs.ListLemmas.{texts-filter, shown-faces, shown-textured-faces}

-- the points, and the faces by their numbers
pub mesh-by-parts : (mesh : RefinedMesh) (form : MeshForm) (points : List (Valued Point3)) → points ≡ mesh.values.items →
    IsTrue (is_well_formed mesh.level.level) →
    flat_map (valued_line form.decimals mesh.common) points
    ++ flat_map (shown_face form.tags mesh.level.level) (range_with_len 0 (length mesh.level.level.polygons))
    ≡ plain_lines mesh form
mesh-by-parts mesh form points is formed =
    let faces = flat_map face_line (shown form.tags mesh.level.level mesh.level.level.polygons) in
    ap (λ rest. flat_map (valued_line form.decimals mesh.common) points ++ rest) (shown-faces form.tags mesh.level.level formed)
    ∙ ap (λ lines. lines ++ faces) (sym (flat_map-map (point_line form.decimals) (point_of mesh.common) points))
    ∙ ap (λ values. flat_map (point_line form.decimals) (points_of mesh.common values) ++ faces) is

-- the points, the texture points, and the faces by their numbers
pub textured-mesh-by-parts : (mesh : RefinedMesh) (texture : RefinedTexture) (form : MeshForm) (points : List (Valued Point3))
    (texture_points : List (Valued Point2)) → points ≡ mesh.values.items → texture_points ≡ texture.values.items →
    IsTrue (is_well_formed mesh.level.level) → map length texture.level.level.polygons ≡ map length mesh.level.level.polygons →
    flat_map (valued_line form.decimals mesh.common) points
    ++ (flat_map (valued_texture_line form.decimals texture.common) texture_points
    ++ flat_map (shown_textured_face form.tags mesh.level.level texture.level.level) (range_with_len 0 (length mesh.level.level.polygons)))
    ≡ textured_lines mesh texture form
textured-mesh-by-parts mesh texture form points texture_points is texture_is formed alike =
    let level = mesh.level.level in
    let lines = flat_map (valued_line form.decimals mesh.common) points in
    let texture_lines = flat_map (valued_texture_line form.decimals texture.common) texture_points in
    let faces = flat_map textured_face_line (shown form.tags level (zip level.polygons texture.level.level.polygons)) in
    ap (λ t. lines ++ (texture_lines ++ t)) (shown-textured-faces form.tags level texture.level.level formed alike)
    ∙ ap (λ t. lines ++ (t ++ faces)) (sym (flat_map-map (texture_line form.decimals) (texture_point_of texture.common) texture_points))
    ∙ ap (λ t. t ++ (flat_map (texture_line form.decimals) (texture_points_of texture.common texture_points) ++ faces))
    (sym (flat_map-map (point_line form.decimals) (point_of mesh.common) points))
    ∙ ap (λ values. flat_map (point_line form.decimals) (points_of mesh.common values) ++ (flat_map (texture_line form.decimals) (texture_points_of texture.common texture_points) ++ faces)) is
    ∙ ap (λ values. flat_map (point_line form.decimals) (points_of mesh.common mesh.values.items) ++ (flat_map (texture_line form.decimals) (texture_points_of texture.common values) ++ faces)) texture_is

-- the mode, the method, the edges, and the vertices and the faces by their numbers
pub tags-by-parts : (level : Level) →
    codes "t interpolateboundary 1/0/0 2\n"
    ++ (method_line level.method
    ++ (flat_map (crease_where_sharp level) (edges_of level.polygons)
    ++ (flat_map (corner_where_sharp level) (range_with_len 0 level.point_count)
    ++ flat_map (hole_where_marked level) (range_with_len 0 (length level.polygons)))))
    ≡ tags_text level
tags-by-parts level =
    let first = codes "t interpolateboundary 1/0/0 2\n" in
    let creases = texts-filter (is_written_crease level) (crease_line level) (edges_of level.polygons) in
    let corners = texts-filter (λ v. is_sharp (vertex_sharpness_of level v)) (corner_tag_line level) (range_with_len 0 level.point_count) in
    let holes = texts-filter (is_hole level) hole_line (range_with_len 0 (length level.polygons)) in
    ap (λ t. first ++ (method_line level.method ++ (t ++ (flat_map (corner_where_sharp level) (range_with_len 0 level.point_count) ++ flat_map (hole_where_marked level) (range_with_len 0 (length level.polygons)))))) creases
    ∙ ap (λ t. first ++ (method_line level.method ++ (flat_map (crease_line level) (filter (is_written_crease level) (edges_of level.polygons)) ++ (t ++ flat_map (hole_where_marked level) (range_with_len 0 (length level.polygons)))))) corners
    ∙ ap (λ t. first ++ (method_line level.method ++ (flat_map (crease_line level) (filter (is_written_crease level) (edges_of level.polygons)) ++ (flat_map (corner_tag_line level) (filter (λ v. is_sharp (vertex_sharpness_of level v)) (range_with_len 0 level.point_count)) ++ t)))) holes
