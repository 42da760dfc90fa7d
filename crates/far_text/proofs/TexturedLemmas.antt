-- The lines of sparse levels with their texture.
use Rattle.std.proofs.Common.{◌≡◌, ℕ, zero, suc, ◌+◌, ◌<◌, ◌≤◌, List, [], ◌∷◌, ◌++◌, length, map, zip, take, take_all, get_or, Option, Some, None, codes, arith, refl, ap, sym, ◌∙◌, subst}
use Rattle.std.specs.List.{All, AllZip, flat_map, range_with_len, enumerate_from}
use Rattle.std.proofs.lemmas.List.{get_or-map, length-map}
use Rattle.std.proofs.lemmas.List.Elements.{recursion_from_All}
use Rattle.std.proofs.lemmas.List.Folds.{flat_map-map}
use Rattle.std.proofs.lemmas.List.FromFn.{get_or-enumerate_from, length-enumerate_from}
use Rattle.ratio128.specs.declared.point.Point2.{Point2}
use Rattle.ratio128.specs.declared.point.Point3.{Point3}
use Rattle.ratio128.specs.declared.valued.Valued.{Valued}
use Rattle.subdiv_model.specs.Polygons.{Polygon}
use Rattle.subdiv_model.specs.Value.{Value}
use Rattle.subdiv_model.specs.Refined.{Point}
use Rattle.subdiv_model.specs.NumberText.{number_text}
use Rattle.subdiv_model.specs.Text.{corner_text, point_line, texture_line}
use Rattle.subdiv_model.specs.SparseText.{WrittenFace, WrittenLevel, kind_text}
use Rattle.subdiv_model.specs.SparseTexture.{SparsePart, SparseTrack, corner_words, corners_of_face, points_part, texture_part, textured_level_line, textured_level_text, textured_sparse_line, textured_sparse_text}
use Rattle.sparse_level.specs.Faces.{face_at}
use Rattle.sparse_level.specs.declared.values.SparseValues.{SparseValues}
use Rattle.far_text.specs.CountLines.{count_words}
use Rattle.far_text.specs.Lines.{corner_word, textured_word, valued_line, valued_texture_line}
use Rattle.far_text.specs.Points.{HasDenominators, point_of, points_of}
use Rattle.far_text.specs.SparseLines.{level_over}
use Rattle.far_text.specs.Texture.{HasTextureDenominators, IsSameTexturePoint, texture_point_of, texture_points_of}
use Rattle.far_text.specs.TexturedLines.{CanLevelBePut, CanTexturedBePut, level_parts, numbered_parts, points_part_over, spaced, sparse_line_with, texture_part_over, textured_text}
use Rattle.far_text.specs.declared.textured_sparse.TexturedSparse.{TexturedSparse}
use Rattle.far_text.proofs.LineLemmas.{ended-words}
use Rattle.far_text.proofs.ListLemmas.{pair-at, zip-long}
use Rattle.far_text.proofs.SameTextLemmas.{points-same}
use Rattle.far_text.proofs.SameTextureLemmas.{texture-same}
use Rattle.far_text.proofs.SparseLemmas.{AreSameLevels, defined_level}

-- the corners, by themselves and with texture points
pub plain-words : (corners : Polygon) → flat_map corner_word corners ≡ spaced (corner_words corners None)
plain-words corners = sym (flat_map-map (λ word. 32 ∷ word) (λ corner. number_text (corner + 1)) corners)

pub textured-words : (corners points : Polygon) → flat_map textured_word (zip corners points) ≡ spaced (corner_words corners (Some points))
textured-words corners points = sym (flat_map-map (λ word. 32 ∷ word) corner_text (zip corners points))

-- the line of a face, from its kind, its number and its corners
pub textured-face-by-words : (face : WrittenFace) (texture : Option Polygon) →
    (codes "f" ++ (32 ∷ kind_text face.kind)) ++ ((32 ∷ number_text face.number) ++ (spaced (corner_words face.corners texture) ++ (10 ∷ [])))
    ≡ sparse_line_with face texture
textured-face-by-words face texture =
    let corners = corner_words face.corners texture in
    ap (λ rest. (codes "f" ++ (32 ∷ kind_text face.kind)) ++ ((32 ∷ number_text face.number) ++ rest)) (sym (ended-words corners))
    ∙ ap (λ rest. codes "f" ++ rest) (ended-words (kind_text face.kind ∷ number_text face.number ∷ corners))

-- the line of a level's counts
pub textured-counts-by-words : (k : ℕ) (level texture : WrittenLevel) →
    count_words (codes "level") k
    ++ (count_words (codes " points") level.point_count
    ++ (count_words (codes " faces") (length level.faces) ++ (count_words (codes " texture") texture.point_count ++ (10 ∷ []))))
    ≡ textured_level_line k level texture
textured-counts-by-words k level texture =
    ap (λ rest. codes "level" ++ rest)
    (ended-words
    (number_text k ∷ codes "points" ∷ number_text level.point_count ∷ codes "faces" ∷ number_text (length level.faces) ∷ codes "texture" ∷ number_text texture.point_count ∷ []))

-- a level and its texture at a place can be put
pub can-at : (sparse : TexturedSparse) (k : ℕ) (level : SparseValues Point3) (texture : SparseValues Point2) → CanTexturedBePut sparse → k < length sparse.mesh.levels.items
    → level ≡ get_or sparse.mesh.levels.items k level → texture ≡ get_or sparse.texture.levels.items k texture
    → CanLevelBePut sparse.mesh.common sparse.texture.common level texture
can-at sparse k level texture can h is texture_is =
    subst (λ l. CanLevelBePut sparse.mesh.common sparse.texture.common l texture) (sym is)
    (subst (λ t. CanLevelBePut sparse.mesh.common sparse.texture.common (get_or sparse.mesh.levels.items k level) t) (sym texture_is) (can.each k level texture h))

-- the lines of a level, from those of its points and its texture points
pub textured-level-by-parts : (decimals : Option ℕ) (k common over : ℕ) (level : SparseValues Point3) (texture : SparseValues Point2)
    (points : List (Valued Point3)) (texture_points : List (Valued Point2)) → points ≡ level.values.items → texture_points ≡ texture.values.items →
    textured_level_line k level.faces texture.faces
    ++ (flat_map (valued_line decimals common) points
    ++ (flat_map (valued_texture_line decimals over) texture_points ++ flat_map (textured_sparse_line texture.faces) level.faces.faces))
    ≡ textured_level_text decimals k (points_part_over common level) (texture_part_over over texture)
textured-level-by-parts decimals k common over level texture points texture_points is texture_is =
    let first = textured_level_line k level.faces texture.faces in
    let faces = flat_map (textured_sparse_line texture.faces) level.faces.faces in
    ap (λ lines. first ++ (lines ++ (flat_map (valued_texture_line decimals over) texture_points ++ faces))) (sym (flat_map-map (point_line decimals) (point_of common) points))
    ∙ ap (λ lines. first ++ (flat_map (point_line decimals) (points_of common points) ++ (lines ++ faces))) (sym (flat_map-map (texture_line decimals) (texture_point_of over) texture_points))
    ∙ ap (λ values. first ++ (flat_map (point_line decimals) (points_of common values) ++ (flat_map (texture_line decimals) (texture_points_of over texture_points) ++ faces))) is
    ∙ ap (λ values. first ++ (flat_map (point_line decimals) (points_of common level.values.items) ++ (flat_map (texture_line decimals) (texture_points_of over values) ++ faces))) texture_is

-- the line of a face whose texture points are found
pub line-found : (level texture : WrittenLevel) (found : Option Polygon) (f : ℕ) → found ≡ corners_of_face texture (face_at level f).number
    → sparse_line_with (face_at level f) found ≡ textured_sparse_line texture (face_at level f)
line-found level texture found f is = ap (sparse_line_with (face_at level f)) is

-- no level
abbrev pub no_parts : ℕ × (SparsePart Point × SparsePart (Value × Value))
no_parts = (0, (record { level = record { point_count = 0; faces = [] }; values = [] }, record { level = record { point_count = 0; faces = [] }; values = [] }))

-- the levels with their numbers
abbrev pub numbered_levels : TexturedSparse → List (ℕ × (SparsePart Point × SparsePart (Value × Value)))
numbered_levels sparse = enumerate_from 0 (level_parts sparse)

module _ (sparse : TexturedSparse) (as_many : length sparse.texture.levels.items ≡ length sparse.mesh.levels.items) where
  as-many-parts : length (map (texture_part_over sparse.texture.common) sparse.texture.levels.items) ≡ length (map (points_part_over sparse.mesh.common) sparse.mesh.levels.items)
  as-many-parts =
      length-map sparse.texture.levels.items (texture_part_over sparse.texture.common)
      ∙ as_many
      ∙ sym (length-map sparse.mesh.levels.items (points_part_over sparse.mesh.common))

  parts-count : length (level_parts sparse) ≡ length sparse.mesh.levels.items
  parts-count =
      zip-long (map (points_part_over sparse.mesh.common) sparse.mesh.levels.items) (map (texture_part_over sparse.texture.common) sparse.texture.levels.items) as-many-parts
      ∙ length-map sparse.mesh.levels.items (points_part_over sparse.mesh.common)

  numbered-count : length (numbered_levels sparse) ≡ length sparse.mesh.levels.items
  numbered-count = length-enumerate_from 0 (level_parts sparse) ∙ parts-count

  pub within-parts : (k : ℕ) → k < length sparse.mesh.levels.items → k < length (numbered_levels sparse)
  within-parts k h = omega (arith, h, numbered-count)

  -- the lines of the level at a place
  pub parts-at : (k : ℕ) (level : SparseValues Point3) (texture : SparseValues Point2) → k < length sparse.mesh.levels.items
      → level ≡ get_or sparse.mesh.levels.items k level → texture ≡ get_or sparse.texture.levels.items k texture
      → textured_level_text sparse.mesh.decimals k (points_part_over sparse.mesh.common level) (texture_part_over sparse.texture.common texture)
      ≡ numbered_parts sparse.mesh.decimals (get_or (numbered_levels sparse) k no_parts)
  parts-at k level texture h is texture_is =
      let decimals = sparse.mesh.decimals in
      let points = map (points_part_over sparse.mesh.common) sparse.mesh.levels.items in
      let textures = map (texture_part_over sparse.texture.common) sparse.texture.levels.items in
      let place : k ≡ 0 + k = omega (arith) in
      let first : points_part_over sparse.mesh.common level ≡ get_or points k no_parts.1.0 =
      ap (points_part_over sparse.mesh.common) is ∙ sym (get_or-map (points_part_over sparse.mesh.common) sparse.mesh.levels.items k level no_parts.1.0 h) in
      let second : texture_part_over sparse.texture.common texture ≡ get_or textures k no_parts.1.1 =
      ap (texture_part_over sparse.texture.common) texture_is
      ∙ sym (get_or-map (texture_part_over sparse.texture.common) sparse.texture.levels.items k texture no_parts.1.1 (omega (arith, h, as_many))) in
      ap (λ (n : ℕ). numbered_parts decimals (n, (points_part_over sparse.mesh.common level, texture_part_over sparse.texture.common texture))) place
      ∙ ap (λ (p : SparsePart Point). numbered_parts decimals (0 + k, (p, texture_part_over sparse.texture.common texture))) first
      ∙ ap (λ (p : SparsePart (Value × Value)). numbered_parts decimals (0 + k, (get_or points k no_parts.1.0, p))) second
      ∙ ap (λ (pair : SparsePart Point × SparsePart (Value × Value)). numbered_parts decimals (0 + k, pair))
      (pair-at points textures k no_parts.1 as-many-parts (omega (arith, h, length-map sparse.mesh.levels.items (points_part_over sparse.mesh.common))))
      ∙ ap (numbered_parts decimals) (sym (get_or-enumerate_from 0 (level_parts sparse) k no_parts (omega (arith, h, parts-count))))

  pub all-parts : (k : ℕ) → length sparse.mesh.levels.items ≤ k
      → flat_map (numbered_parts sparse.mesh.decimals) (take k (numbered_levels sparse)) ≡ textured_text sparse
  all-parts k past = ap (flat_map (numbered_parts sparse.mesh.decimals)) (take_all k (numbered_levels sparse) (omega (arith, past, numbered-count)))

-- Levels whose points and texture points are the same, in any terms, have one text.

pub record AreSameTextures (a b : SparsePart (Value × Value)) : Type 0 where
  pub level : a.level ≡ b.level
  pub above : All HasTextureDenominators a.values
  pub below : All HasTextureDenominators b.values
  pub same : AllZip IsSameTexturePoint a.values b.values

-- the text of a level, from that of its points and that of its texture points
level-text-same : (decimals : Option ℕ) (k : ℕ) (a b : SparsePart Point) (s t : SparsePart (Value × Value)) → a.level ≡ b.level → s.level ≡ t.level
    → flat_map (point_line decimals) a.values ≡ flat_map (point_line decimals) b.values
    → flat_map (texture_line decimals) s.values ≡ flat_map (texture_line decimals) t.values
    → textured_level_text decimals k a s ≡ textured_level_text decimals k b t
level-text-same decimals k a b s t is texture_is same texture_same =
    let text : WrittenLevel → WrittenLevel → List ℕ → List ℕ → List ℕ =
    λ level texture points lines. textured_level_line k level texture ++ (points ++ (lines ++ flat_map (textured_sparse_line texture) level.faces)) in
    ap (λ level. text level s.level (flat_map (point_line decimals) a.values) (flat_map (texture_line decimals) s.values)) is
    ∙ ap (λ texture. text b.level texture (flat_map (point_line decimals) a.values) (flat_map (texture_line decimals) s.values)) texture_is
    ∙ ap (λ points. text b.level t.level points (flat_map (texture_line decimals) s.values)) same
    ∙ ap (text b.level t.level (flat_map (point_line decimals) b.values)) texture_same

module _ (decimals : Option ℕ) (common over : ℕ) (points : SparseTrack Point) (texture : SparseTrack (Value × Value)) where
  -- the text of the level with a number
  part-same : (k : ℕ) (level : SparseValues Point3) (texture_level : SparseValues Point2)
      → AreSameLevels (level_over common level) (defined_level points.values points.base points.predicate k)
      → AreSameTextures (texture_part_over over texture_level) (texture_part texture k)
      → textured_level_text decimals k (points_part_over common level) (texture_part_over over texture_level) ≡ textured_level_text decimals k (points_part points k) (texture_part texture k)
  part-same k level texture_level same texture_same =
      level-text-same decimals k (points_part_over common level) (points_part points k) (texture_part_over over texture_level) (texture_part texture k) same.written texture_same.level
      (points-same decimals (points_part_over common level).values (points_part points k).values
      (recursion_from_All HasDenominators (points_part_over common level).values same.above) (recursion_from_All HasDenominators (points_part points k).values same.below) same.same)
      (texture-same decimals (texture_part_over over texture_level).values (texture_part texture k).values
      (recursion_from_All HasTextureDenominators (texture_part_over over texture_level).values texture_same.above)
      (recursion_from_All HasTextureDenominators (texture_part texture k).values texture_same.below) texture_same.same)

  lines-same : (first count : ℕ) (levels : List (SparseValues Point3)) (textures : List (SparseValues Point2))
      → AllZip AreSameLevels (map (level_over common) levels) (map (defined_level points.values points.base points.predicate) (range_with_len first count))
      → AllZip AreSameTextures (map (texture_part_over over) textures) (map (texture_part texture) (range_with_len first count))
      → flat_map (numbered_parts decimals) (enumerate_from first (zip (map (points_part_over common) levels) (map (texture_part_over over) textures)))
      ≡ flat_map (λ k. textured_level_text decimals k (points_part points k) (texture_part texture k)) (range_with_len first count)
  lines-same first zero [] textures same texture_same = refl
  lines-same first zero (level ∷ levels) textures same texture_same = absurd same
  lines-same first (suc count) [] textures same texture_same = absurd same
  lines-same first (suc count) (level ∷ levels) [] same texture_same = absurd texture_same
  lines-same first (suc count) (level ∷ levels) (t ∷ textures) same texture_same =
      ap (λ text. text ++ flat_map (numbered_parts decimals) (enumerate_from (first + 1) (zip (map (points_part_over common) levels) (map (texture_part_over over) textures))))
      (part-same first level t same.0 texture_same.0)
      ∙ ap (λ rest. textured_level_text decimals first (points_part points first) (texture_part texture first) ++ rest)
      (lines-same (first + 1) count levels textures same.1 texture_same.1)

-- if each level is that of the definitions with its points and texture points in other terms, the text is the definition's
pub textured-sparse-text-same : (sparse : TexturedSparse) (points : SparseTrack Point) (texture : SparseTrack (Value × Value)) (depth : ℕ)
    → AllZip AreSameLevels (map (level_over sparse.mesh.common) sparse.mesh.levels.items) (map (defined_level points.values points.base points.predicate) (range_with_len 0 (depth + 1)))
    → AllZip AreSameTextures (map (texture_part_over sparse.texture.common) sparse.texture.levels.items) (map (texture_part texture) (range_with_len 0 (depth + 1)))
    → textured_text sparse ≡ textured_sparse_text sparse.mesh.decimals points texture depth
textured-sparse-text-same sparse points texture depth same texture_same =
    lines-same sparse.mesh.decimals sparse.mesh.common sparse.texture.common points texture 0 (depth + 1) sparse.mesh.levels.items sparse.texture.levels.items same texture_same
