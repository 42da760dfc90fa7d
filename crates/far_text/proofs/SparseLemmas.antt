-- The lines of sparse levels and of their faces.
use Rattle.std.proofs.Common.{◌≡◌, ℕ, zero, suc, ◌+◌, ◌<◌, ◌≤◌, List, [], ◌∷◌, ◌++◌, length, map, take, take_all, get_or, Option, codes, arith, refl, ap, sym, ◌∙◌}
use Rattle.std.specs.List.{All, AllZip, flat_map, range_with_len, enumerate_from}
use Rattle.std.proofs.lemmas.List.{get_or-map, length-map}
use Rattle.std.proofs.lemmas.List.Elements.{recursion_from_All}
use Rattle.std.proofs.lemmas.List.Folds.{flat_map-map}
use Rattle.std.proofs.lemmas.List.FromFn.{get_or-enumerate_from, length-enumerate_from}
use Rattle.subdiv_model.specs.Level.{Level}
use Rattle.subdiv_model.specs.Refined.{Point}
use Rattle.subdiv_model.specs.Sparse.{FacePredicate}
use Rattle.subdiv_model.specs.NumberText.{number_text}
use Rattle.subdiv_model.specs.Text.{point_line}
use Rattle.subdiv_model.specs.SparseText.{LeafFace, WrittenFace, WrittenLevel, written_level, written_points, points_with, kind_text, sparse_face_line, sparse_level_line, sparse_level_text, sparse_text}
use Rattle.far_text.specs.Lines.{corner_word, valued_line}
use Rattle.far_text.specs.CountLines.{count_words}
use Rattle.ratio128.specs.declared.point.Point3.{Point3}
use Rattle.ratio128.specs.declared.valued.Valued.{Valued}
use Rattle.sparse_level.specs.declared.values.SparseValues.{SparseValues}
use Rattle.far_text.specs.Points.{HasDenominators, IsSamePoint, point_of, points_of}
use Rattle.far_text.specs.SparseLines.{PointedLevel, level_over, numbered_level, pointed, sparse_lines, sparse_mesh_text}
use Rattle.far_text.specs.declared.sparse.SparseMesh.{SparseMesh}
use Rattle.far_text.proofs.LineLemmas.{ended-words}
use Rattle.far_text.proofs.SameTextLemmas.{points-same}

-- no face
abbrev pub no_face : WrittenFace
no_face = record { kind = LeafFace; number = 0; corners = [] }

-- the line of a face, from its kind, its number and its corners
pub sparse-face-by-words : (face : WrittenFace) →
    (codes "f" ++ (32 ∷ kind_text face.kind)) ++ ((32 ∷ number_text face.number) ++ (flat_map corner_word face.corners ++ (10 ∷ []))) ≡ sparse_face_line face
sparse-face-by-words face =
    let corners : List (List ℕ) = map (λ corner. number_text (corner + 1)) face.corners in
    ap (λ words. (codes "f" ++ (32 ∷ kind_text face.kind)) ++ ((32 ∷ number_text face.number) ++ (words ++ (10 ∷ [])))) (sym (flat_map-map (λ word. 32 ∷ word) (λ corner. number_text (corner + 1)) face.corners))
    ∙ ap (λ rest. (codes "f" ++ (32 ∷ kind_text face.kind)) ++ ((32 ∷ number_text face.number) ++ rest)) (sym (ended-words corners))
    ∙ ap (λ rest. codes "f" ++ rest) (ended-words (kind_text face.kind ∷ number_text face.number ∷ corners))

-- the line of a level's counts
pub sparse-level-by-words : (k : ℕ) (level : WrittenLevel) →
    count_words (codes "level") k ++ (count_words (codes " points") level.point_count ++ (count_words (codes " faces") (length level.faces) ++ (10 ∷ []))) ≡ sparse_level_line k level
sparse-level-by-words k level =
    ap (λ rest. codes "level" ++ rest) (ended-words (number_text k ∷ codes "points" ∷ number_text level.point_count ∷ codes "faces" ∷ number_text (length level.faces) ∷ []))

-- the lines of a level, from those of its points
pub level-by-parts : (decimals : Option ℕ) (k common : ℕ) (level : SparseValues Point3) (points : List (Valued Point3)) → points ≡ level.values.items →
    sparse_level_line k level.faces ++ (flat_map (valued_line decimals common) points ++ flat_map sparse_face_line level.faces.faces)
    ≡ sparse_level_text decimals k level.faces (points_of common level.values.items)
level-by-parts decimals k common level points is =
    ap (λ lines. sparse_level_line k level.faces ++ (lines ++ flat_map sparse_face_line level.faces.faces)) (sym (flat_map-map (point_line decimals) (point_of common) points))
    ∙ ap (λ values. sparse_level_text decimals k level.faces (points_of common values)) is

-- the lines of all faces
pub all-faces : (faces : List WrittenFace) (f : ℕ) → length faces ≤ f → flat_map sparse_face_line (take f faces) ≡ flat_map sparse_face_line faces
all-faces faces f past = ap (flat_map sparse_face_line) (take_all f faces past)

-- no level
abbrev pub no_level : ℕ × PointedLevel
no_level = (0, pointed (record { point_count = 0; faces = [] }) [])

-- the lines of the level at a place of a mesh
module _ (common : ℕ) (levels : List (SparseValues Point3)) where
  abbrev pub numbered : List (ℕ × PointedLevel)
  numbered = enumerate_from 0 (map (level_over common) levels)

  numbered-count : length numbered ≡ length levels
  numbered-count = length-enumerate_from 0 (map (level_over common) levels) ∙ length-map levels (level_over common)

  pub within-levels : (k : ℕ) → k < length levels → k < length numbered
  within-levels k h = omega (arith, h, numbered-count)

  pub level-at : (decimals : Option ℕ) (k : ℕ) (level : SparseValues Point3) → k < length levels → level ≡ get_or levels k level
      → sparse_level_text decimals k level.faces (points_of common level.values.items) ≡ numbered_level decimals (get_or numbered k no_level)
  level-at decimals k level h is =
      let place : k ≡ 0 + k = omega (arith) in
      ap (λ n. numbered_level decimals (n, level_over common level)) place
      ∙ ap (λ l. numbered_level decimals (0 + k, level_over common l)) is
      ∙ ap (λ (l : PointedLevel). numbered_level decimals (0 + k, l)) (sym (get_or-map (level_over common) levels k level no_level.1 h))
      ∙ ap (numbered_level decimals) (sym (get_or-enumerate_from 0 (map (level_over common) levels) k no_level (omega (arith, h, length-map levels (level_over common)))))

  pub all-levels : (decimals : Option ℕ) (k : ℕ) → length levels ≤ k → flat_map (numbered_level decimals) (take k numbered) ≡ sparse_lines decimals 0 (map (level_over common) levels)
  all-levels decimals k past = ap (flat_map (numbered_level decimals)) (take_all k numbered (omega (arith, past, numbered-count)))

-- the text of sparse levels is that of the written part of each
lines-over : (decimals : Option ℕ) (level : ℕ → PointedLevel) (first count : ℕ)
    → sparse_lines decimals first (map level (range_with_len first count)) ≡ flat_map (λ k. sparse_level_text decimals k (level k).written (level k).points) (range_with_len first count)
lines-over decimals level first zero = refl
lines-over decimals level first (suc count) =
    ap (λ rest. sparse_level_text decimals first (level first).written (level first).points ++ rest) (lines-over decimals level (first + 1) count)

-- a level of the definitions with its points
abbrev pub defined_level : (ℕ → List Point) → Level → FacePredicate → ℕ → PointedLevel
defined_level points base predicate j = pointed (written_level base predicate j) (points_with (points j) (written_points base predicate j))

pub sparse-text : (decimals : Option ℕ) (points : ℕ → List Point) (base : Level) (predicate : FacePredicate) (depth : ℕ)
    → sparse_lines decimals 0 (map (defined_level points base predicate) (range_with_len 0 (depth + 1))) ≡ sparse_text decimals points base predicate depth
sparse-text decimals points base predicate depth = lines-over decimals (defined_level points base predicate) 0 (depth + 1)

-- Levels whose points are the same, in any terms, have one text.

pub record AreSameLevels (a b : PointedLevel) : Type 0 where
  pub written : a.written ≡ b.written
  pub above : All HasDenominators a.points
  pub below : All HasDenominators b.points
  pub same : AllZip IsSamePoint a.points b.points

level-same : (decimals : Option ℕ) (k : ℕ) (a b : PointedLevel) → AreSameLevels a b → numbered_level decimals (k, a) ≡ numbered_level decimals (k, b)
level-same decimals k a b is =
    ap (λ w. sparse_level_text decimals k w a.points) is.written
    ∙ ap (λ lines. sparse_level_line k b.written ++ (lines ++ flat_map sparse_face_line b.written.faces))
    (points-same decimals a.points b.points (recursion_from_All HasDenominators a.points is.above) (recursion_from_All HasDenominators b.points is.below) is.same)

pub lines-same : (decimals : Option ℕ) (first : ℕ) (xs ys : List PointedLevel) → AllZip AreSameLevels xs ys → sparse_lines decimals first xs ≡ sparse_lines decimals first ys
lines-same decimals first [] [] same = refl
lines-same decimals first [] (y ∷ ys) same = absurd same
lines-same decimals first (x ∷ xs) [] same = absurd same
lines-same decimals first (x ∷ xs) (y ∷ ys) same =
    ap (λ t. t ++ sparse_lines decimals (first + 1) xs) (level-same decimals first x y same.0)
    ∙ ap (λ t. numbered_level decimals (first, y) ++ t) (lines-same decimals (first + 1) xs ys same.1)

-- if each level is that of the definitions with its points in other terms, the text is the definition's
pub sparse-text-same : (mesh : SparseMesh) (points : ℕ → List Point) (base : Level) (predicate : FacePredicate) (depth : ℕ)
    → AllZip AreSameLevels (map (level_over mesh.common) mesh.levels.items) (map (defined_level points base predicate) (range_with_len 0 (depth + 1)))
    → sparse_mesh_text mesh ≡ sparse_text mesh.decimals points base predicate depth
sparse-text-same mesh points base predicate depth same =
    lines-same mesh.decimals 0 (map (level_over mesh.common) mesh.levels.items) (map (defined_level points base predicate) (range_with_len 0 (depth + 1))) same
    ∙ sparse-text mesh.decimals points base predicate depth
