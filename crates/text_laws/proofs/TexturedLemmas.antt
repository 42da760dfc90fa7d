-- A mesh that is written with texture is read back with it, and one without has none.
use Rattle.std.proofs.Common.{◌≡◌, ℕ, suc, ◌+◌, ◌<◌, Bool, true, false, ◌&&◌, not, nat_lt, nat_eq, List, [], ◌∷◌, ◌++◌, length, map, zip, drop, get_or, arith, refl, ap, sym, subst, ◌∙◌, true≢false}
use Rattle.std.specs.Prelude.{codes}
use Rattle.std.specs.List.{list_all, list_any, filter}
use Rattle.std.proofs.lemmas.Bool.{and_parts, and_from, and_right, cond_both, cond-false, lt-ltb}
use Rattle.std.proofs.lemmas.Bool.Decides.{nat_tests}
use Rattle.std.proofs.lemmas.List.{length-map}
use Rattle.std.proofs.lemmas.List.Sums.{length-filter}
use Rattle.std.proofs.lemmas.Slice.Zip.{firsts-zip, seconds-zip}
use Rattle.subdiv_model.specs.Lists.{places}
use Rattle.subdiv_model.specs.Polygons.{Polygon, is_over}
use Rattle.subdiv_model.specs.Level.{Level}
use Rattle.subdiv_model.specs.Value.{Value}
use Rattle.subdiv_model.specs.Refined.{Point}
use Rattle.subdiv_model.specs.NumberText.{number_text}
use Rattle.subdiv_model.specs.ObjLine.{is_face_line}
use Rattle.subdiv_model.specs.ObjWord.{is_empty, vertex_part, texture_part, has_texture_part, corner_texture}
use Rattle.subdiv_model.specs.ReadObj.{obj_lines, is_texture_line, values_of, counts_of, faces_of, corner_numbers, texture_over, texture_common_of, has_texture_channel, texture_corners_of, mesh_of_lines}
use Rattle.subdiv_model.specs.Text.{corner_text}
use Rattle.number_laws.proofs.CountLemmas.{any-count}
use Rattle.text_laws.specs.Laws.{words_of}
use Rattle.text_laws.specs.MeshLines.{textured_polygon_line, tag_lines, lines_of_faces}
use Rattle.text_laws.specs.ReadMesh.{IsTextureOver, WrittenMesh, mesh_read, has_corners, TexturedMesh, textured_text, textured_read, IsReadBack, IsTextureReadBack, HasNoTexture}
use Rattle.text_laws.proofs.ListLemmas.{all-made, as-many}
use Rattle.text_laws.proofs.NumberLemmas.{number-some}
use Rattle.text_laws.proofs.KeptLemmas.{Words, texture_words, face_words, all_words, split-words, texture-kept, faces-kept}
use Rattle.text_laws.proofs.FaceLemmas.{faces-back, number-parts, corner-vertex, corner-texture}
use Rattle.text_laws.proofs.PointLemmas.{texture-back, texture-common-positive}
use Rattle.text_laws.proofs.MeshTextLemmas.{textured_mesh-back}
use Rattle.text_laws.proofs.ReadMeshLemmas.{well-parts, shown-all, points-counted, all-back, plain_words, corner_words, lines-read}

-- the corners of the line have texture values
abbrev is_textured : Words → Bool
is_textured words = list_all has_texture_part (values_of words)

-- the text has texture if it has a face and each face line has texture
module _ {Face : Type 0} (points : List Point) (texture : List (Value × Value)) (corners : Face → List (List ℕ)) (faces : List Face) (level : Level) where
  abbrev lines : List Words
  lines = all_words points texture corners faces level

  some-faces : list_any is_face_line lines ≡ nat_lt 0 (length faces)
  some-faces =
      any-count is_face_line lines
      ∙ ap (nat_lt 0) (sym (length-filter is_face_line lines) ∙ ap length (faces-kept points texture corners faces level) ∙ length-map faces (face_words points texture corners faces level))

  channel-of : has_texture_channel lines ≡ (nat_lt 0 (length faces) && list_all is_textured (map (λ face. codes "f" ∷ corners face) faces))
  channel-of =
      ap (λ b. b && list_all is_textured (filter is_face_line lines)) some-faces
      ∙ ap (λ kept. nat_lt 0 (length faces) && list_all is_textured kept) (faces-kept points texture corners faces level)

-- without texture

pub number-untextured : (n : ℕ) → has_texture_part (number_text n) ≡ false
number-untextured n = ap (λ parts. not (is_empty (get_or parts 1 []))) (number-parts n)

no-channel : (polygons : List Polygon) → list_all has_corners polygons ≡ true
    → (nat_lt 0 (length polygons) && list_all is_textured (map (λ polygon. codes "f" ∷ corner_words polygon) polygons)) ≡ false
no-channel [] some = refl
no-channel ([] ∷ polygons) some = absurd (true≢false (sym some))
no-channel ((corner ∷ polygon) ∷ polygons) some =
    let rest = list_all is_textured (map (λ p. codes "f" ∷ corner_words p) polygons) in
    and_right (nat_lt 0 (suc (length polygons))) ((has_texture_part (number_text (corner + 1)) && list_all has_texture_part (corner_words polygon)) && rest)
    (ap (λ b. (b && list_all has_texture_part (corner_words polygon)) && rest) (number-untextured (corner + 1)))

no-texture : (points : List Point) (level : Level) (least : ℕ) → list_all has_corners level.polygons ≡ true → HasNoTexture (mesh_of_lines (plain_words points level) least)
no-texture points level least some =
    let lines = plain_words points level in
    let none : has_texture_channel lines ≡ false = channel-of points [] corner_words level.polygons level ∙ no-channel level.polygons some in
    record {
      none = none;
      values = ap (map (texture_over (texture_common_of lines))) (texture-kept points [] corner_words level.polygons level);
      corners = cond-false (has_texture_channel lines) _ [] none;
    }

pub mesh_read-untextured : (mesh : WrittenMesh) (least : ℕ) → list_all has_corners mesh.level.polygons ≡ true → HasNoTexture (mesh_read mesh least)
mesh_read-untextured mesh least some =
    subst (λ lines. HasNoTexture (mesh_of_lines lines least)) (sym (lines-read mesh)) (no-texture mesh.points mesh.level least some)

-- with texture

-- what the numbers of the corners are below, each with the other beside it
pub firsts-below : (n : ℕ) (xs ys : List ℕ) → list_all (λ v. nat_lt v n) xs ≡ true → list_all (λ (item : ℕ × ℕ). nat_lt item.0 n) (zip xs ys) ≡ true
firsts-below n [] ys h = refl
firsts-below n (x ∷ xs) [] h = refl
firsts-below n (x ∷ xs) (y ∷ ys) h =
    let parts = and_parts (nat_lt x n) (list_all (λ v. nat_lt v n) xs) h in and_from _ _ parts.0 (firsts-below n xs ys parts.1)

pub seconds-below : (n : ℕ) (xs ys : List ℕ) → list_all (λ v. nat_lt v n) ys ≡ true → list_all (λ (item : ℕ × ℕ). nat_lt item.1 n) (zip xs ys) ≡ true
seconds-below n [] ys h = refl
seconds-below n (x ∷ xs) [] h = refl
seconds-below n (x ∷ xs) (y ∷ ys) h =
    let parts = and_parts (nat_lt y n) (list_all (λ v. nat_lt v n) ys) h in and_from _ _ parts.0 (seconds-below n xs ys parts.1)

abbrev pub zipped : Polygon × Polygon → List (ℕ × ℕ)
zipped face = zip face.0 face.1

pub all-firsts-below : (n : ℕ) (ps qs : List Polygon) → is_over n ps ≡ true
    → list_all (λ (face : Polygon × Polygon). list_all (λ (item : ℕ × ℕ). nat_lt item.0 n) (zipped face)) (zip ps qs) ≡ true
all-firsts-below n [] qs h = refl
all-firsts-below n (p ∷ ps) [] h = refl
all-firsts-below n (p ∷ ps) (q ∷ qs) h =
    let parts = and_parts (list_all (λ v. nat_lt v n) p) (is_over n ps) h in and_from _ _ (firsts-below n p q parts.0) (all-firsts-below n ps qs parts.1)

pub all-seconds-below : (n : ℕ) (ps qs : List Polygon) → is_over n qs ≡ true
    → list_all (λ (face : Polygon × Polygon). list_all (λ (item : ℕ × ℕ). nat_lt item.1 n) (zipped face)) (zip ps qs) ≡ true
all-seconds-below n [] qs h = refl
all-seconds-below n (p ∷ ps) [] h = refl
all-seconds-below n (p ∷ ps) (q ∷ qs) h =
    let parts = and_parts (list_all (λ v. nat_lt v n) q) (is_over n qs) h in and_from _ _ (seconds-below n p q parts.0) (all-seconds-below n ps qs parts.1)

-- faces with as many corners
all-firsts : (ps qs : List Polygon) → map length ps ≡ map length qs → map (λ (face : Polygon × Polygon). map (λ (item : ℕ × ℕ). item.0) (zipped face)) (zip ps qs) ≡ ps
all-firsts [] qs same = refl
all-firsts (p ∷ ps) [] same = absurd (omega (arith, ap length same))
all-firsts (p ∷ ps) (q ∷ qs) same =
    ap (λ face. face ∷ map (λ (face : Polygon × Polygon). map (λ (item : ℕ × ℕ). item.0) (zipped face)) (zip ps qs)) (firsts-zip p q (sym (ap (λ l. get_or l 0 0) same)))
    ∙ ap (λ faces. p ∷ faces) (all-firsts ps qs (ap (drop 1) same))

all-seconds : (ps qs : List Polygon) → map length ps ≡ map length qs → map (λ (face : Polygon × Polygon). map (λ (item : ℕ × ℕ). item.1) (zipped face)) (zip ps qs) ≡ qs
all-seconds [] [] same = refl
all-seconds [] (q ∷ qs) same = absurd (omega (arith, ap length same))
all-seconds (p ∷ ps) [] same = absurd (omega (arith, ap length same))
all-seconds (p ∷ ps) (q ∷ qs) same =
    ap (λ face. face ∷ map (λ (face : Polygon × Polygon). map (λ (item : ℕ × ℕ). item.1) (zipped face)) (zip ps qs)) (seconds-zip p q (sym (ap (λ l. get_or l 0 0) same)))
    ∙ ap (λ faces. q ∷ faces) (all-seconds ps qs (ap (drop 1) same))

pub corner-textured : (corner : ℕ × ℕ) → has_texture_part (corner_text corner) ≡ true
corner-textured corner = ap (λ part. not (is_empty part)) (corner-texture corner) ∙ some (length (number_text (corner.1 + 1))) (number-some (corner.1 + 1))
  where
    some : (n : ℕ) → 0 < n → not (nat_eq n 0) ≡ true
    some n h = grind (arith, nat_tests)

abbrev pub paired_words : Polygon × Polygon → List (List ℕ)
paired_words face = map corner_text (zipped face)

face-textured : (face : Polygon × Polygon) → is_textured (codes "f" ∷ paired_words face) ≡ true
face-textured face = all-made has_texture_part corner_text corner-textured (zipped face)

nothing : {X : Type 0} (xs : List X) → nat_lt 0 (length xs) ≡ false → xs ≡ []
nothing [] none = refl
nothing (x ∷ xs) none = absurd (true≢false (sym (lt-ltb 0 (suc (length xs)) (omega arith)) ∙ none))

module _ (given : TexturedMesh) where
  abbrev level : Level
  level = given.mesh.level

  abbrev pub faces : List (Polygon × Polygon)
  faces = zip level.polygons given.cut.polygons

  abbrev pub paired_lines : List Words
  paired_lines = all_words given.mesh.points given.texture paired_words faces level

  pub same-count : length level.polygons ≡ length given.cut.polygons
  same-count = sym (length-map level.polygons length) ∙ ap length given.same_corners ∙ length-map given.cut.polygons length

  kept : filter is_face_line paired_lines ≡ map (λ face. codes "f" ∷ paired_words face) faces
  kept = faces-kept given.mesh.points given.texture paired_words faces level

  paired-points : faces_of paired_lines ≡ level.polygons
  paired-points =
      let counted = points-counted given.mesh.points given.texture paired_words faces level given.mesh.well_formed given.mesh.counted in
      let below = ap (λ n. is_over n level.polygons) counted ∙ (well-parts level given.mesh.well_formed).over in
      faces-back (λ counts. counts.point_count) vertex_part corner_text (λ corner. corner.0) corner-vertex paired_lines zipped faces kept
      (all-firsts-below (counts_of paired_lines).point_count level.polygons given.cut.polygons below)
      ∙ all-firsts level.polygons given.cut.polygons given.same_corners

  pub texture-counted : (counts_of paired_lines).texture_count ≡ length given.texture
  texture-counted =
      sym (length-filter is_texture_line paired_lines)
      ∙ ap length (texture-kept given.mesh.points given.texture paired_words faces level)
      ∙ length-map given.texture texture_words

  paired-texture : map (corner_numbers corner_texture paired_lines) (places is_face_line paired_lines) ≡ given.cut.polygons
  paired-texture =
      let below = ap (λ n. is_over n given.cut.polygons) texture-counted ∙ given.within in
      faces-back (λ counts. counts.texture_count) texture_part corner_text (λ corner. corner.1) corner-texture paired_lines zipped faces kept
      (all-seconds-below (counts_of paired_lines).texture_count level.polygons given.cut.polygons below)
      ∙ all-seconds level.polygons given.cut.polygons given.same_corners

  has-texture : has_texture_channel paired_lines ≡ nat_lt 0 (length given.cut.polygons)
  has-texture =
      let all = all-made is_textured (λ face. codes "f" ∷ paired_words face) face-textured faces in
      let many : length faces ≡ length given.cut.polygons =
      sym (length-map faces (λ face. face.1)) ∙ ap length (seconds-zip level.polygons given.cut.polygons (sym same-count)) in
      channel-of given.mesh.points given.texture paired_words faces level
      ∙ ap (λ b. nat_lt 0 (length faces) && b) all
      ∙ whole (nat_lt 0 (length faces))
      ∙ ap (nat_lt 0) many
    where
      whole : (b : Bool) → (b && true) ≡ b
      whole true = refl
      whole false = refl

  texture-corners : texture_corners_of paired_lines ≡ given.cut.polygons
  texture-corners =
      cond_both (has_texture_channel paired_lines) (map (corner_numbers corner_texture paired_lines) (places is_face_line paired_lines)) [] (λ corners. corners ≡ given.cut.polygons)
      (λ _. paired-texture) (λ none. sym (nothing given.cut.polygons (sym has-texture ∙ none)))

  pub paired-lines : obj_lines (textured_text given) ≡ paired_lines
  paired-lines =
      let many : length level.holes ≡ length faces =
      (well-parts level given.mesh.well_formed).holes ∙ sym (sym (length-map faces (λ face. face.0)) ∙ ap length (firsts-zip level.polygons given.cut.polygons (sym same-count))) in
      textured_mesh-back true level given.mesh.points given.cut given.texture
      ∙ ap (λ some. map words_of (lines_of_faces given.mesh.points given.texture textured_polygon_line some ++ tag_lines level)) (shown-all level faces many)
      ∙ split-words given.mesh.points given.texture paired_words faces level

  pub textured-back : (least : ℕ) → IsReadBack level given.mesh.points (textured_read given least)
  textured-back least =
      subst (λ lines. IsReadBack level given.mesh.points (mesh_of_lines lines least)) (sym paired-lines)
      (all-back given.mesh.points given.texture paired_words faces level given.mesh.well_formed given.mesh.counted least given.mesh.positive paired-points)

  paired-back : (least : ℕ) → IsTextureReadBack given.cut given.texture (mesh_of_lines paired_lines least)
  paired-back least =
      let lines_kept = texture-kept given.mesh.points given.texture paired_words faces level in
      let common = texture_common_of paired_lines in
      let read = texture-back paired_lines given.texture lines_kept given.positive in
      record {
        above_zero = texture-common-positive paired_lines given.texture lines_kept;
        count = as-many (IsTextureOver common) given.texture (map (texture_over common) (filter is_texture_line paired_lines)) read;
        values = read;
        corners = texture-corners;
        some = has-texture;
      }

  pub texture-values-back : (least : ℕ) → IsTextureReadBack given.cut given.texture (textured_read given least)
  texture-values-back least =
      subst (λ lines. IsTextureReadBack given.cut given.texture (mesh_of_lines lines least)) (sym paired-lines) (paired-back least)
