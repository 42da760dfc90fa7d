-- The mesh of a draft of all lines is the mesh of the lines.
use Rattle.std.proofs.Common.{◌≡◌, ℕ, ℤ, ◌+◌, ◌^◌, None, Bool, true, false, nat_lt, ◌≤◌, List, [], ◌∷◌, ◌++◌, length, map, take, get_or, arith, refl, ap, sym, subst, ◌∙◌, option_map, ⊎_elim, if◌then◌else◌}
use Rattle.std.specs.Prelude.{unwrap_or}
use Rattle.std.specs.List.{All, list_all, list_any, count_by, filter, flat_map}
use Rattle.std.specs.Option.{option_or}
use Rattle.std.proofs.Math.Seq.{take-length}
use Rattle.std.proofs.lemmas.Bool.{and_parts, cases_Bool}
use Rattle.std.proofs.lemmas.Bool.Decides.{nat_tests}
use Rattle.std.proofs.lemmas.List.{length-map, length-append}
use Rattle.std.proofs.lemmas.List.Folds.{list_all-map, flat_map-map}
use Rattle.std.proofs.lemmas.List.Sums.{sum_by-append}
use Rattle.subdiv_model.specs.ObjLine.{is_vertex_line, is_face_line}
use Rattle.subdiv_model.specs.ObjMesh.{ObjMesh}
use Rattle.subdiv_model.specs.Short.{IsShortPoint, IsShortTexture}
use Rattle.subdiv_model.specs.ObjWord.{corner_point, corner_texture, has_texture_part}
use Rattle.subdiv_model.specs.ReadObj.{counts_of, values_of, corner_numbers, has_texture_channel, texture_corners_of, is_texture_line, point_over, texture_over, mesh_of_lines, late_fault, lesser_fault, first_late_fault, obj_lines, first_bad_line, read_obj_fault, read_obj_mesh}
use Rattle.number_laws.proofs.CountLemmas.{any-count}
use Rattle.obj_laws.proofs.ObjChannelLemmas.{passing-all, passing-count, corner-words, channel-counted}
use Rattle.obj_laws.proofs.ObjLateLemmas.{filter-places}
use Rattle.obj_laws.proofs.ShortNumberLemmas.{coordinates-short, texture-short}
use Rattle.obj_tags.specs.Channel.{ArePositions, AreTextureValues, lesser_line}
use Rattle.obj_tags.specs.Survey.{AreCommon, IsBounded, long_fault_at}
use Rattle.obj_tags.specs.declared.survey.Survey.{Survey}
use Rattle.obj_tags.proofs.LateLemmas.{late-channel, late-kept, lesser-late}
use Rattle.obj_tags.specs.Draft.{coordinates_of, HasShortNumbers, IsDraftOf, textures_at}
use Rattle.raw_mesh.specs.Mesh.{pieces, Ascend, names_all_texture, mesh_of}
use Rattle.raw_mesh.specs.View.{point_of, texture_of}
use Rattle.obj_tags.specs.declared.draft.Draft.{Draft}
use Rattle.raw_mesh.proofs.PiecesLemmas.{pieces-same}
use Rattle.obj_tags.specs.Line.{Line}
use Rattle.obj_tags.proofs.WholeLemmas.{OfAll, of-all, face-places}

-- the corners of the face lines at places, as words
abbrev words-at : List Line → List ℕ → List (List ℕ)
words-at lines is = flat_map (λ i. values_of (get_or lines i [])) is

words-of-faces : (lines : List Line) → words-at lines (face-places lines) ≡ corner-words lines
words-of-faces lines =
    sym (flat_map-map values_of (λ i. get_or lines i []) (face-places lines)) ∙ ap (flat_map values_of) (filter-places is_face_line [] lines)

-- each corner has a point
points-count : (lines : List Line) (is : List ℕ) → length (flat_map (corner_numbers corner_point lines) is) ≡ length (words-at lines is)
points-count lines [] = refl
points-count lines (i ∷ is) =
    let named = corner_numbers corner_point lines in
    let values = values_of (get_or lines i []) in
    let here : length (named i) ≡ length values = length-map values (λ corner. unwrap_or (corner_point (counts_of (take i lines)) (counts_of lines) corner) 0) in
    omega (arith, length-append (named i) (flat_map named is), length-append values (words-at lines is), here, points-count lines is)

-- each corner with a texture part has one texture value
textures-count : (lines : List Line) (is : List ℕ)
    → length (flat_map (textures_at lines) is) ≡ count_by has_texture_part (words-at lines is)
textures-count lines [] = refl
textures-count lines (i ∷ is) =
    let values = values_of (get_or lines i []) in
    let here : length (textures_at lines i) ≡ count_by has_texture_part values = passing-count has_texture_part (λ word. unwrap_or (corner_texture (counts_of (take i lines)) (counts_of lines) word) 0) values in
    let sum : count_by has_texture_part (values ++ words-at lines is) ≡ count_by has_texture_part values + count_by has_texture_part (words-at lines is) = sum_by-append (λ w. if has_texture_part w then 1 else 0) values (words-at lines is) in
    omega (arith, length-append (textures_at lines i) (flat_map (textures_at lines) is), sum, here, textures-count lines is)

some-counted : {X : Type 0} (test : X → Bool) (xs : List X) (n : ℕ) → n ≡ count_by test xs + 1 → nat_lt 1 n ≡ list_any test xs
some-counted test xs n e = grind (arith, nat_tests, any-count test xs)

-- whether all corners have a texture value
pub has-texture : (draft : Draft) (lines : List Line) → OfAll draft lines → names_all_texture draft.faces ≡ has_texture_channel lines
has-texture draft lines all =
    let words = words-of-faces lines in
    let some : nat_lt 1 (length draft.faces.starts.items) ≡ list_any is_face_line lines = some-counted is_face_line lines (length draft.faces.starts.items) all.faces in
    let textures : length draft.faces.texture_corners.items ≡ count_by has_texture_part (corner-words lines) = ap length all.texture ∙ textures-count lines (face-places lines) ∙ ap (count_by has_texture_part) words in
    let corners : length draft.faces.corners.items ≡ length (corner-words lines) = ap length all.corners ∙ points-count lines (face-places lines) ∙ ap length words in
    rw (some, textures, corners) (sym (channel-counted lines))

-- where all corners have a texture part, the texture values of all corners were kept
all-textured : (lines : List Line) (is : List ℕ) → list_all (λ i. list_all has_texture_part (values_of (get_or lines i []))) is ≡ true
    → flat_map (textures_at lines) is ≡ flat_map (corner_numbers corner_texture lines) is
all-textured lines [] h = refl
all-textured lines (i ∷ is) h =
    let parts : (list_all has_texture_part (values_of (get_or lines i [])) ≡ true) × (list_all (λ j. list_all has_texture_part (values_of (get_or lines j []))) is ≡ true) = and_parts _ _ h in
    let here : textures_at lines i ≡ corner_numbers corner_texture lines i = passing-all has_texture_part (λ word. unwrap_or (corner_texture (counts_of (take i lines)) (counts_of lines) word) 0) (values_of (get_or lines i [])) parts.0 in
    ap (λ xs. xs ++ flat_map (textures_at lines) is) here ∙ ap (λ xs. corner_numbers corner_texture lines i ++ xs) (all-textured lines is parts.1)

textured-faces : (lines : List Line) → has_texture_channel lines ≡ true
    → flat_map (textures_at lines) (face-places lines) ≡ flat_map (corner_numbers corner_texture lines) (face-places lines)
textured-faces lines has =
    let parts : (list_any is_face_line lines ≡ true) × (list_all (λ words. list_all has_texture_part (values_of words)) (filter is_face_line lines) ≡ true) = and_parts _ _ has in
    all-textured lines (face-places lines)
    (sym (list_all-map (λ words. list_all has_texture_part (values_of words)) (λ i. get_or lines i []) (face-places lines)) ∙ ap (list_all (λ words. list_all has_texture_part (values_of words))) (filter-places is_face_line [] lines) ∙ parts.1)

texture-corners : (draft : Draft) (lines : List Line) → Ascend draft.faces.starts.items (length draft.faces.corners.items)
    → OfAll draft lines
    → (if has_texture_channel lines then pieces draft.faces.starts.items draft.faces.texture_corners.items else []) ≡ texture_corners_of lines
texture-corners draft lines ascend all =
    let named = corner_numbers corner_texture lines in
    let alike : (i : ℕ) → length (corner_numbers corner_texture lines i) ≡ length (corner_numbers corner_point lines i) = λ i.
    length-map (values_of (get_or lines i [])) (λ corner. unwrap_or (corner_texture (counts_of (take i lines)) (counts_of lines) corner) 0)
    ∙ sym (length-map (values_of (get_or lines i [])) (λ corner. unwrap_or (corner_point (counts_of (take i lines)) (counts_of lines) corner) 0)) in
    ⊎_elim
    (λ (has : has_texture_channel lines ≡ true).
    let kept : draft.faces.texture_corners.items ≡ flat_map named (face-places lines) = all.texture ∙ textured-faces lines has in
    rw has
    (ap (pieces draft.faces.starts.items) kept
    ∙ pieces-same (corner_numbers corner_point lines) named alike draft.faces.starts.items draft.faces.corners.items (face-places lines) ascend all.read all.corners))
    (λ (none : has_texture_channel lines ≡ false). rw none refl)
    (cases_Bool (has_texture_channel lines))

-- The draft of all lines.
all-positions : (found : Survey) (draft : Draft) (lines : List Line) → IsDraftOf found draft lines (length lines)
    → ArePositions found.positions.value draft.positions lines
all-positions found draft lines is = subst (ArePositions found.positions.value draft.positions) (take-length lines) is.positions

all-values : (found : Survey) (draft : Draft) (lines : List Line) → IsDraftOf found draft lines (length lines)
    → AreTextureValues found.texture.value draft.texture lines
all-values found draft lines is = subst (AreTextureValues found.texture.value draft.texture) (take-length lines) is.texture

-- Without a late fault, the draft of all lines gives the mesh of the lines.
pub mesh-draft : (found : Survey) (draft : Draft) (lines : List Line) (least : ℕ) (has : Bool) → AreCommon found least lines
    → IsDraftOf found draft lines (length lines) → has ≡ names_all_texture draft.faces
    → option_or found.positions.wide draft.positions.long ≡ None → option_or found.texture.wide draft.texture.long ≡ None
    → mesh_of (coordinates_of found draft) draft.faces has draft.tags ≡ mesh_of_lines lines least
mesh-draft found draft lines least has are is e_has no-position no-texture =
    let all = of-all found draft lines is in
    let same : has ≡ has_texture_channel lines = e_has ∙ has-texture draft lines all in
    let points = late-kept (ℤ × ℤ × ℤ) is_vertex_line point_over (10 ^ least) found.positions (map point_of draft.positions.points.items) draft.positions.long lines no-position are.positions (all-positions found draft lines is) in
    let values = late-kept (ℤ × ℤ) is_texture_line texture_over 1 found.texture (map texture_of draft.texture.points.items) draft.texture.long lines no-texture are.texture (all-values found draft lines is) in
    rw (points.1, values.1, points.0, values.0, all.read, all.tags.creases, all.tags.corners, all.tags.holes, all.tags.boundary, all.tags.method, same, texture-corners draft lines is.faces.ascend all) refl

-- the late fault of the lines
pub late-draft : (found : Survey) (draft : Draft) (lines : List Line) (least : ℕ) → AreCommon found least lines
    → IsDraftOf found draft lines (length lines)
    → option_map long_fault_at (lesser_line (option_or found.positions.wide draft.positions.long) (option_or found.texture.wide draft.texture.long))
    ≡ first_late_fault least lines
late-draft found draft lines least are is =
    let positions = late-channel (ℤ × ℤ × ℤ) is_vertex_line point_over (10 ^ least) found.positions (map point_of draft.positions.points.items) draft.positions.long lines are.positions (all-positions found draft lines is) in
    let texture = late-channel (ℤ × ℤ) is_texture_line texture_over 1 found.texture (map texture_of draft.texture.points.items) draft.texture.long lines are.texture (all-values found draft lines is) in
    lesser-late (option_or found.positions.wide draft.positions.long) (option_or found.texture.wide draft.texture.long)
    ∙ ap (λ a. lesser_fault a (option_map long_fault_at (option_or found.texture.wide draft.texture.long))) positions
    ∙ ap (lesser_fault (late_fault is_vertex_line (10 ^ least) lines)) texture

-- the numbers that were kept are short, where no line is bad and none is late
pub short-draft : (found : Survey) (draft : Draft) (text : List ℕ) (least : ℕ) → AreCommon found least (obj_lines text)
    → IsDraftOf found draft (obj_lines text) (length (obj_lines text)) → first_bad_line (obj_lines text) ≡ None
    → IsBounded found.positions → IsBounded found.texture → HasShortNumbers found draft
short-draft found draft text least are is good positions texture no-position no-texture =
    let lines = obj_lines text in
    let made : mesh_of (coordinates_of found draft) draft.faces (names_all_texture draft.faces) draft.tags ≡ read_obj_mesh text least = mesh-draft found draft lines least _ are is refl no-position no-texture in
    let late : first_late_fault least lines ≡ None = sym (late-draft found draft lines least are is) ∙ rw (no-position, no-texture) refl in
    let fine : read_obj_fault text least ≡ None = rw (good, late) refl in
    record {
      scale = (positions.positive, positions.short);
      texture_scale = (texture.positive, texture.short);
      points = subst (λ (mesh : ObjMesh). All IsShortPoint mesh.points) (sym made) (coordinates-short text least fine (subst (λ (mesh : ObjMesh). mesh.common ≤ 10 ^ 37) made positions.short));
      texture = subst (λ (mesh : ObjMesh). All IsShortTexture mesh.texture) (sym made) (texture-short text least fine (subst (λ (mesh : ObjMesh). mesh.texture_common ≤ 10 ^ 37) made texture.short));
    }
