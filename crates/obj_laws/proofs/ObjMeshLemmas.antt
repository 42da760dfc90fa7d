-- In a mesh that is read without fault each number names what it counts.
use Rattle.std.proofs.Common.{◌≡◌, ℕ, zero, suc, ◌+◌, ◌<◌, Bool, true, ◌&&◌, nat_lt, List, [], ◌∷◌, length, map, take, get_or, Some, None, arith, refl, ap, sym, subst, ◌∙◌}
use Rattle.std.specs.Prelude.{unwrap_or, bytes_eq, codes}
use Rattle.std.specs.List.{list_all, list_any, filter, flat_map, count_by}
use Rattle.std.proofs.lemmas.Bool.{cond_both, and_parts, and_from}
use Rattle.std.proofs.lemmas.List.{length-map}
use Rattle.std.proofs.lemmas.List.Folds.{list_all-map, list_all-append}
use Rattle.std.proofs.lemmas.List.Sums.{length-filter}
use Rattle.subdiv_model.specs.Polygons.{is_over}
use Rattle.subdiv_model.specs.Lists.{places, places_from}
use Rattle.subdiv_model.specs.ObjLine.{is_vertex_line, is_face_line}
use Rattle.subdiv_model.specs.ObjFault.{first_cause}
use Rattle.subdiv_model.specs.ObjMesh.{has_faces_over_points, has_corners_over_texture, has_creases_over_points, has_corner_tags_over_points, has_holes_over_faces}
use Rattle.subdiv_model.specs.ObjWord.{Counts, corner_fault, corner_point, corner_texture, has_texture_part}
use Rattle.subdiv_model.specs.ObjTag.{TagKind, CreaseTag, CornerTag, HoleTag, kind_of_name, tag_values_fault, tag_index_fault, tag_wholes, tag_indices, is_tag, tag_name, tag_creases, tag_corners, tag_numerals, tag_numeral_fault, index_and_sharpness_fault}
use Rattle.subdiv_model.specs.ReadObj.{obj_lines, fault_at, counts_of, is_tag_line, is_texture_line, values_of, corner_numbers, has_texture_channel, texture_corners_of, faces_of, tags_named, first_bad_line, first_late_fault, read_obj_fault, read_obj_mesh}
use Rattle.obj_laws.proofs.FirstFaultLemmas.{each-good}
use Rattle.obj_laws.proofs.ObjLineLemmas.{count-before, places-length}
use Rattle.obj_laws.proofs.ObjGoodLemmas.{all-good, all-good-where, point-below, texture-below, face-corners, tag-good, tag-values-good, or-else-none, are-below, indices-below, creases-below, corners-below}

abbrev Words : Type 0
Words = List (List ℕ)

-- each line of a list is good by itself
abbrev pub AreGood : List Words → Type 0
AreGood lines = (i : ℕ) → i < length lines → fault_at lines i ≡ None

good-lines : (text : List ℕ) (least : ℕ) → read_obj_fault text least ≡ None → AreGood (obj_lines text)
good-lines text least h = each-good (fault_at (obj_lines text)) (length (obj_lines text)) (or-else-none (first_bad_line (obj_lines text)) (first_late_fault least (obj_lines text)) h)

-- what holds at each place of a kind holds of all places of the kind
all-places-from : {X : Type 0} (test : X → Bool) (P : ℕ → Bool) (d : X) (place : ℕ) (xs : List X) → ((i : ℕ) → i < length xs → test (get_or xs i d) ≡ true → P (place + i) ≡ true) → list_all P (places_from place test xs) ≡ true
all-places-from test P d place [] h = refl
all-places-from test P d place (x ∷ xs) h =
    let rest : list_all P (places_from (place + 1) test xs) ≡ true =
    all-places-from test P d (place + 1) xs (λ i low passes. let e : place + suc i ≡ place + 1 + i = omega arith in ap P (sym e) ∙ h (suc i) (omega arith) passes) in
    let here : place + 0 ≡ place = omega arith in
    cond_both (test x) (place ∷ places_from (place + 1) test xs) (places_from (place + 1) test xs) (λ ps. list_all P ps ≡ true)
    (λ passes. and_from _ _ (ap P (sym here) ∙ h 0 (omega arith) passes) rest)
    (λ _. rest)

pub all-places : {X : Type 0} (test : X → Bool) (P : ℕ → Bool) (d : X) (xs : List X) → ((i : ℕ) → i < length xs → test (get_or xs i d) ≡ true → P i ≡ true) → list_all P (places test xs) ≡ true
all-places test P d xs h = all-places-from test P d 0 xs (λ i low passes. let e : 0 + i ≡ i = omega arith in ap P e ∙ h i low passes)

-- what holds of all that is made of each line of a kind
all-made : {X Y : Type 0} (test : X → Bool) (make : X → List Y) (P : Y → Bool) (d : X) (xs : List X) → ((i : ℕ) → i < length xs → test (get_or xs i d) ≡ true → list_all P (make (get_or xs i d)) ≡ true) → list_all P (flat_map make (filter test xs)) ≡ true
all-made test make P d [] h = refl
all-made test make P d (x ∷ xs) h =
    let rest : list_all P (flat_map make (filter test xs)) ≡ true = all-made test make P d xs (λ i low passes. h (suc i) (omega arith) passes) in
    cond_both (test x) (x ∷ filter test xs) (filter test xs) (λ ys. list_all P (flat_map make ys) ≡ true)
    (λ passes. list_all-append P (make x) (flat_map make (filter test xs)) ∙ and_from _ _ (h 0 (omega arith) passes) rest)
    (λ _. rest)

-- a property of all lines of a kind is one of each such line
filter-at : {X : Type 0} (test P : X → Bool) (d : X) (xs : List X) (i : ℕ) → list_all P (filter test xs) ≡ true → i < length xs → test (get_or xs i d) ≡ true → P (get_or xs i d) ≡ true
filter-at test P d [] i h low passes = absurd (omega arith)
filter-at test P d (x ∷ xs) zero h low passes = (and_parts (P x) (list_all P (filter test xs)) (rw passes at h)).0
filter-at test P d (x ∷ xs) (suc i) h low passes =
    filter-at test P d xs i (cond_both (test x) (x ∷ filter test xs) (filter test xs) (λ ys. list_all P ys ≡ true → list_all P (filter test xs) ≡ true) (λ _ k. (and_parts _ _ k).1) (λ _ k. k) h) (omega arith) passes

-- the counts of the lines
points-counted : {A : Type 0} (kind : Words → Bool) (f : Words → A) (lines : List Words) → count_by kind lines ≡ length (map f (filter kind lines))
points-counted kind f lines = sym (length-map (filter kind lines) f ∙ length-filter kind lines)

faces-counted : (lines : List Words) → count_by is_face_line lines ≡ length (faces_of lines)
faces-counted lines = sym (length-map (places is_face_line lines) (corner_numbers corner_point lines) ∙ places-length is_face_line lines)

-- the corners of a face line are points
face-below : (lines : List Words) → AreGood lines → (i : ℕ) → i < length lines → is_face_line (get_or lines i []) ≡ true → are-below (counts_of lines).point_count (corner_numbers corner_point lines i) ≡ true
face-below lines good i low is =
    let before = counts_of (take i lines) in
    let words = get_or lines i [] in
    let first = get_or words 1 [] in
    list_all-map (λ v. nat_lt v (counts_of lines).point_count) (λ corner. unwrap_or (corner_point before (counts_of lines) corner) 0) (values_of words)
    ∙ all-good (corner_fault before (counts_of lines) first) (λ corner. nat_lt (unwrap_or (corner_point before (counts_of lines) corner) 0) (counts_of lines).point_count)
    (λ corner fine. point-below before (counts_of lines) first corner (count-before is_vertex_line lines i) fine)
    (values_of words) (face-corners before (counts_of lines) words is (good i low))

pub vertices-good : (lines : List Words) → AreGood lines → list_all (are-below (counts_of lines).point_count) (faces_of lines) ≡ true
vertices-good lines good =
    list_all-map (are-below (counts_of lines).point_count) (corner_numbers corner_point lines) (places is_face_line lines)
    ∙ all-places is_face_line (λ i. are-below (counts_of lines).point_count (corner_numbers corner_point lines i)) [] lines (face-below lines good)

pub faces-over : (text : List ℕ) (least : ℕ) → read_obj_fault text least ≡ None → has_faces_over_points (read_obj_mesh text least) ≡ true
faces-over text least h =
    let lines = obj_lines text in
    subst (λ n. is_over n (faces_of lines) ≡ true) (points-counted is_vertex_line _ lines) (vertices-good lines (good-lines text least h))

-- texture corners are texture values
texture-corners-below : (lines : List Words) → AreGood lines → has_texture_channel lines ≡ true → (i : ℕ) → i < length lines → is_face_line (get_or lines i []) ≡ true → are-below (counts_of lines).texture_count (corner_numbers corner_texture lines i) ≡ true
texture-corners-below lines good has i low is =
    let before = counts_of (take i lines) in
    let words = get_or lines i [] in
    let first = get_or words 1 [] in
    let textured : list_all has_texture_part (values_of words) ≡ true =
    filter-at is_face_line (λ ws. list_all has_texture_part (values_of ws)) [] lines i (and_parts (list_any is_face_line lines) _ has).1 low is in
    list_all-map (λ v. nat_lt v (counts_of lines).texture_count) (λ corner. unwrap_or (corner_texture before (counts_of lines) corner) 0) (values_of words)
    ∙ all-good-where (corner_fault before (counts_of lines) first) has_texture_part (λ corner. nat_lt (unwrap_or (corner_texture before (counts_of lines) corner) 0) (counts_of lines).texture_count)
    (λ corner fine part. texture-below before (counts_of lines) first corner (count-before is_texture_line lines i) fine part)
    (values_of words) (face-corners before (counts_of lines) words is (good i low)) textured

pub texture-over : (text : List ℕ) (least : ℕ) → read_obj_fault text least ≡ None → has_corners_over_texture (read_obj_mesh text least) ≡ true
texture-over text least h =
    let lines = obj_lines text in
    subst (λ n. is_over n (texture_corners_of lines) ≡ true) (points-counted is_texture_line _ lines)
    (cond_both (has_texture_channel lines) (map (corner_numbers corner_texture lines) (places is_face_line lines)) [] (λ faces. is_over (counts_of lines).texture_count faces ≡ true)
    (λ has. list_all-map (are-below (counts_of lines).texture_count) (corner_numbers corner_texture lines) (places is_face_line lines)
    ∙ all-places is_face_line (λ i. are-below (counts_of lines).texture_count (corner_numbers corner_texture lines i)) [] lines (texture-corners-below lines (good-lines text least h) has))
    (λ _. refl))

-- the values of a tag with a name are good
tag-at : (lines : List Words) (name : List ℕ) (kind : TagKind) → kind_of_name name ≡ Some kind → AreGood lines → (i : ℕ) → i < length lines → is_tag name (get_or lines i []) ≡ true → tag_values_fault (counts_of lines) kind (get_or lines i []) ≡ None
tag-at lines name kind known good i low is =
    let words = get_or lines i [] in
    let parts : (is_tag_line words ≡ true) × (bytes_eq (tag_name words) name ≡ true) = and_parts _ _ is in
    tag-values-good (counts_of lines) name kind words known parts.1 (tag-good (counts_of (take i lines)) (counts_of lines) words parts.0 (good i low))

-- the vertices of a crease or corner tag are points
vertices-below : (lines : List Words) (name : List ℕ) (kind : TagKind) → kind_of_name name ≡ Some kind
    → ((whole : Counts) (words : Words) → tag_values_fault whole kind words ≡ index_and_sharpness_fault whole.point_count words)
    → AreGood lines → (i : ℕ) → i < length lines → is_tag name (get_or lines i []) ≡ true
    → are-below (counts_of lines).point_count (tag_indices (get_or lines i [])) ≡ true
vertices-below lines name kind known vertices good i low is =
    let words = get_or lines i [] in
    let count = (counts_of lines).point_count in
    indices-below count words
    (or-else-none (first_cause (tag_index_fault count) (tag_wholes words)) (first_cause tag_numeral_fault (tag_numerals words))
    (sym (vertices (counts_of lines) words) ∙ tag-at lines name kind known good i low is))

pub creases-good : (lines : List Words) → AreGood lines
    → list_all (λ crease. nat_lt crease.0.0 (counts_of lines).point_count && nat_lt crease.0.1 (counts_of lines).point_count) (flat_map tag_creases (tags_named (codes "crease") lines)) ≡ true
creases-good lines good =
    all-made (is_tag (codes "crease")) tag_creases _ [] lines
    (λ i low is. creases-below (counts_of lines).point_count (get_or lines i [])
    (vertices-below lines (codes "crease") CreaseTag refl (λ whole words. refl) good i low is))

pub creases-over : (text : List ℕ) (least : ℕ) → read_obj_fault text least ≡ None → has_creases_over_points (read_obj_mesh text least) ≡ true
creases-over text least h =
    let lines = obj_lines text in
    subst (λ n. list_all (λ crease. nat_lt crease.0.0 n && nat_lt crease.0.1 n) (flat_map tag_creases (tags_named (codes "crease") lines)) ≡ true) (points-counted is_vertex_line _ lines) (creases-good lines (good-lines text least h))

pub corners-good : (lines : List Words) → AreGood lines
    → list_all (λ corner. nat_lt corner.0 (counts_of lines).point_count) (flat_map tag_corners (tags_named (codes "corner") lines)) ≡ true
corners-good lines good =
    all-made (is_tag (codes "corner")) tag_corners _ [] lines
    (λ i low is. corners-below (counts_of lines).point_count (get_or lines i [])
    (vertices-below lines (codes "corner") CornerTag refl (λ whole words. refl) good i low is))

pub corners-over : (text : List ℕ) (least : ℕ) → read_obj_fault text least ≡ None → has_corner_tags_over_points (read_obj_mesh text least) ≡ true
corners-over text least h =
    let lines = obj_lines text in
    subst (λ n. list_all (λ corner. nat_lt corner.0 n) (flat_map tag_corners (tags_named (codes "corner") lines)) ≡ true) (points-counted is_vertex_line _ lines) (corners-good lines (good-lines text least h))

pub holes-good : (lines : List Words) → AreGood lines → are-below (counts_of lines).face_count (flat_map tag_indices (tags_named (codes "hole") lines)) ≡ true
holes-good lines good =
    all-made (is_tag (codes "hole")) tag_indices _ [] lines
    (λ i low is. indices-below (counts_of lines).face_count (get_or lines i []) (tag-at lines (codes "hole") HoleTag refl good i low is))

pub holes-over : (text : List ℕ) (least : ℕ) → read_obj_fault text least ≡ None → has_holes_over_faces (read_obj_mesh text least) ≡ true
holes-over text least h =
    let lines = obj_lines text in
    subst (λ n. list_all (λ face. nat_lt face n) (flat_map tag_indices (tags_named (codes "hole") lines)) ≡ true) (faces-counted lines) (holes-good lines (good-lines text least h))
