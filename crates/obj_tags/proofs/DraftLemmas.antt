-- The draft after one more line: its tag, its face, or no change.
use Rattle.std.proofs.Common.{◌≡◌, ℕ, ◌+◌, ◌<◌, ◌≤◌, Bool, true, false, cond, List, [], ◌∷◌, ◌++◌, length, map, take, get_or, append-nil, length-append, length-drop, ⊎_elim, ◌-◌, arith, refl, ap, sym, ◌∙◌, codes}
use Rattle.std.specs.List.{flat_map}
use Rattle.std.proofs.lemmas.Bool.{cases_Bool}
use Rattle.std.proofs.lemmas.List.{length-map}
use Rattle.std.proofs.lemmas.Grind.{flat_map-append}
use Rattle.subdiv_model.specs.Lists.{places}
use Rattle.subdiv_model.specs.ObjLine.{is_face_line}
use Rattle.subdiv_model.specs.Sharpness.{Normal}
use Rattle.subdiv_model.specs.Boundary.{EdgeOnly}
use Rattle.subdiv_model.specs.ObjWord.{corner_point}
use Rattle.subdiv_model.specs.ObjTag.{is_tag, tag_creases, tag_corners, tag_indices, tag_mode, tag_method}
use Rattle.subdiv_model.specs.ReadObj.{counts_of, values_of, corner_numbers, is_tag_line}
use Rattle.obj_laws.proofs.ObjStepLemmas.{flat-take, last-take, places-take}
use Rattle.obj_tags.specs.Draft.{AreFaces, AreTags, textures_at}
use Rattle.obj_tags.specs.Face.{named_point}
use Rattle.obj_tags.specs.TagAdded.{AddsTag}
use Rattle.raw_mesh.specs.declared.mesh.Faces.{Faces}
use Rattle.raw_mesh.specs.declared.tags.Tags.{Tags}
use Rattle.raw_mesh.proofs.PiecesLemmas.{Ascend-push, pieces-push}
use Rattle.obj_tags.specs.Line.{Line}

-- a tag line without fault
pub tags-more : (old new : Tags) (lines : List Line) (n : ℕ) → n < length lines → AreTags old (take n lines)
    → AddsTag (get_or lines n []) old new → AreTags new (take (n + 1) lines)
tags-more old new lines n h are adds =
    let line = get_or lines n [] in
    record {
      creases = adds.creases ∙ ap (λ xs. xs ++ cond (is_tag (codes "crease") line) (tag_creases line) []) are.creases ∙ sym (flat-take (is_tag (codes "crease")) tag_creases lines n [] h);
      corners = adds.corners ∙ ap (λ xs. xs ++ cond (is_tag (codes "corner") line) (tag_corners line) []) are.corners ∙ sym (flat-take (is_tag (codes "corner")) tag_corners lines n [] h);
      holes = adds.holes ∙ ap (λ xs. xs ++ cond (is_tag (codes "hole") line) (tag_indices line) []) are.holes ∙ sym (flat-take (is_tag (codes "hole")) tag_indices lines n [] h);
      boundary = adds.boundary ∙ ap (λ b. cond (is_tag (codes "interpolateboundary") line) (tag_mode line) b) are.boundary ∙ sym (last-take (is_tag (codes "interpolateboundary")) tag_mode EdgeOnly lines n [] h);
      method = adds.method ∙ ap (λ m. cond (is_tag (codes "creasemethod") line) (tag_method line) m) are.method ∙ sym (last-take (is_tag (codes "creasemethod")) tag_method Normal lines n [] h);
    }

no-tag : (name : List ℕ) (line : Line) → is_tag_line line ≡ false → is_tag name line ≡ false
no-tag name line other = rw other refl

add-none : {X : Type 0} (b : Bool) (xs ys : List X) → b ≡ false → xs ≡ xs ++ cond b ys []
add-none b xs ys e = rw (e, append-nil xs) refl

keep-given : {X : Type 0} (b : Bool) (x y : X) → b ≡ false → y ≡ cond b x y
keep-given b x y e = rw e refl

-- a line that is no tag
pub tags-other : (tags : Tags) (lines : List Line) (n : ℕ) → n < length lines → AreTags tags (take n lines)
    → is_tag_line (get_or lines n []) ≡ false → AreTags tags (take (n + 1) lines)
tags-other tags lines n h are other =
    let line = get_or lines n [] in
    tags-more tags tags lines n h are
    record {
      creases = add-none (is_tag (codes "crease") line) _ (tag_creases line) (no-tag (codes "crease") line other);
      corners = add-none (is_tag (codes "corner") line) _ (tag_corners line) (no-tag (codes "corner") line other);
      holes = add-none (is_tag (codes "hole") line) _ (tag_indices line) (no-tag (codes "hole") line other);
      boundary = keep-given (is_tag (codes "interpolateboundary") line) (tag_mode line) _ (no-tag (codes "interpolateboundary") line other);
      method = keep-given (is_tag (codes "creasemethod") line) (tag_method line) _ (no-tag (codes "creasemethod") line other);
    }

places-other : (lines : List Line) (n : ℕ) → n < length lines → is_face_line (get_or lines n []) ≡ false
    → places is_face_line (take (n + 1) lines) ≡ places is_face_line (take n lines)
places-other lines n h other = places-take is_face_line lines n [] h ∙ sym (add-none (is_face_line (get_or lines n [])) _ (n ∷ []) other)

places-face : (lines : List Line) (n : ℕ) → n < length lines → is_face_line (get_or lines n []) ≡ true
    → places is_face_line (take (n + 1) lines) ≡ places is_face_line (take n lines) ++ n ∷ []
places-face lines n h face = places-take is_face_line lines n [] h ∙ ap (λ b. places is_face_line (take n lines) ++ cond b (n ∷ []) []) face

-- a line that is no face
pub faces-other : (faces : Faces) (lines : List Line) (n : ℕ) → n < length lines → AreFaces faces lines n
    → is_face_line (get_or lines n []) ≡ false → AreFaces faces lines (n + 1)
faces-other faces lines n h are other =
    let same = sym (places-other lines n h other) in
    record {
      ascend = are.ascend;
      read = are.read ∙ ap (map (corner_numbers corner_point lines)) same;
      corners = are.corners ∙ ap (flat_map (corner_numbers corner_point lines)) same;
      texture = are.texture ∙ ap (flat_map (textures_at lines)) same;
    }

map-last : {X Y : Type 0} (f : X → Y) (xs : List X) (x : X) → map f (xs ++ x ∷ []) ≡ map f xs ++ f x ∷ []
map-last f [] x = refl
map-last f (y ∷ xs) x = ap (λ zs. f y ∷ zs) (map-last f xs x)

flat-last : {X Y : Type 0} (f : X → List Y) (xs : List X) (x : X) → flat_map f (xs ++ x ∷ []) ≡ flat_map f xs ++ f x
flat-last f xs x = flat_map-append f xs (x ∷ []) ∙ ap (λ ys. flat_map f xs ++ ys) (append-nil (f x))

-- a face line without fault
pub faces-more : (old new : Faces) (lines : List Line) (n : ℕ) → n < length lines → AreFaces old lines n
    → is_face_line (get_or lines n []) ≡ true → new.corners.items ≡ old.corners.items ++ corner_numbers corner_point lines n
    → new.texture_corners.items ≡ old.texture_corners.items ++ textures_at lines n
    → new.starts.items ≡ old.starts.items ++ (length old.corners.items + length (corner_numbers corner_point lines n)) ∷ []
    → AreFaces new lines (n + 1)
faces-more old new lines n h are face corners texture starts =
    let named = corner_numbers corner_point lines in
    let xs = old.corners.items in
    let next : places is_face_line (take (n + 1) lines) ≡ places is_face_line (take n lines) ++ n ∷ [] = places-face lines n h face in
    let long : length new.corners.items ≡ length xs + length (named n) = ap length corners ∙ length-append xs (named n) in
    record {
      ascend = rw (starts, long) (Ascend-push old.starts.items (length xs) (length (named n)) are.ascend);
      read = rw (starts, corners) (pieces-push old.starts.items xs (named n) are.ascend) ∙ ap (λ ps. ps ++ named n ∷ []) are.read ∙ sym (ap (map named) next ∙ map-last named (places is_face_line (take n lines)) n);
      corners = corners ∙ ap (λ ys. ys ++ named n) are.corners ∙ sym (ap (flat_map named) next ∙ flat-last named (places is_face_line (take n lines)) n);
      texture = texture ∙ ap (λ ys. ys ++ textures_at lines n) are.texture ∙ sym (ap (flat_map (textures_at lines)) next ∙ flat-last (textures_at lines) (places is_face_line (take n lines)) n);
    }

-- a line adds at most as many corners as it has words
pub corners-step : (old new : Faces) (lines : List Line) (n : ℕ) → n < length lines → AreFaces old lines n → AreFaces new lines (n + 1)
    → length new.corners.items ≤ length old.corners.items + length (get_or lines n [])
corners-step old new lines n h are next =
    let named = corner_numbers corner_point lines in
    let line = get_or lines n [] in
    ⊎_elim
    (λ (face : is_face_line line ≡ true).
    let all : new.corners.items ≡ old.corners.items ++ named n =
    next.corners ∙ ap (flat_map named) (places-face lines n h face) ∙ flat-last named (places is_face_line (take n lines)) n ∙ ap (λ xs. xs ++ named n) (sym are.corners) in
    let size : length new.corners.items ≡ length old.corners.items + length (named n) = ap length all ∙ length-append old.corners.items (named n) in
    let values : length (named n) ≡ length (values_of line) = length-map (values_of line) (named_point (counts_of (take n lines)) (counts_of lines)) in
    let less : length (values_of line) ≡ length line - 1 = length-drop 1 line in
    omega (arith, size, values, less))
    (λ (other : is_face_line line ≡ false).
    let all : new.corners.items ≡ old.corners.items = next.corners ∙ ap (flat_map named) (places-other lines n h other) ∙ sym are.corners in
    let size : length new.corners.items ≡ length old.corners.items = ap length all in
    omega (arith, size))
    (cases_Bool (is_face_line line))
