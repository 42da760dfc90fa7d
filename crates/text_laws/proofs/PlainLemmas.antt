-- The words of the lines of a mesh are plain.
use Rattle.std.proofs.Common.{◌≡◌, ℕ, ℤ, pos, negsuc, ◌+◌, ◌-◌, ◌<◌, Bool, true, not, ◌&&◌, nat_eq, List, [], ◌∷◌, ◌++◌, length, map, zip, arith, refl, ◌∙◌}
use Rattle.std.specs.Prelude.{unsigned_abs}
use Rattle.std.specs.List.{list_all}
use Rattle.std.proofs.lemmas.Bool.{and_parts, and_from, cond_both, le-leb}
use Rattle.std.proofs.lemmas.Bool.Decides.{nat_tests}
use Rattle.std.proofs.lemmas.List.{length-append}
use Rattle.std.proofs.lemmas.List.Folds.{list_all-append}
use Rattle.subdiv_model.specs.Polygons.{Polygon}
use Rattle.subdiv_model.specs.Digits.{is_digit}
use Rattle.subdiv_model.specs.Fractions.{lowest}
use Rattle.subdiv_model.specs.ObjLine.{opens_comment}
use Rattle.subdiv_model.specs.ReadObj.{ends_with_backslash}
use Rattle.subdiv_model.specs.Sharpness.{Sharpness, Smooth, Semi, Infinite, Method, Normal, Chaikin}
use Rattle.subdiv_model.specs.Level.{Level, edge_sharpness_of, vertex_sharpness_of}
use Rattle.subdiv_model.specs.Value.{Value}
use Rattle.subdiv_model.specs.Refined.{Point}
use Rattle.subdiv_model.specs.NumberText.{number_text, sign_text, ratio_text, value_text}
use Rattle.subdiv_model.specs.Text.{corner_text, shown, sharpness_text}
use Rattle.number_laws.proofs.CountLemmas.{all-weaker}
use Rattle.text_laws.specs.Laws.{Line, ends_word, is_plain_word, is_plain_line}
use Rattle.text_laws.specs.MeshLines.{vertex_line, texture_value_line, polygon_line, textured_polygon_line, mode_tag, method_tags, crease_tag, vertex_tag, hole_tag, written_edges, written_vertices, written_holes, tag_lines, lines_of_faces, mesh_lines, textured_mesh_lines}
use Rattle.text_laws.proofs.ListLemmas.{all-made, all-both, all-at}
use Rattle.text_laws.proofs.NumberLemmas.{number-digits, number-some}

-- a byte that ends no word, opens no comment and goes on to no other line
abbrev is_word_byte : ℕ → Bool
is_word_byte b = not (ends_word b) && not (nat_eq b 35) && not (nat_eq b 92)

pub record IsWritten (word : List ℕ) : Type 0 where
  some : 0 < length word
  bytes : list_all is_word_byte word ≡ true

written-plain : (word : List ℕ) → IsWritten word → is_plain_word word ≡ true
written-plain word is =
    and_from _ _ (and_from _ _ (le-leb 1 (length word) is.some) (all-weaker is_word_byte (λ b. not (ends_word b)) (λ b h. (and_parts _ _ (and_parts _ _ h).0).0) word is.bytes)) (uncommented word is.bytes)
  where
    uncommented : (word : List ℕ) → list_all is_word_byte word ≡ true → not (opens_comment word) ≡ true
    uncommented [] h = refl
    uncommented (b ∷ word) h = (and_parts (not (ends_word b)) _ (and_parts _ _ (and_parts (is_word_byte b) (list_all is_word_byte word) h).0).0).1

pub written-end : (word : List ℕ) → IsWritten word → not (ends_with_backslash word) ≡ true
written-end word is =
    all-at (λ b. not (nat_eq b 92)) 0 word (length word - 1) (all-weaker is_word_byte (λ b. not (nat_eq b 92)) (λ b h. (and_parts _ _ h).1) word is.bytes) refl

pub number-written : (n : ℕ) → IsWritten (number_text n)
number-written n = record { some = number-some n; bytes = all-weaker is_digit is_word_byte digit (number_text n) (number-digits n) }
  where
    digit : (b : ℕ) → is_digit b ≡ true → is_word_byte b ≡ true
    digit b h = grind (arith, nat_tests)

more-written : (first second : List ℕ) → IsWritten first → list_all is_word_byte second ≡ true → IsWritten (first ++ second)
more-written first second is bytes = record {
  some = omega (arith, length-append first second, is.some);
  bytes = list_all-append is_word_byte first second ∙ and_from _ _ is.bytes bytes;
}

ratio-written : (x : ℕ × ℕ) → IsWritten (ratio_text x)
ratio-written x =
    cond_both (nat_eq x.1 1) (number_text x.0) (number_text x.0 ++ 47 ∷ number_text x.1) IsWritten
    (λ _. number-written x.0) (λ _. more-written (number_text x.0) (47 ∷ number_text x.1) (number-written x.0) (number-written x.1).bytes)

signed-written : (z : ℤ) (word : List ℕ) → IsWritten word → IsWritten (sign_text z ++ word)
signed-written (pos n) word is = is
signed-written (negsuc n) word is = more-written (45 ∷ []) word (record { some = omega arith; bytes = refl }) is.bytes

pub number-plain : (n : ℕ) → is_plain_word (number_text n) ≡ true
number-plain n = written-plain (number_text n) (number-written n)

pub value-written : (value : Value) → IsWritten (value_text value)
value-written value =
    let low = lowest (unsigned_abs value.num, value.den) in
    signed-written value.num (ratio_text low) (ratio-written low)

pub value-plain : (value : Value) → is_plain_word (value_text value) ≡ true
value-plain value = written-plain (value_text value) (value-written value)

pub corner-written : (corner : ℕ × ℕ) → IsWritten (corner_text corner)
corner-written corner =
    more-written (number_text (corner.0 + 1)) (47 ∷ number_text (corner.1 + 1)) (number-written (corner.0 + 1)) (number-written (corner.1 + 1)).bytes

pub corner-plain : (corner : ℕ × ℕ) → is_plain_word (corner_text corner) ≡ true
corner-plain corner = written-plain (corner_text corner) (corner-written corner)

pub sharpness-written : (s : Sharpness) → IsWritten (sharpness_text s)
sharpness-written Smooth = record { some = omega arith; bytes = refl }
sharpness-written (Semi num den) = ratio-written (num, den)
sharpness-written Infinite = record { some = omega arith; bytes = refl }

pub sharpness-plain : (s : Sharpness) → is_plain_word (sharpness_text s) ≡ true
sharpness-plain s = written-plain (sharpness_text s) (sharpness-written s)

-- the lines of a mesh

vertex-plain : (point : Point) → is_plain_line (vertex_line point) ≡ true
vertex-plain point = and_from _ _ (value-plain point.0) (and_from _ _ (value-plain point.1) (and_from _ _ (value-plain point.2) refl))

texture-plain : (value : Value × Value) → is_plain_line (texture_value_line value) ≡ true
texture-plain value = and_from _ _ (value-plain value.0) (and_from _ _ (value-plain value.1) refl)

polygon-plain : (polygon : Polygon) → is_plain_line (polygon_line polygon) ≡ true
polygon-plain polygon = all-made is_plain_word (λ corner. number_text (corner + 1)) (λ corner. number-plain (corner + 1)) polygon

textured-plain : (face : Polygon × Polygon) → is_plain_line (textured_polygon_line face) ≡ true
textured-plain face = all-made is_plain_word corner_text corner-plain (zip face.0 face.1)

faces-plain : {Face : Type 0} (points : List Point) (texture : List (Value × Value)) (face_line : Face → Line) (faces : List Face)
    → ((face : Face) → is_plain_line (face_line face) ≡ true) → list_all is_plain_line (lines_of_faces points texture face_line faces) ≡ true
faces-plain points texture face_line faces each =
    all-both is_plain_line (map vertex_line points) (map texture_value_line texture ++ map face_line faces)
    (all-made is_plain_line vertex_line vertex-plain points)
    (all-both is_plain_line (map texture_value_line texture) (map face_line faces) (all-made is_plain_line texture_value_line texture-plain texture) (all-made is_plain_line face_line each faces))

pub mesh-plain : (holes : Bool) (level : Level) (points : List Point) → list_all is_plain_line (mesh_lines holes level points) ≡ true
mesh-plain holes level points = faces-plain points [] polygon_line (shown holes level level.polygons) polygon-plain

pub textured_mesh-plain : (holes : Bool) (level : Level) (points : List Point) (cut : Level) (texture : List (Value × Value))
    → list_all is_plain_line (textured_mesh_lines holes level points cut texture) ≡ true
textured_mesh-plain holes level points cut texture =
    faces-plain points texture textured_polygon_line (shown holes level (zip level.polygons cut.polygons)) textured-plain

-- the lines of tags

methods-plain : (method : Method) → list_all is_plain_line (method_tags method) ≡ true
methods-plain Normal = refl
methods-plain Chaikin = refl

crease-plain : (level : Level) (edge : ℕ × ℕ) → is_plain_line (crease_tag level edge) ≡ true
crease-plain level edge =
    and_from _ _ (number-plain edge.0) (and_from _ _ (number-plain edge.1) (and_from _ _ (sharpness-plain (edge_sharpness_of level edge)) refl))

tag-plain : (level : Level) (v : ℕ) → is_plain_line (vertex_tag level v) ≡ true
tag-plain level v = and_from _ _ (number-plain v) (and_from _ _ (sharpness-plain (vertex_sharpness_of level v)) refl)

hole-plain : (face : ℕ) → is_plain_line (hole_tag face) ≡ true
hole-plain face = and_from _ _ (number-plain face) refl

pub tags-plain : (level : Level) → list_all is_plain_line (tag_lines level) ≡ true
tags-plain level =
    let holes = map hole_tag (written_holes level) in
    let vertices = map (vertex_tag level) (written_vertices level) in
    let creases = map (crease_tag level) (written_edges level) in
    let last = vertices ++ holes in
    let named = creases ++ last in
    all-both is_plain_line (mode_tag ∷ []) (method_tags level.method ++ named) refl
    (all-both is_plain_line (method_tags level.method) named (methods-plain level.method)
    (all-both is_plain_line creases last (all-made is_plain_line (crease_tag level) (crease-plain level) (written_edges level))
    (all-both is_plain_line vertices holes (all-made is_plain_line (vertex_tag level) (tag-plain level) (written_vertices level)) (all-made is_plain_line hole_tag hole-plain (written_holes level)))))
