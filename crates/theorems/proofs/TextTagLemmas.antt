-- The last tag line of an OBJ text that names an item counts.
use Rattle.std.proofs.Common.{◌≡◌, ℕ, Bool, true, false, ◌&&◌, nat_eq, List, ◌∷◌, ◌++◌, map, refl, ap, ◌∙◌, IsTrue}
use Rattle.std.specs.Prelude.{codes}
use Rattle.std.specs.List.{filter, flat_map, list_any}
use Rattle.std.proofs.lemmas.Bool.{and_parts}
use Rattle.std.proofs.lemmas.List.Elements.{filter-append}
use Rattle.std.proofs.lemmas.Grind.{flat_map-append}
use Rattle.subdiv_model.specs.Lists.{last_of}
use Rattle.subdiv_model.specs.Polygons.{same_edge, is_among}
use Rattle.subdiv_model.specs.Sharpness.{Sharpness, Smooth, Normal}
use Rattle.subdiv_model.specs.Boundary.{EdgeOnly}
use Rattle.subdiv_model.specs.ObjTag.{is_tag, tag_creases, tag_corners, tag_indices, tag_mode, tag_method}
use Rattle.subdiv_model.specs.ReadObj.{mesh_of_lines}
use Rattle.subdiv_model.specs.Base.{tagged_edge, tagged_vertex}
use Rattle.theorems.specs.TagLines.{is_crease_line_of, is_corner_line_of, is_hole_line_of, is_boundary_line, is_method_line}
use Rattle.number_laws.proofs.ListLemmas.{any-flat_map, any-both, last-split, last-none, last-some, last-kept}

abbrev pub Line : Type 0
Line = List (List ℕ)

-- some item that the lines of a kind give passes exactly where a line of the kind gives an item that passes
pub any-made : {X Y : Type 0} (kind : X → Bool) (make : X → List Y) (keep : Y → Bool) (xs : List X)
    → list_any keep (flat_map make (filter kind xs)) ≡ list_any (λ x. kind x && list_any keep (make x)) xs
any-made kind make keep xs = any-flat_map keep make (filter kind xs) ∙ any-both kind (λ x. list_any keep (make x)) xs

-- the last line of a kind that gives an item that passes gives the last of these items
last-line : {X Y Z : Type 0} (kind : X → Bool) (make : X → List Y) (value : Y → Z) (keep : Y → Bool) (z : Z)
    (before : List X) (x : X) (after : List X)
    → (kind x && list_any keep (make x)) ≡ true → list_any (λ w. kind w && list_any keep (make w)) after ≡ false
    → last_of z (map value (filter keep (flat_map make (filter kind (before ++ (x ∷ after))))))
    ≡ last_of z (map value (filter keep (make x)))
last-line kind make value keep z before x after some none =
    let parts = and_parts (kind x) (list_any keep (make x)) some in
    let is = parts.0 in
    let first = flat_map make (filter kind before) in
    let rest = flat_map make (filter kind after) in
    let split : flat_map make (filter kind (before ++ (x ∷ after))) ≡ first ++ (make x ++ rest) =
    ap (flat_map make) (filter-append kind before (x ∷ after))
    ∙ flat_map-append make (filter kind before) (filter kind (x ∷ after)) ∙ rw is refl in
    ap (λ ys. last_of z (map value (filter keep ys))) split
    ∙ last-split value keep z first (make x ++ rest)
    ∙ last-split value keep (last_of z (map value (filter keep first))) (make x) rest
    ∙ last-none value keep _ rest (any-made kind make keep after ∙ none)
    ∙ last-some value keep (last_of z (map value (filter keep first))) z (make x) parts.1

pub last-crease_line : (lines before after : List Line) (words : Line) (least : ℕ) (edge : ℕ × ℕ) → lines ≡ before ++ (words ∷ after)
    → IsTrue (is_crease_line_of edge words) → list_any (is_crease_line_of edge) after ≡ false
    → tagged_edge (mesh_of_lines lines least).creases edge ≡ tagged_edge (tag_creases words) edge
last-crease_line lines before after words least edge split some none =
    ap (λ all. tagged_edge (mesh_of_lines all least).creases edge) split
    ∙ last-line (is_tag (codes "crease")) tag_creases (λ (crease : (ℕ × ℕ) × Sharpness). crease.1)
    (λ (crease : (ℕ × ℕ) × Sharpness). same_edge edge crease.0) Smooth before words after some none

pub last-corner_line : (lines before after : List Line) (words : Line) (least v : ℕ) → lines ≡ before ++ (words ∷ after)
    → IsTrue (is_corner_line_of v words) → list_any (is_corner_line_of v) after ≡ false
    → tagged_vertex (mesh_of_lines lines least).corner_tags v ≡ tagged_vertex (tag_corners words) v
last-corner_line lines before after words least v split some none =
    ap (λ all. tagged_vertex (mesh_of_lines all least).corner_tags v) split
    ∙ last-line (is_tag (codes "corner")) tag_corners (λ (tag : ℕ × Sharpness). tag.1)
    (λ (tag : ℕ × Sharpness). nat_eq v tag.0) Smooth before words after some none

-- a face is a hole of the text where one of its hole lines names it
pub holes-any : (lines : List Line) (least face : ℕ)
    → is_among (mesh_of_lines lines least).holes face ≡ list_any (is_hole_line_of face) lines
holes-any lines least face = any-made (is_tag (codes "hole")) tag_indices (nat_eq face) lines

pub last-mode : (lines before after : List Line) (words : Line) (least : ℕ) → lines ≡ before ++ (words ∷ after)
    → IsTrue (is_boundary_line words) → list_any is_boundary_line after ≡ false → (mesh_of_lines lines least).boundary ≡ tag_mode words
last-mode lines before after words least split is none =
    ap (λ all. (mesh_of_lines all least).boundary) split ∙ last-kept tag_mode is_boundary_line EdgeOnly before words after is none

pub no-mode : (lines : List Line) (least : ℕ) → list_any is_boundary_line lines ≡ false → (mesh_of_lines lines least).boundary ≡ EdgeOnly
no-mode lines least none = last-none tag_mode is_boundary_line EdgeOnly lines none

pub last-method : (lines before after : List Line) (words : Line) (least : ℕ) → lines ≡ before ++ (words ∷ after)
    → IsTrue (is_method_line words) → list_any is_method_line after ≡ false → (mesh_of_lines lines least).method ≡ tag_method words
last-method lines before after words least split is none =
    ap (λ all. (mesh_of_lines all least).method) split ∙ last-kept tag_method is_method_line Normal before words after is none

pub no-method : (lines : List Line) (least : ℕ) → list_any is_method_line lines ≡ false → (mesh_of_lines lines least).method ≡ Normal
no-method lines least none = last-none tag_method is_method_line Normal lines none
