-- Points and texture values, read over a common denominator, are the values that were written.
use Rattle.std.proofs.Common.{◌≡◌, ℕ, ◌^◌, ◌<◌, ℤ, List, [], ◌∷◌, map, lit<, ap, sym, subst, ◌∙◌}
use Rattle.std.specs.Int.{◌∣◌}
use Rattle.std.specs.List.{All, AllByRecursion, AllZip, filter, flat_map, fold}
use Rattle.std.proofs.lemmas.List.Elements.{recursion_from_All}
use Rattle.std.proofs.lemmas.List.Folds.{flat_map-map}
use Rattle.subdiv_model.specs.Multiples.{lcm_of}
use Rattle.subdiv_model.specs.Value.{Value, IsSameValue}
use Rattle.subdiv_model.specs.Refined.{Point}
use Rattle.subdiv_model.specs.NumberText.{value_text}
use Rattle.subdiv_model.specs.ObjLine.{is_vertex_line}
use Rattle.subdiv_model.specs.ObjWord.{number_over}
use Rattle.subdiv_model.specs.ReadObj.{is_texture_line, kept_coordinates, denominator_of, common_over, position_common, texture_common_of, point_over, texture_over}
use Rattle.subdiv_model.specs.Text.{point_words}
use Rattle.number_laws.proofs.MultipleLemmas.{fold-lcm-divided, fold-lcm-positive}
use Rattle.obj_laws.proofs.NumeralValueLemmas.{tens}
use Rattle.text_laws.specs.Laws.{value_over}
use Rattle.text_laws.specs.ReadMesh.{HasDenominators, HasTextureDenominators, IsPointOver, IsTextureOver}
use Rattle.text_laws.proofs.ListLemmas.{map-twice}
use Rattle.text_laws.proofs.ValueLemmas.{value-back, value-over}
use Rattle.text_laws.proofs.KeptLemmas.{Words, vertex_words, texture_words}
use Rattle.obj_laws.proofs.ObjChannelLemmas.{denominators-positive}

pub common-positive : (start : ℕ) (words : List (List ℕ)) → 0 < start → 0 < fold lcm_of start (map denominator_of words)
common-positive start words above = fold-lcm-positive start (map denominator_of words) above (denominators-positive words)

-- a value that was written, and the number that is read
number-same : (common : ℕ) (value : Value) → 0 < value.den → denominator_of (value_text value) ∣ common
    → IsSameValue value (value_over common (number_over common (value_text value)))
number-same common value above divides =
    sym (value-over common value above (subst (λ (form : ℤ × ℕ). form.1 ∣ common) (value-back value above) divides))

-- the words of all points, and of all texture values
abbrev position_words : List Point → List (List ℕ)
position_words points = flat_map point_words points

abbrev value_words : Value × Value → List (List ℕ)
value_words value = value_text value.0 ∷ value_text value.1 ∷ []

abbrev all_value_words : List (Value × Value) → List (List ℕ)
all_value_words texture = flat_map value_words texture

-- lines of points

points-common : (lines : List Words) (points : List Point) (least : ℕ) → filter is_vertex_line lines ≡ map vertex_words points
    → position_common least lines ≡ fold lcm_of (10 ^ least) (map denominator_of (position_words points))
points-common lines points least kept =
    ap (common_over (10 ^ least)) kept
    ∙ ap (λ words. fold lcm_of (10 ^ least) (map denominator_of words)) (flat_map-map kept_coordinates vertex_words points)

pub points-common-positive : (lines : List Words) (points : List Point) (least : ℕ) → filter is_vertex_line lines ≡ map vertex_words points
    → 0 < position_common least lines
points-common-positive lines points least kept =
    subst (λ n. 0 < n) (sym (points-common lines points least kept)) (common-positive (10 ^ least) (position_words points) (tens least))

abbrev read_point : ℕ → Point → ℤ × ℤ × ℤ
read_point common point = point_over common (vertex_words point)

-- each coordinate is the value that was written
points-same : (common : ℕ) (points : List Point) → AllByRecursion HasDenominators points
    → AllByRecursion (λ n. n ∣ common) (map denominator_of (position_words points)) → AllZip (IsPointOver common) points (map (read_point common) points)
points-same common [] above divides = tt
points-same common (point ∷ points) above divides =
    let here : IsPointOver common point (read_point common point) = record {
      x = number-same common point.0 above.0.x divides.0;
      y = number-same common point.1 above.0.y divides.1.0;
      z = number-same common point.2 above.0.z divides.1.1.0;
    } in
    (here, points-same common points above.1 divides.1.1.1)

pub points-back : (lines : List Words) (points : List Point) (least : ℕ) → filter is_vertex_line lines ≡ map vertex_words points → All HasDenominators points
    → AllZip (IsPointOver (position_common least lines)) points (map (point_over (position_common least lines)) (filter is_vertex_line lines))
points-back lines points least kept above =
    let common = position_common least lines in
    let read : map (point_over common) (filter is_vertex_line lines) ≡ map (read_point common) points =
    ap (map (point_over common)) kept ∙ map-twice vertex_words (point_over common) points in
    let Divide : ℕ → Type 0 = λ n. AllByRecursion (λ d. d ∣ n) (map denominator_of (position_words points)) in
    let divide : Divide common = subst Divide (sym (points-common lines points least kept)) (fold-lcm-divided (10 ^ least) (map denominator_of (position_words points))) in
    subst (AllZip (IsPointOver common) points) (sym read) (points-same common points (recursion_from_All HasDenominators points above) divide)

-- lines of texture values

texture-common : (lines : List Words) (texture : List (Value × Value)) → filter is_texture_line lines ≡ map texture_words texture
    → texture_common_of lines ≡ fold lcm_of 1 (map denominator_of (all_value_words texture))
texture-common lines texture kept =
    ap (common_over 1) kept ∙ ap (λ words. fold lcm_of 1 (map denominator_of words)) (flat_map-map kept_coordinates texture_words texture)

pub texture-common-positive : (lines : List Words) (texture : List (Value × Value)) → filter is_texture_line lines ≡ map texture_words texture
    → 0 < texture_common_of lines
texture-common-positive lines texture kept =
    subst (λ n. 0 < n) (sym (texture-common lines texture kept)) (common-positive 1 (all_value_words texture) (lit< tt))

abbrev read_value : ℕ → Value × Value → ℤ × ℤ
read_value common value = texture_over common (texture_words value)

texture-same : (common : ℕ) (texture : List (Value × Value)) → AllByRecursion HasTextureDenominators texture
    → AllByRecursion (λ n. n ∣ common) (map denominator_of (all_value_words texture)) → AllZip (IsTextureOver common) texture (map (read_value common) texture)
texture-same common [] above divides = tt
texture-same common (value ∷ texture) above divides =
    let here : IsTextureOver common value (read_value common value) = record {
      u = number-same common value.0 above.0.u divides.0;
      v = number-same common value.1 above.0.v divides.1.0;
    } in
    (here, texture-same common texture above.1 divides.1.1)

pub texture-back : (lines : List Words) (texture : List (Value × Value)) → filter is_texture_line lines ≡ map texture_words texture → All HasTextureDenominators texture
    → AllZip (IsTextureOver (texture_common_of lines)) texture (map (texture_over (texture_common_of lines)) (filter is_texture_line lines))
texture-back lines texture kept above =
    let common = texture_common_of lines in
    let read : map (texture_over common) (filter is_texture_line lines) ≡ map (read_value common) texture =
    ap (map (texture_over common)) kept ∙ map-twice texture_words (texture_over common) texture in
    let Divide : ℕ → Type 0 = λ n. AllByRecursion (λ d. d ∣ n) (map denominator_of (all_value_words texture)) in
    let divide : Divide common = subst Divide (sym (texture-common lines texture kept)) (fold-lcm-divided 1 (map denominator_of (all_value_words texture))) in
    subst (AllZip (IsTextureOver common) texture) (sym read) (texture-same common texture (recursion_from_All HasTextureDenominators texture above) divide)
