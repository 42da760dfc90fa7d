-- The lines of a mesh and its tags are good, each by itself.
use Rattle.std.proofs.Common.{◌≡◌, ℕ, suc, ◌+◌, ◌-◌, ◌^◌, ◌<◌, Bool, true, false, not, ◌&&◌, ◌||◌, nat_eq, nat_lt, List, [], ◌∷◌, length, map, Option, Some, None, arith, refl, ap, sym, ◌∙◌, if◌then◌else◌, true≢false}
use Rattle.std.specs.Prelude.{codes, is_none}
use Rattle.std.specs.List.{list_all, AllByRecursion}
use Rattle.std.specs.Option.{option_or}
use Rattle.std.proofs.lemmas.Bool.{and_parts, and_from, and_right, cond-true, cond-false}
use Rattle.std.proofs.lemmas.Bool.Decides.{nat_tests}
use Rattle.subdiv_model.specs.Numeral.{is_numeral, numeral_amount, is_in_range}
use Rattle.subdiv_model.specs.NumberText.{number_text, value_text}
use Rattle.subdiv_model.specs.Polygons.{Polygon}
use Rattle.subdiv_model.specs.Sharpness.{Sharpness, Method, Normal, Chaikin, is_proper_sharpness}
use Rattle.subdiv_model.specs.Level.{Level, edge_sharpness_of, vertex_sharpness_of}
use Rattle.subdiv_model.specs.Value.{Value}
use Rattle.subdiv_model.specs.Refined.{Point}
use Rattle.subdiv_model.specs.Text.{sharpness_text, point_words, corner_text}
use Rattle.subdiv_model.specs.ObjFault.{ObjCause, first_cause, TagIndex, SharpnessRange}
use Rattle.subdiv_model.specs.ObjWord.{Counts, numeral_fault, corner_fault, corner_point, corner_texture, corner_parts, vertex_part, texture_part, has_texture_part, is_face_corner, are_corner_parts, same_form, is_past_lists}
use Rattle.subdiv_model.specs.ObjTag.{is_below, is_negative, is_below_ten, is_too_fine_numeral, tag_index_fault, sharpness_fault, tag_numeral_fault}
use Rattle.subdiv_model.specs.ReadObj.{is_continued, ends_with_backslash, has_known_keyword, least_values, words_fault, line_fault}
use Rattle.obj_laws.proofs.RangeLemmas.{kept-range}
use Rattle.text_laws.specs.Laws.{words_of, lowest_amount}
use Rattle.text_laws.specs.MeshLines.{mode_tag, method_tags}
use Rattle.text_laws.specs.ReadMesh.{HasDenominators, HasTextureDenominators, has_corners}
use Rattle.text_laws.specs.Readable.{is_short_value, is_short_point, is_short_texture, is_readable_sharpness}
use Rattle.text_laws.proofs.ListLemmas.{all-at, all-made}
use Rattle.text_laws.proofs.NumberLemmas.{number-index, index-back}
use Rattle.text_laws.proofs.ValueLemmas.{value-ratio, value-numeral}
use Rattle.text_laws.proofs.SharpnessLemmas.{sharpness-numeral, sharpness-unsigned, sharpness-range, sharpness-fine}
use Rattle.text_laws.proofs.PlainLemmas.{written-end, number-written, value-written, corner-written, sharpness-written}
use Rattle.text_laws.proofs.KeptLemmas.{vertex_words, texture_words, crease_words, tag_words, hole_words}
use Rattle.text_laws.proofs.FaceLemmas.{item-place, number-parts, number-vertex, corner-parts, corner-vertex, corner-texture}
use Rattle.text_laws.proofs.ReadMeshLemmas.{corner_words}
use Rattle.text_laws.proofs.TexturedLemmas.{number-untextured, corner-textured}

-- words without fault have no first fault
first-none : (cause_of : List ℕ → Option ObjCause) (words : List (List ℕ)) → AllByRecursion (λ word. cause_of word ≡ None) words → first_cause cause_of words ≡ None
first-none cause_of [] good = refl
first-none cause_of (word ∷ words) good = rw good.0 (first-none cause_of words good.1)

-- a line whose words are good
line-good : (before whole : Counts) (keyword : List ℕ) (words : List (List ℕ)) → list_all (λ word. not (ends_with_backslash word)) (keyword ∷ words) ≡ true
    → has_known_keyword (keyword ∷ words) ≡ true → nat_lt (length words) (least_values (keyword ∷ words)) ≡ false
    → words_fault before whole (keyword ∷ words) ≡ None → line_fault before whole (keyword ∷ words) ≡ None
line-good before whole keyword words ends known many good =
    let all : List (List ℕ) = keyword ∷ words in
    let last : is_continued all ≡ false = turned (is_continued all) (all-at (λ word. not (ends_with_backslash word)) [] all (length all - 1) ends refl) in
    cond-false _ _ _ last ∙ cond-false _ _ _ (ap not known) ∙ cond-false _ _ _ many ∙ good
  where
    turned : (b : Bool) → not b ≡ true → b ≡ false
    turned true h = absurd (true≢false (sym h))
    turned false h = refl

number-end : (n : ℕ) → not (ends_with_backslash (number_text n)) ≡ true
number-end n = written-end (number_text n) (number-written n)

value-end : (value : Value) → not (ends_with_backslash (value_text value)) ≡ true
value-end value = written-end (value_text value) (value-written value)

sharpness-end : (s : Sharpness) → not (ends_with_backslash (sharpness_text s)) ≡ true
sharpness-end s = written-end (sharpness_text s) (sharpness-written s)

-- numerals in range

numeral-good : (word : List ℕ) → is_numeral word ≡ true → is_in_range word ≡ true → numeral_fault word ≡ None
numeral-good word numeral range = cond-true _ _ _ numeral ∙ cond-true _ _ _ (kept-range word numeral ∙ range)

value-good : (value : Value) → 0 < value.den → is_short_value value ≡ true → numeral_fault (value_text value) ≡ None
value-good value above short =
    let low = lowest_amount value in
    let parts = and_parts (nat_lt low.0 (10 ^ 37)) (nat_lt low.1 (10 ^ 37)) short in
    numeral-good (value_text value) (value-numeral value above) ((value-ratio value above).range parts.0 parts.1)

-- lines of points

pub vertex-good : (before whole : Counts) (point : Point) → HasDenominators point → is_short_point point ≡ true → line_fault before whole (vertex_words point) ≡ None
vertex-good before whole point above short =
    let outer = and_parts (is_short_value point.0 && is_short_value point.1) (is_short_value point.2) short in
    let inner = and_parts (is_short_value point.0) (is_short_value point.1) outer.0 in
    line-good before whole (codes "v") (point_words point)
    (and_from _ _ (value-end point.0) (and_from _ _ (value-end point.1) (and_from _ _ (value-end point.2) refl))) refl refl
    (first-none numeral_fault (point_words point) (value-good point.0 above.x inner.0, (value-good point.1 above.y inner.1, (value-good point.2 above.z outer.1, tt))))

-- lines of texture values

pub texture-good : (before whole : Counts) (value : Value × Value) → HasTextureDenominators value → is_short_texture value ≡ true
    → line_fault before whole (texture_words value) ≡ None
texture-good before whole value above short =
    let parts = and_parts (is_short_value value.0) (is_short_value value.1) short in
    let words : List (List ℕ) = value_text value.0 ∷ value_text value.1 ∷ [] in
    line-good before whole (codes "vt") words (and_from _ _ (value-end value.0) (and_from _ _ (value-end value.1) refl)) refl refl
    (first-none numeral_fault words (value-good value.0 above.u parts.0, (value-good value.1 above.v parts.1, tt)))

-- lines of faces

too-few : (n : ℕ) → nat_lt (suc n) 1 ≡ false
too-few n = grind (arith, nat_tests)

same-form : (first corner : ℕ) → same_form (number_text first) (number_text corner) ≡ true
same-form first corner =
    rw (number-untextured first, number-untextured corner) (ap (λ parts. nat_eq (length parts) (length (corner_parts (number_text corner))) && true) (number-parts first)
    ∙ ap (λ parts. nat_eq 1 (length parts) && true) (number-parts corner))

corner-good : (before whole : Counts) (first corner : ℕ) → nat_lt corner whole.point_count ≡ true
    → corner_fault before whole (number_text (first + 1)) (number_text (corner + 1)) ≡ None
corner-good before whole first corner below =
    let word = number_text (corner + 1) in
    let is : is_face_corner word ≡ true = ap are_corner_parts (number-parts (corner + 1)) ∙ number-index (corner + 1) in
    let place : corner_point before whole word ≡ Some corner =
    item-place (λ counts. counts.point_count) vertex_part (λ c. number_text (c + 1)) (λ c. c) number-vertex before whole corner below in
    let past : is_past_lists before whole word ≡ false =
    ap (λ found. is_none found || (has_texture_part word && is_none (corner_texture before whole word))) place
    ∙ ap (λ b. b && is_none (corner_texture before whole word)) (number-untextured (corner + 1)) in
    cond-true _ _ _ (and_from _ _ is (same-form (first + 1) (corner + 1))) ∙ cond-false _ _ _ past

pub face-good : (before whole : Counts) (polygon : Polygon) → has_corners polygon ≡ true → list_all (λ v. nat_lt v whole.point_count) polygon ≡ true
    → line_fault before whole (codes "f" ∷ corner_words polygon) ≡ None
face-good before whole [] some below = absurd (true≢false (sym some))
face-good before whole (first ∷ polygon) some below =
    line-good before whole (codes "f") (corner_words (first ∷ polygon))
    (all-made (λ word. not (ends_with_backslash word)) (λ c. number_text (c + 1)) (λ c. number-end (c + 1)) (first ∷ polygon)) refl
    (too-few (length (corner_words polygon)))
    (first-none (corner_fault before whole (number_text (first + 1))) (corner_words (first ∷ polygon)) (each (first ∷ polygon) below))
  where
    each : (corners : Polygon) → list_all (λ v. nat_lt v whole.point_count) corners ≡ true
        → AllByRecursion (λ word. corner_fault before whole (number_text (first + 1)) word ≡ None) (corner_words corners)
    each [] h = tt
    each (corner ∷ corners) h =
        let parts = and_parts (nat_lt corner whole.point_count) (list_all (λ v. nat_lt v whole.point_count) corners) h in
        (corner-good before whole first corner parts.0, each corners parts.1)

-- lines of faces with texture values

pair-end : (corner : ℕ × ℕ) → not (ends_with_backslash (corner_text corner)) ≡ true
pair-end corner = written-end (corner_text corner) (corner-written corner)

pair-form : (first corner : ℕ × ℕ) → same_form (corner_text first) (corner_text corner) ≡ true
pair-form first corner =
    rw (corner-textured first, corner-textured corner) (ap (λ parts. nat_eq (length parts) (length (corner_parts (corner_text corner))) && true) (corner-parts first)
    ∙ ap (λ parts. nat_eq 2 (length parts) && true) (corner-parts corner))

abbrev pub is_pair_below : Counts → ℕ × ℕ → Bool
is_pair_below whole corner = nat_lt corner.0 whole.point_count && nat_lt corner.1 whole.texture_count

pair-good : (before whole : Counts) (first corner : ℕ × ℕ) → is_pair_below whole corner ≡ true → corner_fault before whole (corner_text first) (corner_text corner) ≡ None
pair-good before whole first corner below =
    let word = corner_text corner in
    let parts = and_parts (nat_lt corner.0 whole.point_count) (nat_lt corner.1 whole.texture_count) below in
    let is : is_face_corner word ≡ true =
    ap are_corner_parts (corner-parts corner) ∙ and_from _ _ (number-index (corner.0 + 1)) (number-index (corner.1 + 1)) in
    let point : corner_point before whole word ≡ Some corner.0 =
    item-place (λ counts. counts.point_count) vertex_part corner_text (λ c. c.0) corner-vertex before whole corner parts.0 in
    let texture : corner_texture before whole word ≡ Some corner.1 =
    item-place (λ counts. counts.texture_count) texture_part corner_text (λ c. c.1) corner-texture before whole corner parts.1 in
    let past : is_past_lists before whole word ≡ false =
    ap (λ found. is_none found || (has_texture_part word && is_none (corner_texture before whole word))) point
    ∙ ap (λ found. has_texture_part word && is_none found) texture
    ∙ and_right (has_texture_part word) false refl in
    cond-true _ _ _ (and_from _ _ is (pair-form first corner)) ∙ cond-false _ _ _ past

pub paired-good : (before whole : Counts) (corners : List (ℕ × ℕ)) → 0 < length corners → list_all (is_pair_below whole) corners ≡ true
    → line_fault before whole (codes "f" ∷ map corner_text corners) ≡ None
paired-good before whole [] some below = absurd (omega arith)
paired-good before whole (first ∷ corners) some below =
    line-good before whole (codes "f") (map corner_text (first ∷ corners))
    (all-made (λ word. not (ends_with_backslash word)) corner_text pair-end (first ∷ corners)) refl
    (too-few (length (map corner_text corners)))
    (first-none (corner_fault before whole (corner_text first)) (map corner_text (first ∷ corners)) (each (first ∷ corners) below))
  where
    each : (more : List (ℕ × ℕ)) → list_all (is_pair_below whole) more ≡ true
        → AllByRecursion (λ word. corner_fault before whole (corner_text first) word ≡ None) (map corner_text more)
    each [] h = tt
    each (corner ∷ more) h =
        let parts = and_parts (is_pair_below whole corner) (list_all (is_pair_below whole) more) h in
        (pair-good before whole first corner parts.0, each more parts.1)

-- lines of tags

index-good : (count n : ℕ) → nat_lt n count ≡ true → tag_index_fault count (number_text n) ≡ None
index-good count n below =
    cond-true _ _ _ (number-index n)
    ∙ ap (λ z. if is_below count z then None else Some TagIndex) (index-back n)
    ∙ cond-true _ None (Some TagIndex) below

sharpness-good : (s : Sharpness) → is_proper_sharpness s ≡ true → is_readable_sharpness s ≡ true → tag_numeral_fault (sharpness_text s) ≡ None
sharpness-good s proper readable =
    let word = sharpness_text s in
    let positive : is_negative word ≡ false = ap (λ b. b && nat_lt 0 (numeral_amount word).0) (sharpness-unsigned s) in
    let both : (is_negative word || (is_below_ten word && is_too_fine_numeral word)) ≡ false =
    ap (λ b. b || (is_below_ten word && is_too_fine_numeral word)) positive ∙ and_right (is_below_ten word) (is_too_fine_numeral word) (sharpness-fine s proper readable) in
    ap (λ fault. option_or fault (sharpness_fault word)) (numeral-good word (sharpness-numeral s proper) (sharpness-range s proper readable))
    ∙ cond-false _ (Some SharpnessRange) None both

pub mode-good : (before whole : Counts) → line_fault before whole (words_of mode_tag) ≡ None
mode-good before whole = refl

pub crease-good : (before whole : Counts) (level : Level) (edge : ℕ × ℕ) → nat_lt edge.0 whole.point_count ≡ true → nat_lt edge.1 whole.point_count ≡ true
    → is_proper_sharpness (edge_sharpness_of level edge) ≡ true → is_readable_sharpness (edge_sharpness_of level edge) ≡ true
    → line_fault before whole (crease_words level edge) ≡ None
crease-good before whole level edge first second proper readable =
    let s = edge_sharpness_of level edge in
    let ends : List (List ℕ) = number_text edge.0 ∷ number_text edge.1 ∷ [] in
    line-good before whole (codes "t") (codes "crease" ∷ codes "2/1/0" ∷ number_text edge.0 ∷ number_text edge.1 ∷ sharpness_text s ∷ [])
    (and_from _ _ (number-end edge.0) (and_from _ _ (number-end edge.1) (and_from _ _ (sharpness-end s) refl))) refl refl
    (ap (λ fault. option_or fault (first_cause tag_numeral_fault (sharpness_text s ∷ [])))
    (first-none (tag_index_fault whole.point_count) ends (index-good whole.point_count edge.0 first, (index-good whole.point_count edge.1 second, tt)))
    ∙ first-none tag_numeral_fault (sharpness_text s ∷ []) (sharpness-good s proper readable, tt))

pub vertex_tag-good : (before whole : Counts) (level : Level) (v : ℕ) → nat_lt v whole.point_count ≡ true
    → is_proper_sharpness (vertex_sharpness_of level v) ≡ true → is_readable_sharpness (vertex_sharpness_of level v) ≡ true
    → line_fault before whole (tag_words level v) ≡ None
vertex_tag-good before whole level v below proper readable =
    let s = vertex_sharpness_of level v in
    line-good before whole (codes "t") (codes "corner" ∷ codes "1/1/0" ∷ number_text v ∷ sharpness_text s ∷ [])
    (and_from _ _ (number-end v) (and_from _ _ (sharpness-end s) refl)) refl refl
    (ap (λ fault. option_or fault (first_cause tag_numeral_fault (sharpness_text s ∷ [])))
    (first-none (tag_index_fault whole.point_count) (number_text v ∷ []) (index-good whole.point_count v below, tt))
    ∙ first-none tag_numeral_fault (sharpness_text s ∷ []) (sharpness-good s proper readable, tt))

pub hole-good : (before whole : Counts) (face : ℕ) → nat_lt face whole.face_count ≡ true → line_fault before whole (hole_words face) ≡ None
hole-good before whole face below =
    line-good before whole (codes "t") (codes "hole" ∷ codes "1/0/0" ∷ number_text face ∷ []) (and_from _ _ (number-end face) refl) refl refl
    (first-none (tag_index_fault whole.face_count) (number_text face ∷ []) (index-good whole.face_count face below, tt))

pub methods-good : (whole : Counts) (method : Method)
    → AllByRecursion (λ words. (before : Counts) → line_fault before whole words ≡ None) (map words_of (method_tags method))
methods-good whole Normal = tt
methods-good whole Chaikin = ((λ before. refl), tt)
