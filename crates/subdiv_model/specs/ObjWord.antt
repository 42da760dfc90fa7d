-- Words of OBJ lines: numerals, corners of faces, and the fault of each.
-- Source: Drillolive.
use Rattle.std.specs.Prelude.{ℕ, zero, suc, ◌+◌, ◌-◌, ◌/◌, ℤ, pos, negsuc, ◌*ℤ◌, Bool, false, not, ◌&&◌, ◌||◌, nat_eq, nat_lt, List, [], ◌∷◌, length, get_or, Option, Some, None, is_none, if◌then◌else◌}
use Rattle.std.specs.List.{slice_split}
use Rattle.subdiv_model.specs.Digits.{number_of_digits}
use Rattle.subdiv_model.specs.Numeral.{is_numeral, is_fraction, all_digits, tens_above, tens_below, numeral_form, is_decimal_in_range, is_fraction_in_range, is_slash}
use Rattle.subdiv_model.specs.Index.{is_index, index_of}
use Rattle.subdiv_model.specs.ObjFault.{ObjCause, BadNumeral, NumberRange, BadCorner, IndexRange}

-- the exponent gives more than 37 digits, or more than 37 decimals whatever tens the digits have
abbrev pub is_far_exponent : List ℕ → Bool
is_far_exponent word =
    nat_lt (tens_below word + 36) (tens_above word)
    || nat_lt (length (all_digits word) + tens_above word + 37) (tens_below word)

-- the decimal is not zero and has such an exponent
abbrev pub is_past_range : List ℕ → Bool
is_past_range word = nat_lt 0 (number_of_digits (all_digits word)) && is_far_exponent word

-- The numeral is a fraction with parts of at most 37 digits, or a decimal of at most 37 digits and 37 decimals in normal form.
-- The test of the exponent avoids a huge power.
abbrev pub is_representable : List ℕ → Bool
is_representable word = if is_fraction word then is_fraction_in_range word else not (is_past_range word) && is_decimal_in_range word

-- the fault of a word that must be a numeral
abbrev pub numeral_fault : List ℕ → Option ObjCause
numeral_fault word = if is_numeral word then if is_representable word then None else Some NumberRange else Some BadNumeral

-- the numeral as a whole number over a common denominator, which its own denominator divides
abbrev pub number_over : ℕ → List ℕ → ℤ
number_over common word = (numeral_form word).0 *ℤ pos (common / (numeral_form word).1)

-- the part is empty
abbrev pub is_empty : List ℕ → Bool
is_empty word = nat_eq (length word) 0

-- the parts of a corner between its slashes
abbrev pub corner_parts : List ℕ → List (List ℕ)
corner_parts word = slice_split is_slash word

-- the parts have the form `a`, `a/b`, `a//c` or `a/b/c`
abbrev pub are_corner_parts : List (List ℕ) → Bool
are_corner_parts [] = false
are_corner_parts (a ∷ []) = is_index a
are_corner_parts (a ∷ (b ∷ [])) = is_index a && is_index b
are_corner_parts (a ∷ (b ∷ (c ∷ []))) = is_index a && (is_empty b || is_index b) && is_index c
are_corner_parts (a ∷ (b ∷ (c ∷ (d ∷ parts)))) = false

-- the word has the form of a corner
abbrev pub is_face_corner : List ℕ → Bool
is_face_corner word = are_corner_parts (corner_parts word)

-- the part with the index of the vertex
abbrev pub vertex_part : List ℕ → List ℕ
vertex_part corner = get_or (corner_parts corner) 0 []

-- the part with the index of the texture value, which may be empty
abbrev pub texture_part : List ℕ → List ℕ
texture_part corner = get_or (corner_parts corner) 1 []

-- the corner has an index of a texture value
abbrev pub has_texture_part : List ℕ → Bool
has_texture_part corner = not (is_empty (texture_part corner))

-- two corners have as many parts, and both or neither have a texture value
abbrev pub same_form : List ℕ → List ℕ → Bool
same_form first corner =
    nat_eq (length (corner_parts first)) (length (corner_parts corner))
    && (if has_texture_part first then has_texture_part corner else not (has_texture_part corner))

-- The place, from 0, that an index names. Positive indices count the whole list from 1, and negative ones count back from the
-- items before the line.
abbrev pub place_of_index : ℕ → ℕ → ℤ → Option ℕ
place_of_index before whole (pos zero) = None
place_of_index before whole (pos (suc n)) = if nat_lt n whole then Some n else None
place_of_index before whole (negsuc n) = if nat_lt n before then Some (before - suc n) else None

-- the place, from 0, that an index names as a word
abbrev pub place_of_word : ℕ → ℕ → List ℕ → Option ℕ
place_of_word before whole word = place_of_index before whole (index_of word)

-- the numbers of points, texture values and faces in some lines
pub record Counts : Type 0 where
  pub point_count : ℕ
  pub texture_count : ℕ
  pub face_count : ℕ

-- the point of a corner, by the counts of the lines before it and of the whole file
abbrev pub corner_point : Counts → Counts → List ℕ → Option ℕ
corner_point before whole corner = place_of_word before.point_count whole.point_count (vertex_part corner)

-- the texture value of a corner, by the counts of the lines before it and of the whole file
abbrev pub corner_texture : Counts → Counts → List ℕ → Option ℕ
corner_texture before whole corner = place_of_word before.texture_count whole.texture_count (texture_part corner)

-- the corner names no point, or has a texture index that names no value
abbrev pub is_past_lists : Counts → Counts → List ℕ → Bool
is_past_lists before whole corner =
    is_none (corner_point before whole corner) || (has_texture_part corner && is_none (corner_texture before whole corner))

-- the fault of a corner, from the first corner of the line
abbrev pub corner_fault : Counts → Counts → List ℕ → List ℕ → Option ObjCause
corner_fault before whole first corner =
    if is_face_corner corner && same_form first corner then if is_past_lists before whole corner then Some IndexRange else None else Some BadCorner
