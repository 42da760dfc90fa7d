-- Tags of OBJ text: creases, corners, holes, the boundary mode and the method.
-- Source: Drillolive; the names of the tags are those of OpenSubdiv's files of shapes.
use Rattle.std.specs.Option.{option_or}
use Rattle.std.specs.Prelude.{ℕ, ◌+◌, ◌-◌, ◌*◌, ◌^◌, ℤ, pos, negsuc, unsigned_abs, Bool, true, false, ◌&&◌, ◌||◌, nat_eq, nat_le, nat_lt, List, [], length, map, take, drop, zip, get_or, replicate, Option, Some, None, is_some, unwrap_or, bytes_eq, codes, if◌then◌else◌}
use Rattle.std.specs.List.{list_all, slice_split}
use Rattle.subdiv_model.specs.ObjLine.{begins_with}
use Rattle.subdiv_model.specs.Digits.{is_digits, number_of_digits, has_minus}
use Rattle.subdiv_model.specs.Numeral.{is_fraction, is_slash, numeral_amount, decimals_of}
use Rattle.subdiv_model.specs.Index.{is_index, index_of}
use Rattle.subdiv_model.specs.Sharpness.{Sharpness, Smooth, Method, Normal, Chaikin, sharpness_of_fraction}
use Rattle.subdiv_model.specs.Boundary.{Boundary, Hidden, EdgeOnly, EdgeAndCorner}
use Rattle.subdiv_model.specs.ObjFault.{ObjCause, BadTag, TagIndex, SharpnessRange, first_cause}
use Rattle.subdiv_model.specs.ObjWord.{Counts, numeral_fault}

-- the kinds of tags
pub data TagKind : Type 0 where
  -- a chain of vertices, with one sharpness or one for each pair
  CreaseTag : TagKind
  -- vertices, with one sharpness or one for each
  CornerTag : TagKind
  -- faces
  HoleTag : TagKind
  -- the boundary mode
  BoundaryTag : TagKind
  -- the method
  MethodTag : TagKind
  -- a tag that the reader drops
  DroppedTag : TagKind

-- the name is that of a tag that the reader drops
abbrev pub is_dropped_name : List ℕ → Bool
is_dropped_name name = bytes_eq name (codes "facevaryinginterpolateboundary") || bytes_eq name (codes "facevaryingpropagatecorners")

-- the kind of the tag of this name
abbrev pub kind_of_name : List ℕ → Option TagKind
kind_of_name name =
    if bytes_eq name (codes "crease") then Some CreaseTag
    else if bytes_eq name (codes "corner") then Some CornerTag
    else if bytes_eq name (codes "hole") then Some HoleTag
    else if bytes_eq name (codes "interpolateboundary") then Some BoundaryTag
    else if bytes_eq name (codes "creasemethod") then Some MethodTag
    else if is_dropped_name name then Some DroppedTag
    else None

-- the name of a tag; its line is `t`, the name, the counts, and the values: whole numbers, numerals and strings
abbrev pub tag_name : List (List ℕ) → List ℕ
tag_name words = get_or words 1 []

-- the counts of a tag, between slashes
abbrev pub tag_counts : List (List ℕ) → List (List ℕ)
tag_counts words = slice_split is_slash (get_or words 2 [])

-- the values of a tag, after its counts
abbrev pub tag_values : List (List ℕ) → List (List ℕ)
tag_values words = drop 3 words

-- the counts are `i/f/s`, each of one to nine digits
abbrev pub are_counts : List (List ℕ) → Bool
are_counts counts = nat_eq (length counts) 3 && list_all (is_digits 9) counts

-- the number of whole numbers that the counts give
abbrev pub whole_count : List (List ℕ) → ℕ
whole_count words = number_of_digits (get_or (tag_counts words) 0 [])

-- the number of numerals that the counts give
abbrev pub numeral_count : List (List ℕ) → ℕ
numeral_count words = number_of_digits (get_or (tag_counts words) 1 [])

-- the number of strings that the counts give
abbrev pub string_count : List (List ℕ) → ℕ
string_count words = number_of_digits (get_or (tag_counts words) 2 [])

-- the whole numbers among the values of a tag
abbrev pub tag_wholes : List (List ℕ) → List (List ℕ)
tag_wholes words = take (whole_count words) (tag_values words)

-- the numerals among the values of a tag
abbrev pub tag_numerals : List (List ℕ) → List (List ℕ)
tag_numerals words = take (numeral_count words) (drop (whole_count words) (tag_values words))

-- the strings among the values of a tag
abbrev pub tag_strings : List (List ℕ) → List (List ℕ)
tag_strings words = drop (whole_count words + numeral_count words) (tag_values words)

-- the counts that a kind of tag allows
abbrev pub may_have : TagKind → ℕ → ℕ → ℕ → Bool
may_have CreaseTag wholes numerals strings =
    nat_le 2 wholes && (nat_eq numerals 1 || nat_eq numerals (wholes - 1)) && nat_eq strings 0
may_have CornerTag wholes numerals strings =
    nat_le 1 wholes && (nat_eq numerals 1 || nat_eq numerals wholes) && nat_eq strings 0
may_have HoleTag wholes numerals strings = nat_le 1 wholes && nat_eq numerals 0 && nat_eq strings 0
may_have BoundaryTag wholes numerals strings = nat_eq wholes 1 && nat_eq numerals 0 && nat_eq strings 0
may_have MethodTag wholes numerals strings = nat_eq wholes 0 && nat_eq numerals 0 && nat_eq strings 1
may_have DroppedTag wholes numerals strings = true

-- the counts have their form, fit the kind, and fit the values
abbrev pub fits_counts : TagKind → List (List ℕ) → Bool
fits_counts kind words =
    are_counts (tag_counts words)
    && may_have kind (whole_count words) (numeral_count words) (string_count words)
    && nat_eq (length (tag_values words)) (whole_count words + numeral_count words + string_count words)

-- the number is at least 0 and less than this
abbrev pub is_below : ℕ → ℤ → Bool
is_below count (pos n) = nat_lt n count
is_below count (negsuc n) = false

-- the fault of an index into a list of this length
abbrev pub tag_index_fault : ℕ → List ℕ → Option ObjCause
tag_index_fault count word =
    if is_index word then if is_below count (index_of word) then None else Some TagIndex else Some BadTag

-- the numeral is below 0
abbrev pub is_negative : List ℕ → Bool
is_negative word = has_minus word && nat_lt 0 (numeral_amount word).0

-- the numeral is below 10
abbrev pub is_below_ten : List ℕ → Bool
is_below_ten word = nat_lt (numeral_amount word).0 (10 * (numeral_amount word).1)

-- the numeral is a decimal with more than six decimals, or a fraction whose denominator in lowest terms is more than 10^6
abbrev pub is_too_fine_numeral : List ℕ → Bool
is_too_fine_numeral word = if is_fraction word then nat_lt (10 ^ 6) (numeral_amount word).1 else nat_lt 6 (decimals_of word)

-- the fault of a sharpness whose numeral is good
abbrev pub sharpness_fault : List ℕ → Option ObjCause
sharpness_fault word = if is_negative word || (is_below_ten word && is_too_fine_numeral word) then Some SharpnessRange else None

-- the fault of a word that must be a sharpness
abbrev pub tag_numeral_fault : List ℕ → Option ObjCause
tag_numeral_fault word = option_or (numeral_fault word) (sharpness_fault word)

-- the boundary mode of this number
abbrev pub mode_of : ℤ → Option Boundary
mode_of (pos n) = if nat_eq n 0 then Some Hidden else if nat_eq n 1 then Some EdgeAndCorner else if nat_eq n 2 then Some EdgeOnly else None
mode_of (negsuc n) = None

-- the boundary mode that a word names
abbrev pub mode_of_word : List ℕ → Option Boundary
mode_of_word word = if is_index word then mode_of (index_of word) else None

-- the method that a word names
abbrev pub method_of_word : List ℕ → Option Method
method_of_word word = if bytes_eq word (codes "normal") then Some Normal else if bytes_eq word (codes "chaikin") then Some Chaikin else None

-- the fault of a word that names no boundary mode
abbrev pub mode_fault : List ℕ → Option ObjCause
mode_fault word = if is_some (mode_of_word word) then None else Some BadTag

-- the fault of a word that names no method
abbrev pub method_fault : List ℕ → Option ObjCause
method_fault word = if is_some (method_of_word word) then None else Some BadTag

-- the first fault among the indices, then among the sharpnesses
abbrev pub index_and_sharpness_fault : ℕ → List (List ℕ) → Option ObjCause
index_and_sharpness_fault count words =
    option_or (first_cause (tag_index_fault count) (tag_wholes words)) (first_cause tag_numeral_fault (tag_numerals words))

-- The fault of the values of a tag whose counts fit, by the counts of the whole file. Values of a dropped tag are not read.
abbrev pub tag_values_fault : Counts → TagKind → List (List ℕ) → Option ObjCause
tag_values_fault whole CreaseTag words = index_and_sharpness_fault whole.point_count words
tag_values_fault whole CornerTag words = index_and_sharpness_fault whole.point_count words
tag_values_fault whole HoleTag words = first_cause (tag_index_fault whole.face_count) (tag_wholes words)
tag_values_fault whole BoundaryTag words = first_cause mode_fault (tag_wholes words)
tag_values_fault whole MethodTag words = first_cause method_fault (tag_strings words)
tag_values_fault whole DroppedTag words = None

-- the fault of a tag: its name and counts are judged before its values
abbrev pub tag_fault_of_kind : Counts → Option TagKind → List (List ℕ) → Option ObjCause
tag_fault_of_kind whole None words = Some BadTag
tag_fault_of_kind whole (Some kind) words = if fits_counts kind words then tag_values_fault whole kind words else Some BadTag

-- the fault of a tag line of at least three words
abbrev pub tag_fault : Counts → List (List ℕ) → Option ObjCause
tag_fault whole words = tag_fault_of_kind whole (kind_of_name (tag_name words)) words

-- the line is a tag with this name
abbrev pub is_tag : List ℕ → List (List ℕ) → Bool
is_tag name words = begins_with (codes "t") words && bytes_eq (tag_name words) name

-- the indices of a tag without fault
abbrev pub tag_indices : List (List ℕ) → List ℕ
tag_indices words = map (λ word. unsigned_abs (index_of word)) (tag_wholes words)

-- the sharpnesses of a tag without fault
abbrev pub tag_sharpnesses : List (List ℕ) → List Sharpness
tag_sharpnesses words = map (λ word. sharpness_of_fraction (numeral_amount word)) (tag_numerals words)

-- one sharpness for each item; a single sharpness counts for all
abbrev pub for_each : ℕ → List Sharpness → List Sharpness
for_each count sharpnesses = if nat_eq (length sharpnesses) 1 then replicate count (get_or sharpnesses 0 Smooth) else sharpnesses

-- the pairs of neighbours in a chain of vertices
abbrev pub chain_pairs : List ℕ → List (ℕ × ℕ)
chain_pairs vertices = zip vertices (drop 1 vertices)

-- the pairs of a crease tag with their sharpness
abbrev pub tag_creases : List (List ℕ) → List ((ℕ × ℕ) × Sharpness)
tag_creases words =
    zip (chain_pairs (tag_indices words)) (for_each (length (chain_pairs (tag_indices words))) (tag_sharpnesses words))

-- the vertices of a corner tag with their sharpness
abbrev pub tag_corners : List (List ℕ) → List (ℕ × Sharpness)
tag_corners words = zip (tag_indices words) (for_each (length (tag_indices words)) (tag_sharpnesses words))

-- the boundary mode that a tag sets
abbrev pub tag_mode : List (List ℕ) → Boundary
tag_mode words = unwrap_or (mode_of_word (get_or (tag_wholes words) 0 [])) EdgeOnly

-- the method that a tag sets
abbrev pub tag_method : List (List ℕ) → Method
tag_method words = unwrap_or (method_of_word (get_or (tag_strings words) 0 [])) Normal
