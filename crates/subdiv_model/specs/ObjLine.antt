-- Lines of OBJ text: their ends, their words without a comment, and their keywords.
-- Source: Drillolive.
use Rattle.std.specs.Prelude.{ℕ, ◌+◌, Bool, false, not, ◌||◌, nat_eq, List, [], ◌∷◌, length, drop, take_while, bytes_eq, codes, if◌then◌else◌}
use Rattle.std.specs.List.{filter, slice_split, position_or_len}

-- the byte LF
abbrev pub is_lf : ℕ → Bool
is_lf b = nat_eq b 10

-- the place of the first LF at or after a place of the text, or the length of the text
abbrev pub line_end_of : List ℕ → ℕ → ℕ
line_end_of text at = at + position_or_len is_lf (drop at text)

-- the parts of a text between its line ends, without an empty last part
abbrev pub closed_lines : List (List ℕ) → List (List ℕ)
closed_lines [] = []
closed_lines (line ∷ []) = if nat_eq (length line) 0 then [] else line ∷ []
closed_lines (line ∷ (next ∷ lines)) = line ∷ closed_lines (next ∷ lines)

-- the lines of a text: each ends at LF, the last may have none, and a final LF adds no line
abbrev pub lines_of : List ℕ → List (List ℕ)
lines_of text = closed_lines (slice_split (λ b. nat_eq b 10) text)

-- space, tab and carriage return
abbrev pub is_blank : ℕ → Bool
is_blank b = nat_eq b 32 || nat_eq b 9 || nat_eq b 13

-- the longest runs of bytes that are not blanks
abbrev pub runs_of : List ℕ → List (List ℕ)
runs_of line = filter (λ run. not (nat_eq (length run) 0)) (slice_split is_blank line)

-- the run begins with `#`
abbrev pub opens_comment : List ℕ → Bool
opens_comment [] = false
opens_comment (b ∷ run) = nat_eq b 35

-- the words of a line: its runs before the first one that opens a comment
abbrev pub line_words : List ℕ → List (List ℕ)
line_words line = take_while (λ run. not (opens_comment run)) (runs_of line)

-- the first word of the line is the keyword
abbrev pub begins_with : List ℕ → List (List ℕ) → Bool
begins_with keyword [] = false
begins_with keyword (word ∷ words) = bytes_eq word keyword

-- the line is one of a point, with or without faults
abbrev pub is_vertex_line : List (List ℕ) → Bool
is_vertex_line words = begins_with (codes "v") words

-- the line is one of a face, with or without faults
abbrev pub is_face_line : List (List ℕ) → Bool
is_face_line words = begins_with (codes "f") words
