-- The words that bytes spell. Each ends with a zero byte.
use Rattle.std.specs.Prelude.{ℕ, Bool, nat_eq, List, [], ◌∷◌, length, Option, Some, None, option_map, unwrap_or, if◌then◌else◌}
use Rattle.std.specs.List.{slice_split}
use Rattle.std.specs.Str.Lossy.{utf8_valid_len}

-- the byte is zero
abbrev pub is_zero : ℕ → Bool
is_zero byte = nat_eq byte 0

-- the bytes are UTF-8
abbrev pub is_utf8 : List ℕ → Bool
is_utf8 bytes = nat_eq (utf8_valid_len bytes) (length bytes)

-- the parts between zero bytes as words: each but the last is UTF-8, and the last one, which nothing ends, is empty
abbrev pub words_of_parts : List (List ℕ) → Option (List (List ℕ))
words_of_parts [] = None
words_of_parts (part ∷ []) = if nat_eq (length part) 0 then Some [] else None
words_of_parts (part ∷ (next ∷ parts)) =
    if is_utf8 part then option_map (λ words. part ∷ words) (words_of_parts (next ∷ parts)) else None

-- the words, or none if the bytes are not words
abbrev pub words_of : List ℕ → List (List ℕ)
words_of bytes = unwrap_or (words_of_parts (slice_split is_zero bytes)) []
