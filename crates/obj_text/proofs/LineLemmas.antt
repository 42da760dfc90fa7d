-- The first run of a line: a word, a comment, or nothing between two blanks.
use Rattle.std.proofs.Common.{◌≡◌, ℕ, ◌+◌, ◌<◌, ◌≤◌, Bool, false, not, nat_eq, List, [], ◌∷◌, length, arith, refl, ap, sym, ◌∙◌, ⊎_elim}
use Rattle.std.specs.List.{filter, slice_split, position_or_len, before_first, after_first, take_while}
use Rattle.std.proofs.lemmas.Bool.{cases_lt}
use Rattle.std.proofs.lemmas.Bool.Decides.{nat_tests}
use Rattle.std.proofs.lemmas.List.{take_all, drop_all}
use Rattle.std.proofs.lemmas.List.Splits.{slice_split_none, slice_split_first}
use Rattle.std.proofs.lemmas.List.Sums.{fails_before_first, take_while-cons}
use Rattle.subdiv_model.specs.ObjLine.{is_blank, runs_of, opens_comment, line_words}

abbrev has_bytes : List ℕ → Bool
has_bytes run = not (nat_eq (length run) 0)

abbrev is_word : List ℕ → Bool
is_word run = not (opens_comment run)

-- a line with no blank is one run, and nothing follows it
runs-whole : (line : List ℕ) → length line ≤ position_or_len is_blank line
    → runs_of line ≡ filter has_bytes (before_first is_blank line ∷ slice_split is_blank (after_first is_blank line))
runs-whole line h =
    ap (filter has_bytes) (slice_split_none is_blank line (λ k d l. fails_before_first is_blank line k d (omega arith)))
    ∙ sym (ap (λ run. filter has_bytes (run ∷ slice_split is_blank (after_first is_blank line))) (take_all (position_or_len is_blank line) line h) ∙ ap (λ rest. filter has_bytes (line ∷ slice_split is_blank rest)) (drop_all (position_or_len is_blank line + 1) line (omega arith)))

runs-parts : (line : List ℕ)
    → runs_of line ≡ filter has_bytes (before_first is_blank line ∷ slice_split is_blank (after_first is_blank line))
runs-parts line =
    ⊎_elim (λ h. ap (filter has_bytes) (slice_split_first is_blank line 0 h)) (λ h. runs-whole line h) (cases_lt (position_or_len is_blank line) (length line))

-- The runs of a line, under the names that a reader gives to its two parts.
runs-named : (line run rest : List ℕ) → run ≡ before_first is_blank line → rest ≡ after_first is_blank line
    → runs_of line ≡ filter has_bytes (run ∷ slice_split is_blank rest)
runs-named line run rest e f =
    runs-parts line
    ∙ ap (λ r. filter has_bytes (r ∷ slice_split is_blank (after_first is_blank line))) (sym e)
    ∙ ap (λ r. filter has_bytes (run ∷ slice_split is_blank r)) (sym f)

runs-some : (b : ℕ) (run : List ℕ) (rest : List (List ℕ)) → filter has_bytes ((b ∷ run) ∷ rest) ≡ (b ∷ run) ∷ filter has_bytes rest
runs-some b run rest = grind (arith, nat_tests)

-- the run is the first word
pub words-first : (line run rest : List ℕ) → run ≡ before_first is_blank line → rest ≡ after_first is_blank line → 0 < length run
    → opens_comment run ≡ false → line_words line ≡ run ∷ line_words rest
words-first line [] rest e f some other = absurd (omega arith)
words-first line (b ∷ run) rest e f some other =
    ap (take_while is_word) (runs-named line (b ∷ run) rest e f ∙ runs-some b run (slice_split is_blank rest))
    ∙ take_while-cons is_word (b ∷ run) (runs_of rest)
    ∙ rw other refl

pub some_bytes : (run : List ℕ) (empty : Bool) → empty ≡ nat_eq (length run) 0 → empty ≡ false → 0 < length run
some_bytes run empty e f = grind (arith, nat_tests)
