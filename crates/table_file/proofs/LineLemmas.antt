-- Each line of a table's text is its beginning, its words and its end.
use Rattle.std.proofs.Common.{◌≡◌, ℕ, ◌<◌, ◌≤◌, List, [], ◌∷◌, ◌++◌, length, map, get_or, take, take_all, codes, arith, append_assoc, refl, ap, sym, ◌∙◌}
use Rattle.std.specs.List.{flat_map, zip}
use Rattle.std.proofs.lemmas.Slice.Zip.{length-zip, get_or-zip}
use Rattle.stencil_apply.specs.Table.{Share, Row}
use Rattle.stencil_apply.proofs.RowLemmas.{zip-row}
use Rattle.subdiv_model.specs.NumberText.{number_text}
use Rattle.subdiv_model.specs.TableText.{table_line, share_words, row_text}
use Rattle.table_file.specs.Shares.{share_text}

-- words, each after one space, and the end of the line
abbrev ended : List (List ℕ) → List ℕ
ended [] = 10 ∷ []
ended (word ∷ words) = (32 ∷ word) ++ ended words

ended-words : (words : List (List ℕ)) → ended words ≡ flat_map (λ word. 32 ∷ word) words ++ (10 ∷ [])
ended-words [] = refl
ended-words (word ∷ words) =
    ap (λ rest. (32 ∷ word) ++ rest) (ended-words words) ∙ sym (append_assoc (32 ∷ word) (flat_map (λ w. 32 ∷ w) words) (10 ∷ []))

-- the first line of a table, from its counts
pub counts-by-words : (controls rows entries : ℕ) →
    (codes "table controls" ++ (32 ∷ number_text controls)) ++ ((codes " rows" ++ (32 ∷ number_text rows)) ++ ((codes " entries" ++ (32 ∷ number_text entries)) ++ (10 ∷ []))) ≡ table_line controls rows entries
counts-by-words controls rows entries =
    ap (λ rest. codes "table" ++ rest) (ended-words (codes "controls" ∷ number_text controls ∷ codes "rows" ∷ number_text rows ∷ codes "entries" ∷ number_text entries ∷ []))

words-of-shares : (shares : List Share) → flat_map share_text shares ≡ flat_map (λ word. 32 ∷ word) (flat_map share_words shares)
words-of-shares [] = refl
words-of-shares (share ∷ shares) =
    append_assoc (32 ∷ number_text share.0) (32 ∷ number_text share.1) (flat_map share_text shares)
    ∙ ap (λ rest. (32 ∷ number_text share.0) ++ ((32 ∷ number_text share.1) ++ rest)) (words-of-shares shares)

row-by-words : (row : Row) → codes "s" ++ ((32 ∷ number_text row.den) ++ (flat_map share_text row.shares ++ (10 ∷ []))) ≡ row_text row
row-by-words row =
    ap (λ words. codes "s" ++ ((32 ∷ number_text row.den) ++ (words ++ (10 ∷ [])))) (words-of-shares row.shares)
    ∙ ap (λ rest. codes "s" ++ rest) (sym (append_assoc (32 ∷ number_text row.den) (flat_map (λ word. 32 ∷ word) (flat_map share_words row.shares)) (10 ∷ [])))

-- the line of a row, from its denominator, its controls and its numerators
pub row-by-parts : (row : Row) (indices numerators : List ℕ) → indices ≡ map (λ share. share.0) row.shares → numerators ≡ map (λ share. share.1) row.shares →
    codes "s" ++ ((32 ∷ number_text row.den) ++ (flat_map share_text (zip indices numerators) ++ (10 ∷ []))) ≡ row_text row
row-by-parts row indices numerators controls shares =
    ap (λ list. codes "s" ++ ((32 ∷ number_text row.den) ++ (flat_map share_text list ++ (10 ∷ [])))) (zip-row indices numerators row.shares controls shares)
    ∙ row-by-words row

-- a place of controls and numerators is a place of their pairs
pub within-shares : (indices numerators : List ℕ) (at : ℕ) → length numerators ≡ length indices → at < length indices → at < length (zip indices numerators)
within-shares indices numerators at equal h = omega (arith, h, equal, length-zip indices numerators)

pub share-at : (indices numerators : List ℕ) (at d e n : ℕ) → length numerators ≡ length indices → at < length indices → n ≡ get_or numerators at e →
    share_text (get_or indices at d, n) ≡ share_text (get_or (zip indices numerators) at (d, e))
share-at indices numerators at d e n equal h is =
    ap (λ n. share_text (get_or indices at d, n)) is ∙ ap share_text (sym (get_or-zip indices numerators at (d, e) h (omega (arith, h, equal))))

pub all-shares : (indices numerators : List ℕ) (at : ℕ) → length indices ≤ at → flat_map share_text (take at (zip indices numerators)) ≡ flat_map share_text (zip indices numerators)
all-shares indices numerators at past = ap (flat_map share_text) (take_all at (zip indices numerators) (omega (arith, past, length-zip indices numerators)))

pub all-rows : (rows : List Row) (n : ℕ) → length rows ≤ n → flat_map row_text (take n rows) ≡ flat_map row_text rows
all-rows rows n past = ap (flat_map row_text) (take_all n rows past)
