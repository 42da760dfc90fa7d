-- Bytes that are cut at their first LF, and closed lines that take one more.
use Rattle.std.proofs.Common.{◌≡◌, ℕ, List, [], ◌∷◌, ◌++◌, ap, sym, ◌∙◌, append_assoc, append-nil}
use Rattle.std.proofs.lemmas.Grind.{flat_map-append}
use Rattle.stream_laws.specs.Handled.{text_of_lines}

-- closed lines and one more are closed lines
pub text-more : (lines : List (List ℕ)) (line rest : List ℕ)
    → text_of_lines lines ++ (line ++ 10 ∷ rest) ≡ text_of_lines (lines ++ line ∷ []) ++ rest
text-more lines line rest =
    let last : text_of_lines (line ∷ []) ≡ line ++ 10 ∷ [] = append-nil (line ++ 10 ∷ []) in
    sym (ap (λ text. text ++ rest) (flat_map-append (λ l. l ++ 10 ∷ []) lines (line ∷ []) ∙ ap (λ text. text_of_lines lines ++ text) last)
    ∙ append_assoc (text_of_lines lines) (line ++ 10 ∷ []) rest
    ∙ ap (λ tail. text_of_lines lines ++ tail) (append_assoc line (10 ∷ []) rest))
