-- A line that is refused, bytes that are refused as soon as they are there, and input that is too long.
use Rattle.std.proofs.Common.{◌≡◌, ℕ, ◌<◌, ◌≤◌, false, List, [], ◌∷◌, ◌++◌, length, Some, arith, refl, ap, sym, ◌∙◌, append_assoc}
use Rattle.subdiv_model.specs.Fault.{Fault}
use Rattle.far_model.specs.Refusal.{Answer, after_text, then_answer, answer_unless, refused}
use Rattle.far_model.specs.Stream.{LineRule, answer_from, answer_at_end, answer_so_far, answer_of_all, answer_of_lines, closed_of, unclosed_of}
use Rattle.stream_laws.specs.Handled.{has_lf, text_of_lines, IsHandled}
use Rattle.stream_laws.proofs.PartLemmas.{first-closed, none-closed, all-unclosed}
use Rattle.stream_laws.proofs.HandledLemmas.{after-nothing}
use Rattle.stream_laws.proofs.BytesLemmas.{all-of, so-far-of, end-so-far, all-after, so-far-after, within, refused-either}

-- bytes whose first line is refused
pub first-refused : (rule : LineRule) (end : List (List ℕ) → Answer) (lines : List (List ℕ)) (line more : List ℕ) (fault : Fault) → has_lf line ≡ false
    → rule.line lines line ≡ refused fault → answer_from rule end lines (closed_of (line ++ 10 ∷ more)) ≡ refused fault
first-refused rule end lines line more fault none is =
    ap (answer_from rule end lines) (first-closed line more none)
    ∙ ap (λ first. then_answer first (answer_from rule end (lines ++ line ∷ []) (closed_of more))) is

-- a closed line is refused, whatever follows
pub line-refused : {rule : LineRule} {lines : List (List ℕ)} {text : List ℕ} (limit : ℕ) (bytes line more : List ℕ) (fault : Fault)
    → IsHandled rule lines text → has_lf line ≡ false → rule.line lines line ≡ refused fault
    → bytes ≡ text_of_lines lines ++ (line ++ 10 ∷ more) → length (text_of_lines lines ++ (line ++ 10 ∷ [])) ≤ limit
    → answer_of_lines rule limit bytes ≡ record { text = text; refusal = Some fault }
line-refused {rule = rule} {lines = lines} {text = text} limit bytes line more fault handled none is split fits =
    let first = text_of_lines lines in
    let joined : (rest : List ℕ) → first ++ ((line ++ 10 ∷ []) ++ rest) ≡ first ++ (line ++ 10 ∷ rest) =
    λ rest. ap (λ tail. first ++ tail) (append_assoc line (10 ∷ []) rest) in
    ap (answer_of_lines rule limit) (split ∙ sym (joined more))
    ∙ refused-either rule limit first (line ++ 10 ∷ []) more text fault fits
    (λ rest. ap (answer_so_far rule) (joined rest)
    ∙ so-far-after (line ++ 10 ∷ rest) handled
    ∙ ap (after_text text) (first-refused rule (end-so-far rule (unclosed_of (line ++ 10 ∷ rest))) lines line rest fault none is)
    ∙ after-nothing text (Some fault))
    (λ rest. ap (answer_of_all rule) (joined rest)
    ∙ all-after (line ++ 10 ∷ rest) handled
    ∙ ap (after_text text) (first-refused rule (answer_at_end rule (unclosed_of (line ++ 10 ∷ rest))) lines line rest fault none is)
    ∙ after-nothing text (Some fault))

-- bytes that LF does not close are the last line, where there are some
pub last-line : (rule : LineRule) (lines : List (List ℕ)) (line : List ℕ) → 0 < length line
    → answer_at_end rule line lines ≡ then_answer (rule.line lines line) (rule.end (lines ++ line ∷ []))
last-line rule lines [] some = absurd (omega arith)
last-line rule lines (b ∷ line) some = refl

-- what bytes without LF add after lines
pub last-of-all : (rule : LineRule) (lines : List (List ℕ)) (line : List ℕ) → has_lf line ≡ false → all-of rule lines line ≡ answer_at_end rule line lines
last-of-all rule lines line none =
    ap (λ last. answer_from rule (answer_at_end rule last) lines (closed_of line)) (all-unclosed line none)
    ∙ ap (answer_from rule (answer_at_end rule line) lines) (none-closed line none)

pub last-so-far : (rule : LineRule) (lines : List (List ℕ)) (line : List ℕ) → has_lf line ≡ false
    → so-far-of rule lines line ≡ answer_unless (rule.unclosed lines line) []
last-so-far rule lines line none =
    ap (λ last. answer_from rule (end-so-far rule last) lines (closed_of line)) (all-unclosed line none)
    ∙ ap (answer_from rule (end-so-far rule line) lines) (none-closed line none)

pub last-refused : (rule : LineRule) (lines : List (List ℕ)) (line : List ℕ) (fault : Fault) → has_lf line ≡ false → 0 < length line
    → rule.line lines line ≡ refused fault → all-of rule lines line ≡ refused fault
last-refused rule lines line fault none some is =
    last-of-all rule lines line none ∙ last-line rule lines line some ∙ ap (λ first. then_answer first (rule.end (lines ++ line ∷ []))) is

-- the last line is refused, where no LF closes it
pub last-line-refused : {rule : LineRule} {lines : List (List ℕ)} {text : List ℕ} (limit : ℕ) (bytes line : List ℕ) (fault : Fault)
    → IsHandled rule lines text → has_lf line ≡ false → 0 < length line → rule.line lines line ≡ refused fault
    → bytes ≡ text_of_lines lines ++ line → length bytes ≤ limit
    → answer_of_lines rule limit bytes ≡ record { text = text; refusal = Some fault }
last-line-refused {rule = rule} {lines = lines} {text = text} limit bytes line fault handled none some is split fits =
    within rule limit bytes fits
    ∙ ap (answer_of_all rule) split
    ∙ all-after line handled
    ∙ ap (after_text text) (last-refused rule lines line fault none some is)
    ∙ after-nothing text (Some fault)
