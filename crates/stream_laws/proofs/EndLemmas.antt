-- What handled lines come to so far, where more may come, and at the end of the input.
use Rattle.std.proofs.Common.{◌≡◌, ℕ, ◌<◌, ◌≤◌, false, List, [], ◌∷◌, ◌++◌, length, Option, None, ap, sym, ◌∙◌, append-nil}
use Rattle.subdiv_model.specs.Fault.{Fault}
use Rattle.far_model.specs.Refusal.{Answer, after_text, then_answer, answer_unless, answer_unless_refused}
use Rattle.far_model.specs.Stream.{LineRule, answer_from, answer_at_end, answer_so_far, answer_of_all, answer_of_lines, closed_of, unclosed_of}
use Rattle.stream_laws.specs.Handled.{has_lf, text_of_lines, IsHandled}
use Rattle.stream_laws.proofs.PartLemmas.{first-closed}
use Rattle.stream_laws.proofs.HandledLemmas.{after-nothing, after-after}
use Rattle.stream_laws.proofs.BytesLemmas.{all-of, all-after, so-far-after, within}
use Rattle.stream_laws.proofs.RefusedLemmas.{last-line, last-of-all, last-so-far}

-- the input ends after a closed line
pub ended : {rule : LineRule} {lines : List (List ℕ)} {text : List ℕ} (limit : ℕ) (bytes : List ℕ) (refusal : Option Fault)
    → IsHandled rule lines text → bytes ≡ text_of_lines lines → length bytes ≤ limit → rule.end lines ≡ record { text = []; refusal = refusal }
    → answer_of_lines rule limit bytes ≡ record { text = text; refusal = refusal }
ended {rule = rule} {lines = lines} {text = text} limit bytes refusal handled split fits end =
    within rule limit bytes fits
    ∙ ap (answer_of_all rule) (split ∙ sym (append-nil (text_of_lines lines)))
    ∙ all-after [] handled
    ∙ ap (after_text text) end
    ∙ after-nothing text refusal

-- the input ends after a line that is not closed
pub ended-unclosed : {rule : LineRule} {lines : List (List ℕ)} {text : List ℕ} (limit : ℕ) (bytes line more : List ℕ) (refusal : Option Fault)
    → IsHandled rule lines text → has_lf line ≡ false → 0 < length line → bytes ≡ text_of_lines lines ++ line → length bytes ≤ limit
    → rule.line lines line ≡ record { text = more; refusal = None } → rule.end (lines ++ line ∷ []) ≡ record { text = []; refusal = refusal }
    → answer_of_lines rule limit bytes ≡ record { text = text ++ more; refusal = refusal }
ended-unclosed {rule = rule} {lines = lines} {text = text} limit bytes line more refusal handled none some split fits answered end =
    within rule limit bytes fits
    ∙ ap (answer_of_all rule) split
    ∙ all-after line handled
    ∙ ap (after_text text) (last-of-all rule lines line none ∙ last-line rule lines line some)
    ∙ ap (λ first. after_text text (then_answer first (rule.end (lines ++ line ∷ [])))) answered
    ∙ ap (λ last. after_text text (after_text more last)) end
    ∙ after-after text more (record { text = []; refusal = refusal })
    ∙ after-nothing (text ++ more) refusal

-- nothing is refused so far
pub not-refused : {rule : LineRule} {lines : List (List ℕ)} {text : List ℕ} (taken pending : List ℕ)
    → IsHandled rule lines text → has_lf pending ≡ false → taken ≡ text_of_lines lines ++ pending → rule.unclosed lines pending ≡ None
    → answer_so_far rule taken ≡ record { text = text; refusal = None }
not-refused {rule = rule} {lines = lines} {text = text} taken pending handled none split good =
    ap (answer_so_far rule) split
    ∙ so-far-after pending handled
    ∙ ap (after_text text) (last-so-far rule lines pending none ∙ ap (λ fault. answer_unless fault []) good)
    ∙ after-nothing text None

-- where a line is not refused its text is written
then-text : (first next : Answer) → first.refusal ≡ None → (then_answer first next).text ≡ first.text ++ next.text
then-text first next good = ap (λ r. (answer_unless_refused r first.text next).text) good

-- the text of handled lines stays
pub handled-stays : {rule : LineRule} {lines : List (List ℕ)} {text : List ℕ} (more : List ℕ) → IsHandled rule lines text
    → (rest : List ℕ) × ((answer_of_all rule (text_of_lines lines ++ more)).text ≡ text ++ rest)
handled-stays {rule = rule} {lines = lines} more handled = ((all-of rule lines more).text, ap (λ (a : Answer). a.text) (all-after more handled))

-- the text of handled lines and one more stays
pub written-stays : {rule : LineRule} {lines : List (List ℕ)} {text : List ℕ} (taken line pending : List ℕ)
    → IsHandled rule lines text → has_lf line ≡ false → (rule.line lines line).refusal ≡ None
    → taken ≡ text_of_lines lines ++ (line ++ 10 ∷ pending) → (rest : List ℕ) × ((answer_of_all rule taken).text ≡ text ++ ((rule.line lines line).text ++ rest))
written-stays {rule = rule} {lines = lines} {text = text} taken line pending handled none good split =
    let rest = line ++ 10 ∷ pending in
    let end = answer_at_end rule (unclosed_of rest) in
    let next = answer_from rule end (lines ++ line ∷ []) (closed_of pending) in (
      next.text,
      ap (λ bytes. (answer_of_all rule bytes).text) split
          ∙ ap (λ (a : Answer). a.text) (all-after rest handled)
          ∙ ap (λ closed. text ++ (answer_from rule end lines closed).text) (first-closed line pending none)
          ∙ ap (λ more. text ++ more) (then-text (rule.line lines line) next good),
    )

-- the text of handled lines and an open last one stays
pub last-written-stays : {rule : LineRule} {lines : List (List ℕ)} {text : List ℕ} (taken line : List ℕ)
    → IsHandled rule lines text → has_lf line ≡ false → 0 < length line → (rule.line lines line).refusal ≡ None
    → taken ≡ text_of_lines lines ++ line → (rest : List ℕ) × ((answer_of_all rule taken).text ≡ text ++ ((rule.line lines line).text ++ rest))
last-written-stays {rule = rule} {lines = lines} {text = text} taken line handled none some good split =
    let next = rule.end (lines ++ line ∷ []) in (
      next.text,
      ap (λ bytes. (answer_of_all rule bytes).text) split
          ∙ ap (λ (a : Answer). a.text) (all-after line handled)
          ∙ ap (λ (a : Answer). text ++ a.text) (last-of-all rule lines line none ∙ last-line rule lines line some)
          ∙ ap (λ more. text ++ more) (then-text (rule.line lines line) next good),
    )
