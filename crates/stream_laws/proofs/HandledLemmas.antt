-- Lines handled one after another, and the bytes after them.
use Rattle.std.proofs.Common.{◌≡◌, ℕ, false, List, [], ◌∷◌, ◌++◌, Option, None, Some, refl, ap, sym, ◌∙◌, append_assoc, append-nil}
use Rattle.std.proofs.lemmas.Option.{none-some}
use Rattle.subdiv_model.specs.Fault.{Fault}
use Rattle.far_model.specs.Refusal.{Answer, after_text, then_answer, answer_unless_refused}
use Rattle.far_model.specs.Stream.{LineRule, answer_from}
use Rattle.stream_laws.specs.Handled.{has_lf, IsHandled}
use Rattle.stream_laws.proofs.PartLemmas.{lines-more}

abbrev pub nothing-more : List (List ℕ) → Answer
nothing-more before = record { text = []; refusal = None }

abbrev pub only-text : List ℕ → Answer
only-text text = record { text = text; refusal = None }

-- a text, and then no more
pub after-nothing : (text : List ℕ) (refusal : Option Fault) → after_text text (record { text = []; refusal = refusal }) ≡ record { text = text; refusal = refusal }
after-nothing text refusal = ap (λ t. record { text = t; refusal = refusal }) (append-nil text)

-- two texts, and then an answer
pub after-after : (first second : List ℕ) (next : Answer) → after_text first (after_text second next) ≡ after_text (first ++ second) next
after-after first second next = ap (λ text. record { text = text; refusal = next.refusal }) (sym (append_assoc first second next.text))

-- more lines after others are an end of the others
from-append : (rule : LineRule) (end : List (List ℕ) → Answer) (before lines rest : List (List ℕ))
    → answer_from rule end before (lines ++ rest) ≡ answer_from rule (λ all. answer_from rule end all rest) before lines
from-append rule end before [] rest = refl
from-append rule end before (line ∷ lines) rest = ap (then_answer (rule.line before line)) (from-append rule end (before ++ line ∷ []) lines rest)

-- where two answers are a text without a refusal, so is each
then-parts : (refusal : Option Fault) (text : List ℕ) (next : Answer) (all : List ℕ) → answer_unless_refused refusal text next ≡ only-text all
    → (refusal ≡ None) × (next ≡ only-text next.text) × (text ++ next.text ≡ all)
then-parts None text next all h = (refl, ap (λ r. record { text = next.text; refusal = r }) (ap (λ (a : Answer). a.refusal) h), ap (λ (a : Answer). a.text) h)
then-parts (Some fault) text next all h = absurd (none-some fault (sym (ap (λ (a : Answer). a.refusal) h)))

-- an end comes after the text of lines that are not refused
end-after : (rule : LineRule) (end : List (List ℕ) → Answer) (before lines : List (List ℕ)) (text : List ℕ)
    → answer_from rule nothing-more before lines ≡ only-text text → answer_from rule end before lines ≡ after_text text (end (before ++ lines))
end-after rule end before [] text h =
    ap end (sym (append-nil before)) ∙ ap (λ (a : Answer). after_text a.text (end (before ++ []))) h
end-after rule end before (line ∷ lines) text h =
    let first = rule.line before line in
    let next = answer_from rule nothing-more (before ++ line ∷ []) lines in
    let parts = then-parts first.refusal first.text next text h in
    let rest = end-after rule end (before ++ line ∷ []) lines next.text parts.1 in
    ap (λ r. answer_unless_refused r first.text (answer_from rule end (before ++ line ∷ []) lines)) parts.0
    ∙ ap (after_text first.text) (rest ∙ ap (λ all. after_text next.text (end all)) (append_assoc before (line ∷ []) lines))
    ∙ after-after first.text next.text (end (before ++ line ∷ lines))
    ∙ ap (λ t. after_text t (end (before ++ line ∷ lines))) parts.2

-- what comes after handled lines comes after their text
pub handled-then : {rule : LineRule} {lines : List (List ℕ)} {text : List ℕ} (end : List (List ℕ) → Answer) (rest : List (List ℕ)) → IsHandled rule lines text
    → answer_from rule end [] (lines ++ rest) ≡ after_text text (answer_from rule end lines rest)
handled-then {rule = rule} {lines = lines} {text = text} end rest handled =
    from-append rule end [] lines rest ∙ end-after rule (λ all. answer_from rule end all rest) [] lines text handled.answered

-- no lines are handled, with no text
pub handled-none : {rule : LineRule} → IsHandled rule [] []
handled-none = record { closed = refl; answered = refl }

-- a line that is not refused is handled after those before it
pub handled-more : {rule : LineRule} {lines : List (List ℕ)} {text line more : List ℕ} → IsHandled rule lines text → has_lf line ≡ false
    → rule.line lines line ≡ record { text = more; refusal = None } → IsHandled rule (lines ++ line ∷ []) (text ++ more)
handled-more {rule = rule} {lines = lines} {text = text} {line = line} {more = more} handled none answered = record {
  closed = lines-more lines line handled.closed none;
  answered =
      handled-then nothing-more (line ∷ []) handled
      ∙ ap (λ first. after_text text (then_answer first (nothing-more []))) answered
      ∙ after-after text more (nothing-more [])
      ∙ after-nothing (text ++ more) None;
}
