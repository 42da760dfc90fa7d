-- Bytes that begin with handled lines: what they add, in all and so far, up to a limit and past it.
use Rattle.std.proofs.Common.{◌≡◌, ℕ, ◌-◌, ◌<◌, ◌≤◌, List, [], ◌++◌, length, take, Some, refl, ap, sym, ◌∙◌, append_assoc, ⊎_elim, lt-ltb, le-ltb, add-sub_of_le}
use Rattle.std.proofs.lemmas.Bool.{cases_lt}
use Rattle.std.proofs.Math.Seq.{take-append-add}
use Rattle.subdiv_model.specs.Fault.{Fault, Long}
use Rattle.far_model.specs.Refusal.{Answer, after_text, then_answer, answer_unless, refused}
use Rattle.far_model.specs.Stream.{LineRule, answer_from, answer_at_end, answer_so_far, answer_of_all, answer_of_lines, closed_of, unclosed_of}
use Rattle.stream_laws.specs.Handled.{text_of_lines, IsHandled}
use Rattle.stream_laws.proofs.PartLemmas.{lines-closed, lines-unclosed}
use Rattle.stream_laws.proofs.HandledLemmas.{handled-then}

-- what bytes add after lines, where all bytes are there, and where more may come
abbrev pub all-of : LineRule → List (List ℕ) → List ℕ → Answer
all-of rule lines bytes = answer_from rule (answer_at_end rule (unclosed_of bytes)) lines (closed_of bytes)

abbrev pub end-so-far : LineRule → List ℕ → List (List ℕ) → Answer
end-so-far rule bytes lines = answer_unless (rule.unclosed lines bytes) []

abbrev pub so-far-of : LineRule → List (List ℕ) → List ℕ → Answer
so-far-of rule lines bytes = answer_from rule (end-so-far rule (unclosed_of bytes)) lines (closed_of bytes)

pub all-after : {rule : LineRule} {lines : List (List ℕ)} {text : List ℕ} (rest : List ℕ) → IsHandled rule lines text
    → answer_of_all rule (text_of_lines lines ++ rest) ≡ after_text text (all-of rule lines rest)
all-after {rule = rule} {lines = lines} {text = text} rest handled =
    ap (λ last. answer_from rule (answer_at_end rule last) [] (closed_of (text_of_lines lines ++ rest))) (lines-unclosed lines rest handled.closed)
    ∙ ap (answer_from rule (answer_at_end rule (unclosed_of rest)) []) (lines-closed lines rest handled.closed)
    ∙ handled-then (answer_at_end rule (unclosed_of rest)) (closed_of rest) handled

pub so-far-after : {rule : LineRule} {lines : List (List ℕ)} {text : List ℕ} (rest : List ℕ) → IsHandled rule lines text
    → answer_so_far rule (text_of_lines lines ++ rest) ≡ after_text text (so-far-of rule lines rest)
so-far-after {rule = rule} {lines = lines} {text = text} rest handled =
    ap (λ last. answer_from rule (end-so-far rule last) [] (closed_of (text_of_lines lines ++ rest))) (lines-unclosed lines rest handled.closed)
    ∙ ap (answer_from rule (end-so-far rule (unclosed_of rest)) []) (lines-closed lines rest handled.closed)
    ∙ handled-then (end-so-far rule (unclosed_of rest)) (closed_of rest) handled

-- bytes within the limit, and past it
pub within : (rule : LineRule) (limit : ℕ) (bytes : List ℕ) → length bytes ≤ limit → answer_of_lines rule limit bytes ≡ answer_of_all rule bytes
within rule limit bytes fits = rw (le-ltb limit (length bytes) fits) refl

pub past : (rule : LineRule) (limit : ℕ) (bytes : List ℕ) → limit < length bytes
    → answer_of_lines rule limit bytes ≡ then_answer (answer_so_far rule (take limit bytes)) (refused Long)
past rule limit bytes more = rw (lt-ltb limit (length bytes) more) refl

-- the first of bytes that begin with two parts
pub take-parts : (first part more : List ℕ) (limit : ℕ) → length (first ++ part) ≤ limit
    → take limit (first ++ (part ++ more)) ≡ first ++ (part ++ take (limit - length (first ++ part)) more)
take-parts first part more limit fits =
    ap (take limit) (sym (append_assoc first part more))
    ∙ ap (λ n. take n ((first ++ part) ++ more)) (sym (add-sub_of_le fits))
    ∙ take-append-add (first ++ part) more (limit - length (first ++ part))
    ∙ append_assoc first part (take (limit - length (first ++ part)) more)

-- a refusal of the first bytes, whatever follows, is a refusal of all
pub refused-either : (rule : LineRule) (limit : ℕ) (first part more text : List ℕ) (fault : Fault) → length (first ++ part) ≤ limit
    → ((rest : List ℕ) → answer_so_far rule (first ++ (part ++ rest)) ≡ record { text = text; refusal = Some fault })
    → ((rest : List ℕ) → answer_of_all rule (first ++ (part ++ rest)) ≡ record { text = text; refusal = Some fault })
    → answer_of_lines rule limit (first ++ (part ++ more)) ≡ record { text = text; refusal = Some fault }
refused-either rule limit first part more text fault fits so_far all =
    let bytes = first ++ (part ++ more) in
    let cut = take (limit - length (first ++ part)) more in
    ⊎_elim (λ long. past rule limit bytes long
    ∙ ap (λ taken. then_answer (answer_so_far rule taken) (refused Long)) (take-parts first part more limit fits)
    ∙ ap (λ answer. then_answer answer (refused Long)) (so_far cut))
    (λ short. within rule limit bytes short ∙ all more)
    (cases_lt limit (length bytes))
