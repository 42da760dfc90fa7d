-- The laws of lines, over their records.
use Rattle.std.proofs.Common.{◌≡◌, ℕ, ◌<◌, ◌≤◌, List, [], ◌∷◌, ◌++◌, length, None, refl, ap, sym, ◌∙◌, append_assoc}
use Rattle.subdiv_model.specs.Fault.{Long}
use Rattle.far_model.specs.Stream.{LineRule, answer_of_all, answer_of_lines}
use Rattle.stream_laws.specs.Handled.{text_of_lines}
use Rattle.stream_laws.specs.Laws.{Pending, RefusedLine, RefusedStart, EndOfLine, BeginsWith, answer_with, bytes_to, closed_to, added_by, unclosed_at, refused_after}
use Rattle.stream_laws.proofs.RefusedLemmas.{line-refused, last-line-refused}
use Rattle.stream_laws.proofs.StartLemmas.{pending-refused, too-long}
use Rattle.stream_laws.proofs.EndLemmas.{ended-unclosed, written-stays, last-written-stays}

-- bytes after a closed line
closed-split : (lines : List (List ℕ)) (line more : List ℕ)
    → (text_of_lines lines ++ (line ++ 10 ∷ [])) ++ more ≡ text_of_lines lines ++ (line ++ 10 ∷ more)
closed-split lines line more =
    append_assoc (text_of_lines lines) (line ++ 10 ∷ []) more ∙ ap (λ rest. text_of_lines lines ++ rest) (append_assoc line (10 ∷ []) more)

pub refused-closed : (rule : LineRule) (at : RefusedLine rule) (limit : ℕ) (more : List ℕ) → length (closed_to at.line) ≤ limit
    → answer_of_lines rule limit (closed_to at.line ++ more) ≡ refused_after at.line at.fault
refused-closed rule at limit more fits =
    let line = at.line in
    line-refused limit (closed_to line ++ more) line.bytes more at.fault line.before.is_handled line.without_lf at.is_refused
    (closed-split line.before.lines line.bytes more) fits

pub refused-last : (rule : LineRule) (at : RefusedLine rule) (limit : ℕ) → 0 < length at.line.bytes → length (bytes_to at.line) ≤ limit
    → answer_of_lines rule limit (bytes_to at.line) ≡ refused_after at.line at.fault
refused-last rule at limit some fits =
    let line = at.line in
    last-line-refused limit (bytes_to line) line.bytes at.fault line.before.is_handled line.without_lf some at.is_refused refl fits

pub refused-start : (rule : LineRule) (at : RefusedStart rule) (limit : ℕ) (more : List ℕ) → length (bytes_to at.start) ≤ limit
    → answer_of_lines rule limit (bytes_to at.start ++ more) ≡ refused_after at.start at.fault
refused-start rule at limit more fits =
    let start = at.start in
    pending-refused limit (bytes_to start ++ more) more start.before.is_handled at.is_refused start.without_lf at.some
    (append_assoc (text_of_lines start.before.lines) start.bytes more) fits

pub long-input : (rule : LineRule) (at : Pending rule) (b : ℕ) (more : List ℕ) → unclosed_at at ≡ None
    → answer_of_lines rule (length (bytes_to at)) (bytes_to at ++ b ∷ more) ≡ refused_after at Long
long-input rule at b more good =
    too-long (length (bytes_to at)) (bytes_to at ++ b ∷ more) at.bytes b more at.before.is_handled at.without_lf refl
    (append_assoc (text_of_lines at.before.lines) at.bytes (b ∷ more)) good

pub end-of-line : (rule : LineRule) (at : EndOfLine rule) (limit : ℕ) → length (bytes_to at.line) ≤ limit
    → answer_of_lines rule limit (bytes_to at.line) ≡ answer_with (at.line.before.text ++ at.text) at.refusal
end-of-line rule at limit fits =
    let line = at.line in
    ended-unclosed limit (bytes_to line) line.bytes at.text at.refusal line.before.is_handled line.without_lf at.some refl fits at.added at.ended

-- a text that begins with two others begins with both in one
joined : (first second text : List ℕ) → (rest : List ℕ) × (text ≡ first ++ (second ++ rest)) → BeginsWith (first ++ second) text
joined first second text found = (found.0, found.1 ∙ sym (append_assoc first second found.0))

pub closed-stays : (rule : LineRule) (at : Pending rule) (more : List ℕ) → (added_by at).refusal ≡ None
    → BeginsWith (at.before.text ++ (added_by at).text) (answer_of_all rule (closed_to at ++ more)).text
closed-stays rule at more good =
    let bytes = closed_to at ++ more in
    joined at.before.text (added_by at).text (answer_of_all rule bytes).text
    (written-stays bytes at.bytes more at.before.is_handled at.without_lf good (closed-split at.before.lines at.bytes more))

pub last-stays : (rule : LineRule) (at : Pending rule) → 0 < length at.bytes → (added_by at).refusal ≡ None
    → BeginsWith (at.before.text ++ (added_by at).text) (answer_of_all rule (bytes_to at)).text
last-stays rule at some good =
    joined at.before.text (added_by at).text (answer_of_all rule (bytes_to at)).text
    (last-written-stays (bytes_to at) at.bytes at.before.is_handled at.without_lf some good refl)
