-- Pending bytes that are refused whatever follows them, and those after which the input is too long.
use Rattle.std.proofs.Common.{◌≡◌, ℕ, ◌<◌, ◌≤◌, false, List, [], ◌∷◌, ◌++◌, length, take, None, Some, arith, ap, sym, ◌∙◌, append_assoc, ⊎_elim}
use Rattle.std.proofs.lemmas.List.{length-append}
use Rattle.std.proofs.Math.Seq.{take-append_seam}
use Rattle.subdiv_model.specs.Fault.{Fault, Long}
use Rattle.far_model.specs.Refusal.{Answer, after_text, then_answer, answer_unless, refused}
use Rattle.far_model.specs.Stream.{LineRule, answer_from, answer_at_end, answer_of_lines, closed_of, unclosed_of}
use Rattle.stream_laws.specs.Handled.{has_lf, text_of_lines, IsHandled, IsRefusedStart}
use Rattle.stream_laws.proofs.PartLemmas.{joined-lf, FirstLine, first-line}
use Rattle.stream_laws.proofs.HandledLemmas.{after-nothing}
use Rattle.stream_laws.proofs.BytesLemmas.{all-of, so-far-of, end-so-far, all-after, so-far-after, past, refused-either}
use Rattle.stream_laws.proofs.RefusedLemmas.{first-refused, last-refused, last-so-far}
use Rattle.stream_laws.proofs.EndLemmas.{not-refused}

still-some : (start others : List ℕ) → 0 < length start → 0 < length (start ++ others)
still-some start others some = omega (arith, length-append start others)

-- bytes that begin with a refused start, and in which a line is closed
closed-start : {rule : LineRule} {lines : List (List ℕ)} {start : List ℕ} {fault : Fault} (end : List (List ℕ) → Answer) (others : List ℕ)
    → IsRefusedStart rule lines start fault → has_lf start ≡ false → FirstLine others → answer_from rule end lines (closed_of (start ++ others)) ≡ refused fault
closed-start {rule = rule} {lines = lines} {start = start} {fault = fault} end others is none found =
    let line = start ++ found.line in
    ap (λ bytes. answer_from rule end lines (closed_of bytes)) (ap (λ tail. start ++ tail) found.split ∙ sym (append_assoc start found.line (10 ∷ found.more)))
    ∙ first-refused rule end lines line found.more fault (joined-lf start found.line none found.none) (is.line found.line)

start-of-all : {rule : LineRule} {lines : List (List ℕ)} {start : List ℕ} {fault : Fault} (others : List ℕ)
    → IsRefusedStart rule lines start fault → has_lf start ≡ false → 0 < length start → all-of rule lines (start ++ others) ≡ refused fault
start-of-all {rule = rule} {lines = lines} {start = start} {fault = fault} others is none some =
    ⊎_elim (λ clear. last-refused rule lines (start ++ others) fault (joined-lf start others none clear) (still-some start others some) (is.line others))
    (λ found. closed-start (answer_at_end rule (unclosed_of (start ++ others))) others is none found)
    (first-line others)

start-so-far : {rule : LineRule} {lines : List (List ℕ)} {start : List ℕ} {fault : Fault} (others : List ℕ)
    → IsRefusedStart rule lines start fault → has_lf start ≡ false → so-far-of rule lines (start ++ others) ≡ refused fault
start-so-far {rule = rule} {lines = lines} {start = start} {fault = fault} others is none =
    ⊎_elim (λ clear. last-so-far rule lines (start ++ others) (joined-lf start others none clear) ∙ ap (λ fault. answer_unless fault []) (is.unclosed others))
    (λ found. closed-start (end-so-far rule (unclosed_of (start ++ others))) others is none found)
    (first-line others)

-- pending bytes are refused, whatever follows
pub pending-refused : {rule : LineRule} {lines : List (List ℕ)} {text pending : List ℕ} {fault : Fault} (limit : ℕ) (bytes more : List ℕ)
    → IsHandled rule lines text → IsRefusedStart rule lines pending fault → has_lf pending ≡ false → 0 < length pending
    → bytes ≡ text_of_lines lines ++ (pending ++ more) → length (text_of_lines lines ++ pending) ≤ limit
    → answer_of_lines rule limit bytes ≡ record { text = text; refusal = Some fault }
pending-refused {rule = rule} {lines = lines} {text = text} {pending = pending} {fault = fault} limit bytes more handled is none some split fits =
    ap (answer_of_lines rule limit) split
    ∙ refused-either rule limit (text_of_lines lines) pending more text fault fits
    (λ rest. so-far-after (pending ++ rest) handled ∙ ap (after_text text) (start-so-far rest is none) ∙ after-nothing text (Some fault))
    (λ rest. all-after (pending ++ rest) handled ∙ ap (after_text text) (start-of-all rest is none some) ∙ after-nothing text (Some fault))

-- pending bytes up to the limit, and one more
pub too-long : {rule : LineRule} {lines : List (List ℕ)} {text : List ℕ} (limit : ℕ) (bytes pending : List ℕ) (b : ℕ) (more : List ℕ)
    → IsHandled rule lines text → has_lf pending ≡ false → length (text_of_lines lines ++ pending) ≡ limit
    → bytes ≡ text_of_lines lines ++ (pending ++ b ∷ more) → rule.unclosed lines pending ≡ None
    → answer_of_lines rule limit bytes ≡ record { text = text; refusal = Some Long }
too-long {rule = rule} {lines = lines} {text = text} limit bytes pending b more handled none full split good =
    let head = text_of_lines lines ++ pending in
    let cut : bytes ≡ head ++ b ∷ more = split ∙ sym (append_assoc (text_of_lines lines) pending (b ∷ more)) in
    let taken : take limit bytes ≡ head = ap (take limit) cut ∙ ap (λ n. take n (head ++ b ∷ more)) (sym full) ∙ take-append_seam head (b ∷ more) in
    past rule limit bytes (omega (arith, ap length cut, length-append head (b ∷ more)))
    ∙ ap (λ first. then_answer first (refused Long)) (not-refused (take limit bytes) pending handled none taken good)
    ∙ after-nothing text (Some Long)
