use Rattle.std.proofs.Common.{◌≡◌, ◌+◌, ◌<◌, ◌∙◌, ℕ, length, get_or, min, arith, ap}
use Rattle.std.proofs.lemmas.List.{get_or_default}
use Rattle.face_varying.proofs.KeptLemmas.{counted-at, counted-nowhere}
use Rattle.face_varying.proofs.kept_corners.count_corner.Goals as goal

pub returns-then-point-len-clause-counts : goal.returns-then-point-len-clause-counts
returns-then-point-len-clause-counts c = λ p inside.
    let counts = c.args.counts.now.items in
    let below : c.args.point < length counts = omega (arith, c.if-point-len.true, c.len.ensures) in
    let there : c.index.result.now ≡ get_or counts c.args.point 0 = c.index.ensures ∙ get_or_default counts c.args.point c.index.result.now 0 below in
    counted-at counts c.args.point c.saturating_add.result p (c.saturating_add.ensures ∙ ap (λ (n : ℕ). min (n + 1) 255) there) inside

pub returns-else-point-len-clause-counts : goal.returns-else-point-len-clause-counts
returns-else-point-len-clause-counts c = λ p inside. counted-nowhere c.args.counts.now.items c.args.point p (omega (arith, c.if-point-len.false, c.len.ensures)) inside
