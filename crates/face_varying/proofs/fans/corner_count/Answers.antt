use Rattle.std.proofs.Common.{ℕ, arith, ap, ◌∙◌, length, get_or}
use Rattle.face_varying.proofs.CornerLemmas.{start-at, start-all}
use Rattle.face_varying.proofs.fans.corner_count.Goals as goal

pub bounds-corner_starts-faces : goal.bounds-corner_starts-faces
bounds-corner_starts-faces c =
    omega (arith, (start-at c.corner_starts.result.now c.args.level.now.level.polygons c.corner_starts.ensures.gaps c.corner_starts.ensures.ascend).0, c.faces.ensures)

pub returns : goal.returns
returns c =
    ap (λ (k : ℕ). get_or c.corner_starts.result.now k 0) c.faces.ensures
    ∙ (start-at c.corner_starts.result.now c.args.level.now.level.polygons c.corner_starts.ensures.gaps c.corner_starts.ensures.ascend).1 (length c.args.level.now.level.polygons) (omega arith)
    ∙ start-all c.args.level.now.level.polygons
