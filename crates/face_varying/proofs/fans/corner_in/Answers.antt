use Rattle.std.proofs.Common.{ℕ, arith, ap, ◌∙◌, ◌+◌, get_or}
use Rattle.face_varying.proofs.FanPlaceLemmas.{corner-below, corner-listed}
use Rattle.face_varying.proofs.fans.corner_in.Goals as goal

pub bounds-corner_starts-face : goal.bounds-corner_starts-face
bounds-corner_starts-face c =
    (corner-listed c.args.level.now c.facts.ensures c.args.v c.requires.vertex c.corner_starts.result.now c.vertex_faces.result.now c.vertex_faces_at.result.now c.args.i c.requires.place c.vertex_faces.ensures c.vertex_faces_at.ensures c.corner_starts.ensures.gaps c.corner_starts.ensures.ascend).0

pub overflow_add-result : goal.overflow_add-result
overflow_add-result c =
    let found = corner-listed c.args.level.now c.facts.ensures c.args.v c.requires.vertex c.corner_starts.result.now c.vertex_faces.result.now c.vertex_faces_at.result.now c.args.i c.requires.place c.vertex_faces.ensures c.vertex_faces_at.ensures c.corner_starts.ensures.gaps c.corner_starts.ensures.ascend in
    let below = corner-below c.args.level.now c.facts.ensures c.args.v c.requires.vertex c.args.i c.requires.place in
    omega (arith, found.1, below, c.from.ensures, c.facts.ensures.small.corners)

pub returns : goal.returns
returns c =
    ap (λ (k : ℕ). get_or c.corner_starts.result.now (get_or c.vertex_faces.result.now c.args.i 0) 0 + k) c.from.ensures
    ∙ (corner-listed c.args.level.now c.facts.ensures c.args.v c.requires.vertex c.corner_starts.result.now c.vertex_faces.result.now c.vertex_faces_at.result.now c.args.i c.requires.place c.vertex_faces.ensures c.vertex_faces_at.ensures c.corner_starts.ensures.gaps c.corner_starts.ensures.ascend).1
