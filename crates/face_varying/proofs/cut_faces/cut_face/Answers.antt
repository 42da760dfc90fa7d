use Rattle.std.proofs.Common.{arith, ◌+◌}
use Rattle.face_varying.proofs.BuiltLemmas.{start-within, cut-part}
use Rattle.face_varying.proofs.CornerLemmas.{start-at, start-next}
use Rattle.face_varying.proofs.cut_faces.cut_face.Goals as goal

pub bounds-starts-f : goal.bounds-starts-f
bounds-starts-f c = omega (arith, c.requires.face, (start-at c.corner_starts-starts.result.now c.args.level.now.level.polygons c.corner_starts-starts.ensures.gaps c.corner_starts-starts.ensures.ascend).0)

pub bounds-starts-f-2 : goal.bounds-starts-f-2
bounds-starts-f-2 c = omega (arith, c.requires.face, (start-at c.corner_starts-starts.result.now c.args.level.now.level.polygons c.corner_starts-starts.ensures.gaps c.corner_starts-starts.ensures.ascend).0)

pub slice_bounds-result-count : goal.slice_bounds-result-count
slice_bounds-result-count c =
    let faces = c.args.level.now.level.polygons in
    let at = start-at c.corner_starts-starts.result.now faces c.corner_starts-starts.ensures.gaps c.corner_starts-starts.ensures.ascend in
    omega (arith, at.1 c.args.f (omega (arith, c.requires.face)), at.1 (c.args.f + 1) (omega (arith, c.requires.face)), start-next faces c.args.f c.requires.face)

pub slice_bounds-result-start : goal.slice_bounds-result-start
slice_bounds-result-start c =
    let faces = c.args.level.now.level.polygons in
    let at = start-at c.corner_starts-starts.result.now faces c.corner_starts-starts.ensures.gaps c.corner_starts-starts.ensures.ascend in
    omega (arith, at.1 c.args.f (omega (arith, c.requires.face)), at.1 (c.args.f + 1) (omega (arith, c.requires.face)), start-next faces c.args.f c.requires.face)

pub slice_bounds-result-end : goal.slice_bounds-result-end
slice_bounds-result-end c =
    let faces = c.args.level.now.level.polygons in
    let at = start-at c.corner_starts-starts.result.now faces c.corner_starts-starts.ensures.gaps c.corner_starts-starts.ensures.ascend in
    omega (arith, at.1 (c.args.f + 1) (omega (arith, c.requires.face)), start-next faces c.args.f c.requires.face, start-within faces c.args.f c.requires.face, c.requires.numbers)

pub returns : goal.returns
returns c = cut-part c.args.level.now.level.polygons c.args.numbers.now c.corner_starts-starts.result.now c.args.f c.corner_starts-starts.ensures.gaps c.corner_starts-starts.ensures.ascend c.requires.face
