use Rattle.std.proofs.Common.{arith, ◌≡◌, ℕ, ◌∙◌, ap, length, replicate, false, get_or}
use Rattle.level_topology.proofs.LawLemmas.{edges-as-many}
use Rattle.face_varying.specs.Kept.{ends_before, with_ends}
use Rattle.face_varying.proofs.BuiltLemmas.{start-within}
use Rattle.face_varying.proofs.CornerLemmas.{start-at}
use Rattle.face_varying.proofs.KeptLemmas.{face-ends-more}
use Rattle.face_varying.proofs.kept_ends.end_points.Goals as goal

pub bounds-corner_starts-f : goal.bounds-corner_starts-f
bounds-corner_starts-f c = omega (arith, c.loop-f-test.true, c.faces-f-end.ensures, (start-at c.corner_starts.result.now c.args.level.now.level.polygons c.corner_starts.ensures.gaps c.corner_starts.ensures.ascend).0)

pub mark_face-requires : goal.mark_face-requires
mark_face-requires c =
    let faces = c.args.level.now.level.polygons in
    let at = start-at c.corner_starts.result.now faces c.corner_starts.ensures.gaps c.corner_starts.ensures.ascend in
    omega (
      arith,
      at.1 c.loop-f.f (omega (arith, c.loop-f-test.true, c.faces-f-end.ensures)),
      start-within faces c.loop-f.f (omega (arith, c.loop-f-test.true, c.faces-f-end.ensures)),
      ap length c.face_edges.ensures,
      edges-as-many faces c.loop-f.f,
      c.facts.ensures.small.corners,
    )

pub loop-f-preserved : goal.loop-f-preserved
loop-f-preserved c =
    let at = start-at c.corner_starts.result.now c.args.level.now.level.polygons c.corner_starts.ensures.gaps c.corner_starts.ensures.ascend in
    face-ends-more c.args.level.now.level c.args.apart.now c.args.numbers.now c.loop-f.f (get_or c.corner_starts.result.now c.loop-f.f 0) c.face_edges.result.now (replicate c.args.points false) c.loop-f.marks.items c.mark_face.new.marks.items
    (at.1 c.loop-f.f (omega (arith, c.loop-f-test.true, c.faces-f-end.ensures))) c.face_edges.ensures c.loop-f.invariant c.mark_face.ensures

pub returns : goal.returns
returns c =
    let all : c.loop-f.f ≡ length c.args.level.now.level.polygons = omega (arith, c.loop-f-test.false, c.loop-f.auto.f-end, c.faces-f-end.ensures) in
    c.loop-f.invariant ∙ ap (λ (f : ℕ). with_ends (ends_before c.args.level.now.level c.args.apart.now c.args.numbers.now f) (replicate c.args.points false)) all
