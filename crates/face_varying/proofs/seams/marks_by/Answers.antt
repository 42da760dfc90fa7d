use Rattle.std.proofs.Common.{arith}
use Rattle.face_varying.proofs.CuttableLemmas.{same-faces}
use Rattle.face_varying.proofs.ApartLemmas.{marks-more, marks-all}
use Rattle.face_varying.proofs.seams.marks_by.Goals as goal

pub is_apart-requires-clause-edge : goal.is_apart-requires-clause-edge
is_apart-requires-clause-edge c = omega (arith, c.loop-edge-test.true, c.edges-edge-end.ensures)

pub loop-edge-preserved : goal.loop-edge-preserved
loop-edge-preserved c =
    marks-more c.args.raw.now c.args.level.now.level.polygons c.loop-edge.edge c.loop-edge.apart.items _ c.is_apart.result (same-faces c.args.raw.now c.args.level.now c.requires.cuttable)
    (omega (arith, c.loop-edge-test.true, c.edges-edge-end.ensures)) c.is_apart.ensures c.in_ok-push.ensures.items c.loop-edge.invariant

pub returns : goal.returns
returns c =
    marks-all c.args.raw.now c.args.level.now.level.polygons c.loop-edge.edge c.loop-edge.apart.items (same-faces c.args.raw.now c.args.level.now c.requires.cuttable) (omega (arith, c.loop-edge-test.false, c.edges-edge-end.ensures)) c.loop-edge.invariant
