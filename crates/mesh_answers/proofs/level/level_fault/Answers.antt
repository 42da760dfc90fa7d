use Rattle.std.proofs.Common.{arith}
use Rattle.mesh_answers.proofs.LevelLemmas.{level-found, level-next, few-next, level-none}
use Rattle.mesh_answers.proofs.level.level_fault.Goals as goal

pub returns-then-count-gt-FACE_LIMIT : goal.returns-then-count-gt-FACE_LIMIT
returns-then-count-gt-FACE_LIMIT c = λ polygons is.
    level-found polygons c.loop-k.k c.args.depth c.loop-k.count c.loop-k-test.true (c.loop-k.invariant.counted polygons is) (c.loop-k.invariant.few polygons is)
    c.if-count-gt-FACE_LIMIT.true

pub loop-k-preserved : goal.loop-k-preserved
loop-k-preserved c = record {
  short = omega (arith, c.if-count-gt-FACE_LIMIT.false);
  counted = λ polygons is. level-next polygons c.loop-k.k c.loop-k.count (c.loop-k.invariant.counted polygons is);
  few = λ polygons is. few-next polygons c.loop-k.k c.loop-k.count (c.loop-k.invariant.counted polygons is) (omega (arith, c.if-count-gt-FACE_LIMIT.false)) (c.loop-k.invariant.few polygons is);
}

pub returns : goal.returns
returns c = λ polygons is. level-none polygons c.loop-k.k c.args.depth (omega (arith, c.loop-k-test.false)) (c.loop-k.invariant.few polygons is)
