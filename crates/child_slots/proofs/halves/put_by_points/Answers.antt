use Rattle.std.proofs.Common.{rules, ◌≡◌, map, arith}
use Rattle.sharpness_rules.specs.View.{sharpness_of}
use Rattle.child_slots.proofs.HalfTableLemmas.{halves-none, halves-all}
use Rattle.child_slots.proofs.halves.put_by_points.Goals as goal

pub loop-v-init : goal.loop-v-init
loop-v-init g c = halves-none c.args.level.now c.facts.ensures (g.P.ChildPoints.has c.args.points.now) c.args.halves.now c.requires.size

pub returns : goal.returns
returns g c =
    let last : c.loop-v.v ≡ c.args.level.now.level.point_count = omega (arith, c.loop-v-test.false, c.loop-v.auto.v-end, c.points-v-end.ensures) in
    halves-all c.args.level.now c.facts.ensures (g.P.ChildPoints.has c.args.points.now) c.loop-v.v (map sharpness_of c.loop-v.halves) last c.loop-v.invariant

-- proved by name, so that the prover refuses a body that breaks it at once
pub put_point-requires-clause-before : goal.put_point-requires-clause-before
put_point-requires-clause-before g c = search rules

pub loop-v-preserved : goal.loop-v-preserved
loop-v-preserved g c = search rules
