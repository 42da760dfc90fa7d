use Rattle.std.proofs.Common.{◌<◌, arith}
use Rattle.limit_stencils.proofs.SmoothLemmas.{smooth-put}
use Rattle.limit_stencils.proofs.WeightLemmas.{mask-count, puts-limit}
use Rattle.limit_stencils.proofs.masks.LimitMasksPointMasks.put.Goals as goal

pub put_smooth-requires-clause-known : goal.put_smooth-requires-clause-known
put_smooth-requires-clause-known c = omega (arith, mask-count c.self.inside.level.now c.args.self.now c.self.view_is, c.requires)

pub put_limit-requires-clause-known : goal.put_limit-requires-clause-known
put_limit-requires-clause-known c = omega (arith, mask-count c.self.inside.level.now c.args.self.now c.self.view_is, c.requires)

pub returns-then-self : goal.returns-then-self
returns-then-self c =
    let inside : c.args.row < c.self.inside.level.now.level.point_count = omega (arith, mask-count c.self.inside.level.now c.args.self.now c.self.view_is, c.requires) in
    puts-limit c.self.inside.level.now c.args.self.now c.self.view_is c.args.row c.put_smooth.new.weights c.put_smooth.result c.facts.ensures inside c.self.invariant.limits
    (smooth-put c.self.inside.level.now c.args.row c.put_smooth.new.weights c.put_smooth.result c.facts.ensures (c.self.invariant.smooth_points c.if-self.true) inside c.put_smooth.ensures)

pub returns-else-self : goal.returns-else-self
returns-else-self c =
    puts-limit c.self.inside.level.now c.args.self.now c.self.view_is c.args.row c.put_limit.new.weights c.put_limit.result c.facts.ensures
    (omega (arith, mask-count c.self.inside.level.now c.args.self.now c.self.view_is, c.requires)) c.self.invariant.limits c.put_limit.ensures
