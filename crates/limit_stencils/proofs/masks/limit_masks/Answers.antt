use Rattle.std.proofs.Common.{refl}
use Rattle.limit_stencils.proofs.SmoothLemmas.{smooth-limits}
use Rattle.limit_stencils.proofs.masks.limit_masks.Goals as goal

pub invariant_of-result : goal.invariant_of-result
invariant_of-result c =
    record {
      limits = smooth-limits c.args.level.now c.facts.ensures c.requires.quads c.requires.boundary (c.is_smooth.ensures c.if-is_smooth.true);
      smooth_points = λ _. c.is_smooth.ensures c.if-is_smooth.true;
    }

pub returns-then-is_smooth : goal.returns-then-is_smooth
returns-then-is_smooth c = (refl, smooth-limits c.args.level.now c.facts.ensures c.requires.quads c.requires.boundary (c.is_smooth.ensures c.if-is_smooth.true))
