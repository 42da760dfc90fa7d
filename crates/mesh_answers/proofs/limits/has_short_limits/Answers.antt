use Rattle.std.proofs.Common.{sym, ◌∙◌}
use Rattle.mesh_answers.proofs.ShortLimitLemmas.{short-found}
use Rattle.mesh_answers.proofs.limits.has_short_limits.Goals as goal

pub returns-in-Some : goal.returns-in-Some
returns-in-Some c holds =
    short-found c.args.mesh.now c.args.composed.now c.in-Some.bound c.most_of.result c.times_within.result c.in-Some.ensures.bound c.most_of.ensures c.times_within.ensures.product
    c.times_within.ensures.within (sym c.is_some.ensures ∙ holds)
