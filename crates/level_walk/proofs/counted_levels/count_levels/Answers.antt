use Rattle.std.proofs.Common.{map}
use Rattle.level_walk.specs.Walk.{at}
use Rattle.level_walk.proofs.WalkLemmas.{handed-on}
use Rattle.level_walk.specs.CountsView.{seen_counts}
use Rattle.level_walk.proofs.CountedLevelLemmas.{counts-more, stopped-levels, walked-counts, walked-levels}
use Rattle.level_walk.proofs.counted_levels.count_levels.Goals as goal

pub returns-in_err-end-clause-counted : goal.returns-in_err-end-clause-counted
returns-in_err-end-clause-counted g c =
    handed-on _ c.in_err-end.field-0.0 _ _ c.from_residual-in_err-end.ensures.0 c.from_residual-in_err-end.ensures.1
    (stopped-levels (λ v. map seen_counts v.counts.items) _ c.args.depth c.in_err-end.field-0.0 c.walk.new.visitor c.walk.new.steps c.in_err-end.ensures).fault

pub returns-in_err-end-clause-steps : goal.returns-in_err-end-clause-steps
returns-in_err-end-clause-steps g c =
    (stopped-levels (λ v. map seen_counts v.counts.items) _ c.args.depth c.in_err-end.field-0.0 c.walk.new.visitor c.walk.new.steps c.in_err-end.ensures).steps

pub returns-in_err-counts-clause-steps : goal.returns-in_err-counts-clause-steps
returns-in_err-counts-clause-steps g c =
    (walked-levels (λ v. map seen_counts v.counts.items) _ c.args.depth (at c.in_ok-end.end c.walk.new.visitor c.walk.new.steps) c.in_ok-end.ensures).steps

pub returns-clause-counted : goal.returns-clause-counted
returns-clause-counted g c =
    let end = at c.in_ok-end.end c.walk.new.visitor c.walk.new.steps in
    let is = walked-levels (λ v. map seen_counts v.counts.items) _ c.args.depth end c.in_ok-end.ensures in
    let counts = walked-counts (λ v. map seen_counts v.counts.items) _ c.in_ok-counting.ensures c.args.depth end c.in_ok-end.ensures in
    counts-more c.args.base.level c.args.depth c.in_ok-end.end.level.level _ _ is.reached.level counts c.in_ok-counts.ensures

pub returns-clause-made : goal.returns-clause-made
returns-clause-made g c =
    (walked-levels (λ v. map seen_counts v.counts.items) _ c.args.depth (at c.in_ok-end.end c.walk.new.visitor c.walk.new.steps) c.in_ok-end.ensures).reached.made

pub returns-clause-steps : goal.returns-clause-steps
returns-clause-steps g c =
    (walked-levels (λ v. map seen_counts v.counts.items) _ c.args.depth (at c.in_ok-end.end c.walk.new.visitor c.walk.new.steps) c.in_ok-end.ensures).steps
