use Rattle.std.proofs.Common.{arith, ap, ◌∙◌}
use Rattle.mask_rules.specs.View.{scheme_of}
use Rattle.stencil_factory.specs.Composed.{identity_table}
use Rattle.level_walk.specs.Walk.{at}
use Rattle.level_walk.proofs.WalkLemmas.{handed-on}
use Rattle.channel_refine.proofs.ComposedLemmas.{reached-none, reached-end}
use Rattle.channel_refine.proofs.WalkedTableLemmas.{stopped-table, walked-table}
use Rattle.channel_refine.proofs.compose.compose_channel.Goals as goal

pub walk-requires-clause-ready : goal.walk-requires-clause-ready
walk-requires-clause-ready g c = record {
  complete = c.into_level-level.ensures.base.complete;
  points = omega (arith, c.into_level-level.ensures.base.points);
  boundary = c.into_level-level.ensures.base.boundary;
}

pub walk-requires-clause-fits : goal.walk-requires-clause-fits
walk-requires-clause-fits g c =
    (reached-none c.args.base c.into_level-level.result c.in_ok-carried.carried c.facts-2.ensures c.into_level-level.ensures.base c.into_level-level.ensures.level c.facts.ensures
    (c.in_ok-carried.ensures ∙ ap identity_table c.points.ensures)).each

pub returns-in_err-reached-clause-composed : goal.returns-in_err-reached-clause-composed
returns-in_err-reached-clause-composed g c =
    handed-on _ c.in_err-reached.field-0.0 _ _ c.from_residual-in_err-reached.ensures.0 c.from_residual-in_err-reached.ensures.1
    (stopped-table (λ _ _ _ _. Unit {0}) c.args.base c.most-most.result c.most-most.ensures (scheme_of c.scheme-scheme.result) c.scheme-scheme.ensures _
    (reached-none c.args.base c.into_level-level.result c.in_ok-carried.carried c.facts-2.ensures c.into_level-level.ensures.base c.into_level-level.ensures.level c.facts.ensures (c.in_ok-carried.ensures ∙ ap identity_table c.points.ensures))
    c.args.depth c.in_err-reached.field-0.0 c.walk.new.visitor c.walk.new.steps c.in_err-reached.ensures).0

pub returns-in_err-reached-clause-steps : goal.returns-in_err-reached-clause-steps
returns-in_err-reached-clause-steps g c =
    let is =
    stopped-table (λ _ _ _ _. Unit {0}) c.args.base c.most-most.result c.most-most.ensures (scheme_of c.scheme-scheme.result) c.scheme-scheme.ensures _
    (reached-none c.args.base c.into_level-level.result c.in_ok-carried.carried c.facts-2.ensures c.into_level-level.ensures.base c.into_level-level.ensures.level c.facts.ensures (c.in_ok-carried.ensures ∙ ap identity_table c.points.ensures))
    c.args.depth c.in_err-reached.field-0.0 c.walk.new.visitor c.walk.new.steps c.in_err-reached.ensures in
    record { most = is.1.0; later = is.1.1 }

pub returns-clause-composed : goal.returns-clause-composed
returns-clause-composed g c =
    reached-end _ _ _ _
    (walked-table (λ _ _ _ _. Unit {0}) c.args.base c.most-most.result c.most-most.ensures (scheme_of c.scheme-scheme.result) c.scheme-scheme.ensures _
    (reached-none c.args.base c.into_level-level.result c.in_ok-carried.carried c.facts-2.ensures c.into_level-level.ensures.base c.into_level-level.ensures.level c.facts.ensures (c.in_ok-carried.ensures ∙ ap identity_table c.points.ensures))
    c.args.depth (at c.in_ok-reached.reached c.walk.new.visitor c.walk.new.steps) c.in_ok-reached.ensures).0

pub returns-clause-steps : goal.returns-clause-steps
returns-clause-steps g c =
    let is =
    walked-table (λ _ _ _ _. Unit {0}) c.args.base c.most-most.result c.most-most.ensures (scheme_of c.scheme-scheme.result) c.scheme-scheme.ensures _
    (reached-none c.args.base c.into_level-level.result c.in_ok-carried.carried c.facts-2.ensures c.into_level-level.ensures.base c.into_level-level.ensures.level c.facts.ensures (c.in_ok-carried.ensures ∙ ap identity_table c.points.ensures))
    c.args.depth (at c.in_ok-reached.reached c.walk.new.visitor c.walk.new.steps) c.in_ok-reached.ensures in
    record { most = is.1.1; later = is.1.0 }
