use Rattle.std.proofs.Common.{arith, sym, subst}
use Rattle.subdiv_model.specs.Channel.{Values}
use Rattle.mask_rules.specs.View.{scheme_of}
use Rattle.primvar_refine.specs.View.{rows_of}
use Rattle.level_walk.specs.Walk.{at}
use Rattle.level_walk.proofs.WalkLemmas.{handed-on}
use Rattle.channel_refine.specs.Step.{AreValues}
use Rattle.channel_refine.proofs.ChannelLemmas.{reached-none, reached-values, reached-end}
use Rattle.channel_refine.proofs.ResultLemmas.{steps-failed}
use Rattle.channel_refine.proofs.WalkedLemmas.{stopped-values, walked-values}
use Rattle.channel_refine.proofs.refine.refine_channel.Goals as goal

pub walk-requires-clause-ready : goal.walk-requires-clause-ready
walk-requires-clause-ready g c = record {
  complete = c.into_level-level.ensures.base.complete;
  points = omega (arith, c.into_level-level.ensures.base.points);
  boundary = c.into_level-level.ensures.base.boundary;
}

pub walk-requires-clause-fits : goal.walk-requires-clause-fits
walk-requires-clause-fits g c =
    subst (λ most. AreValues most c.into_level-level.result (rows_of g.P.Primvar.numbers c.args.controls.items)) (sym c.most-most.ensures)
    (reached-values c.args.base (rows_of g.P.Primvar.numbers c.args.controls.items) 0 c.into_level-level.result (rows_of g.P.Primvar.numbers c.args.controls.items)
    (reached-none c.args.base c.into_level-level.result (rows_of g.P.Primvar.numbers c.args.controls.items) c.facts-2.ensures c.into_level-level.ensures.base c.into_level-level.ensures.level c.facts.ensures c.requires.controls))

pub returns-in_err-reached-clause-refined : goal.returns-in_err-reached-clause-refined
returns-in_err-reached-clause-refined g c =
    handed-on _ c.in_err-reached.field-0.0 _ _ c.from_residual.ensures.0 c.from_residual.ensures.1
    (stopped-values (λ values. rows_of g.P.Primvar.numbers values.items) (λ _ _ _ _. Unit {0}) c.args.base (rows_of g.P.Primvar.numbers c.args.controls.items)
    c.most-most.result c.most-most.ensures (scheme_of c.scheme-scheme.result) c.scheme-scheme.ensures _
    (reached-none c.args.base c.into_level-level.result (rows_of g.P.Primvar.numbers c.args.controls.items) c.facts-2.ensures c.into_level-level.ensures.base c.into_level-level.ensures.level c.facts.ensures c.requires.controls)
    c.args.depth c.in_err-reached.field-0.0 c.walk.new.visitor c.walk.new.steps c.in_err-reached.ensures).0

pub returns-in_err-reached-clause-steps : goal.returns-in_err-reached-clause-steps
returns-in_err-reached-clause-steps g c =
    steps-failed Values c.args.base c.args.depth _ _ _ c.from_residual.ensures.0
    (stopped-values (λ values. rows_of g.P.Primvar.numbers values.items) (λ _ _ _ _. Unit {0}) c.args.base (rows_of g.P.Primvar.numbers c.args.controls.items)
    c.most-most.result c.most-most.ensures (scheme_of c.scheme-scheme.result) c.scheme-scheme.ensures _
    (reached-none c.args.base c.into_level-level.result (rows_of g.P.Primvar.numbers c.args.controls.items) c.facts-2.ensures c.into_level-level.ensures.base c.into_level-level.ensures.level c.facts.ensures c.requires.controls)
    c.args.depth c.in_err-reached.field-0.0 c.walk.new.visitor c.walk.new.steps c.in_err-reached.ensures).1

pub returns-clause-refined : goal.returns-clause-refined
returns-clause-refined g c =
    reached-end _ _ _ _ _
    (walked-values (λ values. rows_of g.P.Primvar.numbers values.items) (λ _ _ _ _. Unit {0}) c.args.base (rows_of g.P.Primvar.numbers c.args.controls.items)
    c.most-most.result c.most-most.ensures (scheme_of c.scheme-scheme.result) c.scheme-scheme.ensures _
    (reached-none c.args.base c.into_level-level.result (rows_of g.P.Primvar.numbers c.args.controls.items) c.facts-2.ensures c.into_level-level.ensures.base c.into_level-level.ensures.level c.facts.ensures c.requires.controls)
    c.args.depth (at c.in_ok-reached.reached c.walk.new.visitor c.walk.new.steps) c.in_ok-reached.ensures).0

pub returns-clause-steps : goal.returns-clause-steps
returns-clause-steps g c =
    let is =
    walked-values (λ values. rows_of g.P.Primvar.numbers values.items) (λ _ _ _ _. Unit {0}) c.args.base (rows_of g.P.Primvar.numbers c.args.controls.items)
    c.most-most.result c.most-most.ensures (scheme_of c.scheme-scheme.result) c.scheme-scheme.ensures _
    (reached-none c.args.base c.into_level-level.result (rows_of g.P.Primvar.numbers c.args.controls.items) c.facts-2.ensures c.into_level-level.ensures.base c.into_level-level.ensures.level c.facts.ensures c.requires.controls)
    c.args.depth (at c.in_ok-reached.reached c.walk.new.visitor c.walk.new.steps) c.in_ok-reached.ensures in
    record { least = is.1.0; most = is.1.1; later = omega (arith, is.1.0) }
