use Rattle.mask_rules.specs.View.{scheme_of}
use Rattle.level_walk.specs.Walk.{at}
use Rattle.level_walk.proofs.WalkLemmas.{handed-on}
use Rattle.sparse_walk.proofs.StartLemmas.{ready-base}
use Rattle.channel_refine.proofs.SparseStartLemmas.{sparse-base, start-rows, started}
use Rattle.channel_refine.proofs.SparseWalkedLemmas.{all-composed, all-steps, stopped-levels}
use Rattle.channel_refine.proofs.sparse_compose.compose_sparse.Goals as goal

pub walk-requires-clause-ready : goal.walk-requires-clause-ready
walk-requires-clause-ready g c =
    ready-base (g.T.FaceTest.meets c.args.rule.now.1) c.into_level-level.result (sparse-base c.into_level-level.result c.into_level-level.ensures.base) c.facts-2.ensures _ _ c.in_ok-start.start.level c.args.depth c.in_ok-start.ensures.level c.requires.depth c.requires.answers

pub walk-requires-clause-fits : goal.walk-requires-clause-fits
walk-requires-clause-fits g c = start-rows c.into_level-level.result c.in_ok-start.start c.in_ok-start.ensures

pub returns-in_err-end-clause-levels : goal.returns-in_err-end-clause-levels
returns-in_err-end-clause-levels g c =
    let test = g.T.FaceTest.meets c.args.rule.now.1 in
    handed-on _ c.in_err-end.field-0.0 _ _ c.from_residual-in_err-end.ensures.0 c.from_residual-in_err-end.ensures.1
    (stopped-levels test c.args.base c.args.depth c.most-most.result c.most-most.ensures (scheme_of c.scheme-scheme.result) c.scheme-scheme.ensures _
    (started test c.args.base c.args.depth c.into_level-level.result c.into_level-level.ensures.base c.into_level-level.ensures.level c.facts-2.ensures c.facts.ensures c.most-most.result c.most-most.ensures (scheme_of c.scheme-scheme.result) c.scheme-scheme.ensures _
    c.in_ok-start.ensures c.empty-keeping.ensures)
    c.in_err-end.field-0.0 c.walk.new.visitor c.walk.new.steps c.in_err-end.ensures).0

pub returns-in_err-end-clause-steps : goal.returns-in_err-end-clause-steps
returns-in_err-end-clause-steps g c =
    let test = g.T.FaceTest.meets c.args.rule.now.1 in
    (stopped-levels test c.args.base c.args.depth c.most-most.result c.most-most.ensures (scheme_of c.scheme-scheme.result) c.scheme-scheme.ensures _
    (started test c.args.base c.args.depth c.into_level-level.result c.into_level-level.ensures.base c.into_level-level.ensures.level c.facts-2.ensures c.facts.ensures c.most-most.result c.most-most.ensures (scheme_of c.scheme-scheme.result) c.scheme-scheme.ensures _
    c.in_ok-start.ensures c.empty-keeping.ensures)
    c.in_err-end.field-0.0 c.walk.new.visitor c.walk.new.steps c.in_err-end.ensures).1

pub returns-in_err-into_levels-clause-steps : goal.returns-in_err-into_levels-clause-steps
returns-in_err-into_levels-clause-steps g c =
    let test = g.T.FaceTest.meets c.args.rule.now.1 in
    all-steps test c.args.base c.args.depth c.most-most.result c.most-most.ensures (scheme_of c.scheme-scheme.result) c.scheme-scheme.ensures _
    (started test c.args.base c.args.depth c.into_level-level.result c.into_level-level.ensures.base c.into_level-level.ensures.level c.facts-2.ensures c.facts.ensures c.most-most.result c.most-most.ensures (scheme_of c.scheme-scheme.result) c.scheme-scheme.ensures _
    c.in_ok-start.ensures c.empty-keeping.ensures)
    (at c.in_ok-end.end c.walk.new.visitor c.walk.new.steps) c.in_ok-end.ensures

pub returns-clause-levels : goal.returns-clause-levels
returns-clause-levels g c =
    let test = g.T.FaceTest.meets c.args.rule.now.1 in
    all-composed test c.args.base c.args.depth c.most-most.result c.most-most.ensures (scheme_of c.scheme-scheme.result) c.scheme-scheme.ensures _
    (started test c.args.base c.args.depth c.into_level-level.result c.into_level-level.ensures.base c.into_level-level.ensures.level c.facts-2.ensures c.facts.ensures c.most-most.result c.most-most.ensures (scheme_of c.scheme-scheme.result) c.scheme-scheme.ensures _
    c.in_ok-start.ensures c.empty-keeping.ensures)
    (at c.in_ok-end.end c.walk.new.visitor c.walk.new.steps) _ c.in_ok-end.ensures c.in_ok-into_levels.ensures

pub returns-clause-steps : goal.returns-clause-steps
returns-clause-steps g c =
    let test = g.T.FaceTest.meets c.args.rule.now.1 in
    all-steps test c.args.base c.args.depth c.most-most.result c.most-most.ensures (scheme_of c.scheme-scheme.result) c.scheme-scheme.ensures _
    (started test c.args.base c.args.depth c.into_level-level.result c.into_level-level.ensures.base c.into_level-level.ensures.level c.facts-2.ensures c.facts.ensures c.most-most.result c.most-most.ensures (scheme_of c.scheme-scheme.result) c.scheme-scheme.ensures _
    c.in_ok-start.ensures c.empty-keeping.ensures)
    (at c.in_ok-end.end c.walk.new.visitor c.walk.new.steps) c.in_ok-end.ensures
