use Rattle.level_walk.specs.Walk.{at}
use Rattle.level_walk.proofs.WalkLemmas.{handed-on}
use Rattle.sparse_walk.proofs.SeriesLemmas.{all-steps, all-written, at-start, no-fault, stopped-levels}
use Rattle.sparse_walk.proofs.StartLemmas.{each-complete, ready-base, reached-start}
use Rattle.sparse_walk.proofs.series.sparse_levels.Goals as goal

pub base-requires : goal.base-requires
base-requires g c = each-complete c.args.base c.requires.base

pub walk-requires-clause-ready : goal.walk-requires-clause-ready
walk-requires-clause-ready g c =
    ready-base (g.T.FaceTest.meets c.args.rule.now.1) c.args.base c.requires.base c.facts.ensures _ _ c.in_ok-level.level c.args.depth c.in_ok-level.ensures c.requires.depth c.requires.answers

pub returns-in_err-end-clause-written : goal.returns-in_err-end-clause-written
returns-in_err-end-clause-written g c =
    let test = g.T.FaceTest.meets c.args.rule.now.1 in
    handed-on _ c.in_err-end.field-0.0 _ _ c.from_residual-in_err-end.ensures.0 c.from_residual-in_err-end.ensures.1
    (stopped-levels test c.args.base.level c.args.depth _
    (at-start test c.args.base.level c.args.depth _ (reached-start test c.args.base c.requires.base c.facts.ensures c.args.depth c.in_ok-level.level c.in_ok-level.ensures) c.empty-keeping.ensures)
    c.in_err-end.field-0.0 c.walk.new.visitor c.walk.new.steps c.in_err-end.ensures).0

pub returns-in_err-end-clause-steps : goal.returns-in_err-end-clause-steps
returns-in_err-end-clause-steps g c =
    let test = g.T.FaceTest.meets c.args.rule.now.1 in
    (stopped-levels test c.args.base.level c.args.depth _
    (at-start test c.args.base.level c.args.depth _ (reached-start test c.args.base c.requires.base c.facts.ensures c.args.depth c.in_ok-level.level c.in_ok-level.ensures) c.empty-keeping.ensures)
    c.in_err-end.field-0.0 c.walk.new.visitor c.walk.new.steps c.in_err-end.ensures).1

pub returns-in_err-levels-clause-steps : goal.returns-in_err-levels-clause-steps
returns-in_err-levels-clause-steps g c =
    let test = g.T.FaceTest.meets c.args.rule.now.1 in
    all-steps test c.args.base.level c.args.depth _
    (at-start test c.args.base.level c.args.depth _ (reached-start test c.args.base c.requires.base c.facts.ensures c.args.depth c.in_ok-level.level c.in_ok-level.ensures) c.empty-keeping.ensures)
    (at c.in_ok-end.end c.walk.new.visitor c.walk.new.steps) c.in_ok-end.ensures

pub returns-in_err-faces_by_level-clause-steps : goal.returns-in_err-faces_by_level-clause-steps
returns-in_err-faces_by_level-clause-steps g c =
    let test = g.T.FaceTest.meets c.args.rule.now.1 in
    all-steps test c.args.base.level c.args.depth _
    (at-start test c.args.base.level c.args.depth _ (reached-start test c.args.base c.requires.base c.facts.ensures c.args.depth c.in_ok-level.level c.in_ok-level.ensures) c.empty-keeping.ensures)
    (at c.in_ok-end.end c.walk.new.visitor c.walk.new.steps) c.in_ok-end.ensures

pub returns-clause-written : goal.returns-clause-written
returns-clause-written g c =
    let test = g.T.FaceTest.meets c.args.rule.now.1 in
    all-written test c.args.base.level c.args.depth _
    (at-start test c.args.base.level c.args.depth _ (reached-start test c.args.base c.requires.base c.facts.ensures c.args.depth c.in_ok-level.level c.in_ok-level.ensures) c.empty-keeping.ensures)
    (at c.in_ok-end.end c.walk.new.visitor c.walk.new.steps) _ _ c.in_ok-end.ensures c.in_ok-levels.ensures c.in_ok-faces_by_level.ensures

pub returns-clause-fine : goal.returns-clause-fine
returns-clause-fine g c =
    let test = g.T.FaceTest.meets c.args.rule.now.1 in
    no-fault test c.args.base.level c.args.depth _
    (at-start test c.args.base.level c.args.depth _ (reached-start test c.args.base c.requires.base c.facts.ensures c.args.depth c.in_ok-level.level c.in_ok-level.ensures) c.empty-keeping.ensures)
    (at c.in_ok-end.end c.walk.new.visitor c.walk.new.steps) c.in_ok-end.ensures

pub returns-clause-steps : goal.returns-clause-steps
returns-clause-steps g c =
    let test = g.T.FaceTest.meets c.args.rule.now.1 in
    all-steps test c.args.base.level c.args.depth _
    (at-start test c.args.base.level c.args.depth _ (reached-start test c.args.base c.requires.base c.facts.ensures c.args.depth c.in_ok-level.level c.in_ok-level.ensures) c.empty-keeping.ensures)
    (at c.in_ok-end.end c.walk.new.visitor c.walk.new.steps) c.in_ok-end.ensures
