use Rattle.std.proofs.Common.{map, arith, ap, ◌∙◌}
use Rattle.sparse_laws.specs.Written.{used_points}
use Rattle.channel_refine.proofs.SparseValuedLemmas.{all-valued, can-value-all, entries-few}
use Rattle.channel_refine.proofs.sparse_refine.refine_sparse.Goals as goal

pub all_values-requires : goal.all_values-requires
all_values-requires g c =
    can-value-all (g.T.FaceTest.meets c.args.rule.now.1) c.args.base c.args.depth c.in_ok-levels.levels.items c.in_ok-levels.ensures.levels c.deref.result.now (c.deref.ensures.value ∙ c.in_ok-first.ensures ∙ ap used_points c.level.ensures)
    (map g.P.Primvar.numbers c.args.controls.now) c.requires.controls

pub returns-in_err-levels-clause-steps : goal.returns-in_err-levels-clause-steps
returns-in_err-levels-clause-steps g c =
    record { most = omega (arith, c.in_err-levels.ensures.steps.most); later = c.in_err-levels.ensures.steps.later }

pub returns-in_err-values-clause-steps : goal.returns-in_err-values-clause-steps
returns-in_err-values-clause-steps g c =
    let entries =
    entries-few (g.T.FaceTest.meets c.args.rule.now.1) c.args.base c.args.depth c.in_ok-levels.levels.items c.in_ok-levels.ensures.levels c.deref.result.now (c.deref.ensures.value ∙ c.in_ok-first.ensures ∙ ap used_points c.level.ensures)
    (map g.P.Primvar.numbers c.args.controls.now) c.requires.controls in
    record {
      most = omega (arith, c.in_err-values.ensures.steps, c.in_ok-levels.ensures.steps.most, entries);
      later = omega (arith, c.in_err-values.ensures.later, c.in_ok-levels.ensures.steps.later);
    }

pub returns-clause-refined : goal.returns-clause-refined
returns-clause-refined g c =
    all-valued (g.T.FaceTest.meets c.args.rule.now.1) c.args.base c.args.depth c.in_ok-levels.levels.items c.in_ok-levels.ensures.levels c.deref.result.now (c.deref.ensures.value ∙ c.in_ok-first.ensures ∙ ap used_points c.level.ensures)
    (map g.P.Primvar.numbers c.args.controls.now) c.requires.controls _ c.in_ok-values.ensures.values

pub returns-clause-steps : goal.returns-clause-steps
returns-clause-steps g c =
    let entries =
    entries-few (g.T.FaceTest.meets c.args.rule.now.1) c.args.base c.args.depth c.in_ok-levels.levels.items c.in_ok-levels.ensures.levels c.deref.result.now (c.deref.ensures.value ∙ c.in_ok-first.ensures ∙ ap used_points c.level.ensures)
    (map g.P.Primvar.numbers c.args.controls.now) c.requires.controls in
    record {
      most = omega (arith, c.in_ok-values.ensures.steps, c.in_ok-levels.ensures.steps.most, entries);
      later = omega (arith, c.in_ok-values.ensures.later, c.in_ok-levels.ensures.steps.later);
    }
