use Rattle.std.proofs.Common.{◌+◌, ◌≤◌, map, MatchResult, rules, arith, subst}
use Rattle.std.proofs.lemmas.Grind.{common_steps, elements}
use Rattle.subdiv_model.specs.Sparse.{FacePredicate}
use Rattle.channel_refine.specs.Evaluated.{control_rows}
use Rattle.channel_refine.specs.SparseRefined.{AreSparseLevels, IsSparseFault, present_to, entries_to}
use Rattle.channel_refine.specs.SparseView.{sparse_rows}
use Rattle.sparse_face_varying.specs.Chosen.{AreAscending}
use Rattle.sparse_face_varying.proofs.RefineLemmas.{rule-predicate, selection-ascends}
use Rattle.sparse_face_varying.proofs.refine.refine_sparse_texture.Goals as goal

pub with-rule-requires : goal.with-rule-requires
with-rule-requires g c =
    let up : AreAscending (map (λ n. n.items) c.args.numbers.now) = selection-ascends c.args.base.base c.args.depth (map (λ n. n.items) c.args.numbers.now) c.requires.selection in
    first_of (search rules, grind (arith, common_steps), grind (arith, elements))

pub returns-clause-refined : goal.returns-clause-refined
returns-clause-refined g c =
    subst (λ (predicate : FacePredicate). MatchResult c.refine_sparse.result
    (λ levels. AreSparseLevels c.args.base predicate (control_rows (map g.P.Primvar.numbers c.args.controls.now)) c.args.depth (map (sparse_rows g.P.Primvar.numbers) levels.items))
    (λ fault. IsSparseFault c.args.base predicate c.args.depth fault))
    (rule-predicate c.with-rule.result _ c.args.numbers c.args.base.base c.args.depth c.with-rule.ensures.rule c.requires.selection) c.refine_sparse.ensures.refined

pub returns-clause-steps : goal.returns-clause-steps
returns-clause-steps g c =
    let steps = c.refine_sparse.ensures.steps in
    record {
      most = subst (λ (predicate : FacePredicate). c.refine_sparse.new.steps ≤ c.args.steps.now + present_to c.args.base.base predicate c.args.depth + entries_to c.args.base predicate c.args.depth)
          (rule-predicate c.with-rule.result _ c.args.numbers c.args.base.base c.args.depth c.with-rule.ensures.rule c.requires.selection) steps.most;
      later = steps.later;
    }
