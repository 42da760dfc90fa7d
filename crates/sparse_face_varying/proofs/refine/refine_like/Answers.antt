use Rattle.std.proofs.Common.{◌≡◌, ◌+◌, ◌^◌, ◌<◌, ◌≤◌, Bool, length, IfOk, MatchResult, subst}
use Rattle.subdiv_model.specs.Feature.{FaceFacts}
use Rattle.sparse_refiner.specs.Refined.{IsNextOf, IsRefined, IsRefusal, SparseOf, places_for}
use Rattle.sparse_face_varying.proofs.RefineLemmas.{rule-test}
use Rattle.sparse_face_varying.proofs.refine.refine_like.Goals as goal

pub returns-clause-refined : goal.returns-clause-refined
returns-clause-refined g c =
    subst (λ (test : FaceFacts → Bool). MatchResult c.refine_selected.result (IsRefined test c.args.channel.now) (IsRefusal test c.args.channel.now)) (rule-test c.with-rule.result _ c.args.numbers c.with-rule.ensures.rule) c.refine_selected.ensures.refined

pub returns-clause-sparse : goal.returns-clause-sparse
returns-clause-sparse g c =
    subst (λ (test : FaceFacts → Bool). (of : SparseOf test c.args.channel.now) → IfOk c.refine_selected.result (IsNextOf of)) (rule-test c.with-rule.result _ c.args.numbers c.with-rule.ensures.rule) c.refine_selected.ensures.sparse

pub returns-clause-steps : goal.returns-clause-steps
returns-clause-steps g c =
    subst (λ (test : FaceFacts → Bool). c.refine_selected.new.steps ≤ c.args.steps.now + length (places_for test c.args.channel.now)) (rule-test c.with-rule.result _ c.args.numbers c.with-rule.ensures.rule) c.refine_selected.ensures.steps

pub returns-clause-early : goal.returns-clause-early
returns-clause-early g c =
    subst (λ (test : FaceFacts → Bool). 2 ^ 22 < length (places_for test c.args.channel.now) → c.refine_selected.new.steps ≡ c.args.steps.now) (rule-test c.with-rule.result _ c.args.numbers c.with-rule.ensures.rule) c.refine_selected.ensures.early
