use Rattle.std.proofs.Common.{◌+◌, ◌<◌, ◌≤◌, length, MatchResult, arith, refl, ap, sym, ◌∙◌, subst}
use Rattle.subdiv_model.specs.Mask.{CatmullClark}
use Rattle.level_topology.specs.Topology.{IsTopology}
use Rattle.child_masks.specs.Masks.{CanRefine}
use Rattle.sparse_level.specs.View.{SparseTopology}
use Rattle.sparse_refiner.specs.Refined.{IsRefined, IsRefusal, places_for}
use Rattle.level_walk.proofs.UniformStepLemmas.{as-step}
use Rattle.sparse_walk.proofs.StepLemmas.{where-made, sparse-cause, masks-here, ready-next}
use Rattle.sparse_walk.proofs.step.SparseNextLevel.next_level.Goals as goal

pub refine_selected-requires-clause-depth : goal.refine_selected-requires-clause-depth
refine_selected-requires-clause-depth g c = subst (λ (t : SparseTopology). t.depth < 10) (sym c.sparse-parent.ensures) (omega (arith, c.requires.1.deep))

pub refine_selected-requires-clause-answers : goal.refine_selected-requires-clause-answers
refine_selected-requires-clause-answers g c = c.requires.1.answers

pub returns-clause-made : goal.returns-clause-made
returns-clause-made g c =
    let test = g.T.FaceTest.meets c.args.self.now.rule.now.1 in
    let t = c.args.level.now.sparse in
    let answered = subst (λ (t : SparseTopology). MatchResult c.refine_selected.result (IsRefined test t) (IsRefusal test t)) c.sparse-parent.ensures c.refine_selected.ensures.refined in
    let most = subst (λ (t : SparseTopology). c.refine_selected.new.steps ≤ c.args.steps.now + length (places_for test t)) c.sparse-parent.ensures c.refine_selected.ensures.steps in
    as-step c.refine_selected.result c.with_cause.result (IsRefined test t) (IsRefusal test t) _ _ c.with_cause.ensures answered
    (λ step refined. record { step = step; refined = refined; child_is = refl; next_is = refl; steps = record { most = most; later = c.refine_selected.ensures.later } })
    (λ fault refusal. record { is = sparse-cause test t fault refusal; steps = record { most = most; later = c.refine_selected.ensures.later } })

pub returns-clause-child : goal.returns-clause-child
returns-clause-child g c =
    let test = g.T.FaceTest.meets c.args.self.now.rule.now.1 in
    let t = c.args.level.now.sparse in
    let answered = subst (λ (t : SparseTopology). MatchResult c.refine_selected.result (IsRefined test t) (IsRefusal test t)) c.sparse-parent.ensures c.refine_selected.ensures.refined in
    let formed = subst IsTopology (c.level.ensures ∙ ap (λ (t : SparseTopology). t.topology) c.sparse-parent.ensures) c.facts.ensures in
    where-made c.refine_selected.result c.with_cause.result (IsRefined test t) (IsRefusal test t) (λ step. CanRefine t.topology step.child CatmullClark) c.with_cause.ensures answered
    (λ step refined. masks-here test c.requires.1.base t c.requires.1.stands step refined formed)

pub returns-clause-ready : goal.returns-clause-ready
returns-clause-ready g c = λ left ready.
    let test = g.T.FaceTest.meets c.args.self.now.rule.now.1 in
    let t = c.args.level.now.sparse in
    let answered = subst (λ (t : SparseTopology). MatchResult c.refine_selected.result (IsRefined test t) (IsRefusal test t)) c.sparse-parent.ensures c.refine_selected.ensures.refined in
    where-made c.refine_selected.result c.with_cause.result (IsRefined test t) (IsRefusal test t) _ c.with_cause.ensures answered
    (λ step refined. ready-next _ _ test t left step ready refined)
