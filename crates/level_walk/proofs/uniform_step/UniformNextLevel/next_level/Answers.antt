use Rattle.std.proofs.Common.{refl}
use Rattle.subdiv_model.specs.Mask.{CatmullClark}
use Rattle.uniform_refiner.specs.Refined.{IsRefined, IsRefusal}
use Rattle.level_walk.proofs.UniformMaskLemmas.{can-refine}
use Rattle.level_walk.proofs.UniformStepLemmas.{level-cause, as-step}
use Rattle.level_walk.proofs.UniformWholeLemmas.{whole-next, where-ok}
use Rattle.level_walk.proofs.uniform_step.UniformNextLevel.next_level.Goals as goal

pub returns-clause-made : goal.returns-clause-made
returns-clause-made g c =
    as-step c.refine.result c.with_cause.result (IsRefined c.args.level.now) (IsRefusal c.args.level.now) _ _ c.with_cause.ensures c.refine.ensures.refined
    (λ child refined. record { refined = refined; next_is = refl; steps = record { most = c.refine.ensures.steps; later = c.refine.ensures.later } })
    (λ fault refusal. record { is = level-cause c.args.level.now fault refusal; steps = record { most = c.refine.ensures.steps; later = c.refine.ensures.later } })

pub returns-clause-child : goal.returns-clause-child
returns-clause-child g c =
    where-ok c.with_cause.result (IsRefined c.args.level.now) (λ _. Unit {0}) _
    (as-step c.refine.result c.with_cause.result (IsRefined c.args.level.now) (IsRefusal c.args.level.now) _ _ c.with_cause.ensures c.refine.ensures.refined (λ child refined. refined) (λ fault refusal. tt))
    (λ child refined. can-refine c.args.level.now child refined CatmullClark c.facts.ensures c.requires.1.complete c.requires.1.boundary)

pub returns-clause-ready : goal.returns-clause-ready
returns-clause-ready g c = λ left whole.
    where-ok c.with_cause.result (IsRefined c.args.level.now) (λ _. Unit {0}) _
    (as-step c.refine.result c.with_cause.result (IsRefined c.args.level.now) (IsRefusal c.args.level.now) _ _ c.with_cause.ensures c.refine.ensures.refined (λ child refined. refined) (λ fault refusal. tt))
    (λ child refined. whole-next c.args.level.now child refined c.facts.ensures whole)
