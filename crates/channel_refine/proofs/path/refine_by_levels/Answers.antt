use Rattle.std.proofs.Common.{ap, sym, subst, ◌∙◌}
use Rattle.subdiv_model.specs.Channel.{Values}
use Rattle.primvar_refine.specs.View.{rows_of}
use Rattle.channel_refine.specs.Refined.{AreControls, IsRefinement}
use Rattle.channel_refine.specs.View.{refined_of}
use Rattle.channel_refine.proofs.PathLemmas.{control-rows}
use Rattle.channel_refine.proofs.path.refine_by_levels.Goals as goal

pub refine_channel-requires-clause-controls : goal.refine_channel-requires-clause-controls
refine_channel-requires-clause-controls g c =
    subst (AreControls c.args.base) (control-rows g.P.Primvar.numbers c.args.controls.now ∙ ap (rows_of g.P.Primvar.numbers) (sym c.in_ok-values.ensures)) c.requires.controls

pub returns-clause-refined : goal.returns-clause-refined
returns-clause-refined g c =
    let numbers = g.P.Primvar.numbers in
    subst (λ controls. IsRefinement Values c.args.base controls c.args.depth c.refine_channel.result (refined_of numbers))
    (ap (rows_of numbers) c.in_ok-values.ensures ∙ sym (control-rows numbers c.args.controls.now)) c.refine_channel.ensures.refined

pub returns-clause-steps : goal.returns-clause-steps
returns-clause-steps g c = c.refine_channel.ensures.steps
