use Rattle.std.proofs.Common.{map, arith, sym, subst}
use Rattle.subdiv_model.specs.Channel.{Tables}
use Rattle.channel_refine.specs.Evaluated.{control_rows}
use Rattle.channel_refine.specs.Refined.{IsRefinedTo}
use Rattle.channel_refine.specs.View.{composed_of}
use Rattle.channel_refine.proofs.EvaluatedLemmas.{can-evaluate, entries-are, evaluated-to}
use Rattle.channel_refine.proofs.ResultLemmas.{steps-failed}
use Rattle.channel_refine.proofs.by_table.refine_by_table.Goals as goal

pub with_values-requires : goal.with_values-requires
with_values-requires g c =
    can-evaluate c.args.base c.args.depth (composed_of c.in_ok-composed.composed) c.in_ok-composed.ensures.composed c.facts.ensures (map g.P.Primvar.numbers c.args.controls.now) c.requires.controls

pub returns-in_err-composed-clause-steps : goal.returns-in_err-composed-clause-steps
returns-in_err-composed-clause-steps g c =
    steps-failed Tables c.args.base c.args.depth _ _ _ c.from_residual.ensures.0
    (omega (arith, c.in_err-composed.ensures.steps.most), c.in_err-composed.ensures.steps.later)

pub returns-in_err-refined-clause-steps : goal.returns-in_err-refined-clause-steps
returns-in_err-refined-clause-steps g c =
    let entries = entries-are c.args.base c.args.depth (composed_of c.in_ok-composed.composed) c.in_ok-composed.ensures.composed c.facts.ensures in
    steps-failed Tables c.args.base c.args.depth _ _ _ c.from_residual-in_err-refined.ensures.0
    (omega (arith, c.in_err-refined.ensures.steps, c.in_ok-composed.ensures.steps.most, entries), omega (arith, c.in_err-refined.ensures.later, c.in_ok-composed.ensures.steps.later))

pub returns-clause-refined : goal.returns-clause-refined
returns-clause-refined g c =
    subst (IsRefinedTo Tables c.args.base (control_rows (map g.P.Primvar.numbers c.args.controls.now)) c.args.depth) (sym c.in_ok-refined.ensures.refined)
    (evaluated-to c.args.base c.args.depth (composed_of c.in_ok-composed.composed) c.in_ok-composed.ensures.composed c.facts.ensures (map g.P.Primvar.numbers c.args.controls.now) c.requires.controls)

pub returns-clause-steps : goal.returns-clause-steps
returns-clause-steps g c =
    let entries = entries-are c.args.base c.args.depth (composed_of c.in_ok-composed.composed) c.in_ok-composed.ensures.composed c.facts.ensures in
    record {
      least = omega (arith, c.in_ok-refined.ensures.taken, c.in_ok-composed.ensures.steps.later, entries);
      most = omega (arith, c.in_ok-refined.ensures.steps, c.in_ok-composed.ensures.steps.most, entries);
      later = omega (arith, c.in_ok-refined.ensures.later, c.in_ok-composed.ensures.steps.later);
    }
