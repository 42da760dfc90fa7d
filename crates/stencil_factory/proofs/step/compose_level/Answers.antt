use Rattle.std.proofs.Common.{sym, subst}
use Rattle.mask_rules.specs.View.{scheme_of}
use Rattle.child_masks.specs.Found.{ArePointDenominators}
use Rattle.child_masks.specs.Survey.{IsSurvey, IsSurveyFault}
use Rattle.stencil_factory.proofs.SurveyLemmas.{point-dens}
use Rattle.stencil_factory.proofs.step.compose_level.Goals as goal

pub survey_over-requires-clause-dens : goal.survey_over-requires-clause-dens
survey_over-requires-clause-dens c =
    subst (ArePointDenominators c.args.parent.now.level) (sym c.denominators.ensures) (point-dens c.args.table.now c.args.parent.now.level c.facts-3.ensures c.requires.each)

pub compose_surveyed-requires-clause-survey : goal.compose_surveyed-requires-clause-survey
compose_surveyed-requires-clause-survey c =
    subst (λ dens. IsSurvey c.args.parent.now (scheme_of c.args.scheme) c.args.child.now.origins dens c.in-Ok.survey) c.denominators.ensures c.in-Ok.ensures

pub returns-in-Err : goal.returns-in-Err
returns-in-Err c =
    let level = c.args.parent.now.level in
    let scheme = scheme_of c.args.scheme in
    let origins = c.args.child.now.origins in
    c.table_fault.ensures level scheme origins c.args.table.now
    (subst (λ dens. IsSurveyFault level scheme origins dens c.in-Err.fault) c.denominators.ensures c.in-Err.ensures)
