use Rattle.mask_rules.specs.View.{scheme_of}
use Rattle.stencil_factory.proofs.SurveyLemmas.{survey-dens}
use Rattle.stencil_factory.proofs.step.compose_surveyed.Goals as goal

pub compose_rows-requires-clause-dens : goal.compose_rows-requires-clause-dens
compose_rows-requires-clause-dens c =
    survey-dens c.args.parent.now c.args.child.now (scheme_of c.args.scheme) c.args.table.now c.args.survey.now c.facts.ensures c.facts-2.ensures c.requires.child c.facts-3.ensures c.requires.each c.requires.survey
    c.deref.result.now c.deref.ensures.value

pub returns-in-Err : goal.returns-in-Err
returns-in-Err c = c.fault_of_rows.ensures c.args.parent.now.level (scheme_of c.args.scheme) c.args.child.now.origins c.args.table.now c.requires.survey.fine c.in-Err.ensures
