use Rattle.std.proofs.Common.{◌∙◌}
use Rattle.primvar_refine.proofs.SurveyLemmas.{good-dens}
use Rattle.primvar_refine.proofs.survey.survey_step.Goals as goal

pub survey_over-requires-clause-dens : goal.survey_over-requires-clause-dens
survey_over-requires-clause-dens g c =
    good-dens g.P.Primvar.numbers c.args.values.now c.args.parent.now.level _ c.requires.good c.requires.each (c.deref.ensures.value ∙ c.in_ok-dens.ensures)
