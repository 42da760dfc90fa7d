use Rattle.std.proofs.Common.{subst}
use Rattle.child_masks.specs.Survey.{IsSurveyFault}
use Rattle.stencil_factory.specs.Rows.{dens_of}
use Rattle.stencil_factory.proofs.step.table_fault.Goals as goal

pub returns-in-Transition : goal.returns-in-Transition
returns-in-Transition c level scheme origins table h = subst (IsSurveyFault level scheme origins (dens_of table)) c.in-Transition.is h

pub returns-in-Denominator : goal.returns-in-Denominator
returns-in-Denominator c level scheme origins table h = subst (IsSurveyFault level scheme origins (dens_of table)) c.in-Denominator.is h
