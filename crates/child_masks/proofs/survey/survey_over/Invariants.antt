use Rattle.std.proofs.Common.{take}
use Rattle.mask_rules.specs.View.{scheme_of}
use Rattle.child_masks.specs.Found.{IsSurveyOf}
use Rattle.child_masks.proofs.survey.survey_over.Given as goal

-- the survey of the points so far
abbrev pub invariant-loop-p : goal.invariant-loop-p
invariant-loop-p l = IsSurveyOf l.parent (scheme_of l.scheme) (take l.p l.child.origins) l.dens l.survey
