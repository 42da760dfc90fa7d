use Rattle.limit_laws.proofs.LevelLemmas.{one-step, all-steps, refined-steps, listed-steps, listed-positive}
use Rattle.limit_laws.proofs.steps.further_steps_leave_limit_points.Goals as goal

pub returns-clause-step : goal.returns-clause-step
returns-clause-step c = one-step

pub returns-clause-steps : goal.returns-clause-steps
returns-clause-steps c = all-steps

pub returns-clause-controls : goal.returns-clause-controls
returns-clause-controls c = refined-steps

pub returns-clause-listed : goal.returns-clause-listed
returns-clause-listed c = listed-steps

pub returns-clause-above_zero : goal.returns-clause-above_zero
returns-clause-above_zero c = listed-positive
