use Rattle.channel_refine.proofs.path.refine_along.Goals as goal

pub returns-in-Table-clause-refined : goal.returns-in-Table-clause-refined
returns-in-Table-clause-refined g c = rw c.in-Table.is c.refine_by_table.ensures.refined

pub returns-in-Table-clause-steps : goal.returns-in-Table-clause-steps
returns-in-Table-clause-steps g c = rw c.in-Table.is c.refine_by_table.ensures.steps

pub returns-in-Levels-clause-refined : goal.returns-in-Levels-clause-refined
returns-in-Levels-clause-refined g c = rw c.in-Levels.is c.refine_by_levels.ensures.refined

pub returns-in-Levels-clause-steps : goal.returns-in-Levels-clause-steps
returns-in-Levels-clause-steps g c = rw c.in-Levels.is c.refine_by_levels.ensures.steps
