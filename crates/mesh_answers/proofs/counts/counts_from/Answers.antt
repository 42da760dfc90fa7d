use Rattle.std.proofs.Common.{arith, sym, subst}
use Rattle.far_model.specs.Command.{Levels}
use Rattle.mesh_answers.specs.Refusals.{IsFound, refusal_of_mesh}
use Rattle.mesh_answers.proofs.CountLemmas.{accepted-boundary, accepted-points, accepted-whole, counted-levels, counts-failed, counts-steps}
use Rattle.mesh_answers.proofs.counts.counts_from.Goals as goal

pub count_levels-requires-clause-points : goal.count_levels-requires-clause-points
count_levels-requires-clause-points g c = omega (arith, accepted-points c.requires.level.0 c.args.level c.requires.level.1.accepted)

pub count_levels-requires-clause-whole : goal.count_levels-requires-clause-whole
count_levels-requires-clause-whole g c = accepted-whole c.requires.level.0 c.args.level c.requires.level.1.accepted

pub count_levels-requires-clause-boundary : goal.count_levels-requires-clause-boundary
count_levels-requires-clause-boundary g c = accepted-boundary c.requires.level.0 c.args.level c.requires.level.1.accepted

pub returns-in-Ok-clause-counted : goal.returns-in-Ok-clause-counted
returns-in-Ok-clause-counted g c = λ mesh within. counted-levels mesh c.args.level c.args.depth c.in-Ok.counts.items within (c.in-Ok.ensures.counted, c.in-Ok.ensures.made)

pub returns-in-Ok-clause-steps : goal.returns-in-Ok-clause-steps
returns-in-Ok-clause-steps g c = λ mesh within. counts-steps mesh c.args.level c.args.depth c.args.steps.now c.count_levels.new.steps _ within c.count_levels.ensures.steps.most c.count_levels.ensures.steps.later

pub returns-in-Err-clause-counted : goal.returns-in-Err-clause-counted
returns-in-Err-clause-counted g c = λ mesh within.
    subst (λ fault. IsFound fault (refusal_of_mesh (Levels c.args.depth) mesh)) (sym c.fault_of_walk.ensures) (counts-failed mesh c.args.level c.args.depth c.in-Err.fault within c.in-Err.ensures.counted)

pub returns-in-Err-clause-steps : goal.returns-in-Err-clause-steps
returns-in-Err-clause-steps g c = λ mesh within. counts-steps mesh c.args.level c.args.depth c.args.steps.now c.count_levels.new.steps _ within c.count_levels.ensures.steps.most c.count_levels.ensures.steps.later
