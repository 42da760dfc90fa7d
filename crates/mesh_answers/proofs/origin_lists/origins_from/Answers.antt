use Rattle.std.proofs.Common.{arith, sym, subst}
use Rattle.far_model.specs.Command.{Levels}
use Rattle.mesh_answers.specs.Refusals.{IsFound, refusal_of_mesh}
use Rattle.mesh_answers.proofs.CountLemmas.{accepted-boundary, accepted-points, accepted-whole, counts-failed, counts-steps}
use Rattle.mesh_answers.proofs.OriginLemmas.{origins-found}
use Rattle.mesh_answers.proofs.origin_lists.origins_from.Goals as goal

pub find_origins-requires-clause-points : goal.find_origins-requires-clause-points
find_origins-requires-clause-points g c = omega (arith, accepted-points c.requires.level.0 c.args.level c.requires.level.1.accepted)

pub find_origins-requires-clause-whole : goal.find_origins-requires-clause-whole
find_origins-requires-clause-whole g c = accepted-whole c.requires.level.0 c.args.level c.requires.level.1.accepted

pub find_origins-requires-clause-boundary : goal.find_origins-requires-clause-boundary
find_origins-requires-clause-boundary g c = accepted-boundary c.requires.level.0 c.args.level c.requires.level.1.accepted

pub returns-in-Ok-clause-found : goal.returns-in-Ok-clause-found
returns-in-Ok-clause-found g c = λ mesh within.
    origins-found mesh c.args.level c.args.depth c.in-Ok.origins within c.in-Ok.ensures.found c.in-Ok.ensures.few c.in-Ok.ensures.made

pub returns-in-Ok-clause-steps : goal.returns-in-Ok-clause-steps
returns-in-Ok-clause-steps g c = λ mesh within. counts-steps mesh c.args.level c.args.depth c.args.steps.now c.find_origins.new.steps _ within c.find_origins.ensures.steps.most c.find_origins.ensures.steps.later

pub returns-in-Err-clause-found : goal.returns-in-Err-clause-found
returns-in-Err-clause-found g c = λ mesh within.
    subst (λ fault. IsFound fault (refusal_of_mesh (Levels c.args.depth) mesh)) (sym c.fault_of_walk.ensures) (counts-failed mesh c.args.level c.args.depth c.in-Err.fault within c.in-Err.ensures.found)

pub returns-in-Err-clause-steps : goal.returns-in-Err-clause-steps
returns-in-Err-clause-steps g c = λ mesh within. counts-steps mesh c.args.level c.args.depth c.args.steps.now c.find_origins.new.steps _ within c.find_origins.ensures.steps.most c.find_origins.ensures.steps.later
