use Rattle.std.proofs.Common.{◌≡◌, max, unsigned_abs, length, map}
use Rattle.std.specs.List.{fold}
use Rattle.raw_mesh.specs.View.{texture_of as value_of}
use Rattle.subdiv_model.specs.Channel.{greatest_amount}
use Rattle.far_model.specs.Answer.{texture_numbers}
use Rattle.mesh_answers.proofs.tracks.greatest_of_values.Given as goal

-- the greatest so far, and from here on, is that of all
abbrev pub invariant-loop-rest : goal.invariant-loop-rest
invariant-loop-rest l = fold max l.greatest (map unsigned_abs (texture_numbers (map value_of l.rest))) ≡ greatest_amount (texture_numbers (map value_of l.values))

abbrev pub decreases-loop-rest : goal.decreases-loop-rest
decreases-loop-rest l = length l.rest
