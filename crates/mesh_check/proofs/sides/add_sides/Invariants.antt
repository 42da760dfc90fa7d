use Rattle.std.proofs.Common.{◌≡◌, ◌++◌, length}
use Rattle.subdiv_model.specs.Polygons.{sides_back_to, sides_of}
use Rattle.mesh_check.proofs.sides.add_sides.Given as goal

-- the sides so far, and those from here back to the first corner, are all
abbrev pub invariant-loop-rest : goal.invariant-loop-rest
invariant-loop-rest l = l.sides.items ++ sides_back_to l.first l.rest ≡ l.fn.sides.items ++ sides_of l.face

abbrev pub decreases-loop-rest : goal.decreases-loop-rest
decreases-loop-rest l = length l.rest
