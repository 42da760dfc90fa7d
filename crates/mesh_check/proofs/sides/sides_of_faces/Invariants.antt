use Rattle.std.proofs.Common.{◌≡◌, take}
use Rattle.subdiv_model.specs.Edges.{all_sides}
use Rattle.mesh_check.proofs.sides.sides_of_faces.Given as goal

abbrev pub invariant-loop-f : goal.invariant-loop-f
invariant-loop-f l = l.sides.items ≡ all_sides (take l.f l.raw.faces)
