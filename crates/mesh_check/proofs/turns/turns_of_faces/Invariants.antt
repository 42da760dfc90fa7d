use Rattle.std.proofs.Common.{◌≡◌, ◌++◌, drop}
use Rattle.mesh_check.specs.Turns.{turns_after}
use Rattle.mesh_check.proofs.turns.turns_of_faces.Given as goal

-- the corners so far, and those of the rest of the faces, are all
abbrev pub invariant-loop-f : goal.invariant-loop-f
invariant-loop-f l = l.turns.items ++ turns_after l.f (drop l.f l.raw.faces) ≡ turns_after 0 l.raw.faces
