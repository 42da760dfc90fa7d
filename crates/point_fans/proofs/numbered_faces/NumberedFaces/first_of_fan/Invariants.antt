use Rattle.std.proofs.Common.{◌≡◌, ℕ, true, take}
use Rattle.subdiv_model.specs.Polygons.{is_among}
use Rattle.subdiv_model.specs.Manifold.{IsSuccessor}
use Rattle.point_fans.proofs.numbered_faces.NumberedFaces.first_of_fan.Given as goal

-- a face comes before each of the faces so far
abbrev pub invariant-loop-i : goal.invariant-loop-i
invariant-loop-i l = (f : ℕ) → is_among (take l.i l.faces) f ≡ true → (g : ℕ) × IsSuccessor l.self.level.polygons l.v g f
