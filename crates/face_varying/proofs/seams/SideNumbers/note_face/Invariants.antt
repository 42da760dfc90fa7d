use Rattle.std.proofs.Common.{◌+◌}
use Rattle.face_varying.specs.CornerPlaces.{start_of}
use Rattle.face_varying.specs.Sides.{AreNoted}
use Rattle.face_varying.proofs.seams.SideNumbers.note_face.Given as goal

-- the sides of the corners before this one are noted
abbrev pub invariant-loop-c : goal.invariant-loop-c
invariant-loop-c l = AreNoted l.level.level.polygons l.raw.texture_corners l.self.along.items l.self.against.items (start_of l.level.level.polygons l.f + l.c)
