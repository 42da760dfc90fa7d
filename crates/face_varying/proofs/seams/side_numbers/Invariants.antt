use Rattle.face_varying.specs.CornerPlaces.{start_of}
use Rattle.face_varying.specs.Sides.{AreNoted}
use Rattle.face_varying.proofs.seams.side_numbers.Given as goal

-- the sides of the faces before this one are noted
abbrev pub invariant-loop-f : goal.invariant-loop-f
invariant-loop-f l = AreNoted l.level.level.polygons l.raw.texture_corners l.sides.along.items l.sides.against.items (start_of l.level.level.polygons l.f)
