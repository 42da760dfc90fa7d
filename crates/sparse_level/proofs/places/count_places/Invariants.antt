use Rattle.std.proofs.Common.{◌≡◌, ◌*◌, ◌^◌, ◌≤◌, length, take}
use Rattle.sparse_level.specs.Places.{marked_places}
use Rattle.sparse_level.proofs.places.count_places.Given as goal

-- the corners of the faces so far, and that they are few
abbrev pub invariant-loop-f : goal.invariant-loop-f
invariant-loop-f l = record { count : l.count ≡ length (marked_places l.on 0 (take l.f l.level.level.polygons)); few : l.count ≤ l.f * 2 ^ 16 }
