use Rattle.std.proofs.Common.{◌≡◌, length, map, take}
use Rattle.patch_map.proofs.map.face_sizes.Given as goal

-- the sizes of the faces so far
abbrev pub invariant-loop-f : goal.invariant-loop-f
invariant-loop-f l = l.sizes.items ≡ map length (take l.f l.level.level.polygons)
