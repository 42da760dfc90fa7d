use Rattle.std.proofs.Common.{◌≡◌}
use Rattle.std.specs.List.{range_with_len}
use Rattle.patch_map.specs.Map.{starts_of}
use Rattle.patch_map.proofs.map.face_starts.Given as goal

-- the starts of the faces so far
abbrev pub invariant-loop-f : goal.invariant-loop-f
invariant-loop-f l = l.starts.items ≡ starts_of l.level.level.polygons (range_with_len 0 l.f)
