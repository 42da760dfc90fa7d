use Rattle.std.proofs.Common.{◌≡◌}
use Rattle.std.specs.List.{range_with_len}
use Rattle.level_walk.proofs.base_origins.own_faces.Given as goal

-- the faces so far
abbrev pub invariant-loop-f : goal.invariant-loop-f
invariant-loop-f l = l.faces.items ≡ range_with_len 0 l.f
