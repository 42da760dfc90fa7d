use Rattle.std.proofs.Common.{◌≡◌}
use Rattle.std.specs.List.{count_by, range_with_len}
use Rattle.subdiv_model.specs.Level.{is_hole}
use Rattle.level_walk.proofs.faces.hole_count.Given as goal

-- the faces so far
abbrev pub invariant-loop-f : goal.invariant-loop-f
invariant-loop-f l = l.count ≡ count_by (is_hole l.level.level) (range_with_len 0 l.f)
