use Rattle.std.proofs.Common.{◌≡◌, false, replicate}
use Rattle.face_varying.specs.Kept.{ends_before, with_ends}
use Rattle.face_varying.proofs.kept_ends.end_points.Given as goal

-- the ends of the sides of the faces before this one are marked
abbrev pub invariant-loop-f : goal.invariant-loop-f
invariant-loop-f l = l.marks.items ≡ with_ends (ends_before l.level.level l.apart l.numbers l.f) (replicate l.points false)
