use Rattle.std.proofs.Common.{◌≡◌}
use Rattle.face_varying.specs.Built.{sides_before, with_sides}
use Rattle.face_varying.proofs.build_sides.add_sides.Given as goal

-- the sides of the faces before this one are set
abbrev pub invariant-loop-f : goal.invariant-loop-f
invariant-loop-f l = l.builder ≡ with_sides (sides_before l.level.level l.apart l.numbers l.f) l.fn.builder
