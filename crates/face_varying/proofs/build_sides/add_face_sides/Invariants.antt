use Rattle.std.proofs.Common.{◌≡◌}
use Rattle.face_varying.specs.Built.{first_sides, with_sides}
use Rattle.face_varying.proofs.build_sides.add_face_sides.Given as goal

-- the sides before this one are set
abbrev pub invariant-loop-c : goal.invariant-loop-c
invariant-loop-c l = l.builder ≡ with_sides (first_sides l.level.level l.apart l.corners l.edges l.c) l.fn.builder
