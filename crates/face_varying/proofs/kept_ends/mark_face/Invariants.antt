use Rattle.std.proofs.Common.{◌≡◌}
use Rattle.face_varying.specs.Kept.{first_ends, with_ends}
use Rattle.face_varying.proofs.kept_ends.mark_face.Given as goal

-- the ends of the sides before this one are marked
abbrev pub invariant-loop-c : goal.invariant-loop-c
invariant-loop-c l = l.marks.items ≡ with_ends (first_ends l.apart l.numbers l.start l.edges l.c) l.fn.marks.items
