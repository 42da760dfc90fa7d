use Rattle.std.proofs.Common.{◌≡◌}
use Rattle.sparse_face_varying.proofs.NumberLemmas.{picked, face_test, face_number}
use Rattle.sparse_face_varying.proofs.numbers.written_as_selected.Given as goal

-- the numbers of the selected ones of the faces so far
abbrev pub invariant-loop-f : goal.invariant-loop-f
invariant-loop-f l = l.numbers.items ≡ picked (face_test l.faces) (face_number l.faces) l.f
