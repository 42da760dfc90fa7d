use Rattle.std.proofs.Common.{◌≡◌, false, get_or}
use Rattle.part_laws.specs.Parts.{face_in}
use Rattle.sparse_face_varying.proofs.NumberLemmas.{picked}
use Rattle.sparse_face_varying.proofs.numbers.selected_numbers.Given as goal

-- the numbers of the marked ones of the faces so far
abbrev pub invariant-loop-f : goal.invariant-loop-f
invariant-loop-f l = l.numbers.items ≡ picked (λ f. get_or l.step.selected f false) (face_in l.sparse.numbers) l.f
