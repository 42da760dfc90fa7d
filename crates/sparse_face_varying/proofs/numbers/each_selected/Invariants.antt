use Rattle.std.proofs.Common.{◌≡◌, map, take}
use Rattle.sparse_face_varying.proofs.NumberLemmas.{each_of}
use Rattle.sparse_face_varying.proofs.numbers.each_selected.Given as goal

-- the numbers of the levels so far
abbrev pub invariant-loop-level : goal.invariant-loop-level
invariant-loop-level g l = map (λ n. n.items) l.numbers.items ≡ each_of (take l.level-index l.levels)
