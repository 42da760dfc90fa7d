use Rattle.std.proofs.Common.{◌≡◌, map}
use Rattle.std.specs.List.{range_with_len}
use Rattle.sparse_laws.specs.Selected.{is_selected_in}
use Rattle.sparse_level.specs.View.{level_of}
use Rattle.sparse_level.proofs.select.select_faces.Given as goal

-- the marks of the faces so far
abbrev pub invariant-loop-f : goal.invariant-loop-f
invariant-loop-f g l = l.marks.items ≡ map (is_selected_in (g.T.FaceTest.meets l.chosen.1) (level_of l.sparse)) (range_with_len 0 l.f)
