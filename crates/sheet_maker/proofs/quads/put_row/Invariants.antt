use Rattle.std.proofs.Common.{◌≡◌, ◌++◌}
use Rattle.std.specs.List.{flat_map, range_with_len}
use Rattle.subdiv_model.specs.Generator.{sheet_quad}
use Rattle.sheet_maker.proofs.quads.put_row.Given as goal

-- the quads of the row so far
abbrev pub invariant-loop-j : goal.invariant-loop-j
invariant-loop-j l = l.corners.items ≡ l.fn.corners.items ++ flat_map (sheet_quad l.size l.i) (range_with_len 0 l.j)
