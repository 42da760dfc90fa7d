use Rattle.std.proofs.Common.{◌≡◌, ◌++◌, length}
use Rattle.std.specs.List.{filter}
use Rattle.subdiv_model.specs.Edges.{first_named}
use Rattle.level_builder.specs.Keys.{AreWords, edge_key, is_unmarked}
use Rattle.mesh_check.proofs.once.new_sides.Given as goal

-- the sides found so far, and those of the rest by the present marks, are all
abbrev pub invariant-loop-rest : goal.invariant-loop-rest
invariant-loop-rest l = record {
  found : l.found.items ++ filter (λ s. is_unmarked l.keys l.marks.items (edge_key s)) (first_named l.rest) ≡ filter (λ s. is_unmarked l.keys l.fn.marks.items (edge_key s)) (first_named l.sides);
  size : length l.marks.items ≡ length l.keys;
  words : AreWords l.rest;
}

abbrev pub decreases-loop-rest : goal.decreases-loop-rest
decreases-loop-rest l = length l.rest
