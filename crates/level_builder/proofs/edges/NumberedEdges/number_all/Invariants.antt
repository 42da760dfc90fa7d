use Rattle.std.proofs.Common.{◌≡◌, ◌++◌, ◌+◌, ◌≤◌, take, vec_len}
use Rattle.std.specs.Vec.{vec_capacity}
use Rattle.subdiv_model.specs.Polygons.{sides_of}
use Rattle.level_builder.specs.NumberedEdges.{numbers_in}
use Rattle.level_topology.specs.Numbering.{with_sides}
use Rattle.level_builder.proofs.edges.NumberedEdges.number_all.Given as goal

-- the sides before this corner are numbered
abbrev pub invariant-loop-c : goal.invariant-loop-c
invariant-loop-c l = record {
  numbered : l.self ≡ with_sides l.face l.fn.self (take l.c (sides_of l.corners));
  numbers : l.numbers.items ≡ l.fn.numbers.items ++ numbers_in l.fn.self.ends (take l.c (sides_of l.corners));
  room : vec_capacity l.fn.numbers ≤ vec_capacity l.numbers;
  count : vec_len l.numbers ≡ vec_len l.fn.numbers + l.c;
}
