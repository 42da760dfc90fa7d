use Rattle.std.proofs.Common.{subst}
use Rattle.std.specs.List.Sorted.{IsPermutation}
use Rattle.mesh_check.specs.Turns.{turn_key}
use Rattle.mesh_check.proofs.SplitLemmas.{turns-rise}
use Rattle.mesh_check.proofs.turns.sorted_turns.Goals as goal

pub returns : goal.returns
returns c = record {
  moved = subst (λ made. IsPermutation made c.sort_turns.new.turns.items) c.in_ok-turns.ensures c.sort_turns.ensures.moved;
  keys = turns-rise turn_key c.sort_turns.new.turns.items c.sort_turns.ensures.sorted;
  vertices = turns-rise (λ t. t.vertex) c.sort_turns.new.turns.items c.sort_turns.ensures.vertices;
}
