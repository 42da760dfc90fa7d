use Rattle.std.proofs.Common.{rules}
use Rattle.std.proofs.lemmas.List.Sorted.{IsNonDecreasingBy-from_sort_by_key}
use Rattle.mesh_check.specs.Turns.{turn_key}
use Rattle.mesh_check.proofs.TurnLemmas.{cut_key, cut-same, cut-vertices}
use Rattle.mesh_check.proofs.turns.sort_turns.Goals as goal

pub returns-clause-sorted : goal.returns-clause-sorted
returns-clause-sorted c = IsNonDecreasingBy-from_sort_by_key turn_key _ c.sort_unstable_by_key.ensures.sorted (λ a r q k. search rules)

pub returns-clause-vertices : goal.returns-clause-vertices
returns-clause-vertices c = cut-vertices _ (IsNonDecreasingBy-from_sort_by_key cut_key _ c.sort_unstable_by_key.ensures.sorted (λ a r q k. (cut-same a.0.now r (search rules) (search rules), search rules)))
