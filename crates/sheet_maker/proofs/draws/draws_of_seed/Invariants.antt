use Rattle.std.proofs.Common.{◌≡◌, ◌++◌, ◌-◌, ◌%◌, ◌^◌, ◌<◌}
use Rattle.subdiv_model.specs.Generator.{draws_from}
use Rattle.sheet_maker.proofs.draws.draws_of_seed.Given as goal

-- the draws so far, and those to come
abbrev pub invariant-loop : goal.invariant-loop
invariant-loop l = record {
  short : l.x < 2 ^ 31;
  drawn : l.draws.items ++ draws_from (l.count - l.counter) l.x ≡ draws_from l.count (l.seed % 2 ^ 31);
}
