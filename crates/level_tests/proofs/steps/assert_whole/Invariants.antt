use Rattle.std.proofs.Common.{◌≡◌, ℕ, ◌<◌, true, false, get_or}
use Rattle.level_tests.proofs.steps.assert_whole.Given as goal

-- the points so far are complete
abbrev pub invariant-loop-v : goal.invariant-loop-v
invariant-loop-v g l = (u : ℕ) → u < l.v-counter → get_or l.level.complete u false ≡ true
