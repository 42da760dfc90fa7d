use Rattle.std.proofs.Common.{◌≤◌, length}
use Rattle.point_fans.proofs.ChainLemmas.{AreChains}
use Rattle.point_fans.proofs.places.chains_of.Given as goal

-- the places from here on are linked
abbrev pub invariant-loop-place : goal.invariant-loop-place
invariant-loop-place l = record {
  within : l.place ≤ length l.numbers;
  linked : AreChains l.numbers l.firsts.items l.next.items l.limit l.place;
}

abbrev pub decreases-loop-place : goal.decreases-loop-place
decreases-loop-place l = l.place
