use Rattle.std.proofs.Common.{◌≡◌, ◌+◌, ◌*◌, ◌/◌, length, map, take}
use Rattle.std.specs.List.{zip}
use Rattle.subdiv_model.specs.Channel.{number_bound}
use Rattle.ratio128.specs.Numbers.{zeros}
use Rattle.stencil_apply.specs.Table.{total_of, sum_of_shares}
use Rattle.ratio128.proofs.AmountLemmas.{IsWithin}
use Rattle.stencil_apply.proofs.apply.sum_wide.Given as goal

-- the sum so far, its length and its bound, and the steps so far
abbrev pub invariant-loop-at : goal.invariant-loop-at
invariant-loop-at g l = record {
  sums : g.P.Primvar.numbers l.sum ≡ sum_of_shares (zeros (g.P.Primvar.numbers l.like)) (map g.P.Primvar.numbers l.controls) (take l.at (zip l.indices (map g.T.Natural.value l.numerators)));
  same_length : length (g.P.Primvar.numbers l.sum) ≡ length (g.P.Primvar.numbers l.like);
  within : IsWithin (total_of (take l.at (zip l.indices (map g.T.Natural.value l.numerators))) * (number_bound / total_of (zip l.indices (map g.T.Natural.value l.numerators)))) (g.P.Primvar.numbers l.sum);
  taken : l.steps ≡ l.fn.steps + l.at;
}
