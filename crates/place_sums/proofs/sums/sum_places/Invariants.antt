use Rattle.std.proofs.Common.{◌≡◌, ◌+◌, ◌*◌, ◌/◌, length, map, take, drop}
use Rattle.std.specs.List.{zip}
use Rattle.ratio128.specs.Numbers.{zeros}
use Rattle.ratio128.proofs.AmountLemmas.{IsWithin}
use Rattle.stencil_apply.specs.Table.{total_of, sum_of_shares}
use Rattle.stencil_apply.specs.Means.{word_bound}
use Rattle.place_sums.specs.Touched.{moved, cleared}
use Rattle.place_sums.proofs.OrderLemmas.{numbers_read}
use Rattle.place_sums.proofs.sums.sum_places.Given as goal

-- The sum of the places before this one, and the sums that remain.
abbrev pub invariant-loop-at : goal.invariant-loop-at
invariant-loop-at g l = record {
  sum : g.P.Primvar.numbers l.sum ≡ sum_of_shares (zeros (g.P.Primvar.numbers l.like)) (map g.P.Primvar.numbers l.controls) (take l.at (zip l.places (map (λ n. n) (numbers_read l.places (map g.T.Natural.value l.fn.sums.items)))));
  same_length : length (g.P.Primvar.numbers l.sum) ≡ length (g.P.Primvar.numbers l.like);
  within : IsWithin (total_of (take l.at (zip l.places (map (λ n. n) (numbers_read l.places (map g.T.Natural.value l.fn.sums.items)))))
      * (word_bound / total_of (zip l.places (map (λ n. n) (numbers_read l.places (map g.T.Natural.value l.fn.sums.items)))))) (g.P.Primvar.numbers l.sum);
  rest : moved (drop l.at l.places) (map g.T.Natural.value l.sums.items) ≡ drop l.at (moved l.places (map g.T.Natural.value l.fn.sums.items));
  cleared : cleared (drop l.at l.places) (map g.T.Natural.value l.sums.items) ≡ cleared l.places (map g.T.Natural.value l.fn.sums.items);
  long : length l.sums.items ≡ length l.fn.sums.items;
  taken : l.steps ≡ l.fn.steps + l.at;
}
