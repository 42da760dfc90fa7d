use Rattle.std.proofs.Common.{◌≡◌, ◌+◌, ◌*◌, ◌≤◌, length, map, drop}
use Rattle.std.specs.List.{zip}
use Rattle.stencil_apply.specs.Table.{total_of}
use Rattle.place_sums.specs.Sums.{added_shares, sum_of}
use Rattle.place_sums.specs.Touched.{StartWithTouched}
use Rattle.place_sums.proofs.sums.PlaceSums.add_shares.Given as goal

-- Adding the remaining shares to the present sums gives the same as adding all shares to the first sums.
abbrev pub invariant-loop-i : goal.invariant-loop-i
invariant-loop-i g l = record {
  touched : StartWithTouched l.touched l.count (map g.T.Natural.value l.sums);
  sums : added_shares (g.T.Natural.value l.factor) (zip (drop l.i l.indices) (drop l.i (map g.S.Natural.value l.numerators))) (map g.T.Natural.value l.sums)
      ≡ added_shares (g.T.Natural.value l.factor) (zip l.indices (map g.S.Natural.value l.numerators)) l.fn.self;
  long : length l.sums ≡ length l.fn.self;
  fits : sum_of (map g.T.Natural.value l.sums) + g.T.Natural.value l.factor * total_of (zip (drop l.i l.indices) (drop l.i (map g.S.Natural.value l.numerators))) ≤ g.T.Natural.most;
}
