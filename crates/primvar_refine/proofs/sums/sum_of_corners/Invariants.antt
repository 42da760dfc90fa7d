use Rattle.std.proofs.Common.{◌≡◌, ◌+◌, []}
use Rattle.subdiv_model.specs.Mask.{weigh_points}
use Rattle.ratio128.specs.Numbers.{zeros}
use Rattle.primvar_refine.specs.Rows.{least_bound}
use Rattle.primvar_refine.specs.View.{rows_of}
use Rattle.primvar_refine.specs.Sums.{source_row}
use Rattle.primvar_refine.proofs.TermSumLemmas.{IsSumSoFar}
use Rattle.primvar_refine.proofs.sums.sum_of_corners.Given as goal

-- the sum of the corners so far, and the steps so far
abbrev pub invariant-loop-v : goal.invariant-loop-v
invariant-loop-v g l = record {
  so_far : IsSumSoFar l.multiple (least_bound (rows_of g.P.Primvar.numbers l.values)) (source_row (rows_of g.P.Primvar.numbers l.values) [] [])
      (zeros (g.P.Primvar.numbers l.start.zero.now)) (weigh_points 1 l.corners) l.v-index (g.P.Primvar.numbers l.sum);
  taken : l.steps ≡ l.fn.steps + l.v-index;
}
