use Rattle.std.proofs.Common.{◌≡◌, ◌+◌}
use Rattle.ratio128.specs.Numbers.{zeros}
use Rattle.mask_rules.specs.View.{terms_of}
use Rattle.primvar_refine.specs.Rows.{least_bound}
use Rattle.primvar_refine.specs.View.{rows_of}
use Rattle.primvar_refine.specs.Sums.{source_row}
use Rattle.primvar_refine.proofs.TermSumLemmas.{IsSumSoFar}
use Rattle.primvar_refine.proofs.sums.sum_of_terms.Given as goal

-- the sum of the terms so far, and the steps so far
abbrev pub invariant-loop-term : goal.invariant-loop-term
invariant-loop-term g l = record {
  so_far : IsSumSoFar l.multiple (least_bound (rows_of g.P.Primvar.numbers l.values)) (source_row (rows_of g.P.Primvar.numbers l.values) (rows_of g.P.Primvar.numbers l.made) l.places)
      (zeros (g.P.Primvar.numbers l.start.zero.now)) (terms_of l.terms) l.term-index (g.P.Primvar.numbers l.sum);
  taken : l.steps ≡ l.fn.steps + l.term-index;
}
