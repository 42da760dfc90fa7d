use Rattle.stencil_factory.proofs.RowSumLemmas.{round-known, round-some, round-fits, round-all, round-can}
use Rattle.stencil_factory.proofs.compose.add_rows.Goals as goal

pub add_row-requires-clause-known : goal.add_row-requires-clause-known
add_row-requires-clause-known g c =
    round-known c.args.table.now c.facts.ensures g.T.Natural.value g.T.Natural.most c.args.weights.now c.indices-points.result.now c.numerators-factors.result.now
    c.indices-points.ensures c.numerators-factors.ensures c.loop-i.i c.loop-i.sums c.loop-i-test.true c.index-factors-i.result c.index-factors-i.is c.loop-i.invariant.can

pub add_row-requires-clause-some : goal.add_row-requires-clause-some
add_row-requires-clause-some g c =
    round-some c.args.table.now c.facts.ensures g.T.Natural.value g.T.Natural.most c.args.weights.now c.indices-points.result.now c.numerators-factors.result.now
    c.indices-points.ensures c.numerators-factors.ensures c.loop-i.i c.loop-i.sums c.loop-i-test.true c.index-factors-i.result c.index-factors-i.is c.loop-i.invariant.can

pub add_row-requires-clause-fits : goal.add_row-requires-clause-fits
add_row-requires-clause-fits g c =
    round-fits c.args.table.now c.facts.ensures g.T.Natural.value g.T.Natural.most c.args.weights.now c.indices-points.result.now c.numerators-factors.result.now
    c.indices-points.ensures c.numerators-factors.ensures c.loop-i.i c.loop-i.sums c.loop-i-test.true c.index-factors-i.result c.index-factors-i.is c.loop-i.invariant.can

pub loop-i-preserved : goal.loop-i-preserved
loop-i-preserved g c = record {
  all =
      round-all c.args.table.now c.facts.ensures g.T.Natural.value g.T.Natural.most c.args.weights.now c.indices-points.result.now c.numerators-factors.result.now
      c.indices-points.ensures c.numerators-factors.ensures c.loop-i.i c.loop-i.sums c.loop-i-test.true c.index-factors-i.result c.index-factors-i.is c.loop-i.invariant.can
      c.add_row.new.sums c.add_row.ensures _ c.loop-i.invariant.all;
  can =
      round-can c.args.table.now c.facts.ensures g.T.Natural.value g.T.Natural.most c.args.weights.now c.indices-points.result.now c.numerators-factors.result.now
      c.indices-points.ensures c.numerators-factors.ensures c.loop-i.i c.loop-i.sums c.loop-i-test.true c.index-factors-i.result c.index-factors-i.is c.loop-i.invariant.can
      c.add_row.new.sums c.add_row.ensures;
}
