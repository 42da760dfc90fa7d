use Rattle.std.proofs.Common.{arith, ◌∙◌}
use Rattle.nearest_float.specs.Binary.{binary32}
use Rattle.table_arrays.proofs.WeightLemmas.{nearest-more, nearest-all}
use Rattle.table_arrays.proofs.floats.fill_binary32.Goals as goal

pub loop-k-preserved : goal.loop-k-preserved
loop-k-preserved g c = record {
  nearest = nearest-more binary32 g.T.Natural.value c.args.den c.args.numerators.now c.loop-k.out c.put_binary32.new.out c.loop-k.k c.index-numerators-k.result c.wide.result
      c.loop-k-test.true (omega (arith, c.loop-k-test.true, c.requires.equal, c.loop-k.invariant.len, c.put_binary32.ensures.len)) c.index-numerators-k.is c.requires.fits c.wide.ensures
      c.put_binary32.ensures.kept c.put_binary32.ensures.nearest c.loop-k.invariant.nearest;
  len = c.put_binary32.ensures.len ∙ c.loop-k.invariant.len;
}

pub returns-clause-nearest : goal.returns-clause-nearest
returns-clause-nearest g c =
    nearest-all binary32 g.T.Natural.value c.args.den c.args.numerators.now c.loop-k.out c.loop-k.k (c.loop-k.invariant.len ∙ c.requires.equal) c.loop-k-test.false c.loop-k.invariant.nearest
