use Rattle.std.proofs.Common.{arith, ◌∙◌}
use Rattle.std.proofs.lemmas.List.{length-set}
use Rattle.table_arrays.proofs.NumberLemmas.{words-more, words-all}
use Rattle.table_arrays.proofs.numbers.fill_words.Goals as goal

pub loop-k-preserved : goal.loop-k-preserved
loop-k-preserved g c = record {
  words = words-more g.T.Natural.value c.args.numbers.now c.loop-k.out c.loop-k.k c.index-numbers-k.result c.of_natural.result c.loop-k-test.true
      (omega (arith, c.loop-k-test.true, c.requires.equal, c.loop-k.invariant.len)) c.index-numbers-k.is (c.of_natural.ensures ∙ c.wide.ensures) c.loop-k.invariant.words;
  len = length-set c.loop-k.out c.loop-k.k c.of_natural.result ∙ c.loop-k.invariant.len;
}

pub returns-clause-words : goal.returns-clause-words
returns-clause-words g c =
    words-all g.T.Natural.value c.args.numbers.now c.loop-k.out c.loop-k.k (c.loop-k.invariant.len ∙ c.requires.equal) c.loop-k-test.false c.loop-k.invariant.words
