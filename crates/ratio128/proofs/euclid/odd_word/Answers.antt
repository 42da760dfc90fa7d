use Rattle.std.proofs.Common.{rules}
use Rattle.ratio128.proofs.OddLemmas.{odd-word, odd-word-whole}
use Rattle.ratio128.proofs.euclid.odd_word.Goals as goal

-- by a search, so that the prover leaves a goal open where a body shifts less
pub returns : goal.returns
returns c = record {
  odd = search (rules, odd-word c.args.word c.requires c.ranges.word.fits);
  whole = search (rules, odd-word-whole c.args.word c.requires c.ranges.word.fits);
}
