use Rattle.ratio128.proofs.OddLemmas.{odd-part, odd-part-whole}
use Rattle.ratio128.proofs.euclid.odd_part.Goals as goal

pub returns : goal.returns
returns c = record {
  odd = odd-part c.args.n c.requires c.ranges.n.fits;
  whole = odd-part-whole c.args.n c.requires c.ranges.n.fits;
}
