use Rattle.std.proofs.Common.{◌∙◌}
use Rattle.ratio128.proofs.OddLemmas.{quotient-without-twos, odd-part-positive}
use Rattle.ratio128.proofs.division.quotient.Goals as goal

pub divide_by_odd-requires : goal.divide_by_odd-requires
divide_by_odd-requires c = odd-part-positive c.args.b c.requires c.ranges.b.fits

pub returns : goal.returns
returns c = c.divide_by_odd.ensures ∙ quotient-without-twos c.args.a c.args.b c.requires c.ranges.b.fits
