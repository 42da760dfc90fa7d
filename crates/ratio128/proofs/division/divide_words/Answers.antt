use Rattle.ratio128.proofs.OddLemmas.{power-quotient}
use Rattle.ratio128.proofs.division.divide_words.Goals as goal

pub returns-then-b-twos-eq1 : goal.returns-then-b-twos-eq1
returns-then-b-twos-eq1 c = power-quotient c.args.a c.args.b c.requires c.ranges.b.fits c.if-b-twos-eq1.true
