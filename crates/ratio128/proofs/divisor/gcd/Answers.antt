use Rattle.std.proofs.Common.{arith}
use Rattle.std.proofs.lemmas.Nat.Gcd.{IsGcd-from_zero, IsGcd-swap}
use Rattle.ratio128.proofs.OddLemmas.{gcd-from-odds}
use Rattle.ratio128.proofs.divisor.gcd.Goals as goal

pub returns-then-a-eq0 : goal.returns-then-a-eq0
returns-then-a-eq0 c = IsGcd-swap _ _ _ (IsGcd-from_zero _ _ (omega arith))

pub returns-then-b-eq0 : goal.returns-then-b-eq0
returns-then-b-eq0 c = IsGcd-from_zero _ _ (omega arith)

pub returns : goal.returns
returns c =
    gcd-from-odds c.args.a c.args.b _ _ _ _ _ _ (omega arith) c.ranges.a.fits c.odd_part.ensures.odd c.odd_part-2.ensures.odd c.odd_part.ensures.whole
    c.odd_part-2.ensures.whole c.gcd_of_odds.ensures c.min-twos.ensures
