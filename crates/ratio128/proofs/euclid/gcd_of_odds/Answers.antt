use Rattle.std.proofs.lemmas.Nat.Gcd.{IsGcd-from_zero, IsGcd-from_mod}
use Rattle.ratio128.proofs.OddLemmas.{gcd-of-odd-part}
use Rattle.ratio128.proofs.euclid.gcd_of_odds.Goals as goal

pub returns-then-rest-eq0 : goal.returns-then-rest-eq0
returns-then-rest-eq0 c = c.loop-right.invariant.2 _ (IsGcd-from_mod _ _ _ (IsGcd-from_zero _ _ c.if-rest-eq0.true))

pub loop-right-preserved : goal.loop-right-preserved
loop-right-preserved c = (
  c.loop-right.invariant.1,
  c.odd_part-right.ensures.odd,
  λ g h. c.loop-right.invariant.2 g (IsGcd-from_mod _ _ g (gcd-of-odd-part _ _ _ _ g c.loop-right.invariant.1 c.odd_part-right.ensures.whole h)),
)

pub returns-then-rest-eq0-2 : goal.returns-then-rest-eq0-2
returns-then-rest-eq0-2 c = c.loop-right.invariant.2 _ (IsGcd-from_mod _ _ _ (IsGcd-from_zero _ _ c.if-rest-eq0-2.true))

pub returns : goal.returns
returns c =
    c.loop-right.invariant.2 _ (IsGcd-from_mod _ _ _ (gcd-of-odd-part _ _ _ _ _ c.loop-right.invariant.1 c.odd_word.ensures.whole c.gcd_of_odd_words.ensures))
