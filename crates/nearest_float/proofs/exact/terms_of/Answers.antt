use Rattle.std.proofs.Common.{arith, rules}
use Rattle.ratio128.proofs.OddLemmas.{odd-part, odd-part-whole}
use Rattle.nearest_float.proofs.TermLemmas.{terms-same, joined-power}
use Rattle.nearest_float.proofs.exact.terms_of.Goals as goal

pub terms_of_odd-requires-clause-odd : goal.terms_of_odd-requires-clause-odd
terms_of_odd-requires-clause-odd c = odd-part c.args.parts.significand (omega (arith, c.if-parts-eq0.false)) (search rules)

pub returns : goal.returns
returns c =
    terms-same _ _ _ c.terms_of_odd.result
    (joined-power _ _ c.args.parts.doublings c.args.parts.significand
    (odd-part-whole c.args.parts.significand (omega (arith, c.if-parts-eq0.false)) (search rules))) c.terms_of_odd.ensures
