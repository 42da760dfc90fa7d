use Rattle.std.proofs.Common.{ℕ, ◌-◌, ap₂, ◌∙◌, subst, arith}
use Rattle.std.specs.Int.{IsGcd}
use Rattle.ratio128.proofs.OddLemmas.{gcd-of-difference, gcd-of-same}
use Rattle.ratio128.proofs.euclid.gcd_of_odd_words.Goals as goal

pub loop-x-preserved : goal.loop-x-preserved
loop-x-preserved c = (
  omega (arith, c.min-x.ensures, c.loop-x.invariant.0, c.loop-x.invariant.1),
  c.odd_word-y.ensures.odd,
  λ g h. c.loop-x.invariant.2 g (gcd-of-difference c.loop-x.x c.loop-x.y c.odd_word-y.result _ g c.loop-x.invariant.0 c.loop-x.invariant.1
      (c.odd_word-y.ensures.whole ∙ ap₂ (λ m n. m - n) c.max.ensures c.min.ensures) (subst (λ (m : ℕ). IsGcd m c.odd_word-y.result g) c.min-x.ensures h)),
)

pub returns : goal.returns
returns c = c.loop-x.invariant.2 c.loop-x.x (gcd-of-same c.loop-x.x c.loop-x.y c.loop-x-test.false)
