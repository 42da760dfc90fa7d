use Rattle.std.proofs.Common.{ℕ, ◌≡◌, ◌%◌}
use Rattle.std.specs.Int.{IsGcd}
use Rattle.ratio128.proofs.euclid.gcd_of_odds.Given as goal

abbrev pub invariant-loop-right : goal.invariant-loop-right
invariant-loop-right l = (l.left % 2 ≡ 1) × (l.right % 2 ≡ 1) × ((g : ℕ) → IsGcd l.left l.right g → IsGcd l.fn.a l.fn.b g)

abbrev pub decreases-loop-right : goal.decreases-loop-right
decreases-loop-right l = l.right
