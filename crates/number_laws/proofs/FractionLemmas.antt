-- Euclid's algorithm.
use Rattle.std.proofs.Common.{ℕ, zero, suc, ◌%◌, ◌<◌, arith}
use Rattle.std.specs.Int.{IsGcd}
use Rattle.std.proofs.lemmas.Nat.Gcd.{IsGcd-from_zero, IsGcd-from_mod}
use Rattle.subdiv_model.specs.Fractions.{gcd_within, gcd_of}

-- steps above the second number are enough
gcd_within-is : (steps a b : ℕ) → b < steps → IsGcd a b (gcd_within steps a b)
gcd_within-is zero a b h = absurd (omega arith)
gcd_within-is (suc steps) a zero h = IsGcd-from_zero a zero (omega arith)
gcd_within-is (suc steps) a (suc b) h = IsGcd-from_mod a (suc b) _ (gcd_within-is steps (suc b) (a % suc b) (omega arith))

pub gcd_of-is : (a b : ℕ) → IsGcd a b (gcd_of a b)
gcd_of-is a b = gcd_within-is (suc b) a b (omega arith)
