use Rattle.std.proofs.Common.{ℕ, ◌<◌, get_or}
use Rattle.stencil_factory.specs.Powers.{IsWordPower}
use Rattle.stencil_factory.proofs.weights.are_word_powers.Given as goal

-- The denominators so far are powers of two of 64 bits.
abbrev pub invariant-loop-den : goal.invariant-loop-den
invariant-loop-den l = (k : ℕ) → k < l.den-index → IsWordPower (get_or l.dens k 0)
