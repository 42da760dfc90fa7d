-- Fractions of equal value, whatever their terms.
use Rattle.std.specs.Prelude.{◌≡◌, ℕ, ◌*◌}

-- the two fractions have the same value: they cross-multiply
abbrev pub IsSameFraction : ℕ × ℕ → ℕ × ℕ → Type 0
IsSameFraction x y = x.0 * y.1 ≡ y.0 * x.1
