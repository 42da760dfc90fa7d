use Rattle.std.proofs.Common.{◌≡◌, ℕ, ◌*◌, ◌/◌, ◌%◌, ◌^◌, ◌-◌, ◌<◌, ◌≤◌, not, nat_eq, ap, ap₂, ◌∙◌, arith}
use Rattle.nearest_float.specs.Scaled.{rounded_half_even}
use Rattle.nearest_float.proofs.PartLemmas.{fraction-is, fraction-below}
use Rattle.row_arrays.proofs.ShiftLemmas.{whole-again, one-up}
use Rattle.row_arrays.proofs.RoundLemmas.{none-nearest, none-changed, half-even-nearest, half-even-changed}
use Rattle.row_arrays.proofs.amount.shifted_down.Goals as goal

-- the whole quotient, the rest and the divisor
value : (s p n : ℕ) → s < 2 ^ 64 → p ≤ 63 → n ≡ rounded_half_even (s / 2 ^ p) (s - s / 2 ^ p * 2 ^ p % 2 ^ 64) (1 * 2 ^ p % 2 ^ 64) →
    n ≡ rounded_half_even (s / 2 ^ p) (s % 2 ^ p) (2 ^ p)
value s p n fits few is = is ∙ ap₂ (λ r b. rounded_half_even (s / 2 ^ p) r b) (fraction-is s p fits) (one-up p few)

pub returns-then-shift-gt63 : goal.returns-then-shift-gt63
returns-then-shift-gt63 c = record {
  nearest = none-nearest c.args.significand c.args.shift c.requires.small c.if-shift-gt63.true;
  fits = omega arith;
  changed = none-changed c.args.significand c.args.shift;
}

pub returns : goal.returns
returns c =
    let is = value c.args.significand c.args.shift c.half_even.result c.ranges.significand.fits c.if-shift-gt63.false c.half_even.ensures.value in record {
      nearest = half-even-nearest (c.args.significand / 2 ^ c.args.shift) (c.args.significand % 2 ^ c.args.shift) (2 ^ c.args.shift) c.args.significand
          c.half_even.result (whole-again c.args.significand c.args.shift) (fraction-below c.args.significand c.args.shift) is;
      fits = omega (arith, c.half_even.ensures.few);
      changed = ap (λ r. not (nat_eq r 0)) (fraction-is c.args.significand c.args.shift c.ranges.significand.fits)
          ∙ half-even-changed (c.args.significand / 2 ^ c.args.shift) (c.args.significand % 2 ^ c.args.shift) (2 ^ c.args.shift) c.args.significand
          c.half_even.result (whole-again c.args.significand c.args.shift) (fraction-below c.args.significand c.args.shift) is;
    }
