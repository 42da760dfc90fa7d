use Rattle.std.proofs.Common.{◌≡◌, ◌+◌, ◌<◌, length, take, if◌then◌else◌, arith, rules, ap, ◌∙◌}
use Rattle.std.specs.Int.{w128}
use Rattle.std.proofs.lemmas.Int.{to_z-of_z, fits_signed_from_abs}
use Rattle.row_arrays.specs.Floats.{bits_of, format_of}
use Rattle.row_arrays.proofs.RoundedLemmas.{grid-none, grid-more, grid-all, unrounded-first, at-most-one, byte-is}
use Rattle.row_arrays.proofs.grid.round_all.Goals as goal

pub loop-place-init : goal.loop-place-init
loop-place-init c = record { few = omega arith; put = grid-none (format_of c.args.numbers.now) c.args.grid_bits }

pub returns-in_err-number-clause-rounded : goal.returns-in_err-number-clause-rounded
returns-in_err-number-clause-rounded c =
    let inside : c.loop-place.place < length (bits_of c.args.numbers.now) = omega arith in
    let first = unrounded-first (format_of c.args.numbers.now) c.args.grid_bits (bits_of c.args.numbers.now) c.loop-place.place c.loop-place.changed
    (take c.loop-place.place c.loop-place.out) c.in_err-number.field-0.0 inside c.loop-place.invariant.put c.in_err-number.ensures in
    search (rules, first)

pub loop-place-preserved : goal.loop-place-preserved
loop-place-preserved c =
    let count : c.from-changed.result ≡ (if c.in_ok-number.number.changed then 1 else 0) = c.from-changed.ensures ∙ byte-is c.in_ok-number.number.changed in
    let most = at-most-one c.in_ok-number.number.changed in
    record {
      few = omega (arith, count, most, c.loop-place.invariant.few);
      put = grid-more (format_of c.args.numbers.now) c.args.grid_bits (bits_of c.args.numbers.now) c.loop-place.place c.loop-place.changed
          (c.loop-place.changed + c.from-changed.result) c.loop-place.out c.put_item.new.out c.of_integer.result c.in_ok-number.number (omega arith)
          c.put_item.ensures.written
          (c.of_integer.ensures ∙ to_z-of_z w128 c.in_ok-number.number.numerator
          (fits_signed_from_abs w128 c.in_ok-number.number.numerator c.in_ok-number.ensures.number.fits))
          c.in_ok-number.ensures (ap (λ n. c.loop-place.changed + n) count) c.loop-place.invariant.put;
    }

pub returns : goal.returns
returns c = record {
  rounded = grid-all (format_of c.args.numbers.now) c.args.grid_bits (bits_of c.args.numbers.now) c.loop-place.place c.loop-place.changed c.loop-place.out
      (omega arith) (omega arith) c.loop-place.invariant.put;
  len = omega arith;
}
