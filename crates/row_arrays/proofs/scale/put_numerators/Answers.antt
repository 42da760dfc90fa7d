use Rattle.std.proofs.Common.{◌∙◌, arith}
use Rattle.std.specs.Int.{w128}
use Rattle.std.proofs.lemmas.Int.{to_z-of_z, fits_signed_from_abs}
use Rattle.row_arrays.specs.Floats.{bits_of, format_of}
use Rattle.row_arrays.proofs.NumeratorLemmas.{put-none, put-more, put-all}
use Rattle.row_arrays.proofs.scale.put_numerators.Goals as goal

pub loop-place-init : goal.loop-place-init
loop-place-init c = put-none (format_of c.args.numbers.now) c.args.scale

pub loop-place-preserved : goal.loop-place-preserved
loop-place-preserved c =
    put-more (format_of c.args.numbers.now) c.args.scale (bits_of c.args.numbers.now) c.loop-place.place c.loop-place.out c.put_item.new.out c.of_integer.result
    c.in-Some.numerator (omega arith) c.put_item.ensures.written
    (c.of_integer.ensures ∙ to_z-of_z w128 c.in-Some.numerator (fits_signed_from_abs w128 c.in-Some.numerator c.in-Some.ensures.fits)) c.in-Some.ensures
    c.loop-place.invariant

pub returns : goal.returns
returns c = record {
  put = put-all (format_of c.args.numbers.now) c.args.scale (bits_of c.args.numbers.now) c.loop-place.place c.loop-place.out (omega arith) (omega arith)
      c.loop-place.invariant;
  len = omega arith;
}
