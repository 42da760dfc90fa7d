use Rattle.std.proofs.Common.{◌<◌, length, arith, rules}
use Rattle.row_arrays.specs.Floats.{bits_of, format_of}
use Rattle.row_arrays.proofs.LeastLemmas.{least-none, least-more, least-all, refused-first}
use Rattle.row_arrays.proofs.scale.least_scale.Goals as goal

pub loop-place-init : goal.loop-place-init
loop-place-init c = least-none (format_of c.args.numbers.now)

pub returns-in_err-scale : goal.returns-in_err-scale
returns-in_err-scale c =
    let inside : c.loop-place.place < length (bits_of c.args.numbers.now) = omega arith in
    let first = refused-first (format_of c.args.numbers.now) (bits_of c.args.numbers.now) c.loop-place.place c.loop-place.scale c.in_err-scale.field-0.0 inside
    c.loop-place.invariant c.in_err-scale.ensures in
    search (rules, first)

pub loop-place-preserved : goal.loop-place-preserved
loop-place-preserved c =
    least-more (format_of c.args.numbers.now) (bits_of c.args.numbers.now) c.loop-place.place c.loop-place.scale c.in_ok-scale.scale (omega arith)
    c.loop-place.invariant c.in_ok-scale.ensures

pub returns : goal.returns
returns c = least-all (format_of c.args.numbers.now) (bits_of c.args.numbers.now) c.loop-place.place c.loop-place.scale (omega arith) c.loop-place.invariant
