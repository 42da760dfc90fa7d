use Rattle.std.proofs.Common.{◌+◌, ◌<◌, length, FitsSigned, rules, arith, refl, ◌∙◌}
use Rattle.std.specs.Int.{w128}
use Rattle.std.proofs.lemmas.Int.{to_z-of_z}
use Rattle.nearest_float.specs.Binary.{binary32}
use Rattle.flat_arrays.proofs.PartLemmas.{rest-later}
use Rattle.row_arrays.proofs.FractionLemmas.{nearest-more, good-parts, abs-below}
use Rattle.row_arrays.proofs.round.put_floats.Goals as goal

pub fraction_at-fraction-requires : goal.fraction_at-fraction-requires
fraction_at-fraction-requires c =
    let good = good-parts c.args.fractions.now (length c.args.out.now) c.requires in record {
      inside = c.loop-place-test.true;
      shared = good.shared;
      enough = good.enough;
      denominators = good.denominators;
      numerators = good.numerators;
    }

pub put_binary32-requires : goal.put_binary32-requires
put_binary32-requires c =
    let good = good-parts c.args.fractions.now (length c.args.out.now) c.requires in
    let fraction = c.fraction_at-fraction in
    let fits : FitsSigned w128 fraction.result.num = search rules in record {
      fits = omega (arith, good.fits, c.loop-place-test.true, c.loop-place.invariant.len);
      positive = fraction.ensures.positive;
      den_fits = fraction.ensures.den_fits;
      num_fits = abs-below _ _ (to_z-of_z w128 fraction.result.num fits) fraction.ensures.num_fits;
    }

pub loop-place-preserved : goal.loop-place-preserved
loop-place-preserved c =
    let good = good-parts c.args.fractions.now (length c.args.out.now) c.requires in
    let fraction = c.fraction_at-fraction in
    let fits : FitsSigned w128 fraction.result.num = search rules in
    let inside : c.loop-place.place < length c.put_binary32.new.out = omega (arith, good.fits, c.loop-place-test.true, c.put_binary32.ensures.len, c.loop-place.invariant.len) in
    record {
      nearest = nearest-more binary32 c.args.fractions.now c.loop-place.place c.loop-place.out c.put_binary32.new.out _ fraction.result.den inside
          c.put_binary32.ensures.kept (to_z-of_z w128 fraction.result.num fits ∙ fraction.ensures.num) fraction.ensures.den
          c.put_binary32.ensures.nearest c.loop-place.invariant.nearest;
      rest = c.put_binary32.ensures.rest
          ∙ rest-later c.loop-place.place (c.loop-place.place + 1) c.loop-place.out c.args.out.now c.args.out.now (omega arith) c.loop-place.invariant.rest refl;
      len = c.put_binary32.ensures.len ∙ c.loop-place.invariant.len;
    }
