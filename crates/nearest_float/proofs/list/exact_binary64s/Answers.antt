use Rattle.std.proofs.Common.{◌≡◌, rules, arith}
use Rattle.nearest_float.specs.Binary.{binary64}
use Rattle.nearest_float.proofs.ListLemmas.{exact-more, count-more, refused-there}
use Rattle.nearest_float.proofs.list.exact_binary64s.Goals as goal

pub returns-in-Err : goal.returns-in-Err
returns-in-Err c =
    let place : c.len-place.result ≡ c.loop-bits.bits-index = search (rules, c.loop-bits.invariant.count, c.len-place.ensures) in
    refused-there binary64 c.args.numbers.now c.loop-bits.bits-index c.len-place.result c.loop-bits.fractions.items c.in-Err.fault
    place c.loop-bits-test.true c.loop-bits.invariant.exact c.in-Err.ensures.pushed

pub loop-bits-preserved : goal.loop-bits-preserved
loop-bits-preserved c =
    let pushed = c.in-Ok.ensures.pushed in record {
      exact = exact-more binary64 c.args.numbers.now c.loop-bits.bits-index c.loop-bits.fractions.items c.push_exact.new.fractions.items c.loop-bits-test.true
          c.loop-bits.invariant.exact pushed;
      count = count-more binary64 c.loop-bits.bits-index _ c.loop-bits.fractions.items c.push_exact.new.fractions.items c.loop-bits.invariant.count pushed;
      capacity = omega (arith, c.loop-bits.invariant.capacity, c.push_exact.ensures.capacity);
    }
