use Rattle.std.proofs.Common.{arith, map, refl}
use Rattle.std.proofs.lemmas.List.{length-map}
use Rattle.place_sums.proofs.SumLemmas.{place-le-sum}
use Rattle.place_sums.proofs.TouchedLemmas.{sum-there, touched-few, touched-step, sums-step}
use Rattle.place_sums.proofs.sums.add_product.Goals as goal

pub plus_product-requires : goal.plus_product-requires
plus_product-requires g c =
    let sums = map g.T.Natural.value c.args.sums.now in
    let there = sum-there g.T.Natural.value c.args.place c.index-sums-at.result c.args.sums.now sums refl (omega (arith, length-map c.args.sums.now g.T.Natural.value, c.requires.inside)) c.index-sums-at.is in
    omega (arith, there, place-le-sum c.args.place sums, c.requires.fits)

pub touch-requires : goal.touch-requires
touch-requires g c = touched-few c.args.touched.now c.args.count _ c.requires.touched

pub returns-clause-touched : goal.returns-clause-touched
returns-clause-touched g c =
    touched-step g.T.Natural.value c.args.place c.index-sums-at.result c.args.sums.now (map g.T.Natural.value c.args.sums.now) refl
    (omega (arith, length-map c.args.sums.now g.T.Natural.value, c.requires.inside)) c.index-sums-at.is
    _ c.plus_product.result c.plus_product.ensures c.wide.result c.args.touched.now c.touch.new.touched c.args.count c.touch.result
    c.requires.some c.wide.ensures c.touch.ensures.len c.touch.ensures.noted c.requires.touched

pub returns-clause-sums : goal.returns-clause-sums
returns-clause-sums g c =
    sums-step g.T.Natural.value c.args.place c.index-sums-at.result c.args.sums.now (map g.T.Natural.value c.args.sums.now) refl
    (omega (arith, length-map c.args.sums.now g.T.Natural.value, c.requires.inside)) c.index-sums-at.is
    _ c.plus_product.result c.plus_product.ensures
