use Rattle.std.proofs.Common.{◌≡◌, ◌*◌, ◌∙◌, arith, length, map, get_or, ap, sym}
use Rattle.std.specs.List.{zip}
use Rattle.std.proofs.lemmas.List.{length-map, with_items_is}
use Rattle.place_sums.specs.Sums.{added_at, added_shares, sum_of}
use Rattle.place_sums.proofs.SumLemmas.{length-added_at}
use Rattle.place_sums.proofs.EntryLemmas.{number-there, left-sums, left-fits, next-fits, numerator-fits, left-none}
use Rattle.place_sums.proofs.sums.PlaceSums.add_shares.Goals as goal

pub loop-i-init : goal.loop-i-init
loop-i-init g c =
    let lent : map g.T.Natural.value c.deref_mut-sums.result.now ≡ c.args.self.now = ap (map g.T.Natural.value) c.deref_mut-sums.ensures.value ∙ c.self.view_is in
    record {
      touched = rw c.deref_mut-touched.ensures.value (rw c.deref_mut-sums.ensures.value c.self.invariant);
      sums = ap (added_shares (g.T.Natural.value c.args.factor) (zip c.args.indices.now (map g.S.Natural.value c.args.numerators.now))) lent;
      long = sym (length-map c.deref_mut-sums.result.now g.T.Natural.value) ∙ ap length lent;
      fits = omega (arith, c.requires.fits, ap sum_of lent);
    }

pub of-other-requires : goal.of-other-requires
of-other-requires g c =
    let value = g.S.Natural.value in
    let read = number-there value c.args.numerators.now c.loop-i.i c.index-numerators-i.result (omega (arith, c.requires.equal)) c.index-numerators-i.is in
    let fits = numerator-fits (g.T.Natural.value c.args.factor) g.T.Natural.most c.args.indices.now (map value c.args.numerators.now) (length-map c.args.numerators.now value ∙ c.requires.equal)
    c.loop-i.i (map g.T.Natural.value c.loop-i.sums) c.requires.factor c.loop-i-test.true c.loop-i.invariant.fits in
    omega (arith, c.wide.ensures, read, fits)

pub add_product-count-requires-clause-touched : goal.add_product-count-requires-clause-touched
add_product-count-requires-clause-touched g c = c.loop-i.invariant.touched

pub add_product-count-requires-clause-fits : goal.add_product-count-requires-clause-fits
add_product-count-requires-clause-fits g c =
    let value = g.S.Natural.value in
    let there = number-there value c.args.numerators.now c.loop-i.i c.index-numerators-i.result (omega (arith, c.requires.equal)) c.index-numerators-i.is in
    let read : g.T.Natural.value c.of-other.result ≡ get_or (map value c.args.numerators.now) c.loop-i.i 0 = cc (c.of-other.ensures, c.wide.ensures, there) in
    rw read
    (next-fits (g.T.Natural.value c.args.factor) g.T.Natural.most c.args.indices.now (map value c.args.numerators.now) (length-map c.args.numerators.now value ∙ c.requires.equal)
    c.loop-i.i (map g.T.Natural.value c.loop-i.sums) c.loop-i-test.true c.loop-i.invariant.fits)

pub loop-i-preserved : goal.loop-i-preserved
loop-i-preserved g c =
    let value = g.S.Natural.value in
    let factor = g.T.Natural.value c.args.factor in
    let sums = map g.T.Natural.value c.loop-i.sums in
    let after = map g.T.Natural.value c.add_product-count.new.sums in
    let inside = c.requires.inside c.loop-i.i 0 c.loop-i-test.true in
    let before = c.loop-i.invariant in
    let equal = length-map c.args.numerators.now value ∙ c.requires.equal in
    let there = number-there value c.args.numerators.now c.loop-i.i c.index-numerators-i.result (omega (arith, c.requires.equal)) c.index-numerators-i.is in
    let read : g.T.Natural.value c.of-other.result ≡ get_or (map value c.args.numerators.now) c.loop-i.i 0 = cc (c.of-other.ensures, c.wide.ensures, there) in
    let added : after ≡ added_at (get_or c.args.indices.now c.loop-i.i 0) (factor * get_or (map value c.args.numerators.now) c.loop-i.i 0) sums =
    c.add_product-count.ensures.sums ∙ ap (λ n. added_at (get_or c.args.indices.now c.loop-i.i 0) (factor * n) sums) read in
    let long : length sums ≡ length c.args.self.now = length-map c.loop-i.sums g.T.Natural.value ∙ before.long in
    record {
      touched = c.add_product-count.ensures.touched;
      sums = left-sums factor g.T.Natural.most c.args.indices.now (map value c.args.numerators.now) equal c.loop-i.i sums after
          (added_shares factor (zip c.args.indices.now (map value c.args.numerators.now)) c.args.self.now) c.loop-i-test.true added before.sums;
      long = sym (length-map c.add_product-count.new.sums g.T.Natural.value) ∙ ap length added ∙ length-added_at _ _ sums ∙ long;
      fits = left-fits factor g.T.Natural.most c.args.indices.now (map value c.args.numerators.now) equal c.loop-i.i sums after c.loop-i-test.true
          (omega (arith, inside, long)) added before.fits;
    }

pub invariant_of-self : goal.invariant_of-self
invariant_of-self g c =
    let value = g.T.Natural.value in
    let before = c.loop-i.invariant in
    let view = ap length c.self.view_is in
    let sums = with_items_is c.self.inside.sums c.loop-i.sums (omega (arith, before.long, view, length-map c.self.inside.sums.items value)) in
    let touched = with_items_is c.self.inside.touched c.loop-i.touched
    (omega (arith, before.long, view, before.touched.long, c.self.invariant.long, length-map c.loop-i.sums value)) in
    rw sums (rw touched before.touched)

pub returns : goal.returns
returns g c =
    let value = g.T.Natural.value in
    let before = c.loop-i.invariant in
    let sums = with_items_is c.self.inside.sums c.loop-i.sums (omega (arith, before.long, ap length c.self.view_is, length-map c.self.inside.sums.items value)) in
    ap (map value) sums
    ∙ left-none (value c.args.factor) g.T.Natural.most c.args.indices.now (map g.S.Natural.value c.args.numerators.now) (length-map c.args.numerators.now g.S.Natural.value ∙ c.requires.equal)
    c.loop-i.i (map value c.loop-i.sums) _ (omega arith) before.sums
