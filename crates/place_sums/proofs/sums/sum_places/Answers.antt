use Rattle.std.proofs.Common.{ℕ, ◌+◌, arith, length, map, drop, get_or, refl, ap, sym, ◌∙◌}
use Rattle.std.proofs.lemmas.List.{drop_all, length-map, length-set}
use Rattle.ratio128.proofs.AmountLemmas.{IsWithin-zeros, length-zeros}
use Rattle.stencil_apply.specs.Table.{sum_of_shares}
use Rattle.stencil_apply.specs.Means.{word_bound}
use Rattle.stencil_apply.proofs.SumLemmas.{in_controls, weight-some, weight-short, can_add-narrow, length-more, within-more, sums-more, sums-all}
use Rattle.place_sums.specs.Touched.{moved, cleared}
use Rattle.place_sums.proofs.OrderLemmas.{numbers_read, length-read, shares-read, can-read, number-read, rest-read, cleared-read}
use Rattle.place_sums.proofs.sums.sum_places.Goals as goal

pub loop-at-init : goal.loop-at-init
loop-at-init g c = record {
  sum = c.cleared-sum.ensures;
  same_length = rw c.cleared-sum.ensures (length-zeros _);
  within = rw c.cleared-sum.ensures (IsWithin-zeros _ _);
  rest = refl;
  cleared = refl;
  long = refl;
  taken = omega arith;
}

pub offset_bounds-controls-places : goal.offset_bounds-controls-places
offset_bounds-controls-places g c =
    let inside = in_controls (λ (n : ℕ). n) g.P.Primvar.numbers word_bound c.args.controls.now c.args.places.now (numbers_read c.args.places.now (map g.T.Natural.value c.args.sums.now.items)) (length-read _ _)
    (can-read _ _ _ _ c.requires.fits) c.loop-at.at c.loop-at-test.true in omega (arith, inside)

pub bounds-controls-places : goal.bounds-controls-places
bounds-controls-places g c =
    in_controls (λ (n : ℕ). n) g.P.Primvar.numbers word_bound c.args.controls.now c.args.places.now (numbers_read c.args.places.now (map g.T.Natural.value c.args.sums.now.items)) (length-read _ _)
    (can-read _ _ _ _ c.requires.fits) c.loop-at.at c.loop-at-test.true

pub take_sum-number-requires : goal.take_sum-number-requires
take_sum-number-requires g c = omega (arith, c.requires.inside c.loop-at.at 0 c.loop-at-test.true, c.loop-at.invariant.long)

pub overflow_cast-wide : goal.overflow_cast-wide
overflow_cast-wide g c =
    let short = weight-short (λ (n : ℕ). n) g.P.Primvar.numbers word_bound c.args.controls.now c.args.places.now (numbers_read c.args.places.now (map g.T.Natural.value c.args.sums.now.items)) (length-read _ _)
    (can-read _ _ _ _ c.requires.fits) c.loop-at.at c.loop-at-test.true
    _ (number-read c.args.places.now (map g.T.Natural.value c.args.sums.now.items) (map g.T.Natural.value c.loop-at.sums.items) c.loop-at.at c.loop-at-test.true c.loop-at.invariant.rest _ c.take_sum-number.ensures.sum) _ c.wide.ensures in record { fits = omega (arith, short) }

pub add_narrow-requires-clause-some : goal.add_narrow-requires-clause-some
add_narrow-requires-clause-some g c =
    weight-some (λ (n : ℕ). n) g.P.Primvar.numbers word_bound c.args.controls.now c.args.places.now (numbers_read c.args.places.now (map g.T.Natural.value c.args.sums.now.items)) (length-read _ _)
    (can-read _ _ _ _ c.requires.fits) c.loop-at.at c.loop-at-test.true
    _ (number-read c.args.places.now (map g.T.Natural.value c.args.sums.now.items) (map g.T.Natural.value c.loop-at.sums.items) c.loop-at.at c.loop-at-test.true c.loop-at.invariant.rest _ c.take_sum-number.ensures.sum) _ c.wide.ensures

pub add_narrow-requires-clause-short : goal.add_narrow-requires-clause-short
add_narrow-requires-clause-short g c =
    let short = weight-short (λ (n : ℕ). n) g.P.Primvar.numbers word_bound c.args.controls.now c.args.places.now (numbers_read c.args.places.now (map g.T.Natural.value c.args.sums.now.items)) (length-read _ _)
    (can-read _ _ _ _ c.requires.fits) c.loop-at.at c.loop-at-test.true
    _ (number-read c.args.places.now (map g.T.Natural.value c.args.sums.now.items) (map g.T.Natural.value c.loop-at.sums.items) c.loop-at.at c.loop-at-test.true c.loop-at.invariant.rest _ c.take_sum-number.ensures.sum) _ c.wide.ensures in omega (arith, short)

pub add_narrow-requires-clause-fits : goal.add_narrow-requires-clause-fits
add_narrow-requires-clause-fits g c =
    can_add-narrow (λ (n : ℕ). n) g.P.Primvar.numbers word_bound c.args.controls.now c.args.places.now (numbers_read c.args.places.now (map g.T.Natural.value c.args.sums.now.items)) (length-read _ _)
    (can-read _ _ _ _ c.requires.fits) c.loop-at.at c.loop-at-test.true
    _ (number-read c.args.places.now (map g.T.Natural.value c.args.sums.now.items) (map g.T.Natural.value c.loop-at.sums.items) c.loop-at.at c.loop-at-test.true c.loop-at.invariant.rest _ c.take_sum-number.ensures.sum) _ c.wide.ensures
    _ c.index-controls-places.is _ (omega arith) c.loop-at.invariant.within

pub add_narrow-requires-clause-same_length : goal.add_narrow-requires-clause-same_length
add_narrow-requires-clause-same_length g c =
    let inside = in_controls (λ (n : ℕ). n) g.P.Primvar.numbers word_bound c.args.controls.now c.args.places.now (numbers_read c.args.places.now (map g.T.Natural.value c.args.sums.now.items)) (length-read _ _)
    (can-read _ _ _ _ c.requires.fits) c.loop-at.at c.loop-at-test.true in
    c.loop-at.invariant.same_length
    ∙ sym (ap (λ p. length (g.P.Primvar.numbers p)) c.index-controls-places.is ∙ c.requires.same_length _ c.index-controls-places.result inside)

pub loop-at-preserved : goal.loop-at-preserved
loop-at-preserved g c =
    let before = map g.T.Natural.value c.args.sums.now.items in
    let sums = map g.T.Natural.value c.loop-at.sums.items in
    let place = get_or c.args.places.now c.loop-at.at 0 in
    record {
      sum = sums-more (λ (n : ℕ). n) g.P.Primvar.numbers word_bound c.args.controls.now c.args.places.now (numbers_read c.args.places.now (map g.T.Natural.value c.args.sums.now.items)) (length-read _ _)
          (can-read _ _ _ _ c.requires.fits) c.loop-at.at c.loop-at-test.true
          _ (number-read c.args.places.now (map g.T.Natural.value c.args.sums.now.items) (map g.T.Natural.value c.loop-at.sums.items) c.loop-at.at c.loop-at-test.true c.loop-at.invariant.rest _ c.take_sum-number.ensures.sum) _ c.wide.ensures
          _ c.index-controls-places.is _ _ c.add_narrow.ensures.added _ c.loop-at.invariant.sum;
      same_length = length-more (λ (n : ℕ). n) g.P.Primvar.numbers word_bound c.args.controls.now c.args.places.now (numbers_read c.args.places.now (map g.T.Natural.value c.args.sums.now.items)) (length-read _ _)
          (can-read _ _ _ _ c.requires.fits) c.loop-at.at c.loop-at-test.true
          _ (number-read c.args.places.now (map g.T.Natural.value c.args.sums.now.items) (map g.T.Natural.value c.loop-at.sums.items) c.loop-at.at c.loop-at-test.true c.loop-at.invariant.rest _ c.take_sum-number.ensures.sum) _ c.wide.ensures
          _ c.index-controls-places.is _ _ c.add_narrow.ensures.added ∙ c.loop-at.invariant.same_length;
      within = within-more (λ (n : ℕ). n) g.P.Primvar.numbers word_bound c.args.controls.now c.args.places.now (numbers_read c.args.places.now (map g.T.Natural.value c.args.sums.now.items)) (length-read _ _)
          (can-read _ _ _ _ c.requires.fits) c.loop-at.at c.loop-at-test.true
          _ (number-read c.args.places.now (map g.T.Natural.value c.args.sums.now.items) (map g.T.Natural.value c.loop-at.sums.items) c.loop-at.at c.loop-at-test.true c.loop-at.invariant.rest _ c.take_sum-number.ensures.sum) _ c.wide.ensures
          _ c.index-controls-places.is _ _ c.add_narrow.ensures.added c.loop-at.invariant.within;
      rest = ap (moved (drop (c.loop-at.at + 1) c.args.places.now)) c.take_sum-number.ensures.sums ∙ rest-read c.args.places.now before sums c.loop-at.at c.loop-at-test.true c.loop-at.invariant.rest;
      cleared = ap (cleared (drop (c.loop-at.at + 1) c.args.places.now)) c.take_sum-number.ensures.sums ∙ cleared-read c.args.places.now before sums c.loop-at.at c.loop-at-test.true c.loop-at.invariant.rest ∙ c.loop-at.invariant.cleared;
      long = sym (length-map c.take_sum-number.new.sums.items g.T.Natural.value) ∙ ap length c.take_sum-number.ensures.sums ∙ length-set sums place 0 ∙ length-map c.loop-at.sums.items g.T.Natural.value ∙ c.loop-at.invariant.long;
      taken = omega (arith, c.add_narrow.ensures.step);
    }

pub returns-clause-sum : goal.returns-clause-sum
returns-clause-sum g c =
    sums-all _ _ c.args.places.now _ c.loop-at.at c.loop-at-test.false _ c.loop-at.invariant.sum
    ∙ ap (sum_of_shares _ _) (shares-read c.args.places.now (map g.T.Natural.value c.args.sums.now.items))

pub returns-clause-sums : goal.returns-clause-sums
returns-clause-sums g c =
    sym (ap (λ ps. cleared ps (map g.T.Natural.value c.loop-at.sums.items)) (drop_all c.loop-at.at c.args.places.now c.loop-at-test.false)) ∙ c.loop-at.invariant.cleared
