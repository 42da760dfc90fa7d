use Rattle.std.proofs.Common.{arith, length, ap, sym, ◌∙◌}
use Rattle.ratio128.proofs.AmountLemmas.{IsWithin-zeros, length-zeros}
use Rattle.stencil_apply.proofs.SumLemmas.{in_controls, weight-some, weight-short, can_add-narrow, length-more, within-more, sums-more, sums-all}
use Rattle.stencil_apply.proofs.apply.sum_narrow.Goals as goal

pub loop-at-init : goal.loop-at-init
loop-at-init g c = record {
  sums = c.cleared-sum.ensures;
  same_length = rw c.cleared-sum.ensures (length-zeros _);
  within = rw c.cleared-sum.ensures (IsWithin-zeros _ _);
  taken = omega arith;
}

pub offset_bounds-controls-indices : goal.offset_bounds-controls-indices
offset_bounds-controls-indices g c =
    let inside = in_controls g.T.Natural.value g.P.Primvar.numbers _ c.args.controls.now _ _ c.requires.equal c.requires.fits c.loop-at.at c.loop-at-test.true in omega (arith, inside)

pub bounds-controls-indices : goal.bounds-controls-indices
bounds-controls-indices g c =
    in_controls g.T.Natural.value g.P.Primvar.numbers _ c.args.controls.now _ _ c.requires.equal c.requires.fits c.loop-at.at c.loop-at-test.true

pub overflow_cast-wide : goal.overflow_cast-wide
overflow_cast-wide g c =
    let short = weight-short g.T.Natural.value g.P.Primvar.numbers _ c.args.controls.now _ _ c.requires.equal c.requires.fits c.loop-at.at c.loop-at-test.true
    _ c.index-numerators-at.is _ c.wide.ensures in record { fits = omega (arith, short) }

pub add_narrow-requires-clause-some : goal.add_narrow-requires-clause-some
add_narrow-requires-clause-some g c =
    weight-some g.T.Natural.value g.P.Primvar.numbers _ c.args.controls.now _ _ c.requires.equal c.requires.fits c.loop-at.at c.loop-at-test.true
    _ c.index-numerators-at.is _ c.wide.ensures

pub add_narrow-requires-clause-short : goal.add_narrow-requires-clause-short
add_narrow-requires-clause-short g c =
    let short = weight-short g.T.Natural.value g.P.Primvar.numbers _ c.args.controls.now _ _ c.requires.equal c.requires.fits c.loop-at.at c.loop-at-test.true
    _ c.index-numerators-at.is _ c.wide.ensures in omega (arith, short)

pub add_narrow-requires-clause-fits : goal.add_narrow-requires-clause-fits
add_narrow-requires-clause-fits g c =
    can_add-narrow g.T.Natural.value g.P.Primvar.numbers _ c.args.controls.now _ _ c.requires.equal c.requires.fits c.loop-at.at c.loop-at-test.true
    _ c.index-numerators-at.is _ c.wide.ensures
    _ c.index-controls-indices.is _ (omega arith) c.loop-at.invariant.within

pub add_narrow-requires-clause-same_length : goal.add_narrow-requires-clause-same_length
add_narrow-requires-clause-same_length g c =
    let inside = in_controls g.T.Natural.value g.P.Primvar.numbers _ c.args.controls.now _ _ c.requires.equal c.requires.fits c.loop-at.at c.loop-at-test.true in
    c.loop-at.invariant.same_length
    ∙ sym (ap (λ p. length (g.P.Primvar.numbers p)) c.index-controls-indices.is ∙ c.requires.same_length _ c.index-controls-indices.result inside)

pub loop-at-preserved : goal.loop-at-preserved
loop-at-preserved g c =
    record {
      sums = sums-more g.T.Natural.value g.P.Primvar.numbers _ c.args.controls.now _ _ c.requires.equal c.requires.fits c.loop-at.at c.loop-at-test.true
          _ c.index-numerators-at.is _ c.wide.ensures
          _ c.index-controls-indices.is _ _ c.add_narrow.ensures.added _ c.loop-at.invariant.sums;
      same_length = length-more g.T.Natural.value g.P.Primvar.numbers _ c.args.controls.now _ _ c.requires.equal c.requires.fits c.loop-at.at c.loop-at-test.true
          _ c.index-numerators-at.is _ c.wide.ensures
          _ c.index-controls-indices.is _ _ c.add_narrow.ensures.added ∙ c.loop-at.invariant.same_length;
      within = within-more g.T.Natural.value g.P.Primvar.numbers _ c.args.controls.now _ _ c.requires.equal c.requires.fits c.loop-at.at c.loop-at-test.true
          _ c.index-numerators-at.is _ c.wide.ensures
          _ c.index-controls-indices.is _ _ c.add_narrow.ensures.added c.loop-at.invariant.within;
      taken = omega (arith, c.add_narrow.ensures.step);
    }

pub returns-clause-sum : goal.returns-clause-sum
returns-clause-sum g c = sums-all _ _ c.args.indices.now _ c.loop-at.at c.loop-at-test.false _ c.loop-at.invariant.sums
