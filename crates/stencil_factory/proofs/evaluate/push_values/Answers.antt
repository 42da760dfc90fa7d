use Rattle.std.proofs.Common.{◌<◌, ◌+◌, ◌≤◌, ℤ, ℕ, List, [], ◌∷◌, arith, refl, ap, sym, ◌∙◌, subst, length, map, replicate, take}
use Rattle.std.proofs.lemmas.List.{length-map, map-append}
use Rattle.child_masks.specs.Found.{ArePointDenominators}
use Rattle.place_sums.specs.Sums.{shares_from}
use Rattle.stencil_factory.proofs.SurveyLemmas.{point-dens}
use Rattle.stencil_factory.proofs.MaskValueLemmas.{AreRowValues, none-yet, own-short, can-sum, some-of, all-alike, first-sum, too-many, entries-with, steps-less, next-value, values-below, all-entries, all-values}
use Rattle.stencil_factory.proofs.evaluate.push_values.Goals as goal

pub loop-row-init : goal.loop-row-init
loop-row-init g c =
    let level = g.M.PointMasks.level c.args.masks.now in
    let masks = g.M.PointMasks.masks c.args.masks.now in
    let controls = map g.P.Primvar.numbers c.args.controls.now in
    record {
      clear = c.requires.clear;
      values = none-yet level masks c.args.table.now c.facts.ensures controls c.requires.can _ (ap (map (λ v. (g.P.Primvar.numbers v.value, v.den))) c.requires.none);
      fits = c.requires.fits;
      entries = refl;
      few = omega arith;
      taken = omega arith;
    }

pub sum_mask-requires-clause-known : goal.sum_mask-requires-clause-known
sum_mask-requires-clause-known g c = omega (arith, c.loop-row-test.true, c.count-row-end.ensures.count)

pub sum_mask-requires-clause-short : goal.sum_mask-requires-clause-short
sum_mask-requires-clause-short g c =
    let level = g.M.PointMasks.level c.args.masks.now in
    let masks = g.M.PointMasks.masks c.args.masks.now in
    let controls = map g.P.Primvar.numbers c.args.controls.now in
    let inside : c.loop-row.row < length masks = omega (arith, c.loop-row-test.true, c.count-row-end.ensures.count) in
    own-short level masks c.args.table.now c.facts.ensures controls c.requires.can c.loop-row.row inside

pub returns-in_err-den-clause-steps : goal.returns-in_err-den-clause-steps
returns-in_err-den-clause-steps g c =
    let level = g.M.PointMasks.level c.args.masks.now in
    let masks = g.M.PointMasks.masks c.args.masks.now in
    let controls = map g.P.Primvar.numbers c.args.controls.now in
    steps-less level masks c.args.table.now c.facts.ensures controls c.requires.can c.loop-row.row c.loop-row.entries _ _ c.loop-row.invariant.entries c.loop-row.invariant.taken

pub returns-then-row_entries-entries-clause-values : goal.returns-then-row_entries-entries-clause-values
returns-then-row_entries-entries-clause-values g c =
    let level = g.M.PointMasks.level c.args.masks.now in
    let masks = g.M.PointMasks.masks c.args.masks.now in
    let controls = map g.P.Primvar.numbers c.args.controls.now in
    let inside : c.loop-row.row < length masks = omega (arith, c.loop-row-test.true, c.count-row-end.ensures.count) in
    too-many level masks c.args.table.now c.facts.ensures controls c.requires.can c.loop-row.row inside c.in_ok-den.den c.sum_mask.new.buffers.sums c.in_ok-den.ensures.row
    c.loop-row.entries c.loop-row.invariant.entries (omega (arith, c.if-row_entries-entries.true, c.loop-row.invariant.few, c.count-row_entries.ensures))

pub returns-then-row_entries-entries-clause-steps : goal.returns-then-row_entries-entries-clause-steps
returns-then-row_entries-entries-clause-steps g c =
    let level = g.M.PointMasks.level c.args.masks.now in
    let masks = g.M.PointMasks.masks c.args.masks.now in
    let controls = map g.P.Primvar.numbers c.args.controls.now in
    steps-less level masks c.args.table.now c.facts.ensures controls c.requires.can c.loop-row.row c.loop-row.entries _ _ c.loop-row.invariant.entries c.loop-row.invariant.taken

pub bounds-controls-0 : goal.bounds-controls-0
bounds-controls-0 g c =
    let level = g.M.PointMasks.level c.args.masks.now in
    let masks = g.M.PointMasks.masks c.args.masks.now in
    let controls = map g.P.Primvar.numbers c.args.controls.now in
    let inside : c.loop-row.row < length masks = omega (arith, c.loop-row-test.true, c.count-row-end.ensures.count) in
    some-of level masks c.args.table.now c.facts.ensures controls c.requires.can c.loop-row.row inside c.in_ok-den.den c.sum_mask.new.buffers.sums c.in_ok-den.ensures.row
    g.P.Primvar.numbers c.args.controls.now refl

pub take_sum-value-requires-clause-fits : goal.take_sum-value-requires-clause-fits
take_sum-value-requires-clause-fits g c =
    let level = g.M.PointMasks.level c.args.masks.now in
    let masks = g.M.PointMasks.masks c.args.masks.now in
    let controls = map g.P.Primvar.numbers c.args.controls.now in
    let inside : c.loop-row.row < length masks = omega (arith, c.loop-row-test.true, c.count-row-end.ensures.count) in
    can-sum level masks c.args.table.now c.facts.ensures controls c.requires.can c.loop-row.row inside c.in_ok-den.den c.sum_mask.new.buffers.sums c.in_ok-den.ensures.row

pub take_sum-value-requires-clause-same_length : goal.take_sum-value-requires-clause-same_length
take_sum-value-requires-clause-same_length g c =
    let level = g.M.PointMasks.level c.args.masks.now in
    let masks = g.M.PointMasks.masks c.args.masks.now in
    let controls = map g.P.Primvar.numbers c.args.controls.now in
    let inside : c.loop-row.row < length masks = omega (arith, c.loop-row-test.true, c.count-row-end.ensures.count) in
    let some = some-of level masks c.args.table.now c.facts.ensures controls c.requires.can c.loop-row.row inside c.in_ok-den.den c.sum_mask.new.buffers.sums c.in_ok-den.ensures.row g.P.Primvar.numbers c.args.controls.now refl in
    all-alike g.P.Primvar.numbers c.args.controls.now some c.index-controls-0.result c.index-controls-0.is c.requires.can.alike

pub push_reserved-requires : goal.push_reserved-requires
push_reserved-requires g c =
    let level = g.M.PointMasks.level c.args.masks.now in
    let masks = g.M.PointMasks.masks c.args.masks.now in
    let controls = map g.P.Primvar.numbers c.args.controls.now in
    let inside : c.loop-row.row < length masks = omega (arith, c.loop-row-test.true, c.count-row-end.ensures.count) in
    let below = values-below level masks c.args.table.now c.facts.ensures controls c.requires.can c.loop-row.row inside c.in_ok-den.den c.sum_mask.new.buffers.sums c.in_ok-den.ensures.row
    _ c.loop-row.invariant.values c.loop-row.entries _ c.loop-row.invariant.entries (omega (arith, c.if-row_entries-entries.false, c.loop-row.invariant.few, c.count-row_entries.ensures)) c.loop-row.invariant.fits in
    omega (arith, below, length-map {B = List ℤ × ℕ} c.loop-row.values.items (λ v. (g.P.Primvar.numbers v.value, v.den)))

pub loop-row-preserved : goal.loop-row-preserved
loop-row-preserved g c =
    let level = g.M.PointMasks.level c.args.masks.now in
    let masks = g.M.PointMasks.masks c.args.masks.now in
    let controls = map g.P.Primvar.numbers c.args.controls.now in
    let inside : c.loop-row.row < length masks = omega (arith, c.loop-row-test.true, c.count-row-end.ensures.count) in
    let some = some-of level masks c.args.table.now c.facts.ensures controls c.requires.can c.loop-row.row inside c.in_ok-den.den c.sum_mask.new.buffers.sums c.in_ok-den.ensures.row g.P.Primvar.numbers c.args.controls.now refl in
    let summed = first-sum g.P.Primvar.numbers c.args.controls.now some c.index-controls-0.result c.index-controls-0.is (shares_from 0 c.sum_mask.new.buffers.sums) _ c.take_sum-value.ensures.sum in
    let next = next-value level masks c.args.table.now c.facts.ensures controls c.requires.can c.loop-row.row inside c.in_ok-den.den c.sum_mask.new.buffers.sums c.in_ok-den.ensures.row
    _ c.loop-row.invariant.values (g.P.Primvar.numbers c.take_sum-value.result) summed in
    let with = entries-with level masks c.args.table.now c.facts.ensures controls c.requires.can c.loop-row.row inside c.in_ok-den.den c.sum_mask.new.buffers.sums c.in_ok-den.ensures.row c.loop-row.entries c.loop-row.invariant.entries in
    record {
      clear = c.take_sum-value.ensures.zeros ∙ ap (λ n. replicate n 0) c.in_ok-den.ensures.places;
      values = subst (AreRowValues level (take (c.loop-row.row + 1) masks) c.args.table.now controls)
          (sym (ap (map (λ v. (g.P.Primvar.numbers v.value, v.den))) c.push_reserved.ensures.items
          ∙ map-append (λ v. (g.P.Primvar.numbers v.value, v.den)) c.loop-row.values.items (record { value = c.take_sum-value.result; den = c.in_ok-den.den } ∷ []))) next;
      fits = omega (arith, c.loop-row.invariant.fits, c.push_reserved.ensures.capacity);
      entries = ap (λ n. c.loop-row.entries + n) c.count-row_entries.ensures ∙ with;
      few = omega (arith, c.if-row_entries-entries.false, c.loop-row.invariant.few);
      taken = omega (arith, c.loop-row.invariant.taken, c.take_sum-value.ensures.steps, c.count-row_entries.ensures);
    }

pub returns-clause-values : goal.returns-clause-values
returns-clause-values g c =
    let level = g.M.PointMasks.level c.args.masks.now in
    let masks = g.M.PointMasks.masks c.args.masks.now in
    let controls = map g.P.Primvar.numbers c.args.controls.now in
    let past : length masks ≤ c.loop-row.row = omega (arith, c.loop-row-test.false, c.count-row-end.ensures.count) in
    all-values level masks c.args.table.now c.facts.ensures controls c.requires.can c.loop-row.row _ past c.loop-row.invariant.values (omega (arith, c.loop-row.invariant.entries, c.loop-row.invariant.few))

pub returns-clause-taken : goal.returns-clause-taken
returns-clause-taken g c =
    let level = g.M.PointMasks.level c.args.masks.now in
    let masks = g.M.PointMasks.masks c.args.masks.now in
    let controls = map g.P.Primvar.numbers c.args.controls.now in
    let past : length masks ≤ c.loop-row.row = omega (arith, c.loop-row-test.false, c.count-row-end.ensures.count) in
    let all = all-entries level masks c.args.table.now c.facts.ensures controls c.requires.can c.loop-row.row c.loop-row.entries past c.loop-row.invariant.entries in
    omega (arith, c.loop-row.invariant.taken, all)

pub tested-dens-requires : goal.tested-dens-requires
tested-dens-requires g c =
    let level = g.M.PointMasks.level c.args.masks.now in
    (subst (ArePointDenominators level) (sym c.denominators.ensures) (point-dens c.args.table.now level c.facts.ensures c.requires.each)).positive

pub sum_mask-requires-clause-dens : goal.sum_mask-requires-clause-dens
sum_mask-requires-clause-dens g c = c.tested-dens.ensures ∙ c.denominators.ensures
