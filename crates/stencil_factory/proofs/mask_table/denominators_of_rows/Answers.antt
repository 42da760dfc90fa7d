use Rattle.std.proofs.Common.{◌<◌, arith, length}
use Rattle.stencil_factory.proofs.FoundLemmas.{rows-next, rows-fault}
use Rattle.stencil_factory.proofs.mask_table.denominators_of_rows.Goals as goal

pub returns-then-den-eq0 : goal.returns-then-den-eq0
returns-then-den-eq0 g c =
    let level = g.M.PointMasks.level c.args.masks.now in
    let masks = g.M.PointMasks.masks c.args.masks.now in
    let below : c.loop-row.row < length masks = omega (arith, c.loop-row-test.true, c.count-row-end.ensures.count) in
    rows-fault level c.args.table.now masks c.loop-row.row below c.loop-row.dens.items c.loop-row.invariant c.in_ok-den.den
    c.in_ok-den.ensures.positive c.in_ok-den.ensures.den c.if-den-eq0.true

pub loop-row-preserved : goal.loop-row-preserved
loop-row-preserved g c =
    let level = g.M.PointMasks.level c.args.masks.now in
    let masks = g.M.PointMasks.masks c.args.masks.now in
    let below : c.loop-row.row < length masks = omega (arith, c.loop-row-test.true, c.count-row-end.ensures.count) in
    rows-next level c.args.table.now masks c.loop-row.row below c.loop-row.dens.items c.loop-row.invariant c.in_ok-den.den
    c.in_ok-den.ensures.positive c.in_ok-den.ensures.den (λ none. absurd (omega (arith, c.if-den-eq0.false, none))) c.keep.new.dens.items c.in_ok-keep.ensures
