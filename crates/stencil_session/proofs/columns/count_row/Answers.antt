use Rattle.std.proofs.Common.{◌≡◌, length, arith, rules, subst}
use Rattle.std.specs.Vec.{vec_len}
use Rattle.stencil_session.specs.Columns.{AreCounts}
use Rattle.stencil_session.proofs.CellLemmas.{in-counts, count-few, counted, row-done}
use Rattle.stencil_session.proofs.columns.count_row.Goals as goal

pub index_mut-requires : goal.index_mut-requires
index_mut-requires c =
    let long : vec_len c.loop-control.counts ≡ length c.loop-control.counts.items = search rules in
    omega (arith, long, in-counts c.args.table.now c.facts.ensures c.args.row c.requires.row _ c.row_indices-control-items.ensures.indices c.loop-control.control-index c.loop-control-test.true _ c.loop-control.invariant)

pub overflow_add-index_mut : goal.overflow_add-index_mut
overflow_add-index_mut c =
    let few = count-few c.args.table.now c.facts.ensures c.args.row c.requires.row _ c.row_indices-control-items.ensures.indices c.loop-control.control-index c.loop-control-test.true _ c.loop-control.invariant
    c.index_mut.result.now c.index_mut.ensures.value in
    record { fits = omega (arith, few) }

pub loop-control-preserved : goal.loop-control-preserved
loop-control-preserved c =
    counted c.args.table.now c.facts.ensures c.args.row c.requires.row _ c.row_indices-control-items.ensures.indices c.loop-control.control-index c.loop-control-test.true _ c.loop-control.invariant
    c.index_mut.result.now c.index_mut.ensures.value

pub returns : goal.returns
returns c =
    subst (λ cells. AreCounts c.args.table.now.controls cells c.loop-control.counts.items)
    (row-done c.args.table.now c.args.row c.requires.row _ c.row_indices-control-items.ensures.indices c.loop-control.control-index c.loop-control-test.false) c.loop-control.invariant
