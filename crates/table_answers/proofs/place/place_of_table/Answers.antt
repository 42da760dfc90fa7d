use Rattle.std.proofs.Common.{arith, sym}
use Rattle.table_answers.proofs.PlaceLemmas.{scanned-start, end-inside, scanned-more, placed-table, placed-end, placed-last}
use Rattle.table_answers.proofs.place.place_of_table.Goals as goal

pub loop-start-init : goal.loop-start-init
loop-start-init c = scanned-start c.args.bytes.now c.skip_mark.result.now c.skip_mark.ensures

pub slice_bounds-begins_table-end : goal.slice_bounds-begins_table-end
slice_bounds-begins_table-end c =
    end-inside c.args.bytes.now c.loop-start.start c.line_end-end.result c.loop-start.invariant.inside c.line_end-end.ensures

pub returns-then-begins_table : goal.returns-then-begins_table
returns-then-begins_table c =
    placed-table c.args.bytes.now c.loop-start.start c.loop-start.lines c.line_end-end.result c.loop-start.invariant c.loop-start-test.true c.line_end-end.ensures
    (sym c.if-begins_table.ensures)

pub returns-then-end-bytes : goal.returns-then-end-bytes
returns-then-end-bytes c =
    placed-last c.args.bytes.now c.loop-start.start c.loop-start.lines c.line_end-end.result c.loop-start.invariant c.loop-start-test.true c.line_end-end.ensures
    (sym c.if-begins_table.ensures) c.if-end-bytes.true

pub loop-start-preserved : goal.loop-start-preserved
loop-start-preserved c =
    let inside = end-inside c.args.bytes.now c.loop-start.start c.line_end-end.result c.loop-start.invariant.inside c.line_end-end.ensures in
    scanned-more c.args.bytes.now c.loop-start.start c.loop-start.lines c.line_end-end.result c.loop-start.invariant c.loop-start-test.true c.line_end-end.ensures
    (sym c.if-begins_table.ensures) (omega (arith, inside, c.if-end-bytes.false))

pub returns : goal.returns
returns c = placed-end c.args.bytes.now c.loop-start.start c.loop-start.lines c.loop-start.invariant c.loop-start-test.false
