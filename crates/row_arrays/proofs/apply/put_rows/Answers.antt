use Rattle.std.proofs.Common.{◌≡◌, ◌+◌, ◌-◌, ◌<◌, ◌≤◌, ◌++◌, length, map, take, rules, arith, refl, ap, sym, ◌∙◌}
use borrow.Rule.Slice.PartMut.{put_mid}
use Rattle.std.specs.List.{range_with_len}
use Rattle.std.specs.Option.{some_prefix}
use Rattle.flat_arrays.specs.Words.{integer_of}
use Rattle.flat_arrays.proofs.PartLemmas.{part-length, part-rest, rest-later}
use Rattle.row_arrays.specs.Rows.{first_row_fault, row_sums, rows_of, sums_of_rows}
use Rattle.row_arrays.proofs.RangeLemmas.{fault-here, fault-later, sums-here, sums-later, stops-here, enough-later, count-all, count-few, part-numbers}
use Rattle.row_arrays.proofs.apply.put_rows.Goals as goal

pub returns-in_err-put_row-clause-fault : goal.returns-in_err-put_row-clause-fault
returns-in_err-put_row-clause-fault c =
    let first = fault-here c.args.rows.now c.args.controls.now c.loop-row.row c.args.range.now.to c.loop-row-test.true
    (first_row_fault c.args.rows.now c.args.controls.now (rows_of c.args.range.now)) c.in_err-put_row.field-0.0 c.in_err-put_row.ensures.fault
    c.loop-row.invariant.fault in
    search (rules, first)

pub returns-in_err-put_row-clause-put : goal.returns-in_err-put_row-clause-put
returns-in_err-put_row-clause-put c =
    let rows = c.args.rows.now in
    let controls = c.args.controls.now in
    let row = c.loop-row.row in
    let at = c.loop-row.at in
    let to = c.args.range.now.to in
    let more = some_prefix (row_sums rows controls row) in
    let some : 0 < controls.components = search rules in
    let width : at + controls.components - at ≡ controls.components = omega arith in
    let enough = enough-later at row to controls.components (length c.loop-row.out) c.loop-row-test.true c.loop-row.invariant.enough in
    let fits : at + (at + controls.components - at) ≤ length c.loop-row.out = omega (arith, enough) in
    let full : length c.put_row.new.out ≡ at + controls.components - at = omega arith in
    let few = count-few rows controls row to c.loop-row-test.true in
    stops-here (sums_of_rows rows controls (rows_of c.args.range.now)) more at (at + controls.components - at) c.args.out.now c.loop-row.out c.put_row.new.out fits full
    (omega (arith, few)) (part-length at controls.components c.loop-row.out c.put_row.new.out (omega (arith, enough)) (omega (arith, full))) c.put_row.ensures.put
    (sums-here rows controls row to c.loop-row-test.true (map integer_of (take at c.loop-row.out)) (sums_of_rows rows controls (rows_of c.args.range.now))
    c.in_err-put_row.field-0.0 some c.in_err-put_row.ensures.fault c.loop-row.invariant.sums)
    c.loop-row.invariant.rest

pub loop-row-preserved : goal.loop-row-preserved
loop-row-preserved c =
    let rows = c.args.rows.now in
    let controls = c.args.controls.now in
    let row = c.loop-row.row in
    let at = c.loop-row.at in
    let to = c.args.range.now.to in
    let out = c.loop-row.out in
    let part = c.put_row.new.out in
    let k = at + controls.components - at in
    let more = some_prefix (row_sums rows controls row) in
    let there = c.loop-row-test.true in
    let none = c.in_ok-put_row.ensures.fault in
    let enough = enough-later at row to controls.components (length out) there c.loop-row.invariant.enough in
    let fits : at + k ≤ length out = omega (arith, enough) in
    let full : length part ≡ k = omega arith in
    let few : length more ≤ k = omega (arith, count-few rows controls row to there) in
    let long : at + length more ≡ at + controls.components = ap (λ n. at + n) (count-all rows controls row to there none) in
    let length_is = part-length at controls.components out part (omega (arith, enough)) (omega (arith, full)) in record {
      fault = fault-later rows controls row to there (first_row_fault rows controls (rows_of c.args.range.now)) none c.loop-row.invariant.fault;
      sums = ap (λ n. map integer_of (take n (put_mid at k out part)) ++ sums_of_rows rows controls (range_with_len (row + 1) (to - (row + 1)))) (sym long)
          ∙ ap (λ xs. xs ++ sums_of_rows rows controls (range_with_len (row + 1) (to - (row + 1)))) (part-numbers at k more out part fits full few c.put_row.ensures.put)
          ∙ sums-later rows controls row to there (map integer_of (take at out)) (sums_of_rows rows controls (rows_of c.args.range.now)) none c.loop-row.invariant.sums;
      rest = part-rest (at + controls.components) at controls.components out part c.args.out.now (omega (arith, enough)) (omega arith) (omega (arith, full))
          (rest-later at (at + controls.components) out c.args.out.now c.args.out.now (omega arith) c.loop-row.invariant.rest refl);
      enough = omega (arith, enough, length_is);
      len = length_is ∙ c.loop-row.invariant.len;
    }
