use Rattle.std.proofs.Common.{◌≡◌, ◌+◌, ◌≤◌, Some, true, length, take, FitsSigned, to_z, of_z, map, rules, refl, arith, ap, sym, ◌∙◌}
use Rattle.std.specs.Int.{w128}
use Rattle.std.proofs.lemmas.Int.{to_z-of_z}
use Rattle.flat_arrays.specs.Words.{integer_of}
use Rattle.flat_arrays.proofs.PartLemmas.{rest-later}
use Rattle.row_arrays.specs.Rows.{is_within, row_sum}
use Rattle.row_arrays.proofs.PutLemmas.{all-fault, all-put, over-fault, over-put, sums-more}
use Rattle.row_arrays.proofs.row.put_row.Goals as goal

pub returns-in-None-clause-fault : goal.returns-in-None-clause-fault
returns-in-None-clause-fault c =
    let within : is_within c.args.rows.now c.args.controls.now c.args.row ≡ true = search rules in
    over-fault c.args.rows.now c.args.controls.now c.args.row c.loop-component.component (map integer_of (take c.loop-component.component c.loop-component.out)) within
    c.loop-component-test.true c.loop-component.invariant.written (sym c.in-None.ensures)

pub returns-in-None-clause-put : goal.returns-in-None-clause-put
returns-in-None-clause-put c =
    let inside : c.loop-component.component ≤ length c.loop-component.out = omega (arith, c.loop-component-test.true, c.loop-component.invariant.len, c.requires.fits) in
    over-put c.args.rows.now c.args.controls.now c.args.row c.loop-component.component c.args.out.now c.loop-component.out c.loop-component-test.true inside
    c.loop-component.invariant.written (sym c.in-None.ensures) c.loop-component.invariant.rest

pub loop-component-preserved : goal.loop-component-preserved
loop-component-preserved c =
    let fits : FitsSigned w128 c.in-Some.sum = search rules in
    record {
      written = sums-more (row_sum c.args.rows.now c.args.controls.now c.args.row) c.loop-component.component c.loop-component.out c.put_sum.new.out (to_z w128 (of_z w128 c.in-Some.sum))
          c.put_sum.ensures.written (ap Some (to_z-of_z w128 c.in-Some.sum fits) ∙ c.in-Some.ensures) c.loop-component.invariant.written;
      rest = c.put_sum.ensures.rest
          ∙ rest-later c.loop-component.component (c.loop-component.component + 1) c.loop-component.out c.args.out.now c.args.out.now (omega arith)
          c.loop-component.invariant.rest refl;
      len = c.put_sum.ensures.len ∙ c.loop-component.invariant.len;
    }

pub returns-clause-fault : goal.returns-clause-fault
returns-clause-fault c =
    let within : is_within c.args.rows.now c.args.controls.now c.args.row ≡ true = search rules in
    all-fault c.args.rows.now c.args.controls.now c.args.row c.loop-component.component c.args.out.now c.loop-component.out c.loop-component-test.false
    (omega arith) c.loop-component.invariant.written within

pub returns-clause-put : goal.returns-clause-put
returns-clause-put c =
    let inside : c.loop-component.component ≤ length c.loop-component.out = omega (arith, c.loop-component.invariant.len, c.requires.fits) in
    all-put c.args.rows.now c.args.controls.now c.args.row c.loop-component.component c.args.out.now c.loop-component.out c.loop-component-test.false
    (omega arith) c.loop-component.invariant.written inside c.loop-component.invariant.rest
