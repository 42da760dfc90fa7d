use Rattle.std.proofs.Common.{Some, FitsSigned, to_z, rules, arith, ap, ◌∙◌}
use Rattle.std.specs.Int.{w128}
use Rattle.std.proofs.lemmas.Int.{to_z-of_z}
use Rattle.row_arrays.specs.Rows.{product_at}
use Rattle.row_arrays.proofs.SumLemmas.{sum-more, sum-none}
use Rattle.row_arrays.proofs.sum.sum_of_entries.Goals as goal

pub plus_entry-requires : goal.plus_entry-requires
plus_entry-requires c = record {
  index = omega (arith, c.loop-entry-test.true, c.requires.within.indices);
  numerator = omega (arith, c.loop-entry-test.true, c.requires.within.numerators);
  control = c.requires.within.named c.loop-entry.entry c.loop-entry.auto.entry c.loop-entry-test.true;
  component = c.requires.component;
}

pub returns-in-None : goal.returns-in-None
returns-in-None c =
    sum-none (product_at c.args.rows.now c.args.controls.now c.args.component) c.loop-entry.entry _ (to_z w128 c.loop-entry.sum-bits) _ c.loop-entry-test.true
    c.loop-entry.invariant c.in-None.ensures

pub loop-entry-preserved : goal.loop-entry-preserved
loop-entry-preserved c =
    let fits : FitsSigned w128 c.in-Some.next = search rules in
    sum-more (product_at c.args.rows.now c.args.controls.now c.args.component) c.loop-entry.entry _ (to_z w128 c.loop-entry.sum-bits) _ _ c.loop-entry-test.true
    c.loop-entry.invariant (ap Some (to_z-of_z w128 c.in-Some.next fits) ∙ c.in-Some.ensures)
