use Rattle.std.proofs.Common.{[], length, get_or, true, arith, refl, ap, sym, ◌∙◌}
use Rattle.std.proofs.lemmas.List.{length-set}
use Rattle.number_width.specs.Numbers.{numbers_in}
use Rattle.stencil_session.specs.Session.{numbers_of}
use Rattle.stencil_session.proofs.AddLemmas.{plus_times-none, marked-more, weight-short, in-values, can-add, added-more}
use Rattle.stencil_session.proofs.add.add_column.Goals as goal

pub loop-at-init : goal.loop-at-init
loop-at-init g c = record {
  values = λ row d h. sym (plus_times-none (numbers_of (get_or c.args.values.now.items row d)) (numbers_of c.args.difference.now));
  long = refl;
  marks = refl;
  mark_count = refl;
  taken = omega arith;
}

pub add_entry-requires-clause-value : goal.add_entry-requires-clause-value
add_entry-requires-clause-value g c =
    in-values (get_or c.args.columns.now c.args.control []) c.args.values.now.items _ c.requires.fits c.rows-rows.result.now (numbers_in c.numerators-numerators.result) c.rows-rows.ensures c.numerators-numerators.ensures c.loop-at.at c.loop-at-test.true
    c.get.result c.get.ensures c.loop-at.values.items c.loop-at.invariant.long c.loop-at.invariant.values

pub add_entry-requires-clause-mark : goal.add_entry-requires-clause-mark
add_entry-requires-clause-mark g c =
    let inside = in-values (get_or c.args.columns.now c.args.control []) c.args.values.now.items _ c.requires.fits c.rows-rows.result.now (numbers_in c.numerators-numerators.result) c.rows-rows.ensures c.numerators-numerators.ensures c.loop-at.at c.loop-at-test.true
    c.get.result c.get.ensures c.loop-at.values.items c.loop-at.invariant.long c.loop-at.invariant.values in
    omega (arith, inside, c.loop-at.invariant.long, c.loop-at.invariant.mark_count, c.requires.marks)

pub add_entry-requires-clause-short : goal.add_entry-requires-clause-short
add_entry-requires-clause-short g c =
    weight-short (get_or c.args.columns.now c.args.control []) c.args.values.now.items _ c.requires.fits c.rows-rows.result.now (numbers_in c.numerators-numerators.result) c.rows-rows.ensures c.numerators-numerators.ensures c.loop-at.at c.loop-at-test.true
    c.get.result c.get.ensures

pub add_entry-requires-clause-fits : goal.add_entry-requires-clause-fits
add_entry-requires-clause-fits g c =
    can-add (get_or c.args.columns.now c.args.control []) c.args.values.now.items _ c.requires.fits c.rows-rows.result.now (numbers_in c.numerators-numerators.result) c.rows-rows.ensures c.numerators-numerators.ensures c.loop-at.at c.loop-at-test.true
    c.get.result c.get.ensures c.loop-at.values.items c.loop-at.invariant.long c.loop-at.invariant.values

pub loop-at-preserved : goal.loop-at-preserved
loop-at-preserved g c = record {
  values = added-more (get_or c.args.columns.now c.args.control []) c.args.values.now.items _ c.requires.fits c.rows-rows.result.now (numbers_in c.numerators-numerators.result) c.rows-rows.ensures c.numerators-numerators.ensures c.loop-at.at c.loop-at-test.true
      c.get.result c.get.ensures c.loop-at.values.items c.loop-at.invariant.long c.loop-at.invariant.values c.add_entry.new.values.items c.add_entry.ensures.values;
  long = c.add_entry.ensures.long ∙ c.loop-at.invariant.long;
  marks = marked-more (get_or c.args.columns.now c.args.control []) c.args.values.now.items _ c.requires.fits c.rows-rows.result.now (numbers_in c.numerators-numerators.result) c.rows-rows.ensures c.numerators-numerators.ensures c.loop-at.at c.loop-at-test.true c.args.marks.now c.loop-at.marks c.add_entry.new.marks c.loop-at.invariant.marks c.add_entry.ensures.marks;
  mark_count = ap length c.add_entry.ensures.marks ∙ length-set c.loop-at.marks (get_or c.rows-rows.result.now c.loop-at.at 0) true ∙ c.loop-at.invariant.mark_count;
  taken = omega (arith, c.add_entry.ensures.step, c.loop-at.invariant.taken);
}
