use Rattle.std.proofs.Common.{◌∙◌, nat_eq, arith, ap, sym}
use Rattle.std.proofs.lemmas.List.Sums.{count_by-le-length}
use Rattle.stencil_factory.specs.Marks.{marked_rows}
use Rattle.stencil_factory.proofs.AddedLemmas.{none-left}
use Rattle.stencil_factory.proofs.MarkLemmas.{round-others, round-places, round-marked, round-length}
use Rattle.stencil_factory.proofs.count.mark_rows.Goals as goal

pub mark_all-fresh-requires : goal.mark_all-fresh-requires
mark_all-fresh-requires c =
    round-places c.args.table.now c.facts.ensures c.args.mark c.loop-rest.rest.now c.loop-rest.marks.items c.in-len1-up.len_at_least c.loop-rest.invariant.inside c.loop-rest.invariant.each
    c.row_indices.result.now c.row_indices.ensures.indices

pub loop-rest-preserved : goal.loop-rest-preserved
loop-rest-preserved c =
    let before = c.loop-rest.invariant in
    record {
      all =
          round-marked c.args.table.now c.facts.ensures c.args.mark c.loop-rest.rest.now c.loop-rest.marks.items c.in-len1-up.len_at_least before.inside before.each
          c.row_indices.result.now c.row_indices.ensures.indices c.mark_all-fresh.new.marks.items _ c.mark_all-fresh.ensures.marked before.all;
      inside = round-others c.args.table.now c.facts.ensures c.args.mark c.loop-rest.rest.now c.loop-rest.marks.items c.in-len1-up.len_at_least before.inside before.each;
      each =
          round-length c.args.table.now c.facts.ensures c.args.mark c.loop-rest.rest.now c.loop-rest.marks.items c.in-len1-up.len_at_least before.inside before.each
          c.row_indices.result.now c.row_indices.ensures.indices c.mark_all-fresh.new.marks.items c.args.marks.now.items c.mark_all-fresh.ensures.marked;
      fresh = omega (arith, before.fresh, c.mark_all-fresh.ensures.fresh);
    }

pub overflow_add-fresh : goal.overflow_add-fresh
overflow_add-fresh c = omega (arith, c.loop-rest.invariant.fresh, c.mark_all-fresh.ensures.fresh, count_by-le-length (nat_eq c.args.mark) c.mark_all-fresh.new.marks.items, c.mark_all-fresh.new.marks.ok.0)

pub returns : goal.returns
returns c = record {
  marked = sym (ap (λ l. marked_rows c.args.table.now c.args.mark l c.loop-rest.marks.items) (none-left c.loop-rest.rest.now c.in_default.len_below)) ∙ c.loop-rest.invariant.all;
  fresh = c.loop-rest.invariant.fresh;
}
