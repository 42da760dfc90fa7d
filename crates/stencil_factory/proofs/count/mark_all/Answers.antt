use Rattle.std.proofs.Common.{◌<◌, ◌∙◌, nat_eq, arith, ap, sym, subst, take, drop, length, ◌-◌}
use Rattle.std.specs.List.{All}
use Rattle.std.proofs.lemmas.List.{length-set}
use Rattle.std.proofs.lemmas.List.Sums.{count_by-le-length}
use Rattle.stencil_factory.specs.Marks.{marked_all}
use Rattle.stencil_factory.proofs.AddedLemmas.{none-left, first-and-others, within-next}
use Rattle.stencil_factory.proofs.count.mark_all.Goals as goal

pub put_mark-fresh-requires : goal.put_mark-fresh-requires
put_mark-fresh-requires c = c.loop-rest.invariant.inside 0 0 c.in-len1-up.len_at_least

pub overflow_add-fresh : goal.overflow_add-fresh
overflow_add-fresh c = omega (arith, c.loop-rest.invariant.fresh, c.put_mark-fresh.ensures.fresh, count_by-le-length (nat_eq c.args.mark) c.put_mark-fresh.new.marks.items, c.put_mark-fresh.new.marks.ok.0)

pub loop-rest-preserved : goal.loop-rest-preserved
loop-rest-preserved c =
    let rest = c.loop-rest.rest.now in
    let others = take (length rest - 1) (drop 1 rest) in
    let some = c.in-len1-up.len_at_least in
    let before = c.loop-rest.invariant in
    let marked = c.put_mark-fresh.ensures.marked in
    record {
      all = ap (marked_all c.args.mark others) marked ∙ sym (ap (λ l. marked_all c.args.mark l c.loop-rest.marks.items) (first-and-others rest 0 some)) ∙ before.all;
      inside = subst (λ n. All (λ place. place < n) others) (sym (ap length marked ∙ length-set _ _ _)) (within-next c.loop-rest.marks.items 0 0 rest some before.inside);
      fresh = omega (arith, before.fresh, c.put_mark-fresh.ensures.fresh);
    }

pub returns : goal.returns
returns c = record {
  marked = sym (ap (λ l. marked_all c.args.mark l c.loop-rest.marks.items) (none-left c.loop-rest.rest.now c.in_default.len_below)) ∙ c.loop-rest.invariant.all;
  fresh = c.loop-rest.invariant.fresh;
}
