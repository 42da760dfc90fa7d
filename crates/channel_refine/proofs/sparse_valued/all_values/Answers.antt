use Rattle.std.proofs.Common.{◌+◌, ◌∙◌, map, length, take, ap, sym, arith}
use Rattle.std.proofs.lemmas.Iterator.Adapters.{YieldsList-from_vec}
use Rattle.std.proofs.lemmas.Iterator.Consumers.{YieldsList-turn, YieldsList-end}
use Rattle.std.proofs.lemmas.List.{length_push, take_all}
use Rattle.channel_refine.specs.SparseComposed.{valued_from, entries_in}
use Rattle.channel_refine.specs.SparseView.{all_rows}
use Rattle.channel_refine.proofs.SparseListedLemmas.{entries-taken, entries-more, values-more, next-can}
use Rattle.channel_refine.proofs.sparse_valued.all_values.Goals as goal

pub loop-level-init : goal.loop-level-init
loop-level-init g c = record { values = ap (all_rows g.P.Primvar.numbers) c.in_ok-levels.ensures.items; count = ap length c.in_ok-levels.ensures.items; most = omega arith; later = omega arith }

pub push_values-requires : goal.push_values-requires
push_values-requires g c =
    let t = YieldsList-turn (YieldsList-from_vec c.args.kept.items (cc) (cc)) c.loop-level.yielded _ c.loop-level.yielded_by _ c.next.new.self c.in-Some.level c.in-Some.is c.next.ensures.steps in
    next-can c.args.first.now c.args.kept.items (length c.loop-level.yielded) (length c.loop-level.levels.items) c.in-Some.level t.0 t.1 c.loop-level.invariant.count (map g.P.Primvar.numbers c.args.controls.now) c.requires

pub loop-level-preserved : goal.loop-level-preserved
loop-level-preserved g c =
    let t = YieldsList-turn (YieldsList-from_vec c.args.kept.items (cc) (cc)) c.loop-level.yielded _ c.loop-level.yielded_by _ c.next.new.self c.in-Some.level c.in-Some.is c.next.ensures.steps in
    let n = length_push c.loop-level.yielded c.in-Some.level in
    let more = entries-more c.args.first.now c.args.kept.items (length c.loop-level.yielded) (length c.loop-level.levels.items) c.in-Some.level t.0 t.1 c.loop-level.invariant.count in
    record {
      values =
          values-more c.args.first.now c.args.kept.items (length c.loop-level.yielded) (length c.loop-level.levels.items) c.in-Some.level t.0 t.1 c.loop-level.invariant.count (map g.P.Primvar.numbers c.args.controls.now) _ _
          c.loop-level.invariant.values c.in_ok-push_values.ensures.values
          ∙ ap (λ k. valued_from (map g.P.Primvar.numbers c.args.controls.now) c.args.first.now 0 (take k c.args.kept.items)) (sym n);
      count = c.in_ok-push_values.ensures.count ∙ ap (λ k. k + 1) c.loop-level.invariant.count ∙ sym n;
      most = omega (arith, c.in_ok-push_values.ensures.steps, c.loop-level.invariant.most, more, ap (λ k. entries_in c.args.first.now 0 (take k c.args.kept.items)) n);
      later = omega (arith, c.in_ok-push_values.ensures.later, c.loop-level.invariant.later);
    }

pub returns-in_err-push_values-clause-steps : goal.returns-in_err-push_values-clause-steps
returns-in_err-push_values-clause-steps g c =
    let t = YieldsList-turn (YieldsList-from_vec c.args.kept.items (cc) (cc)) c.loop-level.yielded _ c.loop-level.yielded_by _ c.next.new.self c.in-Some.level c.in-Some.is c.next.ensures.steps in
    let more = entries-more c.args.first.now c.args.kept.items (length c.loop-level.yielded) (length c.loop-level.levels.items) c.in-Some.level t.0 t.1 c.loop-level.invariant.count in
    omega (arith, c.in_err-push_values.ensures.steps, c.loop-level.invariant.most, more, entries-taken c.args.first.now c.args.kept.items (length c.loop-level.yielded + 1))

pub returns-clause-values : goal.returns-clause-values
returns-clause-values g c =
    let t = YieldsList-end (YieldsList-from_vec c.args.kept.items (cc) (cc)) c.loop-level.yielded _ c.loop-level.yielded_by _ c.next.new.self c.in-None.is c.next.ensures.steps in
    c.loop-level.invariant.values ∙ ap (valued_from (map g.P.Primvar.numbers c.args.controls.now) c.args.first.now 0) (take_all (length c.loop-level.yielded) c.args.kept.items (omega (arith, t.1)))

pub returns-clause-steps : goal.returns-clause-steps
returns-clause-steps g c = omega (arith, c.loop-level.invariant.most, entries-taken c.args.first.now c.args.kept.items (length c.loop-level.yielded))
