use Rattle.std.proofs.Common.{◌≡◌, ◌<◌, ◌∙◌, ◌+◌, nat_eq, [], length, get_or, take, arith, ap, subst}
use Rattle.std.specs.List.{position_or_len}
use Rattle.std.proofs.lemmas.List.{get_or_default}
use Rattle.level_topology.specs.ChildTables.{IsInverse}
use Rattle.sparse_level.specs.Places.{with_point, with_points}
use Rattle.sparse_level.proofs.TableLemmas.{point-there, one-numbered, all-numbered, all-counted}
use Rattle.sparse_level.proofs.numbering.number_points.Goals as goal

pub loop-i-preserved : goal.loop-i-preserved
loop-i-preserved c =
    let old = c.args.points.now.items in
    let i = c.loop-i.i in
    let are = c.loop-i.invariant.numbered in
    let earlier = with_points [] (take i old) in
    let h : i < length old = omega (arith, c.loop-i-test.true, c.len-i-end.ensures, c.args.points.now.ok.0) in
    let v : c.index.result.now ≡ get_or old i 0 = c.index.ensures ∙ point-there old i c.loop-i.next c.loop-i.table.items c.loop-i.points.items are c.index.result.now h ∙ get_or_default old i c.index.result.now 0 h in
    let number = c.number_of-number.ensures.number earlier are.table_is are.next_is ∙ ap (λ n. position_or_len (nat_eq n) earlier) v in
    let table = subst (λ n. IsInverse (with_point earlier n) c.number_of-number.new.table.items) v (c.number_of-number.ensures.table earlier are.table_is are.next_is) in
    record {
      numbered = one-numbered old i c.loop-i.next c.loop-i.table.items c.loop-i.points.items are c.number_of-number.result _ c.number_of-number.new.table.items h number table (ap (λ n. c.loop-i.next + n) c.from-next.ensures);
      size = c.number_of-number.ensures.size ∙ c.loop-i.invariant.size;
    }

pub returns-clause-numbers : goal.returns-clause-numbers
returns-clause-numbers c =
    let old = c.args.points.now.items in
    all-numbered old c.loop-i.i c.loop-i.next c.loop-i.table.items c.loop-i.points.items c.loop-i.invariant.numbered (omega (arith, c.loop-i-test.false, c.len-i-end.ensures, c.args.points.now.ok.0))

pub returns-clause-count : goal.returns-clause-count
returns-clause-count c =
    let old = c.args.points.now.items in
    all-counted old c.loop-i.i c.loop-i.next c.loop-i.table.items c.loop-i.points.items c.loop-i.invariant.numbered (omega (arith, c.loop-i-test.false, c.len-i-end.ensures, c.args.points.now.ok.0))
