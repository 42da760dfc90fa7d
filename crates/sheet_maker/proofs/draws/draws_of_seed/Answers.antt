use Rattle.std.proofs.Common.{◌≡◌, ◌-◌, arith, ap, ◌∙◌, ◌++◌, ◌%◌, ◌^◌}
use Rattle.std.proofs.Math.Nat.{mod-lt}
use Rattle.subdiv_model.specs.Generator.{draws_from}
use Rattle.sheet_maker.proofs.SheetLemmas.{draws-step, draws-all}
use Rattle.sheet_maker.proofs.draws.draws_of_seed.Goals as goal

pub loop-init : goal.loop-init
loop-init c =
    let all : c.args.count - 0 ≡ c.args.count = omega arith in
    record {
      short = mod-lt c.args.seed (omega arith);
      drawn = ap (λ xs. xs ++ draws_from (c.args.count - 0) (c.args.seed % 2 ^ 31)) c.in_ok-draws.ensures.items ∙ ap (λ n. draws_from n (c.args.seed % 2 ^ 31)) all;
    }

pub next-x-requires : goal.next-x-requires
next-x-requires c = c.loop.invariant.short

pub loop-preserved : goal.loop-preserved
loop-preserved c = record {
  short = c.next-x.ensures.short;
  drawn = draws-step _ _ _ c.args.count c.loop.counter c.loop.x _ _ c.loop-test.true c.in_ok-push.ensures.items c.value.ensures c.next-x.ensures.next c.loop.invariant.drawn;
}

pub returns : goal.returns
returns c = draws-all _ c.loop.draws.items c.args.count c.loop.counter c.loop.x c.loop-test.false c.loop.invariant.drawn
