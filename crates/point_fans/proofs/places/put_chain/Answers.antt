use Rattle.std.proofs.Common.{◌∙◌, ◌++◌, append-nil, ap, sym, arith}
use Rattle.point_fans.specs.Chains.{at_places}
use Rattle.point_fans.proofs.ChainLemmas.{chain-step, chain-end, chain-put}
use Rattle.point_fans.proofs.places.put_chain.Goals as goal

pub loop-place-preserved : goal.loop-place-preserved
loop-place-preserved c = λ chain is.
    let now = c.loop-place.invariant chain is in
    let step = chain-step c.args.next.now c.loop-place.place now.0 now.1 c.loop-place-test.true in (
      step.0,
      step.2,
      chain-put c.args.places.now.owners.items c.loop-place.owners.items c.push.new.self.items now.0 step.0 _ c.loop-place.place c.index.result.now c.in_ok-push.ensures.items c.index.ensures (omega (arith, c.loop-place-test.true, c.requires.owner_count)) step.1 now.2,
      chain-put c.args.places.now.within.items c.loop-place.within.items c.push-in-loop-place.new.self.items now.0 step.0 _ c.loop-place.place c.index-in-loop-place.result.now c.in_ok-push-2.ensures.items c.index-in-loop-place.ensures (omega (arith, c.loop-place-test.true, c.requires.place_count)) step.1 now.3,
    )

pub returns-clause-owners : goal.returns-clause-owners
returns-clause-owners c = λ chain is.
    let now = c.loop-place.invariant chain is in
    let none = chain-end c.args.next.now c.loop-place.place now.0 now.1 (omega (arith, c.loop-place-test.false)) in
    sym (append-nil c.loop-place.owners.items) ∙ sym (ap (λ r. c.loop-place.owners.items ++ at_places c.args.places.now.owners.items r) none) ∙ now.2

pub returns-clause-within : goal.returns-clause-within
returns-clause-within c = λ chain is.
    let now = c.loop-place.invariant chain is in
    let none = chain-end c.args.next.now c.loop-place.place now.0 now.1 (omega (arith, c.loop-place-test.false)) in
    sym (append-nil c.loop-place.within.items) ∙ sym (ap (λ r. c.loop-place.within.items ++ at_places c.args.places.now.within.items r) none) ∙ now.3
