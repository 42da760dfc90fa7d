use Rattle.std.proofs.Common.{◌≡◌, arith, get_or, refl, ap, sym, ◌∙◌}
use Rattle.place_sums.specs.Sums.{added_at, added_shares}
use Rattle.stencil_factory.specs.Flat.{corner_shares}
use Rattle.stencil_factory.proofs.AddedLemmas.{none-left, within-next, first-can, corners-can, corners-same}
use Rattle.stencil_factory.proofs.flat.add_corners.Goals as goal

pub loop-rest-init : goal.loop-rest-init
loop-rest-init g c = record { within = c.requires.within; can = c.requires.can; same = refl }

pub bounds-dens-v : goal.bounds-dens-v
bounds-dens-v g c = c.loop-rest.invariant.within 0 0 c.in-len1-up.len_at_least

pub weight_over-amount-requires-clause-positive : goal.weight_over-amount-requires-clause-positive
weight_over-amount-requires-clause-positive g c = c.requires.positive _ 0 (c.loop-rest.invariant.within 0 0 c.in-len1-up.len_at_least)

pub loop-rest-preserved : goal.loop-rest-preserved
loop-rest-preserved g c =
    let dens = c.args.dens.now in
    let rest = c.loop-rest.rest.now in
    let some = c.in-len1-up.len_at_least in
    let before = c.loop-rest.invariant in
    let added : c.add.new.self ≡ added_at (get_or rest 0 0) c.weight_over-amount.result c.loop-rest.sums =
    rw c.of.ensures at c.add.ensures in
    record {
      within = within-next dens c.args.factor c.args.multiple rest some before.within;
      can = corners-can dens c.args.factor c.args.multiple rest some before.within g.T.Natural.most c.loop-rest.sums c.add.new.self before.can
          c.weight_over-amount.result c.weight_over-amount.ensures added;
      same = corners-same dens c.args.factor c.args.multiple rest some before.within g.T.Natural.most c.loop-rest.sums c.add.new.self before.can
          c.weight_over-amount.result c.weight_over-amount.ensures added ∙ before.same;
    }

pub weight_over-amount-requires-clause-small : goal.weight_over-amount-requires-clause-small
weight_over-amount-requires-clause-small g c = omega (arith, (first-can c.args.dens.now c.args.factor c.args.multiple c.loop-rest.rest.now c.in-len1-up.len_at_least c.loop-rest.invariant.within g.T.Natural.most c.loop-rest.sums _ c.loop-rest.invariant.can refl).2)

pub add-requires-clause-inside : goal.add-requires-clause-inside
add-requires-clause-inside g c = (first-can c.args.dens.now c.args.factor c.args.multiple c.loop-rest.rest.now c.in-len1-up.len_at_least c.loop-rest.invariant.within g.T.Natural.most c.loop-rest.sums _ c.loop-rest.invariant.can refl).0

pub add-requires-clause-some : goal.add-requires-clause-some
add-requires-clause-some g c = rw c.of.ensures (first-can c.args.dens.now c.args.factor c.args.multiple c.loop-rest.rest.now c.in-len1-up.len_at_least c.loop-rest.invariant.within g.T.Natural.most c.loop-rest.sums c.weight_over-amount.result c.loop-rest.invariant.can c.weight_over-amount.ensures).1

pub add-requires-clause-fits : goal.add-requires-clause-fits
add-requires-clause-fits g c = rw c.of.ensures (first-can c.args.dens.now c.args.factor c.args.multiple c.loop-rest.rest.now c.in-len1-up.len_at_least c.loop-rest.invariant.within g.T.Natural.most c.loop-rest.sums c.weight_over-amount.result c.loop-rest.invariant.can c.weight_over-amount.ensures).3

pub returns : goal.returns
returns g c = sym (ap (λ l. added_shares 1 (corner_shares c.args.dens.now c.args.factor c.args.multiple l) c.loop-rest.sums) (none-left c.loop-rest.rest.now c.in_default.len_below)) ∙ c.loop-rest.invariant.same
