use Rattle.std.proofs.Common.{ap, sym, ◌∙◌}
use Rattle.mask_rules.specs.View.{terms_of}
use Rattle.place_sums.specs.Sums.{added_shares}
use Rattle.stencil_factory.specs.Flat.{flat_shares}
use Rattle.stencil_factory.proofs.AddedLemmas.{none-left, weigh-first, weigh-next, term-can, terms-can, terms-same}
use Rattle.stencil_factory.proofs.flat.add_terms.Goals as goal

pub add_term-requires-clause-can : goal.add_term-requires-clause-can
add_term-requires-clause-can g c =
    term-can c.args.parent.now.level c.args.dens.now c.args.faces.now c.args.multiple c.loop-rest.rest.now c.in-len1-up.len_at_least
    g.T.Natural.most c.loop-rest.sums c.loop-rest.invariant.can

pub loop-rest-preserved : goal.loop-rest-preserved
loop-rest-preserved g c =
    let level = c.args.parent.now.level in
    let dens = c.args.dens.now in
    let faces = c.args.faces.now in
    let rest = c.loop-rest.rest.now in
    let some = c.in-len1-up.len_at_least in
    let before = c.loop-rest.invariant in
    record {
      weigh = weigh-next level dens faces c.args.multiple rest some before.weigh;
      can = terms-can level dens faces c.args.multiple rest some g.T.Natural.most c.loop-rest.sums before.can c.add_term.new.sums c.add_term.ensures;
      same = terms-same level dens faces c.args.multiple rest some g.T.Natural.most c.loop-rest.sums before.can c.add_term.new.sums c.add_term.ensures ∙ before.same;
    }

pub returns : goal.returns
returns g c = sym (ap (λ l. added_shares 1 (flat_shares c.args.parent.now.level c.args.dens.now c.args.faces.now c.args.multiple (terms_of l)) c.loop-rest.sums) (none-left c.loop-rest.rest.now c.in_default.len_below)) ∙ c.loop-rest.invariant.same

pub add_term-requires-clause-weigh : goal.add_term-requires-clause-weigh
add_term-requires-clause-weigh g c = weigh-first c.args.parent.now.level c.args.dens.now c.args.faces.now c.args.multiple c.loop-rest.rest.now c.in-len1-up.len_at_least c.loop-rest.invariant.weigh
