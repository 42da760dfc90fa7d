use Rattle.std.proofs.Common.{ap, sym, ◌∙◌, length}
use Rattle.place_sums.specs.Sums.{added_shares}
use Rattle.stencil_factory.specs.Joined.{amounts_of, weighing}
use Rattle.stencil_factory.proofs.AddedLemmas.{none-left}
use Rattle.stencil_factory.proofs.PutLemmas.{first-can, others-can, others-same, others-inside}
use Rattle.stencil_factory.proofs.weights.add_weights.Goals as goal

pub add_weight-requires-clause-can : goal.add_weight-requires-clause-can
add_weight-requires-clause-can g c =
    first-can c.loop-rest.rest.now c.in-len1-up.len_at_least c.args.dens.now c.args.multiple g.T.Natural.most c.loop-rest.sums c.loop-rest.invariant.can

pub loop-rest-preserved : goal.loop-rest-preserved
loop-rest-preserved g c =
    let rest = c.loop-rest.rest.now in
    let some = c.in-len1-up.len_at_least in
    let before = c.loop-rest.invariant in
    let added = c.add_weight.ensures in
    record {
      all = others-same rest some c.args.dens.now c.args.multiple g.T.Natural.most c.loop-rest.sums before.can c.add_weight.new.sums added ∙ before.all;
      known = others-inside rest some (length c.args.dens.now) before.known;
      can = others-can rest some c.args.dens.now c.args.multiple g.T.Natural.most c.loop-rest.sums before.can c.add_weight.new.sums added;
    }

pub returns : goal.returns
returns g c =
    sym (ap (λ l. added_shares 1 (amounts_of c.args.dens.now c.args.multiple (weighing l)) c.loop-rest.sums) (none-left c.loop-rest.rest.now c.in_default.len_below)) ∙ c.loop-rest.invariant.all
