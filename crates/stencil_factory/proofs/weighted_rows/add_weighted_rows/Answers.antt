use Rattle.std.proofs.Common.{refl, ap, sym, ◌∙◌, length}
use Rattle.subdiv_model.specs.Channel.{number_bound}
use Rattle.stencil_factory.specs.Rows.{dens_of}
use Rattle.stencil_factory.specs.Composing.{added_rows}
use Rattle.stencil_factory.specs.Joined.{amounts_of, weighing}
use Rattle.stencil_factory.proofs.AddedLemmas.{none-left}
use Rattle.stencil_factory.proofs.PutLemmas.{others-inside}
use Rattle.stencil_factory.proofs.WeightedRowLemmas.{first-rows, others-rows, others-added}
use Rattle.stencil_factory.proofs.weighted_rows.add_weighted_rows.Goals as goal

pub loop-rest-init : goal.loop-rest-init
loop-rest-init g c = record { all = refl; known = c.requires.known; can = c.requires.can; short = c.requires.short }

pub add_weighted_row-requires-clause-known : goal.add_weighted_row-requires-clause-known
add_weighted_row-requires-clause-known g c = c.loop-rest.invariant.known 0 (0, 0) c.in-len1-up.len_at_least

pub add_weighted_row-requires-clause-can : goal.add_weighted_row-requires-clause-can
add_weighted_row-requires-clause-can g c =
    first-rows c.args.table.now c.facts.ensures c.args.multiple c.loop-rest.rest.now c.in-len1-up.len_at_least g.T.Natural.most c.loop-rest.sums c.loop-rest.invariant.can

pub add_weighted_row-requires-clause-short : goal.add_weighted_row-requires-clause-short
add_weighted_row-requires-clause-short g c =
    first-rows c.args.table.now c.facts.ensures c.args.multiple c.loop-rest.rest.now c.in-len1-up.len_at_least number_bound c.loop-rest.sums c.loop-rest.invariant.short

pub loop-rest-preserved : goal.loop-rest-preserved
loop-rest-preserved g c =
    let table = c.args.table.now in
    let rest = c.loop-rest.rest.now in
    let some = c.in-len1-up.len_at_least in
    let before = c.loop-rest.invariant in
    let added = c.add_weighted_row.ensures in
    record {
      all = others-added table c.facts.ensures c.args.multiple rest some c.loop-rest.sums c.add_weighted_row.new.sums added ∙ before.all;
      known = others-inside rest some (length table.rows) before.known;
      can = others-rows table c.facts.ensures c.args.multiple rest some g.T.Natural.most c.loop-rest.sums before.can c.add_weighted_row.new.sums added;
      short = others-rows table c.facts.ensures c.args.multiple rest some number_bound c.loop-rest.sums before.short c.add_weighted_row.new.sums added;
    }

pub returns : goal.returns
returns g c =
    sym (ap (λ l. added_rows c.args.table.now (amounts_of (dens_of c.args.table.now) c.args.multiple (weighing l)) c.loop-rest.sums) (none-left c.loop-rest.rest.now c.in_default.len_below))
    ∙ c.loop-rest.invariant.all
