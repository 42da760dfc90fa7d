use Rattle.std.proofs.Common.{sym, subst}
use Rattle.mask_rules.specs.View.{scheme_of}
use Rattle.level_walk.proofs.PromiseLemmas.{for-scheme}
use Rattle.channel_refine.specs.Step.{IsTableCause}
use Rattle.channel_refine.proofs.TableLemmas.{table-cause, table-over, rows-next, test-fits, test-over}
use Rattle.channel_refine.proofs.table.next_table.Goals as goal

pub compose_level-requires-clause-child : goal.compose_level-requires-clause-child
compose_level-requires-clause-child c = for-scheme c.args.level.now c.args.child.now (scheme_of c.args.scheme) c.requires.child

pub returns-in-Err-clause-composed : goal.returns-in-Err-clause-composed
returns-in-Err-clause-composed c =
    subst (λ f. IsTableCause c.args.most c.args.level.now.level (scheme_of c.args.scheme) c.args.child.now.origins c.args.table.now f) (sym c.table_cause.ensures)
    (table-cause c.args.most c.args.level.now.level (scheme_of c.args.scheme) c.args.child.now.origins c.args.table.now _ c.in-Err.ensures)

pub returns-then-not-scale_fits-clause-composed : goal.returns-then-not-scale_fits-clause-composed
returns-then-not-scale_fits-clause-composed c =
    table-over c.args.most c.args.level.now.level (scheme_of c.args.scheme) c.args.child.now.origins c.args.table.now c.in-Ok.next c.in-Ok.ensures c.facts-2.ensures
    (test-over _ _ c.args.most c.scale_fits.ensures c.if-not-scale_fits.true)

pub returns-clause-composed : goal.returns-clause-composed
returns-clause-composed c = record {
  composed = c.in-Ok.ensures;
  made = c.facts-2.ensures;
  fits = test-fits _ _ c.args.most c.scale_fits.ensures c.if-not-scale_fits.false;
}

pub returns-clause-each : goal.returns-clause-each
returns-clause-each c = rows-next c.args.level.now c.args.child.now (scheme_of c.args.scheme) c.args.table.now c.in-Ok.next c.facts.ensures c.in-Ok.ensures
