use Rattle.std.proofs.Common.{◌∙◌, ap, sym, subst, false, IsTrue}
use Rattle.subdiv_model.specs.Polygons.{is_among, is_distinct}
use Rattle.level_builder.specs.Keys.{Rises}
use Rattle.level_builder.proofs.UnrepeatedLemmas.{unrepeated-end, unrepeated-rise, unrepeated-count, unrepeated-distinct}
use Rattle.level_builder.proofs.keys.unrepeated.Goals as goal

pub returns-clause-rises : goal.returns-clause-rises
returns-clause-rises c = subst Rises (sym (unrepeated-end c.loop-rest.found.items c.loop-rest.rest.now c.args.keys.now c.loop-rest.again c.in_default.len_below c.loop-rest.invariant)) (unrepeated-rise false c.args.keys.now c.requires)

pub returns-clause-once : goal.returns-clause-once
returns-clause-once c = λ n.
    ap (λ xs. is_among xs n) (unrepeated-end c.loop-rest.found.items c.loop-rest.rest.now c.args.keys.now c.loop-rest.again c.in_default.len_below c.loop-rest.invariant) ∙ unrepeated-count n c.args.keys.now c.requires

pub returns-clause-distinct : goal.returns-clause-distinct
returns-clause-distinct c = subst (λ xs. IsTrue (is_distinct xs)) (sym (unrepeated-end c.loop-rest.found.items c.loop-rest.rest.now c.args.keys.now c.loop-rest.again c.in_default.len_below c.loop-rest.invariant)) (unrepeated-distinct false c.args.keys.now c.requires)
