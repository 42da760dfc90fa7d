use Rattle.std.proofs.Common.{refl, subst, ap}
use Rattle.feature_select.proofs.rule.SelectRule.holds.Goals as goal

-- the call was one of the rule's closure
pub returns : goal.returns
returns g c =
    let ReturnsHere : g.row.F.Denot → Type 0 = λ f. g.F.Fn.post f (c.args.facts, tt) c.call.result in
    let said = subst ReturnsHere (ap (λ (rule : g.row.F.Denot × _). rule.0) c.self.view_is) c.call.ensures in
    c.requires.answers.answers c.args.facts.now c.call.result c.requires.size
    (record { shown = c.args.facts; shows = refl; says = record { met = said } })
