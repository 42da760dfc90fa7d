use Rattle.std.proofs.Common.{◌*◌, ◌<◌, ◌≤◌, max, map, rules, refl, ap, ◌∙◌}
use Rattle.std.proofs.lemmas.List.{take_all}
use Rattle.ratio128.specs.Numbers.{greatest_amount}
use Rattle.stencil_apply.specs.Means.{word_bound, greatest_of_all}
use Rattle.stencil_apply.proofs.WidthLemmas.{greatest-more, is-narrow, is-wide, can-sum-narrow}
use Rattle.stencil_apply.proofs.apply.sum_width.Goals as goal

pub loop-control-init : goal.loop-control-init
loop-control-init g c = refl

pub loop-control-preserved : goal.loop-control-preserved
loop-control-preserved g c =
    c.max-greatest.ensures
    ∙ ap (max c.loop-control.greatest) c.greatest.ensures
    ∙ ap (λ most. max most (greatest_amount (g.P.Primvar.numbers c.control-item.result))) c.loop-control.invariant
    ∙ greatest-more g.P.Primvar.numbers c.args.controls.now c.loop-control.control-index c.control-item.result c.loop-control-test.true c.control-item.is

pub returns-in-Some-clause-width : goal.returns-in-Some-clause-width
returns-in-Some-clause-width g c =
    let all = c.loop-control.invariant ∙ ap (λ controls. greatest_of_all (map g.P.Primvar.numbers controls)) (take_all _ c.args.controls.now c.loop-control-test.false) in
    let few : c.greatest-2.result * c.loop-control.greatest ≤ word_bound = search rules in
    is-narrow c.args.table.now (map g.P.Primvar.numbers c.args.controls.now) _ _ c.greatest-2.ensures all few

pub returns-in-Some-clause-narrow : goal.returns-in-Some-clause-narrow
returns-in-Some-clause-narrow g c narrow =
    let all = c.loop-control.invariant ∙ ap (λ controls. greatest_of_all (map g.P.Primvar.numbers controls)) (take_all _ c.args.controls.now c.loop-control-test.false) in
    let few : c.greatest-2.result * c.loop-control.greatest ≤ word_bound = search rules in
    can-sum-narrow c.args.table.now (map g.P.Primvar.numbers c.args.controls.now) _ _ c.greatest-2.ensures all few

pub returns-in-None-clause-width : goal.returns-in-None-clause-width
returns-in-None-clause-width g c =
    let all = c.loop-control.invariant ∙ ap (λ controls. greatest_of_all (map g.P.Primvar.numbers controls)) (take_all _ c.args.controls.now c.loop-control-test.false) in
    let many : word_bound < c.greatest-2.result * c.loop-control.greatest = search rules in
    is-wide c.args.table.now (map g.P.Primvar.numbers c.args.controls.now) _ _ c.greatest-2.ensures all many
