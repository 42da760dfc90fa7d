use Rattle.std.proofs.Common.{◌≡◌, ap, ◌∙◌, arith, length}
use Rattle.sharpness_rules.specs.View.{rule_of}
use Rattle.mask_rules.specs.Around.{ends_in}
use Rattle.mask_rules.specs.Spread.{rule_denominator}
use Rattle.mask_rules.specs.View.{seen_vertex}
use Rattle.mask_rules.proofs.BoundLemmas.{Denominators, denominators, amounts-fit}
use Rattle.mask_rules.proofs.VertexLemmas.{many-ends, ok-weaker, two-joined}
use Rattle.mask_rules.proofs.vertex.two_rules.Goals as goal

pub nonzero_div-parts : goal.nonzero_div-parts
nonzero_div-parts c =
    let are : Denominators c.rule_denominator-p.result c.rule_denominator-r.result =
    denominators (rule_of c.args.parent) (rule_of c.args.child) (length (ends_in c.args.level.now c.args.v)) c.valence-valence.result c.rule_denominator-p.result c.rule_denominator-r.result (many-ends c.args.level.now c.args.v c.valence-valence.result c.valence-valence.ensures.listed) (omega (arith, c.valence-valence.type_inv)) c.rule_denominator-p.ensures c.rule_denominator-r.ensures c.requires.parent c.requires.child in
    are.first

pub overflow_mul-parts : goal.overflow_mul-parts
overflow_mul-parts c =
    let are : Denominators c.rule_denominator-p.result c.rule_denominator-r.result =
    denominators (rule_of c.args.parent) (rule_of c.args.child) (length (ends_in c.args.level.now c.args.v)) c.valence-valence.result c.rule_denominator-p.result c.rule_denominator-r.result (many-ends c.args.level.now c.args.v c.valence-valence.result c.valence-valence.ensures.listed) (omega (arith, c.valence-valence.type_inv)) c.rule_denominator-p.ensures c.rule_denominator-r.ensures c.requires.parent c.requires.child in
    omega (arith, (amounts-fit c.args.weight.num c.args.weight.den c.rule_denominator-p.result c.rule_denominator-r.result c.common_multiple-multiple.result c.requires.part c.requires.short are.first are.second c.common_multiple-multiple.ensures (omega (arith, are.below, c.common_multiple-multiple.ensures))).first)

pub nonzero_div-parts-2 : goal.nonzero_div-parts-2
nonzero_div-parts-2 c =
    let are : Denominators c.rule_denominator-p.result c.rule_denominator-r.result =
    denominators (rule_of c.args.parent) (rule_of c.args.child) (length (ends_in c.args.level.now c.args.v)) c.valence-valence.result c.rule_denominator-p.result c.rule_denominator-r.result (many-ends c.args.level.now c.args.v c.valence-valence.result c.valence-valence.ensures.listed) (omega (arith, c.valence-valence.type_inv)) c.rule_denominator-p.ensures c.rule_denominator-r.ensures c.requires.parent c.requires.child in
    are.second

pub overflow_mul-parts-2 : goal.overflow_mul-parts-2
overflow_mul-parts-2 c =
    let are : Denominators c.rule_denominator-p.result c.rule_denominator-r.result =
    denominators (rule_of c.args.parent) (rule_of c.args.child) (length (ends_in c.args.level.now c.args.v)) c.valence-valence.result c.rule_denominator-p.result c.rule_denominator-r.result (many-ends c.args.level.now c.args.v c.valence-valence.result c.valence-valence.ensures.listed) (omega (arith, c.valence-valence.type_inv)) c.rule_denominator-p.ensures c.rule_denominator-r.ensures c.requires.parent c.requires.child in
    omega (arith, (amounts-fit c.args.weight.num c.args.weight.den c.rule_denominator-p.result c.rule_denominator-r.result c.common_multiple-multiple.result c.requires.part c.requires.short are.first are.second c.common_multiple-multiple.ensures (omega (arith, are.below, c.common_multiple-multiple.ensures))).second)

pub overflow_mul-weight : goal.overflow_mul-weight
overflow_mul-weight c =
    let are : Denominators c.rule_denominator-p.result c.rule_denominator-r.result =
    denominators (rule_of c.args.parent) (rule_of c.args.child) (length (ends_in c.args.level.now c.args.v)) c.valence-valence.result c.rule_denominator-p.result c.rule_denominator-r.result (many-ends c.args.level.now c.args.v c.valence-valence.result c.valence-valence.ensures.listed) (omega (arith, c.valence-valence.type_inv)) c.rule_denominator-p.ensures c.rule_denominator-r.ensures c.requires.parent c.requires.child in
    omega (arith, (amounts-fit c.args.weight.num c.args.weight.den c.rule_denominator-p.result c.rule_denominator-r.result c.common_multiple-multiple.result c.requires.part c.requires.short are.first are.second c.common_multiple-multiple.ensures (omega (arith, are.below, c.common_multiple-multiple.ensures))).whole)

pub spread-requires-clause-fits : goal.spread-requires-clause-fits
spread-requires-clause-fits c =
    let are : Denominators c.rule_denominator-p.result c.rule_denominator-r.result =
    denominators (rule_of c.args.parent) (rule_of c.args.child) (length (ends_in c.args.level.now c.args.v)) c.valence-valence.result c.rule_denominator-p.result c.rule_denominator-r.result (many-ends c.args.level.now c.args.v c.valence-valence.result c.valence-valence.ensures.listed) (omega (arith, c.valence-valence.type_inv)) c.rule_denominator-p.ensures c.rule_denominator-r.ensures c.requires.parent c.requires.child in
    let p : c.rule_denominator-p.result ≡ rule_denominator (rule_of c.args.parent) (length (ends_in c.args.level.now c.args.v)) = c.rule_denominator-p.ensures ∙ ap (rule_denominator (rule_of c.args.parent)) (many-ends c.args.level.now c.args.v c.valence-valence.result c.valence-valence.ensures.listed) in
    let r : c.rule_denominator-r.result ≡ rule_denominator (rule_of c.args.child) (length (ends_in c.args.level.now c.args.v)) = c.rule_denominator-r.ensures ∙ ap (rule_denominator (rule_of c.args.child)) (many-ends c.args.level.now c.args.v c.valence-valence.result c.valence-valence.ensures.listed) in
    let fit = amounts-fit c.args.weight.num c.args.weight.den c.rule_denominator-p.result c.rule_denominator-r.result c.common_multiple-multiple.result c.requires.part c.requires.short are.first are.second c.common_multiple-multiple.ensures (omega (arith, are.below, c.common_multiple-multiple.ensures)) in
    rw (← p, ← r) fit.fits

pub spread-requires-clause-small : goal.spread-requires-clause-small
spread-requires-clause-small c =
    let are : Denominators c.rule_denominator-p.result c.rule_denominator-r.result =
    denominators (rule_of c.args.parent) (rule_of c.args.child) (length (ends_in c.args.level.now c.args.v)) c.valence-valence.result c.rule_denominator-p.result c.rule_denominator-r.result (many-ends c.args.level.now c.args.v c.valence-valence.result c.valence-valence.ensures.listed) (omega (arith, c.valence-valence.type_inv)) c.rule_denominator-p.ensures c.rule_denominator-r.ensures c.requires.parent c.requires.child in
    (amounts-fit c.args.weight.num c.args.weight.den c.rule_denominator-p.result c.rule_denominator-r.result c.common_multiple-multiple.result c.requires.part c.requires.short are.first are.second c.common_multiple-multiple.ensures (omega (arith, are.below, c.common_multiple-multiple.ensures))).small

pub returns-clause-mask : goal.returns-clause-mask
returns-clause-mask c =
    let p : c.rule_denominator-p.result ≡ rule_denominator (rule_of c.args.parent) (length (ends_in c.args.level.now c.args.v)) = c.rule_denominator-p.ensures ∙ ap (rule_denominator (rule_of c.args.parent)) (many-ends c.args.level.now c.args.v c.valence-valence.result c.valence-valence.ensures.listed) in
    let r : c.rule_denominator-r.result ≡ rule_denominator (rule_of c.args.child) (length (ends_in c.args.level.now c.args.v)) = c.rule_denominator-r.ensures ∙ ap (rule_denominator (rule_of c.args.child)) (many-ends c.args.level.now c.args.v c.valence-valence.result c.valence-valence.ensures.listed) in
    ok-weaker c.spread.result _ _ (λ m same. two-joined c.args.level.now c.args.v c.facts.ensures c.requires.known (c.args.weight.num, c.args.weight.den) (rule_of c.args.parent) (rule_of c.args.child)
    c.rule_denominator-p.result c.rule_denominator-r.result c.common_multiple-multiple.result (seen_vertex m) p r c.common_multiple-multiple.ensures c.requires.parent c.requires.child same) c.spread.ensures.mask
