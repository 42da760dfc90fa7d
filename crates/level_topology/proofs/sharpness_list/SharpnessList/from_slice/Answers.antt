use Rattle.std.proofs.Common.{◌≡◌, ◌∙◌, ap, arith, length, map, take}
use Rattle.std.proofs.lemmas.List.{length-map, length-take, take_all}
use Rattle.sharpness_rules.specs.View.{sharpness_of}
use Rattle.level_topology.specs.Coded.{Kept, kept}
use Rattle.level_topology.proofs.CodeLemmas.{kept-more}
use Rattle.level_topology.proofs.sharpness_list.SharpnessList.from_slice.Goals as goal

pub push-requires : goal.push-requires
push-requires c =
    let e : c.loop-i.sharps ≡ kept (map sharpness_of (take c.loop-i.i c.args.values.now)) (length c.args.values.now) = c.loop-i.invariant in
    omega (arith, ap (λ (k : Kept). length k.sharpness) e, ap (λ (k : Kept). k.limit) e, length-map (take c.loop-i.i c.args.values.now) sharpness_of, length-take c.loop-i.i c.args.values.now, c.loop-i-test.true)

pub loop-i-preserved : goal.loop-i-preserved
loop-i-preserved c = kept-more c.args.values.now c.loop-i.i (length c.args.values.now) c.index-values-i.result c.loop-i.sharps c.push.new.self c.loop-i-test.true c.loop-i.invariant c.index-values-i.is c.push.ensures

pub fitted-requires : goal.fitted-requires
fitted-requires c =
    let e : c.loop-i.sharps ≡ kept (map sharpness_of (take c.loop-i.i c.args.values.now)) (length c.args.values.now) = c.loop-i.invariant in
    omega (arith, ap (λ (k : Kept). length k.sharpness) e, ap (λ (k : Kept). k.limit) e, length-map (take c.loop-i.i c.args.values.now) sharpness_of, length-take c.loop-i.i c.args.values.now, c.loop-i-test.false)

pub returns : goal.returns
returns c =
    let e : c.loop-i.sharps ≡ kept (map sharpness_of (take c.loop-i.i c.args.values.now)) (length c.args.values.now) = c.loop-i.invariant in
    c.fitted.ensures ∙ e ∙ ap (λ xs. kept (map sharpness_of xs) (length c.args.values.now)) (take_all c.loop-i.i c.args.values.now c.loop-i-test.false)
