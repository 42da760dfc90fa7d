use Rattle.std.proofs.Common.{◌≡◌, ◌<◌, ◌∙◌, arith, rules, ap, sym, length, map, get_or, vec_len}
use Rattle.std.proofs.lemmas.List.{length-map, get_or-map, get_or_default}
use Rattle.subdiv_model.specs.Sharpness.{Smooth}
use Rattle.sharpness_rules.specs.View.{sharpness_of}
use Rattle.level_topology.specs.Coded.{Kept}
use Rattle.level_topology.proofs.CodeLemmas.{code-inside}
use Rattle.level_topology.proofs.sharpness_list.SharpnessList.at.Goals as goal

pub index-requires : goal.index-requires
index-requires c =
    let n : vec_len c.self.inside.codes ≡ length c.self.inside.codes.items = search rules in
    omega (arith, n, code-inside (map sharpness_of c.self.inside.values.items) c.self.inside.codes.items c.args.i _ (ap (λ (k : Kept). k.sharpness) c.self.view_is) c.requires)

pub index-requires-2 : goal.index-requires-2
index-requires-2 c =
    let inside : c.args.i < length c.self.inside.codes.items = code-inside (map sharpness_of c.self.inside.values.items) c.self.inside.codes.items c.args.i _ (ap (λ (k : Kept). k.sharpness) c.self.view_is) c.requires in
    let code : c.index.result.now ≡ get_or c.self.inside.codes.items c.args.i 0 = c.index.ensures ∙ get_or_default c.self.inside.codes.items c.args.i c.index.result.now 0 inside in
    let n : vec_len c.self.inside.values ≡ length c.self.inside.values.items = search rules in
    omega (arith, n, code, c.self.invariant.each c.args.i inside, length-map c.self.inside.values.items sharpness_of)

pub returns : goal.returns
returns c =
    let values = c.self.inside.values.items in
    let codes = c.self.inside.codes.items in
    let inside : c.args.i < length codes = code-inside (map sharpness_of values) codes c.args.i _ (ap (λ (k : Kept). k.sharpness) c.self.view_is) c.requires in
    let code : c.index.result.now ≡ get_or codes c.args.i 0 = c.index.ensures ∙ get_or_default codes c.args.i c.index.result.now 0 inside in
    let below : c.index.result.now < length values = omega (arith, code, c.self.invariant.each c.args.i inside, length-map values sharpness_of) in
    rw (← c.self.view_is)
    (ap sharpness_of c.index-2.ensures ∙ sym (get_or-map sharpness_of values c.index.result.now c.index-2.result.now Smooth below) ∙ ap (λ k. get_or (map sharpness_of values) k Smooth) code
    ∙ sym (get_or-map (λ k. get_or (map sharpness_of values) k Smooth) codes c.args.i 0 Smooth inside))
