use Rattle.level_topology.proofs.CodeLemmas.{kept-push, fewer}
use Rattle.std.proofs.Common.{◌≡◌, arith, rules, length, map, vec_len}
use Rattle.std.proofs.lemmas.List.{length-map}
use Rattle.sharpness_rules.specs.View.{sharpness_of}
use Rattle.level_topology.proofs.sharpness_list.SharpnessList.push.Goals as goal

pub returns : goal.returns
returns c =
    rw (← c.self.view_is, c.push_reserved.ensures.items)
    (kept-push c.self.inside.values.items c.code_of-code.new.values.items c.args.s c.self.inside.codes.items c.code_of-code.result c.self.inside.limit c.self.invariant.each c.code_of-code.ensures.kept c.code_of-code.ensures.value)

pub code_of-code-requires-clause-some : goal.code_of-code-requires-clause-some
code_of-code-requires-clause-some c = omega (arith, c.self.invariant.some, length-map c.self.inside.values.items sharpness_of)

pub code_of-code-requires-clause-room : goal.code_of-code-requires-clause-room
code_of-code-requires-clause-room c =
    let n : vec_len c.self.inside.values ≡ length c.self.inside.values.items = search rules in
    omega (arith, n, c.self.invariant.value_fit, length-map c.self.inside.values.items sharpness_of, fewer (map sharpness_of c.self.inside.values.items) c.self.inside.codes.items c.self.inside.limit c.args.self.now c.self.view_is c.requires)

pub code_of-code-requires-clause-few : goal.code_of-code-requires-clause-few
code_of-code-requires-clause-few c =
    omega (arith, c.self.invariant.few_values, c.self.invariant.few, length-map c.self.inside.values.items sharpness_of, fewer (map sharpness_of c.self.inside.values.items) c.self.inside.codes.items c.self.inside.limit c.args.self.now c.self.view_is c.requires)

pub push_reserved-requires : goal.push_reserved-requires
push_reserved-requires c =
    let n : vec_len c.self.inside.codes ≡ length c.self.inside.codes.items = search rules in
    omega (arith, n, c.self.invariant.code_fit, fewer (map sharpness_of c.self.inside.values.items) c.self.inside.codes.items c.self.inside.limit c.args.self.now c.self.view_is c.requires)
