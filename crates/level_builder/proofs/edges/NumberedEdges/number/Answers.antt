use Rattle.std.proofs.Common.{◌∙◌, ap, sym, ◌≡◌, ◌<◌, map, true, false, arith, rules, length, vec_len}
use Rattle.std.specs.List.{list_any}
use Rattle.std.proofs.lemmas.List.{get_or_default, map_push}
use Rattle.subdiv_model.specs.Polygons.{same_edge}
use Rattle.sharpness_rules.specs.View.{sharpness_of}
use Rattle.mesh_laws.proofs.EdgeLemmas.{position-within}
use Rattle.level_topology.specs.Numbering.{number_in}
use Rattle.level_builder.proofs.EdgeNumberLemmas.{known-edge, known-number, number-none}
use Rattle.level_builder.proofs.NumberedSideLemmas.{known-side, new-side, numbered-same}
use Rattle.level_builder.proofs.edges.NumberedEdges.number.Goals as goal

pub index_mut-requires : goal.index_mut-requires
index_mut-requires c =
    let there : list_any (same_edge c.args.side) c.self.inside.ends.items ≡ true = sym (known-edge c.args.side c.lower_first-key.result c.self.inside.keys.keys c.self.inside.ends.items c.lower_first-key.ensures c.self.invariant.keys_are) ∙ c.in-Some.ensures.0 in
    let number : c.in-Some.e ≡ number_in c.self.inside.ends.items c.args.side = c.in-Some.ensures.1 ∙ known-number c.args.side c.lower_first-key.result c.self.inside.keys.keys c.self.inside.ends.items c.lower_first-key.ensures c.self.invariant.keys_are in
    let n : vec_len c.self.inside.faces ≡ length c.self.inside.faces.items = search rules in
    omega (arith, n, number, position-within c.args.side c.self.inside.ends.items there, c.self.invariant.faces_listed)

pub overflow_cast-result : goal.overflow_cast-result
overflow_cast-result c =
    let there : list_any (same_edge c.args.side) c.self.inside.ends.items ≡ true = sym (known-edge c.args.side c.lower_first-key.result c.self.inside.keys.keys c.self.inside.ends.items c.lower_first-key.ensures c.self.invariant.keys_are) ∙ c.in-Some.ensures.0 in
    let number : c.in-Some.e ≡ number_in c.self.inside.ends.items c.args.side = c.in-Some.ensures.1 ∙ known-number c.args.side c.lower_first-key.result c.self.inside.keys.keys c.self.inside.ends.items c.lower_first-key.ensures c.self.invariant.keys_are in
    record { fits = omega (arith, number, position-within c.args.side c.self.inside.ends.items there, c.self.invariant.within, c.self.invariant.few) }

pub returns-in-Some-clause-number : goal.returns-in-Some-clause-number
returns-in-Some-clause-number c =
    rw (← c.self.view_is)
    (c.in-Some.ensures.1 ∙ known-number c.args.side c.lower_first-key.result c.self.inside.keys.keys c.self.inside.ends.items c.lower_first-key.ensures c.self.invariant.keys_are)

pub returns-in-Some-clause-numbered : goal.returns-in-Some-clause-numbered
returns-in-Some-clause-numbered c =
    let there : list_any (same_edge c.args.side) c.self.inside.ends.items ≡ true = sym (known-edge c.args.side c.lower_first-key.result c.self.inside.keys.keys c.self.inside.ends.items c.lower_first-key.ensures c.self.invariant.keys_are) ∙ c.in-Some.ensures.0 in
    let number : c.in-Some.e ≡ number_in c.self.inside.ends.items c.args.side = c.in-Some.ensures.1 ∙ known-number c.args.side c.lower_first-key.result c.self.inside.keys.keys c.self.inside.ends.items c.lower_first-key.ensures c.self.invariant.keys_are in
    let inside : c.in-Some.e < length c.self.inside.faces.items = omega (arith, number, position-within c.args.side c.self.inside.ends.items there, c.self.invariant.faces_listed) in
    rw (← c.self.view_is)
    (known-side c.args.face _ c.args.side c.in-Some.e c.index_mut.result.now there number (c.index_mut.ensures.value ∙ get_or_default c.self.inside.faces.items c.in-Some.e c.index_mut.result.now (0, 0) inside))

pub add_key-requires-clause-absent : goal.add_key-requires-clause-absent
add_key-requires-clause-absent c = c.in_default.ensures

pub returns-clause-number : goal.returns-clause-number
returns-clause-number c =
    let none : list_any (same_edge c.args.side) c.self.inside.ends.items ≡ false = sym (known-edge c.args.side c.lower_first-key.result c.self.inside.keys.keys c.self.inside.ends.items c.lower_first-key.ensures c.self.invariant.keys_are) ∙ c.in_default.ensures in
    rw (← c.self.view_is) (c.len-e.ensures ∙ rw (← c.self.view_is) (sym (number-none c.args.side c.self.inside.ends.items none)))

pub returns-clause-numbered : goal.returns-clause-numbered
returns-clause-numbered c =
    let none : list_any (same_edge c.args.side) c.self.inside.ends.items ≡ false = sym (known-edge c.args.side c.lower_first-key.result c.self.inside.keys.keys c.self.inside.ends.items c.lower_first-key.ensures c.self.invariant.keys_are) ∙ c.in_default.ensures in
    rw (← c.self.view_is)
    (numbered-same c.push_reserved.ensures.items c.push_reserved-2.ensures.items (ap (map sharpness_of) c.push_reserved-3.ensures.items ∙ map_push sharpness_of c.self.inside.sharpness.items _)
    ∙ new-side c.args.face _ c.args.side none)
