use Rattle.std.proofs.Common.{◌∙◌, ap, sym, ◌≡◌, true, arith, rules, length, vec_len, map, set, refl}
use Rattle.std.specs.List.{list_any}
use Rattle.std.proofs.lemmas.List.{map-set}
use Rattle.subdiv_model.specs.Polygons.{same_edge}
use Rattle.sharpness_rules.specs.View.{sharpness_of}
use Rattle.mesh_laws.proofs.EdgeLemmas.{position-within}
use Rattle.level_topology.specs.Numbering.{Numbered, number_in}
use Rattle.level_builder.proofs.NumberedSideLemmas.{numbered-same}
use Rattle.level_builder.proofs.edges.NumberedEdges.set_sharpness.Goals as goal

pub index_mut-requires : goal.index_mut-requires
index_mut-requires c =
    let there : list_any (same_edge (c.args.a, c.args.b)) c.self.inside.ends.items ≡ true = ap (λ (n : Numbered). list_any (same_edge (c.args.a, c.args.b)) n.ends) c.self.view_is ∙ c.requires in
    let number : c.find-e.result ≡ number_in c.self.inside.ends.items (c.args.a, c.args.b) = c.find-e.ensures ∙ sym (ap (λ (n : Numbered). number_in n.ends (c.args.a, c.args.b)) c.self.view_is) in
    let n : vec_len c.self.inside.sharpness ≡ length c.self.inside.sharpness.items = search rules in
    omega (arith, n, number, position-within (c.args.a, c.args.b) c.self.inside.ends.items there, c.self.invariant.sharp_listed)

pub returns : goal.returns
returns c =
    let number : c.find-e.result ≡ number_in c.self.inside.ends.items (c.args.a, c.args.b) = c.find-e.ensures ∙ sym (ap (λ (n : Numbered). number_in n.ends (c.args.a, c.args.b)) c.self.view_is) in
    rw (← c.self.view_is)
    (numbered-same refl refl (map-set sharpness_of c.self.inside.sharpness.items c.find-e.result c.args.s ∙ ap (λ e. set (map sharpness_of c.self.inside.sharpness.items) e (sharpness_of c.args.s)) number))
