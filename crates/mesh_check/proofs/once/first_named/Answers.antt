use Rattle.std.proofs.Common.{sym, subst, ap, ◌∙◌}
use Rattle.std.specs.List.{filter}
use Rattle.subdiv_model.specs.Polygons.{is_distinct}
use Rattle.subdiv_model.specs.Edges.{first_named}
use Rattle.level_builder.specs.Keys.{Rises, edge_key, each_once, is_unmarked}
use Rattle.mesh_check.proofs.OnceLemmas.{once-rise, once-distinct}
use Rattle.mesh_check.proofs.NamedLemmas.{named-start}
use Rattle.mesh_check.proofs.once.first_named.Goals as goal

pub new_sides-requires-clause-rises : goal.new_sides-requires-clause-rises
new_sides-requires-clause-rises c =
    let is = c.deref-2.ensures.value ∙ c.in_ok-keys.ensures ∙ ap each_once c.deref.ensures.value in
    subst Rises (sym is) (once-rise c.in_ok-edges.edges.items c.in_ok-edges.ensures.rises)

pub new_sides-requires-clause-once : goal.new_sides-requires-clause-once
new_sides-requires-clause-once c =
    let is = c.deref-2.ensures.value ∙ c.in_ok-keys.ensures ∙ ap each_once c.deref.ensures.value in
    ap is_distinct is ∙ once-distinct c.in_ok-edges.edges.items c.in_ok-edges.ensures.rises

pub returns : goal.returns
returns c =
    c.in_ok-found.ensures
    ∙ ap (λ keys. filter (λ s. is_unmarked keys c.in_ok-marks.marks.items (edge_key s)) (first_named c.args.sides.now)) c.deref-2.ensures.value
    ∙ named-start c.args.sides.now c.in_ok-edges.edges.items _ _ _ c.in_ok-edges.ensures.keys (c.in_ok-keys.ensures ∙ ap each_once c.deref.ensures.value) c.in_ok-marks.ensures
