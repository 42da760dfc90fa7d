use Rattle.std.proofs.Common.{◌∙◌, ap, sym, length, get_or, arith, subst, List, ℕ, ◌<◌}
use Rattle.std.specs.List.{All}
use Rattle.level_builder.specs.Keys.{ends_of_key}
use Rattle.mesh_check.proofs.BoundaryLemmas.{faultless-simple}
use Rattle.mesh_check.proofs.CountLemmas.{point-count}
use Rattle.mesh_check.proofs.EndLemmas.{keys-inside, once-few, ends-counted}
use Rattle.mesh_check.proofs.valence.valence_fault.Goals as goal

pub edge_counts-requires-clause-inside : goal.edge_counts-requires-clause-inside
edge_counts-requires-clause-inside c =
    subst (λ points. All (λ key. All (λ v. v < points) (ends_of_key key)) c.args.edges.now) (sym (point-count c.points.result.now _ c.points.ensures))
    (keys-inside (length c.args.raw.now.points) c.args.raw.now.faces c.args.edges.now c.facts.ensures.faces c.requires.keys)

pub edge_counts-requires-clause-few : goal.edge_counts-requires-clause-few
edge_counts-requires-clause-few c = omega (arith, once-few c.args.raw.now.faces c.args.edges.now c.requires.keys, c.facts.ensures.few_corners)

pub crowded_vertex-requires-clause-counts : goal.crowded_vertex-requires-clause-counts
crowded_vertex-requires-clause-counts c = λ v.
    ap (λ (counts : List ℕ). get_or counts v 0) c.deref.ensures.value
    ∙ c.in_ok-counts.ensures.counts v
    ∙ ends-counted c.args.raw.now.faces c.args.edges.now v (faultless-simple (length c.args.raw.now.points) c.args.raw.now.faces c.requires.sound) c.requires.keys
