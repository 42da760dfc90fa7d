use Rattle.std.proofs.Common.{◌∙◌, ap, false}
use Rattle.std.specs.List.{filter}
use Rattle.level_builder.specs.Keys.{is_named}
use Rattle.level_builder.proofs.SearchLemmas.{crowded-kept}
use Rattle.mesh_check.proofs.edges.crowded_sides.Goals as goal

pub returns : goal.returns
returns c = c.in_ok-found.ensures ∙ ap (λ found. filter (is_named false found) c.args.sides.now) c.deref.ensures.value ∙ crowded-kept c.args.sides.now _ _ c.in_ok-edge_keys.ensures.words c.in_ok-edge_keys.ensures.keys c.in_ok-crowded.ensures.often
