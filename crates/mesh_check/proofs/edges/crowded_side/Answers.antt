use Rattle.std.proofs.Common.{◌∙◌, ap, false}
use Rattle.std.specs.List.{find}
use Rattle.level_builder.specs.Keys.{is_named}
use Rattle.level_builder.proofs.SearchLemmas.{crowded-found}
use Rattle.mesh_check.proofs.edges.crowded_side.Goals as goal

pub returns : goal.returns
returns c = c.find_side.ensures ∙ ap (λ found. find (is_named false found) c.args.sides.now) c.deref.ensures.value ∙ crowded-found c.args.sides.now _ _ c.in_ok-edge_keys.ensures.words c.in_ok-edge_keys.ensures.keys c.in_ok-crowded.ensures.often
