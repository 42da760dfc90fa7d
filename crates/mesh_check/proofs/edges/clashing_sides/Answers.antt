use Rattle.std.proofs.Common.{◌∙◌, ap, true}
use Rattle.std.specs.List.{filter}
use Rattle.level_builder.specs.Keys.{is_named}
use Rattle.level_builder.proofs.SearchLemmas.{clashing-kept}
use Rattle.mesh_check.proofs.edges.clashing_sides.Goals as goal

pub returns : goal.returns
returns c = c.in_ok-found.ensures ∙ ap (λ found. filter (is_named true found) c.args.sides.now) c.deref.ensures.value ∙ clashing-kept c.args.sides.now _ _ c.in_ok-side_keys.ensures.words c.in_ok-side_keys.ensures.keys c.in_ok-twice.ensures.often
