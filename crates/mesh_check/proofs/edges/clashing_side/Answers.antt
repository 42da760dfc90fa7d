use Rattle.std.proofs.Common.{◌∙◌, ap, true}
use Rattle.std.specs.List.{find}
use Rattle.level_builder.specs.Keys.{is_named}
use Rattle.level_builder.proofs.SearchLemmas.{clashing-found}
use Rattle.mesh_check.proofs.edges.clashing_side.Goals as goal

pub returns : goal.returns
returns c = c.find_side.ensures ∙ ap (λ found. find (is_named true found) c.args.sides.now) c.deref.ensures.value ∙ clashing-found c.args.sides.now _ _ c.in_ok-side_keys.ensures.words c.in_ok-side_keys.ensures.keys c.in_ok-twice.ensures.often
