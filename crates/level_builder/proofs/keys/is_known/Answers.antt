use Rattle.level_builder.proofs.SearchLemmas.{search-known}
use Rattle.level_builder.proofs.keys.is_known.Goals as goal

pub returns : goal.returns
returns c = search-known c.args.keys.now c.args.key c.binary_search.result _ c.binary_search.ensures.position c.requires c.is_ok.ensures.value
