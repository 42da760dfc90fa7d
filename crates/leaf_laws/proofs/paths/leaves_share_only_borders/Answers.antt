use Rattle.leaf_laws.proofs.PathLemmas.{leaves-share}
use Rattle.leaf_laws.proofs.paths.leaves_share_only_borders.Goals as goal

pub returns : goal.returns
returns c = λ search two is apart.
    leaves-share search.grid search.further search.base search.predicate search.at two.leaf two.other two.path two.other_path is apart two.leads two.other_leads
