use Rattle.std.proofs.Common.{ℕ, List, sym, subst}
use Rattle.leaf_laws.specs.Paths.{LeadsTo}
use Rattle.leaf_laws.proofs.PathLemmas.{one-leaf}
use Rattle.leaf_laws.proofs.paths.paths_have_one_leaf.Goals as goal

pub returns : goal.returns
returns c = λ search two e.
    one-leaf search.grid search.further search.base search.predicate search.at two.leaf two.other two.path two.leads
    (subst (λ (path : List ℕ). LeadsTo search path two.other) (sym e) two.other_leads)
