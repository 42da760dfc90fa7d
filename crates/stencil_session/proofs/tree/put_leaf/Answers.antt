use Rattle.std.proofs.Common.{rules}
use Rattle.std.proofs.lemmas.List.{drop-set-add}
use Rattle.stencil_session.proofs.tree.put_leaf.Goals as goal

pub returns-clause-leaves : goal.returns-clause-leaves
returns-clause-leaves c = search (rules, drop-set-add)
