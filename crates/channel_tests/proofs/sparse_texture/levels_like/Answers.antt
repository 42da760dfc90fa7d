use Rattle.std.proofs.Common.{map, ap, sym, ◌∙◌, subst}
use Rattle.subdiv_model.specs.Feature.{is_feature}
use Rattle.subdiv_model.specs.Sparse.{predicate_to}
use Rattle.sparse_texture_laws.specs.Selection.{IsSelection}
use Rattle.channel_tests.proofs.SparseLemmas.{own-selection}
use Rattle.channel_tests.proofs.sparse_texture.levels_like.Goals as goal

pub refine_sparse_texture-requires-clause-selection : goal.refine_sparse_texture-requires-clause-selection
refine_sparse_texture-requires-clause-selection g c =
    let base = c.args.base.base in
    let are = c.in_ok-numbers.ensures base (predicate_to is_feature base c.args.depth) c.requires.levels.written in
    subst (IsSelection base c.args.depth) (sym (ap (map (λ n. n.items)) c.deref.ensures.value ∙ are)) (own-selection base c.args.depth)
