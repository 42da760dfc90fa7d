use Rattle.std.proofs.Common.{subst, sym, ◌∙◌, ap}
use Rattle.subdiv_model.specs.Polygons.{is_among}
use Rattle.level_builder.specs.Keys.{Rises, repeats}
use Rattle.level_builder.proofs.KeyLemmas.{repeats-rise}
use Rattle.level_builder.proofs.SearchLemmas.{sorted-rises, often-moved}
use Rattle.level_builder.proofs.keys.frequent.Goals as goal

pub returns-clause-rises : goal.returns-clause-rises
returns-clause-rises c = subst Rises (sym (c.in_ok-found.ensures ∙ ap (repeats c.args.limit) c.deref.ensures.value)) (repeats-rise c.args.limit _ (sorted-rises _ c.sort_unstable.ensures.sorted))

pub returns-clause-often : goal.returns-clause-often
returns-clause-often c = λ n.
    ap (λ xs. is_among xs n) (c.in_ok-found.ensures ∙ ap (repeats c.args.limit) c.deref.ensures.value) ∙ often-moved c.args.limit _ _ c.sort_unstable.ensures.permutation (sorted-rises _ c.sort_unstable.ensures.sorted) n
