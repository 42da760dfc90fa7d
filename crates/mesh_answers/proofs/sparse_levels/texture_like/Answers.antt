use Rattle.std.proofs.Common.{arith, map, ap, ◌∙◌}
use Rattle.subdiv_model.specs.Base.{base_level}
use Rattle.far_model.specs.Answer.{predicate_for}
use Rattle.far_words.specs.View.{sparse_of_code}
use Rattle.mesh_answers.proofs.sparse_levels.texture_like.Goals as goal

pub texture_levels-requires-clause-numbers : goal.texture_levels-requires-clause-numbers
texture_levels-requires-clause-numbers g c =
    let levels = c.requires.levels in
    ap (map (λ list. list.items)) c.deref.ensures.value
    ∙ c.in_ok-numbers.ensures (base_level c.args.mesh.now) (predicate_for (sparse_of_code c.args.options.now) c.args.mesh.now)
    (λ k d h. (levels.each k d (omega (arith, h, levels.count))).faces)
