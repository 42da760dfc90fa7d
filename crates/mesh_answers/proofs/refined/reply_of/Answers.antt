use Rattle.far_words.specs.View.{refine_of_code}
use Rattle.mesh_answers.proofs.RefineLemmas.{refined-reply}
use Rattle.mesh_answers.proofs.refined.reply_of.Goals as goal

pub returns : goal.returns
returns c =
    refined-reply c.args.mesh.now (refine_of_code c.args.options.now) _ _ c.requires.fine c.requires.range.1 c.scale.ensures c.form_of.ensures.decimals c.form_of.ensures.tags
    c.requires.positions c.requires.texture
