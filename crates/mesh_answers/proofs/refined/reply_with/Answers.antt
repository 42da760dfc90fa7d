use Rattle.std.proofs.Common.{arith, subst}
use Rattle.far_words.specs.View.{refine_of_code, uv_of_code}
use Rattle.mesh_answers.specs.StepCounts.{texture_steps}
use Rattle.mesh_answers.specs.Tracks.{IsBaseTexture}
use Rattle.mesh_answers.proofs.EndLemmas.{untextured}
use Rattle.mesh_answers.proofs.ReplyLemmas.{any-steps}
use Rattle.mesh_answers.proofs.refined.reply_with.Goals as goal

pub returns-in-None-clause-steps : goal.returns-in-None-clause-steps
returns-in-None-clause-steps g c =
    let mesh = c.args.mesh.now in
    let options = refine_of_code c.args.options.now in
    let none = subst (IsBaseTexture (uv_of_code c.args.options.now.uv) mesh) c.in-None.is c.requires.base in
    any-steps _ _ _ _ _ (omega (arith, untextured mesh (texture_steps options mesh) none)) (omega arith) (omega arith)
