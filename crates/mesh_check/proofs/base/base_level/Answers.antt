use Rattle.std.proofs.Common.{ap, ◌∙◌}
use Rattle.std.proofs.lemmas.Result.{IfOk-weaker}
use Rattle.point_fans.specs.Built.{Built}
use Rattle.mesh_check.proofs.BaseLemmas.{base-fans, base-level}
use Rattle.mesh_check.proofs.base.base_level.Goals as goal

pub finish-requires : goal.finish-requires
finish-requires g c = record { fans = base-fans c.args.raw.now _ _ c.requires.fit c.in_ok-add_all.ensures.all }

pub returns-clause-level : goal.returns-clause-level
returns-clause-level g c =
    IfOk-weaker c.finish.result _ _ (λ level made. made ∙ ap (λ (b : Built). b.level) c.in_ok-add_all.ensures.all ∙ base-level c.args.raw.now c.args.holes.now c.requires.holes) c.finish.ensures.level

pub returns-clause-complete : goal.returns-clause-complete
returns-clause-complete g c =
    IfOk-weaker c.finish.result _ _ (λ level made. made ∙ ap (λ (b : Built). b.complete) c.in_ok-add_all.ensures.all) c.finish.ensures.complete
