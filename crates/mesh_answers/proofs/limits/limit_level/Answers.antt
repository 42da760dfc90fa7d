use Rattle.mesh_answers.proofs.LimitLemmas.{with-limits}
use Rattle.mesh_answers.proofs.limits.limit_level.Goals as goal

pub returns : goal.returns
returns c =
    with-limits c.args.mesh.now c.args.depth c.args.composed.level c.limit_table-limits.result c.with_table.result c.with_table.ensures c.limit_table-limits.ensures
