use Rattle.std.proofs.Common.{subst}
use Rattle.level_topology.specs.Topology.{Topology}
use Rattle.limit_stencils.specs.Limits.{IsQuadComposition}
use Rattle.limit_stencils.proofs.table.limit_table_of_quads.Goals as goal

pub returns : goal.returns
returns c = subst (λ (t : Topology). IsQuadComposition t.level c.args.table.now c.limit_rows.result) c.in_ok-masks.ensures.0 c.limit_rows.ensures
