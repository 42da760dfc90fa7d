use Rattle.std.proofs.Common.{arith, ap, ◌∙◌, length}
use Rattle.std.proofs.lemmas.Bool.Decides.{nat_tests}
use Rattle.level_walk.proofs.PointLemmas.{faces-listed}
use Rattle.level_walk.proofs.points.is_used.Goals as goal

pub returns : goal.returns
returns c =
    let count = ap length c.vertex_faces.ensures ∙ faces-listed c.args.level.now c.args.v c.facts.ensures c.requires in
    grind (arith, nat_tests, count, c.is_empty.ensures)
