use Rattle.std.proofs.Common.{arith}
use Rattle.point_fans.proofs.PointPlaceLemmas.{edges-few}
use Rattle.point_fans.specs.Parts.{edges_in}
use Rattle.point_fans.proofs.numbered_faces.NumberedFaces.rows_with.Goals as goal

pub overflow_mul-len : goal.overflow_mul-len
overflow_mul-len c =
    record { fits = omega (arith, c.len.ensures, edges-few c.self.inside.parts.faces.lists (edges_in c.self.inside.parts) c.self.invariant.numbering, c.self.invariant.small.corners) }

pub overflow_cast-len : goal.overflow_cast-len
overflow_cast-len c =
    record { fits = omega (arith, c.len.ensures, edges-few c.self.inside.parts.faces.lists (edges_in c.self.inside.parts) c.self.invariant.numbering, c.self.invariant.small.corners) }
