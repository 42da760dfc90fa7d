use Rattle.std.proofs.Common.{ap, arith, length}
use Rattle.std.proofs.lemmas.List.{length-map}
use Rattle.sharpness_rules.specs.View.{sharpness_of}
use Rattle.point_fans.specs.Parts.{edges_in}
use Rattle.point_fans.proofs.PointPlaceLemmas.{edges-few}
use Rattle.point_fans.proofs.numbered_faces.NumberedFaces.sharps.Goals as goal

pub from_slice-requires-2 : goal.from_slice-requires-2
from_slice-requires-2 c =
    omega (
      arith,
      ap length c.deref-2.ensures.value,
      length-map c.self.inside.parts.edge_sharpness.items sharpness_of,
      c.self.invariant.numbering.sharp_listed,
      edges-few c.self.inside.parts.faces.lists (edges_in c.self.inside.parts) c.self.invariant.numbering,
      c.self.invariant.small.corners,
    )
