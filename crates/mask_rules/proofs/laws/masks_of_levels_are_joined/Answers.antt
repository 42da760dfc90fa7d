use Rattle.subdiv_model.specs.Polygons.{polygon_at}
use Rattle.mask_rules.proofs.EqualLemmas.{joined-edge_mask, joined-vertex_mask}
use Rattle.sharpness_laws.proofs.MaskValueLemmas.{joined-corners}
use Rattle.mask_rules.proofs.laws.masks_of_levels_are_joined.Goals as goal

pub returns-clause-face : goal.returns-clause-face
returns-clause-face c level f = joined-corners (polygon_at level.polygons f)

pub returns-clause-edge : goal.returns-clause-edge
returns-clause-edge c level scheme edge = joined-edge_mask level edge scheme

pub returns-clause-vertex : goal.returns-clause-vertex
returns-clause-vertex c level scheme v = joined-vertex_mask level v scheme
