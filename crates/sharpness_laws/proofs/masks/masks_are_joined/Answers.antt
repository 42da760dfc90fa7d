use Rattle.sharpness_laws.proofs.MaskValueLemmas.{joined-mask_of, joined-corners, joined-edge, joined-vertex}
use Rattle.sharpness_laws.proofs.masks.masks_are_joined.Goals as goal

pub returns-clause-mask_of : goal.returns-clause-mask_of
returns-clause-mask_of c = joined-mask_of

pub returns-clause-corners : goal.returns-clause-corners
returns-clause-corners c = joined-corners

pub returns-clause-edge : goal.returns-clause-edge
returns-clause-edge c s edge faces = joined-edge edge faces s

pub returns-clause-vertex : goal.returns-clause-vertex
returns-clause-vertex c vertex vertex_child ring ring_child v ends faces = joined-vertex v ends faces vertex vertex_child ring ring_child
