use Rattle.subdiv_model.specs.Sharpness.{uniform_child}
use Rattle.subdiv_model.specs.Level.{edge_sharpness_of, vertex_sharpness_of, edges_at, faces_at}
use Rattle.subdiv_model.specs.Mask.{other_end}
use Rattle.sharpness_laws.proofs.RuleOrderLemmas.{same_mask-any_order, same-vertex, same-next_vertex}
use Rattle.sharpness_laws.proofs.masks.vertex_masks_do_not_see_the_order.Goals as goal

pub returns-clause-same_mask : goal.returns-clause-same_mask
returns-clause-same_mask c = λ vertex. same_mask-any_order (λ edge. edge.0) (λ edge. edge.1) vertex.0 vertex.1

pub returns-clause-mask : goal.returns-clause-mask
returns-clause-mask c = λ vertex v star other same.
    same-vertex (λ edge. edge.1.0) (λ edge. edge.1.1) vertex.0 vertex.1 star.edges other.edges same.edges (λ edge. edge.0) v star.faces other.faces same.faces

pub returns-clause-ring : goal.returns-clause-ring
returns-clause-ring c = λ method vertex v star other same.
    same-next_vertex (λ edge. edge.1) method vertex.0 vertex.1 star.edges other.edges same.edges (λ edge. edge.0) v star.faces other.faces same.faces

pub returns-clause-level : goal.returns-clause-level
returns-clause-level c = λ level v order.
    let vertex = vertex_sharpness_of level v in
    same-next_vertex (edge_sharpness_of level) level.method vertex (uniform_child vertex) (edges_at level v) order.edges order.all_edges
    (other_end v) v (faces_at level v) order.faces order.all_faces
