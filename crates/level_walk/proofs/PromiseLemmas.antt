-- The promise of a step about a child, for both schemes.
use Rattle.std.proofs.Common.{refl}
use Rattle.subdiv_model.specs.Mask.{Scheme, CatmullClark}
use Rattle.level_topology.specs.Topology.{Topology}
use Rattle.level_topology.specs.Child.{ChildTopology}
use Rattle.child_masks.specs.Masks.{CanRefine}

-- the conditions under Catmull and Clark's scheme are enough for each scheme
pub for-scheme : (parent : Topology) (child : ChildTopology) (scheme : Scheme) → CanRefine parent child CatmullClark → CanRefine parent child scheme
for-scheme parent child scheme can = record {
  vertices = can.vertices;
  faces = can.faces;
  edges = can.edges;
  complete = can.complete;
  inside = λ same. can.inside refl;
  boundary = λ same. can.boundary refl;
  fine = λ same. can.fine refl;
}
