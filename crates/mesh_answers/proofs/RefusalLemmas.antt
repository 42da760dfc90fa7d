-- The refusal of a mesh, from its faults.
use Rattle.std.proofs.Common.{◌≡◌, ℕ, List, ◌++◌, length, Option, Some, None, Result, Ok, Err, IsErr, IsErrAnd, MatchResult, ap, sym, subst, ◌∙◌}
use Rattle.std.proofs.lemmas.List.{append_assoc}
use Rattle.subdiv_model.specs.Lists.{first_of}
use Rattle.subdiv_model.specs.Manifold.{IsManifold}
use Rattle.subdiv_model.specs.ObjMesh.{ObjMesh}
use Rattle.subdiv_model.specs.Fault.{Fault, Usage, Read, Long, Obj, Mesh, Place, Table, Differs, Controls, TooLarge, Overflow, Limit, Write, Memory}
use Rattle.subdiv_model.specs.MeshFault.{MeshFault, first_mesh_fault}
use Rattle.subdiv_model.specs.Limits.{count_faults, level_count_faults}
use Rattle.mesh_laws.proofs.FaultLemmas.{fault-decides}
use Rattle.mesh_laws.proofs.WalkLemmas.{manifold-decides}
use Rattle.level_walk.proofs.UniformFaultLemmas.{first-here, first-behind}
use Rattle.level_topology.specs.Topology.{Topology}
use Rattle.far_fault.specs.declared.fault.FarFault.{FarFault}
use Rattle.mesh_answers.specs.Refusals.{IsFound, refusal_by, refusal_unless}
use Rattle.mesh_answers.specs.Levels.{IsLevelWithin, IsSmallManifold}

module _ (mesh : ObjMesh) (manifold : first_mesh_fault (length mesh.points) mesh.faces ≡ None) where
  -- a manifold is refused for the first fault of its counts and of the others
  refusal-of-manifold : (faults : List Fault) → refusal_by faults mesh ≡ first_of (count_faults mesh ++ faults)
  refusal-of-manifold faults = ap (λ f. refusal_unless f (first_of (count_faults mesh ++ faults))) manifold

  -- a manifold whose counts are within their limits is refused for the first of the other faults
  pub refusal-of-small : (faults : List Fault) → first_of (count_faults mesh) ≡ None → refusal_by faults mesh ≡ first_of faults
  refusal-of-small faults small = refusal-of-manifold faults ∙ first-behind (count_faults mesh) faults small

  pub is-manifold : IsManifold (length mesh.points) mesh.faces
  is-manifold = (manifold-decides (length mesh.points) mesh.faces).0 ((fault-decides (length mesh.points) mesh.faces).0 manifold)

-- the first of some faults is the first of a list that begins with them
pub found-here : (fault : Fault) (xs ys : List Fault) → IsFound fault (first_of xs) → IsFound fault (first_of (xs ++ ys))
found-here Memory xs ys found = tt
found-here (Obj fault) xs ys found = first-here xs ys (Obj fault) found
found-here (Mesh fault) xs ys found = first-here xs ys (Mesh fault) found
found-here (TooLarge counted) xs ys found = first-here xs ys (TooLarge counted) found
found-here (Overflow track level kind) xs ys found = first-here xs ys (Overflow track level kind) found
found-here (Limit cause) xs ys found = first-here xs ys (Limit cause) found
found-here (Place fault) xs ys found = first-here xs ys (Place fault) found
found-here (Table fault) xs ys found = first-here xs ys (Table fault) found
found-here (Differs row) xs ys found = first-here xs ys (Differs row) found
found-here (Controls count) xs ys found = first-here xs ys (Controls count) found
found-here (Usage word) xs ys found = found
found-here Read xs ys found = found
found-here Long xs ys found = found
found-here Write xs ys found = found

module _ (depth : ℕ) (mesh : ObjMesh) (fine : IsSmallManifold depth mesh) (others : List Fault) where
  -- if no level has too many faces, the first fault is one that comes after
  pub refusal-of-others : refusal_by (level_count_faults mesh.faces depth ++ others) mesh ≡ first_of others
  refusal-of-others = refusal-of-small mesh fine.manifold (level_count_faults mesh.faces depth ++ others) fine.small
      ∙ first-behind (level_count_faults mesh.faces depth) others fine.few

  pub found-of-others : (fault : Fault) → IsFound fault (first_of others) → IsFound fault (refusal_by (level_count_faults mesh.faces depth ++ others) mesh)
  found-of-others fault found = subst (IsFound fault) (sym refusal-of-others) found

module _ (faults others : List Fault) (mesh : ObjMesh) where
  -- if there is none of some faults, the first fault is that of the others behind them
  pub refusal-behind : refusal_by faults mesh ≡ None → refusal_by (faults ++ others) mesh ≡ first_of others
  refusal-behind none = go (first_mesh_fault (length mesh.points) mesh.faces) none
    where
      go : (wrong : Option MeshFault) → refusal_unless wrong (first_of (count_faults mesh ++ faults)) ≡ None
          → refusal_unless wrong (first_of (count_faults mesh ++ (faults ++ others))) ≡ first_of others
      go (Some fault) none = absurd (cc)
      go None none = ap first_of (sym (append_assoc (count_faults mesh) faults others)) ∙ first-behind (count_faults mesh ++ faults) others none

  -- a fault of some faults is a fault of a list that begins with them
  pub found-before : (fault : Fault) → IsFound fault (refusal_by faults mesh) → IsFound fault (refusal_by (faults ++ others) mesh)
  found-before fault found = go (first_mesh_fault (length mesh.points) mesh.faces) found
    where
      go : (wrong : Option MeshFault) → IsFound fault (refusal_unless wrong (first_of (count_faults mesh ++ faults)))
          → IsFound fault (refusal_unless wrong (first_of (count_faults mesh ++ (faults ++ others))))
      go (Some wrong) found = found
      go None found =
          subst (IsFound fault) (ap first_of (append_assoc (count_faults mesh) faults others)) (found-here fault (count_faults mesh ++ faults) others found)

-- level 0 of a mesh that is small enough
pub small-manifold : (depth : ℕ) (mesh : ObjMesh) (level : Topology) → IsLevelWithin depth mesh level → IsSmallManifold depth mesh
small-manifold depth mesh level is = record { manifold = is.accepted.manifold; small = is.accepted.small; few = is.few }

-- the result is passed on unchanged
pub handed-on : {A : Type 0} (P : A → Type 0) (Q : FarFault → Type 0) (r : Result A FarFault) (f : FarFault) → IsErr r → IsErrAnd r (λ g. g ≡ f) → Q f → MatchResult r P Q
handed-on P Q (Ok x) f err same q = absurd same
handed-on P Q (Err g) f err same q = subst Q (sym same) q
