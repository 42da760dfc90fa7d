-- The lists of the next level at each step of putting them, and the child that they make.
use Rattle.std.proofs.Common.{◌≡◌, ℕ, ◌*◌, true, List, length, refl, ap, sym, ◌∙◌, subst, replicate}
use Rattle.std.specs.List.{sum_by}
use Rattle.subdiv_model.specs.Child.{child_level, child_points}
use Rattle.subdiv_model.specs.Level.{Level}
use Rattle.subdiv_model.specs.Sharpness.{Method}
use Rattle.level_topology.specs.Topology.{Topology, IsTopology}
use Rattle.level_topology.specs.Rows.{Counts, Rows, no_rows}
use Rattle.level_topology.specs.Child.{PointOrigin, ChildTopology, child_of}
use Rattle.uniform_refiner.specs.Put.{AreChildEdges, with_children, with_child_edges}
use Rattle.child_slots.specs.Slotted.{Slotted}
use Rattle.uniform_refiner.specs.Points.{ArePoints, counts_for, without_points}
use Rattle.uniform_refiner.proofs.WholeEdgeLemmas.{ends-all}
use Rattle.uniform_refiner.proofs.PutPointLemmas.{points-none}
use Rattle.uniform_refiner.proofs.WholeLemmas.{corners-total}
use Rattle.uniform_refiner.specs.Uniform.{IsUniform, origins_in, all_places}

pub start-points : (level : Level) (counts : Counts) (method : Method) (m k : ℕ) (rows : Rows) → rows ≡ with_child_edges level m (with_children level k (no_rows counts method)) → rows ≡ without_points rows
start-points level counts method m k rows e = subst (λ (r : Rows). r ≡ without_points r) (sym e) refl

-- a child with these origins and places is the whole next level
pub uniform-is : (t level : Topology) (origins : List PointOrigin) (places : List (ℕ × ℕ)) (child : ChildTopology) → child ≡ child_of t level origins places → origins ≡ origins_in t → places ≡ all_places 0 t.level.polygons → level.level ≡ child_level t.level → level.complete ≡ replicate (child_points t.level.point_count t.level.polygons) true → IsUniform t child
uniform-is t level origins places child is o p l c = record {
  of = is ∙ ap (λ (xs : List PointOrigin). child_of t level xs places) o ∙ ap (λ (xs : List (ℕ × ℕ)). child_of t level (origins_in t) xs) p ∙ ap (λ (k : Topology). child_of t k (origins_in t) (all_places 0 t.level.polygons)) (sym topology);
  level = ap (λ (k : Topology). k.level) topology ∙ l;
  complete = ap (λ (k : Topology). k.complete) topology ∙ c;
}
  where
    topology : child.topology ≡ level
    topology = ap (λ (k : ChildTopology). k.topology) is

module _ (t : Topology) (is : IsTopology t) (n : Slotted) (are : AreChildEdges t.level n) where
  abbrev pub made : Rows
  made = with_child_edges t.level (length n.ends) (with_children t.level (sum_by length t.level.polygons) (no_rows (counts_for t.level (length n.ends)) t.level.method))

  -- at first there is no point, and memory for all
  pub points-before : (rows : Rows) → rows ≡ with_child_edges t.level (length n.ends) (with_children t.level (sum_by length t.level.polygons) (no_rows (counts_for t.level (length n.ends)) t.level.method)) → ArePoints t.level 0 rows
  points-before rows e =
      points-none t is rows (start-points t.level (counts_for t.level (length n.ends)) t.level.method (length n.ends) (sum_by length t.level.polygons) rows e)
      (ap (λ (r : Rows). r.counts.points) e)
      (ap (λ (r : Rows). r.counts.face_places) e ∙ sym (corners-total t is))
      (ap (λ (r : Rows). r.counts.edge_places) e ∙ ap (λ es. 2 * length es) (ends-all t is n are))
