-- A whole level as a sparse one.
use Rattle.std.proofs.Common.{◌≡◌, ℕ, ◌<◌, Bool, true, false, List, length, get_or, replicate, arith, subst, sym}
use Rattle.std.specs.List.{range_with_len}
use Rattle.std.proofs.lemmas.Bool.{ltb-true}
use Rattle.std.proofs.lemmas.List.{length-replicate}
use Rattle.std.proofs.lemmas.List.FromFn.{length-range_with_len, get_or-range_with_len}
use Rattle.mesh_laws.proofs.ChildCornerLemmas.{corner-point}
use Rattle.level_topology.specs.Topology.{Topology, IsTopology}
use Rattle.child_slots.proofs.SlotLemmas.{over-of}
use Rattle.sparse_level.specs.View.{IsSparseTopology, sparse_topology}

-- each of its faces is inner, and has its own number
pub base-is : (t : Topology) (numbers : List ℕ) (inner : List Bool) → IsTopology t → ((v : ℕ) → v < t.level.point_count → get_or t.complete v false ≡ true) → numbers ≡ range_with_len 0 (length t.level.polygons) → inner ≡ replicate (length t.level.polygons) true
    → IsSparseTopology (sparse_topology t numbers inner 0)
base-is t numbers inner is whole n i = subst (λ ns. IsSparseTopology (sparse_topology t ns inner 0)) (sym n) (subst (λ bs. IsSparseTopology (sparse_topology t (range_with_len 0 (length t.level.polygons)) bs 0)) (sym i) (record {
  numbers_listed = length-range_with_len 0 (length t.level.polygons);
  inner_listed = length-replicate (length t.level.polygons) true;
  inside = λ f p there corner. whole p (ltb-true p t.level.point_count (corner-point t.level.point_count t.level.polygons f p (over-of t is) corner));
  deep = omega arith;
  small = λ k d h.
      let listed : k < length t.level.polygons = omega (arith, h, length-range_with_len 0 (length t.level.polygons)) in
      omega (arith, get_or-range_with_len 0 (length t.level.polygons) k d listed, listed, is.small.faces);
  quads = λ h. absurd (omega (arith, h));
}))
