-- The points of the next level that are marked complete have all their faces, in one fan.
use Rattle.std.proofs.Common.{◌≡◌, ℕ, ◌+◌, ◌<◌, Bool, true, false, nat_lt, List, [], ◌∷◌, length, map, get_or, arith, ap, sym, ◌∙◌, subst, inl, inr}
use Rattle.std.specs.List.{list_all}
use Rattle.std.proofs.lemmas.Bool.{and_parts, lt-ltb}
use Rattle.std.proofs.lemmas.List.{length-map, get_or-map}
use Rattle.subdiv_model.specs.Polygons.{Polygon, same_side, same_edge, has_corner, polygon_at}
use Rattle.subdiv_model.specs.Edges.{all_sides, edges_of}
use Rattle.subdiv_model.specs.Manifold.{HasOneFan}
use Rattle.subdiv_model.specs.Child.{child_polygons, edge_point}
use Rattle.subdiv_model.specs.Sparse.{is_on}
use Rattle.mesh_laws.proofs.FanLemmas.{any-number, any-side}
use Rattle.mesh_laws.proofs.ClosedLemmas.{any-place}
use Rattle.mesh_laws.proofs.EdgeLemmas.{any-first_named, position-alike}
use Rattle.mesh_laws.proofs.ChildFanLemmas.{vertex-fan, face-fan}
use Rattle.mesh_laws.proofs.EdgeFanLemmas.{edge-fan}
use Rattle.level_topology.specs.Topology.{Topology, IsTopology}
use Rattle.level_topology.proofs.LawLemmas.{faces-all, faces-once}
use Rattle.child_slots.proofs.SlotLemmas.{over-of}
use Rattle.part_laws.specs.Parts.{IsWholeAt}
use Rattle.part_laws.proofs.ChildLemmas.{IsNew, kind}
use Rattle.sparse_refiner.specs.Shapes.{AreMarks, children_at, name_in}
use Rattle.sparse_laws.specs.NextSparse.{has_all_faces, next_places, next_points}
use Rattle.sparse_laws.proofs.CornerLemmas.{vertices-old}
use Rattle.sparse_level.specs.Places.{marked}
use Rattle.sparse_level.specs.View.{SparseTopology, IsSparseTopology}
use Rattle.sparse_level.proofs.PartOfPlacesLemmas.{marked-among}
use Rattle.sparse_refiner.specs.Made.{AreInnerMarks}
use Rattle.sparse_refiner.proofs.SelfLemmas.{whole-at}
use Rattle.sparse_refiner.proofs.PointLemmas.{point-corner}

-- the vertices on marked faces are complete, since these faces are inner
pub on-complete : (t : SparseTopology) → IsSparseTopology t → (marks : List Bool) → AreInnerMarks t marks → (v : ℕ) → is_on t.topology.level.polygons (marked marks) v ≡ true → get_or t.topology.complete v false ≡ true
on-complete t is marks are v on =
    let found = any-number (λ f. has_corner v (polygon_at t.topology.level.polygons f)) (marked marks) on in
    is.inside found.0 v (are.inner found.0 (marked-among marks found.0 ∙ found.2)) found.1

module _ (t : Topology) (is : IsTopology t) (some : List ℕ) (within : list_all (λ f. nat_lt f (length t.level.polygons)) some ≡ true) (complete : (v : ℕ) → is_on t.level.polygons some v ≡ true → get_or t.complete v false ≡ true) where
  abbrev kids : List Polygon
  kids = child_polygons t.level.point_count t.level.polygons

  -- the faces at a complete vertex are one fan
  fan-of-vertex : (v : ℕ) → v < t.level.point_count → get_or t.complete v false ≡ true → HasOneFan t.level.polygons v
  fan-of-vertex v h mark = record {
    fan = get_or t.faces_at v [];
    once = faces-once t v is h;
    all = λ f. ((λ there. sym (faces-all t v f is h) ∙ there), (λ there. faces-all t v f is h ∙ there));
    path = ((is.listed v h).fan mark).path;
  }

  -- the child faces at a point are one fan if all vertices that it comes from lie on selected faces
  fan-at : (n : ℕ) → IsNew t.level.point_count t.level.polygons n → has_all_faces t.level some n ≡ true → HasOneFan kids n
  fan-at n (inl a) all =
      let here : list_all (is_on t.level.polygons some) (n ∷ []) ≡ true = ap (list_all (is_on t.level.polygons some)) (sym (vertices-old t.level (over-of t is) n a.0)) ∙ all in
      let on = (and_parts (is_on t.level.polygons some n) true here).0 in
      vertex-fan t.level.point_count t.level.polygons is.simple (over-of t is) is.sides_once n (lt-ltb n t.level.point_count a.0) (fan-of-vertex n a.0 (complete n on))
  fan-at n (inr (inl b)) all = subst (HasOneFan kids) (sym b.2) (face-fan t.level.point_count t.level.polygons is.simple (over-of t is) is.sides_once b.0 b.1)
  fan-at n (inr (inr e)) all =
      let found = any-side (same_edge e.0) (all_sides t.level.polygons) (sym (any-first_named e.0 (all_sides t.level.polygons)) ∙ e.1) in
      let side : ℕ × ℕ = found.0 in
      let place = any-place (same_side side) t.level.polygons found.2 in
      let same : edge_point t.level.point_count t.level.polygons side ≡ n = ap (λ m. t.level.point_count + length t.level.polygons + m) (sym (position-alike e.0 side (edges_of t.level.polygons) found.1)) ∙ sym e.2 in
      subst (HasOneFan kids) same (edge-fan t.level.point_count t.level.polygons is.simple (over-of t is) is.sides_once place.0 side.0 side.1 place.2)

  pub marks-are : (points : List ℕ) (faces : List (ℕ × ℕ)) (marks : List Bool) → points ≡ next_points t.level some → faces ≡ next_places t.level.polygons some → marks ≡ map (has_all_faces t.level some) points → AreMarks t.level (children_at t.level.polygons faces) points marks
  marks-are points faces marks p f m = record {
    count = ap length m ∙ length-map points (has_all_faces t.level some);
    whole = λ k h mark. subst (λ (fs : List (ℕ × ℕ)). IsWholeAt (children_at t.level.polygons fs) kids (name_in points k)) (sym f) (whole-at t.level (over-of t is) some within (get_or points k 0) (all-faces k h mark));
    fan = λ k h mark. fan-at (get_or points k 0) (new k h) (all-faces k h mark);
  }
    where
      all-faces : (k : ℕ) → k < length points → get_or marks k false ≡ true → has_all_faces t.level some (get_or points k 0) ≡ true
      all-faces k h mark = sym (get_or-map (has_all_faces t.level some) points k 0 false h) ∙ ap (λ (bs : List Bool). get_or bs k false) (sym m) ∙ mark

      new : (k : ℕ) → k < length points → IsNew t.level.point_count t.level.polygons (get_or points k 0)
      new k h =
          let inside : k < length (next_points t.level some) = omega (arith, h, ap length p) in
          let e : get_or (next_points t.level some) k 0 ≡ get_or points k 0 = ap (λ (ns : List ℕ). get_or ns k 0) (sym p) in
          subst (IsNew t.level.point_count t.level.polygons) e (kind t.level.point_count t.level.polygons (over-of t is) (get_or (next_points t.level some) k 0) (point-corner t.level (over-of t is) some within k inside))
