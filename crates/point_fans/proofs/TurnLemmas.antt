-- The lists at a point, put into fan order and left as they ascend.
use Rattle.std.proofs.Common.{subst, ◌≡◌, ℕ, suc, ◌<◌, Bool, true, false, List, [], ◌∷◌, ◌++◌, length, map, get_or, arith, refl, ap, sym, ◌∙◌, if◌then◌else◌}
use Rattle.std.specs.List.{All, list_all}
use Rattle.std.specs.List.Sorted.{IsPermutation}
use Rattle.std.proofs.lemmas.List.{get_or_default}
use Rattle.std.proofs.lemmas.List.Sorted.{IsPermutation-refl, length_permutation, All-permutation}
use Rattle.subdiv_model.specs.Polygons.{Polygon, has_corner, is_among, has_distinct_sides, polygon_at}
use Rattle.subdiv_model.specs.Edges.{all_sides, edges_of, faces_of_point}
use Rattle.subdiv_model.specs.Manifold.{IsSuccessor, is_simple, has_one_fan}
use Rattle.mesh_laws.proofs.SideLemmas.{among-place}
use Rattle.mesh_laws.proofs.FanLemmas.{faces-among}
use Rattle.mesh_laws.proofs.ChildCornerLemmas.{corner-place}
use Rattle.mesh_laws.proofs.WalkLemmas.{one_fan-from_test}
use Rattle.level_topology.proofs.LawLemmas.{edges-at}
use Rattle.level_topology.specs.Topology.{corner_of, end_of, edge_after, edge_before, edge_numbers_at}
use Rattle.level_topology.specs.PointRows.{IsFanFrom, IsTurned, IsRow, last_face}
use Rattle.level_topology.proofs.FanWalkLemmas.{fan-from-first, fan-from-any, fan-permutation, closes-last, from-corner}
use Rattle.level_topology.proofs.TurnLemmas.{turned-edges}

-- functions that agree on a list
map-same : (g h : ℕ → ℕ) (xs : List ℕ) → ((k : ℕ) → k < length xs → g (get_or xs k 0) ≡ h (get_or xs k 0)) → map g xs ≡ map h xs
map-same g h [] e = refl
map-same g h (x ∷ xs) e =
    let first : g x ≡ h x = e 0 (omega arith) in
    let behind = map-same g h xs (λ k inside. e (suc k) (omega arith)) in
    ap (λ y. y ∷ map g xs) first ∙ ap (λ ys. h x ∷ ys) behind

-- the numbers of the edges at a point are numbers of edges
pub edges-inside : (polygons : List Polygon) (v : ℕ) (edges : List ℕ) → IsPermutation (edge_numbers_at polygons v) edges → All (λ e. e < length (edges_of polygons)) edges
edges-inside polygons v edges moved = All-permutation (λ e. e < length (edges_of polygons)) (edge_numbers_at polygons v) edges moved (λ k d h. (edges-at polygons v k d h).exists)

module _ (polygons : List Polygon) (simple : list_all is_simple polygons ≡ true) (distinct : has_distinct_sides (all_sides polygons) ≡ true) (v : ℕ) where
  -- each of the faces that are listed is at the point
  pub listed-there : (faces : List ℕ) → faces ≡ faces_of_point polygons v → All (λ f. has_corner v (polygon_at polygons f) ≡ true) faces
  listed-there faces e k d h =
      subst (λ xs. k < length xs → has_corner v (polygon_at polygons (get_or xs k d)) ≡ true) (sym e) (λ inside.
      let same = get_or_default (faces_of_point polygons v) k d 0 inside in
      subst (λ f. has_corner v (polygon_at polygons f) ≡ true) (sym same) (sym (faces-among polygons v (get_or (faces_of_point polygons v) k 0)) ∙ among-place (get_or (faces_of_point polygons v) k 0) (faces_of_point polygons v) k inside refl)) h

  pub turned-there : (is_path : Bool) (fan : List ℕ) → IsTurned polygons v is_path fan → All (λ f. has_corner v (polygon_at polygons f) ≡ true) fan
  turned-there is_path fan is k d h =
      let same = get_or_default fan k d 0 h in
      subst (λ f. has_corner v (polygon_at polygons f) ≡ true) (sym same) (sym (is.is.all (get_or fan k 0)) ∙ among-place (get_or fan k 0) fan k h refl)

  -- and it is a face
  pub inside-there : (faces : List ℕ) (n : ℕ) → n ≡ length polygons → All (λ f. has_corner v (polygon_at polygons f) ≡ true) faces → All (λ f. f < n) faces
  inside-there faces n e there k d h = omega (arith, e, corner-place polygons (get_or faces k d) v (there k d h))

  -- from the first face the walk meets all
  pub turned : (start : ℕ) (is_path : Bool) → has_one_fan polygons v ≡ true → has_corner v (polygon_at polygons start) ≡ true → (is_path ≡ true → (g : ℕ) → IsSuccessor polygons v g start → ⊥) → (is_path ≡ false → (f : ℕ) → is_among (faces_of_point polygons v) f ≡ true → (g : ℕ) × IsSuccessor polygons v g f) → (fan : List ℕ) × (length fan ≡ length (faces_of_point polygons v)) × IsFanFrom polygons v start fan × IsTurned polygons v is_path fan
  turned start true one has none_before led =
      let found = fan-from-first polygons simple distinct v start (one_fan-from_test polygons v one) has (none_before refl) in
      (found.0, length_permutation _ _ (fan-permutation polygons simple distinct v start found.0 found.1), found.1, record { start = start; is = found.1; no_predecessor = none_before; led = λ no. absurd (cc) })
  turned start false one has none_before led =
      let found = fan-from-any polygons simple distinct v start (one_fan-from_test polygons v one) has (λ f at. led refl f (faces-among polygons v f ∙ at)) in
      let first = led refl start (faces-among polygons v start ∙ has) in
      let leads : IsSuccessor polygons v first.0 (get_or found.0 0 0) = subst (λ (k : ℕ). IsSuccessor polygons v first.0 k) (sym found.1.first) first.1 in
      let there : is_among found.0 first.0 ≡ true = found.1.all first.0 ∙ (from-corner polygons simple distinct v first.0 start first.1).0 in
      let last = closes-last polygons simple distinct v found.0 first.0 found.1.path found.1.once there leads in
      (found.0, length_permutation _ _ (fan-permutation polygons simple distinct v start found.0 found.1), found.1, record { start = start; is = found.1; no_predecessor = λ no. absurd (cc); led = λ yes. subst (λ (k : ℕ). IsSuccessor polygons v k start) last first.1 })

  -- the lists in fan order
  pub turned-row : (is_path : Bool) (fan at edges ends corners : List ℕ) → IsTurned polygons v is_path fan → ((f : ℕ) → has_corner v (polygon_at polygons f) ≡ true → get_or corners f 0 ≡ corner_of polygons v f) → at ≡ map (λ f. get_or corners f 0) fan → edges ≡ map (edge_before polygons v) fan ++ (if is_path then edge_after polygons v (last_face fan) ∷ [] else []) → ends ≡ map (end_of polygons v) edges → IsRow polygons v true fan at edges ends
  turned-row is_path fan at edges ends corners is table a e n =
      let both = turned-edges polygons simple distinct v is_path fan edges is e in
      record {
        faces_are = fan-permutation polygons simple distinct v is.start fan is.is;
        edges_are = both.0;
        fan = λ yes. both.1;
        plain_faces = λ no. absurd (cc);
        plain_edges = λ no. absurd (cc);
        corners_are = a ∙ map-same (λ f. get_or corners f 0) (corner_of polygons v) fan (λ k h. table (get_or fan k 0) (turned-there is_path fan is k 0 h));
        ends_are = n;
      }

-- the lists as they ascend, at a point that is not complete
pub plain-row : (polygons : List Polygon) (v : ℕ) (faces at edges ends : List ℕ) → faces ≡ faces_of_point polygons v → at ≡ map (corner_of polygons v) faces → edges ≡ edge_numbers_at polygons v → ends ≡ map (end_of polygons v) edges → IsRow polygons v false faces at edges ends
plain-row polygons v faces at edges ends f a e n = record {
  faces_are = subst (λ xs. IsPermutation (faces_of_point polygons v) xs) (sym f) (IsPermutation-refl (faces_of_point polygons v));
  edges_are = subst (λ xs. IsPermutation (edge_numbers_at polygons v) xs) (sym e) (IsPermutation-refl (edge_numbers_at polygons v));
  fan = λ no. absurd (cc);
  plain_faces = λ yes. f;
  plain_edges = λ yes. e;
  corners_are = a;
  ends_are = n;
}
