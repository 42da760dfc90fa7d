-- The corners of the faces at a vertex among all corners.
use Rattle.std.proofs.Common.{◌≡◌, ℕ, ◌+◌, ◌<◌, ◌≤◌, true, List, [], length, map, get_or, arith, refl, ap, sym, ◌∙◌, subst, ◌⊎◌, inl, inr}
use Rattle.std.specs.List.{sum_by}
use Rattle.std.proofs.lemmas.Bool.{or_left, or_right, eq-eqb}
use Rattle.std.proofs.lemmas.List.{get_or-map, length-map}
use Rattle.subdiv_model.specs.Polygons.{same_edge, has_side, has_corner, is_among, polygon_at}
use Rattle.subdiv_model.specs.Edges.{all_sides, edges_of, edge_number, has_end}
use Rattle.mesh_laws.proofs.SideLemmas.{distinct-count, distinct-places, among-place}
use Rattle.mesh_laws.proofs.EdgeLemmas.{same-number, position-within}
use Rattle.mesh_laws.proofs.FanLemmas.{owner-unique}
use Rattle.mesh_laws.proofs.TurnedLemmas.{among-map, map-distinct}
use Rattle.mesh_laws.proofs.WalkLemmas.{distinct-le}
use Rattle.texture_laws.proofs.JoinLemmas.{edge-cases}
use Rattle.level_topology.specs.Packed.{gaps, Ascend}
use Rattle.level_topology.specs.Topology.{Topology, IsTopology, IsFaceAt, edge_at, edge_before, corner_of}
use Rattle.level_topology.proofs.LawLemmas.{faces-each, faces-all, faces-once, edges-all}
use Rattle.level_topology.proofs.FanWalkLemmas.{before-side}
use Rattle.face_varying.specs.CornerPlaces.{start_of}
use Rattle.face_varying.specs.Fans.{corner_in, face_count}
use Rattle.face_varying.proofs.CornerLemmas.{start-at, place-below, place-once}
use Rattle.face_varying.proofs.EdgeSideLemmas.{side-edge, side-ends, side-listed}

module _ (t : Topology) (is : IsTopology t) (v : ℕ) (inside : v < t.level.point_count) where
  abbrev pub face_in : ℕ → ℕ
  face_in i = get_or (get_or t.faces_at v []) i 0

  pub face-there : (i : ℕ) → i < face_count t v → IsFaceAt t.level.polygons v (face_in i)
  face-there i h = faces-each t v i is inside h

  pub face-corner : (i : ℕ) → i < face_count t v → has_corner v (polygon_at t.level.polygons (face_in i)) ≡ true
  face-corner i h = sym (faces-all t v (face_in i) is inside) ∙ among-place (face_in i) (get_or t.faces_at v []) i h refl

  pub corner-below : (i : ℕ) → i < face_count t v → corner_in t v i < sum_by length t.level.polygons
  corner-below i h = let at = face-there i h in place-below t.level.polygons (face_in i) (corner_of t.level.polygons v (face_in i)) at.exists at.within

  -- no two faces at a vertex have one corner
  pub corner-once : (i j : ℕ) → i < face_count t v → j < face_count t v → corner_in t v i ≡ corner_in t v j → i ≡ j
  corner-once i j hi hj e =
      let at = face-there i hi in
      let at_j = face-there j hj in
      let same = place-once t.level.polygons (face_in i) (corner_of t.level.polygons v (face_in i)) (face_in j) (corner_of t.level.polygons v (face_in j)) at.exists at.within at_j.exists at_j.within e in
      distinct-places (get_or t.faces_at v []) i j (faces-once t v is inside) hi hj same.0

  -- the corner of a face at the vertex is the vertex
  pub corner-vertex : (i f c : ℕ) → i < face_count t v → f < length t.level.polygons → c < length (polygon_at t.level.polygons f) → start_of t.level.polygons f + c ≡ corner_in t v i → get_or (polygon_at t.level.polygons f) c 0 ≡ v
  corner-vertex i f c hi exists within e =
      let at = face-there i hi in
      let same = place-once t.level.polygons f c (face_in i) (corner_of t.level.polygons v (face_in i)) exists within at.exists at.within e in
      ap (λ (n : ℕ). get_or (polygon_at t.level.polygons n) c 0) same.0 ∙ ap (λ (n : ℕ). get_or (polygon_at t.level.polygons (face_in i)) n 0) same.1 ∙ at.there

  before-apart : (f g : ℕ) → has_corner v (polygon_at t.level.polygons f) ≡ true → has_corner v (polygon_at t.level.polygons g) ≡ true → edge_before t.level.polygons v f ≡ edge_before t.level.polygons v g → f ≡ g
  before-apart f g at_f at_g e =
      let one = before-side t.level.polygons is.simple is.sides_once v f at_f in
      let two = before-side t.level.polygons is.simple is.sides_once v g at_g in
      let same : same_edge (one.0, v) (two.0, v) ≡ true = sym (same-number (one.0, v) (two.0, v) (edges_of t.level.polygons) (side-listed t.level.polygons f (one.0, v) one.1)) ∙ eq-eqb _ _ (sym one.2 ∙ e ∙ two.2) in
      let start = starts (one.0, v) (two.0, v) refl refl one.1 (edge-cases (one.0, v) (two.0, v) same) in
      owner-unique t.level.polygons (one.0, v) f g (distinct-count (one.0, v) (all_sides t.level.polygons) is.sides_once) one.1 (subst (λ (n : ℕ). has_side (n, v) (polygon_at t.level.polygons g) ≡ true) (sym start) two.1)
    where
      starts : (r s : ℕ × ℕ) → r.1 ≡ v → s.1 ≡ v → has_side r (polygon_at t.level.polygons f) ≡ true → (r ≡ s) ⊎ (r ≡ (s.1, s.0)) → r.0 ≡ s.0
      starts r s end_r end_s has (inl e) = ap (λ (p : ℕ × ℕ). p.0) e
      starts r s end_r end_s has (inr e) = absurd (side-ends t.level.polygons is.simple f r has (ap (λ (p : ℕ × ℕ). p.0) e ∙ end_s ∙ sym end_r))

  -- at a vertex there are no fewer edges than faces
  pub enough-edges : face_count t v ≤ length (get_or t.edges_at v [])
  enough-edges =
      let befores = map (edge_before t.level.polygons v) (get_or t.faces_at v []) in
      let few = distinct-le befores (get_or t.edges_at v []) (map-distinct (edge_before t.level.polygons v) (get_or t.faces_at v []) (λ f g one two. before-apart f g (sym (faces-all t v f is inside) ∙ one) (sym (faces-all t v g is inside) ∙ two)) (faces-once t v is inside)) there in
      omega (arith, few, length-map (get_or t.faces_at v []) (edge_before t.level.polygons v))
    where
      there : (n : ℕ) → is_among (map (edge_before t.level.polygons v) (get_or t.faces_at v [])) n ≡ true → is_among (get_or t.edges_at v []) n ≡ true
      there n h =
          let found = among-map (edge_before t.level.polygons v) (get_or t.faces_at v []) n h in
          let side = before-side t.level.polygons is.simple is.sides_once v found.0 (sym (faces-all t v found.0 is inside) ∙ found.1) in
          let listed = position-within (side.0, v) (edges_of t.level.polygons) (side-listed t.level.polygons found.0 (side.0, v) side.1) in
          let alike = side-edge t.level.polygons found.0 (side.0, v) side.1 in
          subst (λ (k : ℕ). is_among (get_or t.edges_at v []) k ≡ true) (sym side.2 ∙ found.2)
          (edges-all t v (edge_number t.level.polygons (side.0, v)) is inside listed (ends (side.0, v) (edge_at t.level.polygons (edge_number t.level.polygons (side.0, v))) refl (edge-cases (side.0, v) _ alike)))
        where
          ends : (s edge : ℕ × ℕ) → s.1 ≡ v → (s ≡ edge) ⊎ (s ≡ (edge.1, edge.0)) → has_end v edge ≡ true
          ends s edge end (inl e) = or_right _ _ (eq-eqb _ _ (sym end ∙ ap (λ (p : ℕ × ℕ). p.1) e))
          ends s edge end (inr e) = or_left _ _ (eq-eqb _ _ (sym end ∙ ap (λ (p : ℕ × ℕ). p.1) e))

  -- the corner of a face about a vertex, from the lists of a level
  pub corner-listed : (starts faces at : List ℕ) (i : ℕ) → i < face_count t v → faces ≡ get_or t.faces_at v [] → at ≡ map (corner_of t.level.polygons v) (get_or t.faces_at v []) → gaps starts ≡ map length t.level.polygons → Ascend starts (sum_by length t.level.polygons)
      → (get_or faces i 0 < length starts) × (get_or starts (get_or faces i 0) 0 + get_or at i 0 ≡ corner_in t v i)
  corner-listed starts faces at i h faces_are at_is sizes ascend =
      let found = start-at starts t.level.polygons sizes ascend in
      let there = face-there i h in
      let face : get_or faces i 0 ≡ face_in i = ap (λ (xs : List ℕ). get_or xs i 0) faces_are in
      let start : get_or starts (get_or faces i 0) 0 ≡ start_of t.level.polygons (face_in i) = ap (λ (k : ℕ). get_or starts k 0) face ∙ found.1 (face_in i) (omega (arith, there.exists)) in
      let place : get_or at i 0 ≡ corner_of t.level.polygons v (face_in i) = ap (λ (xs : List ℕ). get_or xs i 0) at_is ∙ get_or-map (corner_of t.level.polygons v) (get_or t.faces_at v []) i 0 0 h in
      (omega (arith, found.0, face, there.exists), ap (λ (k : ℕ). k + get_or at i 0) start ∙ ap (λ (k : ℕ). start_of t.level.polygons (face_in i) + k) place)
