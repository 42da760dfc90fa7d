-- Faces at a vertex are joined there exactly where their runs begin at one face.
use Rattle.std.proofs.Common.{◌≡◌, ◌≢◌, ℕ, ◌+◌, ◌-◌, ◌<◌, ◌≤◌, Bool, true, false, ◌||◌, nat_eq, List, [], ◌∷◌, length, get_or, arith, refl, ap, sym, ◌∙◌, subst, ◌⊎◌, inl, inr}
use Rattle.std.proofs.lemmas.Bool.Decides.{nat_tests}
use Rattle.std.proofs.lemmas.Bool.{eqb-true, eq-eqb, false_from_ne_true}
use Rattle.subdiv_model.specs.Polygons.{Polygon, sides_of, same_edge, has_edge, has_corner, is_among, polygon_at}
use Rattle.subdiv_model.specs.Edges.{edges_of, edge_number, faces_of_edge, is_boundary, has_end}
use Rattle.subdiv_model.specs.ObjMesh.{ObjMesh}
use Rattle.subdiv_model.specs.Cut.{is_seam, joined_faces}
use Rattle.mesh_laws.proofs.EdgeLemmas.{position-within}
use Rattle.mesh_laws.proofs.SideLemmas.{distinct-places}
use Rattle.texture_laws.proofs.JoinLemmas.{are_near, near-parts, edge-same, edge-listed, seam-alike, joins-itself, joins-near, joins-same, joins-least}
use Rattle.level_topology.specs.Topology.{Topology, IsTopology, edge_at}
use Rattle.level_topology.proofs.LawLemmas.{edge-all, faces-once}
use Rattle.std.proofs.lemmas.List.Sums.{passes_at_first}
use Rattle.face_varying.specs.Corners.{is_apart, apart_marks}
use Rattle.face_varying.specs.CornerPlaces.{corner_at}
use Rattle.face_varying.specs.Cut.{IsCuttable}
use Rattle.face_varying.specs.Fans.{HasRuns, corner_in, face_count, is_cut, run_of}
use Rattle.face_varying.proofs.CuttableLemmas.{same-faces}
use Rattle.face_varying.proofs.FanEdgeLemmas.{edge_in, edge_count, next, on-level, end-alike, edges-around, after-next, face-place, edge-place, edge-once, cut-is, next-near, next-run, first-cut}
use Rattle.face_varying.proofs.FanPlaceLemmas.{face_in, face-corner, enough-edges}
use Rattle.face_varying.proofs.LabelLemmas.{run-within}
use Rattle.face_varying.proofs.RunLemmas.{run-joined}

one-among : (f g : ℕ) (xs : List ℕ) → length xs ≡ 1 → is_among xs f ≡ true → is_among xs g ≡ true → f ≡ g
one-among f g [] size at_f at_g = absurd (omega arith)
one-among f g (x ∷ []) size at_f at_g = grind (arith, nat_tests)
one-among f g (x ∷ (y ∷ xs)) size at_f at_g = absurd (omega arith)

-- the edge with this number has both faces, ends at the vertex and is no seam
record JoinsAt (mesh : ObjMesh) (polygons : List Polygon) (v f g e : ℕ) : Type 0 where
  pub exists : e < length (edges_of polygons)
  pub ends : has_end v (edge_at polygons e) ≡ true
  pub joins : is_seam mesh (edge_at polygons e) ≡ false
  pub has_f : has_edge (edge_at polygons e) (polygon_at polygons f) ≡ true
  pub has_g : has_edge (edge_at polygons e) (polygon_at polygons g) ≡ true

module _ (mesh : ObjMesh) (t : Topology) (cuttable : IsCuttable mesh t) (is : IsTopology t) (v : ℕ) (inside : v < t.level.point_count) (apart : List Bool) (marks : apart ≡ apart_marks mesh) where
  abbrev face : ℕ → ℕ
  face i = face_in t is v inside i

  abbrev after : ℕ → ℕ
  after i = next mesh t cuttable is v inside i

  abbrev run : ℕ → ℕ
  run i = run_of t apart v i

  corner-on-mesh : (f : ℕ) → has_corner v (polygon_at t.level.polygons f) ≡ true → has_corner v (polygon_at mesh.faces f) ≡ true
  corner-on-mesh f h = ap (λ (polygons : List Polygon). has_corner v (polygon_at polygons f)) (sym (same-faces mesh t cuttable)) ∙ h

  corner-on-level : (f : ℕ) → has_corner v (polygon_at mesh.faces f) ≡ true → has_corner v (polygon_at t.level.polygons f) ≡ true
  corner-on-level f h = ap (λ (polygons : List Polygon). has_corner v (polygon_at polygons f)) (same-faces mesh t cuttable) ∙ h

  -- an edge that joins two faces by its number
  joins-by : (f g : ℕ) (edge : ℕ × ℕ) → has_end v edge ≡ true → is_seam mesh edge ≡ false → has_edge edge (polygon_at mesh.faces f) ≡ true → has_edge edge (polygon_at mesh.faces g) ≡ true → JoinsAt mesh t.level.polygons v f g (edge_number t.level.polygons edge)
  joins-by f g edge ends joins at_f at_g =
      let polygons = t.level.polygons in
      let on_f = on-level mesh t cuttable is v inside f edge at_f in
      let on_g = on-level mesh t cuttable is v inside g edge at_g in
      let exists = position-within edge (edges_of polygons) (edge-listed polygons f edge on_f) in
      let listed = edge_at polygons (edge_number polygons edge) in
      let alike : same_edge edge listed ≡ true = passes_at_first (same_edge edge) (edges_of polygons) (0, 0) exists in
      record {
        exists = exists;
        ends = end-alike v edge listed alike ends;
        joins = sym (seam-alike mesh edge listed alike) ∙ joins;
        has_f = sym (edge-same edge listed alike (sides_of (polygon_at polygons f))) ∙ on_f;
        has_g = sym (edge-same edge listed alike (sides_of (polygon_at polygons g))) ∙ on_g;
      }

  -- two faces with an edge that joins them have one run
  joined-run : (i j e : ℕ) → i < face_count t v → j < face_count t v → i ≢ j → JoinsAt mesh t.level.polygons v (face i) (face j) e → run i ≡ run j
  joined-run i j e hi hj other edge =
      go (edge-place mesh t cuttable is v inside i e hi edge.exists edge.has_f edge.ends) (edge-place mesh t cuttable is v inside j e hj edge.exists edge.has_g edge.ends)
    where
      edges : face_count t v ≤ edge_count mesh t cuttable is v inside
      edges = enough-edges t is v inside

      not_boundary : is_boundary mesh.faces (edge_at t.level.polygons e) ≡ false
      not_boundary =
          ap (λ (polygons : List Polygon). is_boundary polygons (edge_at t.level.polygons e)) (sym (same-faces mesh t cuttable))
          ∙ false_from_ne_true _ (λ points_only.
          other (distinct-places (get_or t.faces_at v []) i j (faces-once t v is inside) hi hj (one-among (face i) (face j) (faces_of_edge t.level.polygons (edge_at t.level.polygons e)) (eqb-true _ _ points_only) (edge-all t.level.polygons e (face i) ∙ edge.has_f) (edge-all t.level.polygons e (face j) ∙ edge.has_g))))

      not_cut : (k : ℕ) → k < edge_count mesh t cuttable is v inside → e ≡ edge_in mesh t cuttable is v inside k → is_cut t apart v k ≡ false
      not_cut k h at =
          cut-is mesh t cuttable is v inside apart marks k h
          ∙ ap (λ (n : ℕ). is_apart mesh (edge_at t.level.polygons n)) (sym at)
          ∙ none (is_boundary mesh.faces (edge_at t.level.polygons e)) (is_seam mesh (edge_at t.level.polygons e)) not_boundary edge.joins
        where
          none : (a b : Bool) → a ≡ false → b ≡ false → (a || b) ≡ false
          none a b p q = ap (λ (x : Bool). x || b) p ∙ q

      -- the one comes after the other
      behind : (k m : ℕ) → k < face_count t v → m < face_count t v → e ≡ edge_in mesh t cuttable is v inside k → e ≡ edge_in mesh t cuttable is v inside (after m) → run k ≡ run m
      behind k m hk hm at_k at_m =
          let there = after-next mesh t cuttable is v inside m hm in
          let same : k ≡ after m = edge-once mesh t cuttable is v inside k (after m) (omega (arith, hk, edges)) there.0 (sym at_k ∙ at_m) in
          ap run same ∙ next-run mesh t cuttable is v inside apart marks m hm (subst (λ (n : ℕ). n < face_count t v) same hk) (not_cut (after m) there.0 at_m)

      go : (e ≡ edge_in mesh t cuttable is v inside i) ⊎ (e ≡ edge_in mesh t cuttable is v inside (after i)) → (e ≡ edge_in mesh t cuttable is v inside j) ⊎ (e ≡ edge_in mesh t cuttable is v inside (after j)) → run i ≡ run j
      go (inl at_i) (inl at_j) = absurd (other (edge-once mesh t cuttable is v inside i j (omega (arith, hi, edges)) (omega (arith, hj, edges)) (sym at_i ∙ at_j)))
      go (inl at_i) (inr at_j) = behind i j hi hj at_i at_j
      go (inr at_i) (inl at_j) = sym (behind j i hj hi at_j at_i)
      go (inr at_i) (inr at_j) = absurd (other (after-once (nat_eq (i + 1) (edge_count mesh t cuttable is v inside)) refl (nat_eq (j + 1) (edge_count mesh t cuttable is v inside)) refl))
        where
          same : after i ≡ after j
          same = edge-once mesh t cuttable is v inside (after i) (after j) (after-next mesh t cuttable is v inside i hi).0 (after-next mesh t cuttable is v inside j hj).0 (sym at_i ∙ at_j)

          after-once : (a : Bool) → nat_eq (i + 1) (edge_count mesh t cuttable is v inside) ≡ a → (b : Bool) → nat_eq (j + 1) (edge_count mesh t cuttable is v inside) ≡ b → i ≡ j
          after-once true p true q = omega (arith, eqb-true _ _ p, eqb-true _ _ q)
          after-once true p false q = let clash : 0 ≡ j + 1 = rw (p, q) at same in absurd (omega arith)
          after-once false p true q = let clash : i + 1 ≡ 0 = rw (p, q) at same in absurd (omega arith)
          after-once false p false q = let level : i + 1 ≡ j + 1 = rw (p, q) at same in omega arith

  near-run : (i j : ℕ) → i < face_count t v → j < face_count t v → are_near mesh v (face i) (face j) ≡ true → run i ≡ run j
  near-run i j hi hj near = go (nat_eq i j) refl (near-parts mesh v (face i) (face j) near)
    where
      go : (b : Bool) → nat_eq i j ≡ b → (face i ≡ face j) ⊎ ((edge : ℕ × ℕ) × (has_end v edge ≡ true) × (is_seam mesh edge ≡ false) × (has_edge edge (polygon_at mesh.faces (face i)) ≡ true) × (has_edge edge (polygon_at mesh.faces (face j)) ≡ true)) → run i ≡ run j
      go true e parts = ap run (eqb-true _ _ e)
      go false e (inl same) = ap run (distinct-places (get_or t.faces_at v []) i j (faces-once t v is inside) hi hj same)
      go false e (inr edge) =
          let other : i ≢ j = λ same. absurd (let yes = eq-eqb _ _ same in cc) in
          joined-run i j (edge_number t.level.polygons edge.0) hi hj other (joins-by (face i) (face j) edge.0 edge.1 edge.2 edge.3 edge.4)

  module _ (labels : List ℕ) (runs : HasRuns t apart v (face_count t v) labels) where
    abbrev label : ℕ → ℕ
    label f = get_or labels (corner_at t.level.polygons v f) 0

    -- joined faces have one label at the vertex
    pub joined-label : (f g : ℕ) → has_corner v (polygon_at t.level.polygons f) ≡ true → is_among (joined_faces mesh v f) g ≡ true → label g ≡ label f
    joined-label f g has joined =
        (joins-least mesh v (λ (n : ℕ). (has_corner v (polygon_at t.level.polygons n) ≡ true) × (label n ≡ label f)) closed f (has, refl) g joined).1
      where
        closed : (k m : ℕ) → are_near mesh v k m ≡ true → has_corner v (polygon_at mesh.faces m) ≡ true → (has_corner v (polygon_at t.level.polygons k) ≡ true) × (label k ≡ label f) → (has_corner v (polygon_at t.level.polygons m) ≡ true) × (label m ≡ label f)
        closed k m near at_m before =
            let on_m = corner-on-level m at_m in
            let one = face-place mesh t cuttable is v inside k before.0 in
            let two = face-place mesh t cuttable is v inside m on_m in
            let between : are_near mesh v (face one.0) (face two.0) ≡ true = ap (λ (n : ℕ). are_near mesh v n (face two.0)) one.2 ∙ ap (are_near mesh v k) two.2 ∙ near in
            let same = near-run one.0 two.0 one.1 two.1 between in
            (on_m, ap label (sym two.2) ∙ runs.each two.0 two.1 ∙ ap (corner_in t v) (sym same) ∙ sym (runs.each one.0 one.1) ∙ ap label one.2 ∙ before.1)

    step : (i k : ℕ) → i < face_count t v → after i < face_count t v → is_cut t apart v (after i) ≡ false → is_among (joined_faces mesh v (face i)) (face k) ≡ true → is_among (joined_faces mesh v (face (after i))) (face k) ≡ true
    step i k h more none joined =
        let near = next-near mesh t cuttable is v inside apart marks i h more none in
        let at_i = corner-on-mesh (face i) (face-corner t is v inside i h) in
        let at_next = corner-on-mesh (face (after i)) (face-corner t is v inside (after i) more) in
        let reached = joins-near mesh v (face i) (face i) (face (after i)) at_i near at_next (joins-itself mesh v (face i) at_i) in
        ap (λ (xs : List ℕ). is_among xs (face k)) (joins-same mesh v (face i) (face (after i)) at_i reached) ∙ joined

    each-joined : (i : ℕ) → i < face_count t v → is_among (joined_faces mesh v (face i)) (face (run i)) ≡ true
    each-joined = run-joined (is_cut t apart v) (face_count t v) (λ i k. is_among (joined_faces mesh v (face i)) (face k) ≡ true)
        (λ i h. joins-itself mesh v (face i) (corner-on-mesh (face i) (face-corner t is v inside i h))) goes closes
      where
        goes : (i k : ℕ) → i + 1 < face_count t v → is_cut t apart v (i + 1) ≡ false → is_among (joined_faces mesh v (face i)) (face k) ≡ true → is_among (joined_faces mesh v (face (i + 1))) (face k) ≡ true
        goes i k h none joined =
            let apart_end : nat_eq (i + 1) (edge_count mesh t cuttable is v inside) ≡ false = false_from_ne_true _ (λ same. absurd (omega (arith, eqb-true _ _ same, h, enough-edges t is v inside))) in
            let later : after i ≡ i + 1 = rw apart_end refl in
            subst (λ (n : ℕ). is_among (joined_faces mesh v (face n)) (face k) ≡ true) later
            (step i k (omega (arith, h)) (omega (arith, later, h)) (ap (is_cut t apart v) later ∙ none) joined)

        closes : (k : ℕ) → 0 < face_count t v → is_cut t apart v 0 ≡ false → is_among (joined_faces mesh v (face (face_count t v - 1))) (face k) ≡ true → is_among (joined_faces mesh v (face 0)) (face k) ≡ true
        closes k some none joined = by-count (edges-around mesh t cuttable is v inside)
          where
            by-count : (edge_count mesh t cuttable is v inside ≡ face_count t v) ⊎ (edge_count mesh t cuttable is v inside ≡ face_count t v + 1) → is_among (joined_faces mesh v (face 0)) (face k) ≡ true
            by-count (inl whole) =
                let last : nat_eq (face_count t v - 1 + 1) (edge_count mesh t cuttable is v inside) ≡ true = eq-eqb _ _ (omega (arith, whole, some)) in
                let first : after (face_count t v - 1) ≡ 0 = rw last refl in
                subst (λ (n : ℕ). is_among (joined_faces mesh v (face n)) (face k) ≡ true) first
                (step (face_count t v - 1) k (omega (arith, some)) (omega (arith, first, some)) (ap (is_cut t apart v) first ∙ none) joined)
            by-count (inr path) = let cut = first-cut mesh t cuttable is v inside apart marks path some in absurd (cc)

    -- the label of a face at the vertex is the corner there of a face that is joined with it
    pub label-joined : (f : ℕ) → has_corner v (polygon_at t.level.polygons f) ≡ true → (i : ℕ) × (i < face_count t v) × (label f ≡ corner_in t v i) × (is_among (joined_faces mesh v f) (face i) ≡ true)
    label-joined f has =
        let place = face-place mesh t cuttable is v inside f has in
        let i = place.0 in (
          run i,
          run-within t is v inside apart i place.1,
          ap label (sym place.2) ∙ runs.each i place.1,
          subst (λ (n : ℕ). is_among (joined_faces mesh v n) (face (run i)) ≡ true) place.2 (each-joined i place.1),
        )
