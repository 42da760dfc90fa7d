-- The edges between faces at a vertex in fan order, and which of them are apart.
use Rattle.std.proofs.Common.{◌≡◌, ◌≢◌, ℕ, ◌+◌, ◌-◌, ◌<◌, ◌≤◌, Bool, true, false, ◌||◌, nat_eq, List, [], length, get_or, arith, refl, ap, sym, ◌∙◌, subst, ◌⊎◌, inl, inr, if◌then◌else◌}
use Rattle.std.proofs.lemmas.Bool.Decides.{nat_tests}
use Rattle.std.proofs.lemmas.Bool.{eqb-true, eq-eqb, or_cases, or_left}
use Rattle.std.proofs.lemmas.List.{get_or-map, get_or-replicate}
use Rattle.subdiv_model.specs.Polygons.{Polygon, sides_of, same_edge, has_side, has_edge, has_corner, polygon_at}
use Rattle.subdiv_model.specs.Edges.{edges_of, edge_number, faces_of_edge, is_boundary, has_end}
use Rattle.subdiv_model.specs.ObjMesh.{ObjMesh}
use Rattle.subdiv_model.specs.Cut.{is_seam}
use Rattle.mesh_laws.proofs.SideLemmas.{distinct-places}
use Rattle.mesh_laws.proofs.EdgeLemmas.{position-alike}
use Rattle.mesh_laws.proofs.ClosedLemmas.{any-side-edge}
use Rattle.mesh_laws.proofs.FanLemmas.{any-side}
use Rattle.texture_laws.proofs.JoinLemmas.{are_near, near-from, edge-same, edge-end}
use Rattle.level_topology.specs.Topology.{Topology, IsTopology, IsFan, edge_at, end_at, edge_before, edge_after}
use Rattle.level_topology.proofs.LawLemmas.{faces-all, edges-each, edges-once, edge-face, edge-order, edge-few, own-number}
use Rattle.level_topology.proofs.FanOrderLemmas.{among-at}
use Rattle.level_topology.proofs.FanWalkLemmas.{after-side, before-side, after-is, before-is}
use Rattle.face_varying.specs.Corners.{is_apart, apart_marks}
use Rattle.face_varying.specs.Cut.{IsCuttable}
use Rattle.face_varying.specs.Fans.{face_count, is_cut, last_before, last_run, run_of}
use Rattle.face_varying.proofs.CuttableLemmas.{same-faces, same-points}
use Rattle.face_varying.proofs.EdgeSideLemmas.{side-edge}
use Rattle.face_varying.proofs.FanPlaceLemmas.{face_in, face-corner, enough-edges}
use Rattle.face_varying.proofs.RunLemmas.{last-no, last-again}

end-has : (v : ℕ) (edge : ℕ × ℕ) → end_at edge (if nat_eq v edge.0 then 0 else 1) ≡ v → has_end v edge ≡ true
end-has v edge h = grind (arith, nat_tests)

pub end-alike : (v : ℕ) (s u : ℕ × ℕ) → same_edge s u ≡ true → has_end v s ≡ true → has_end v u ≡ true
end-alike v s u same h = grind (arith, nat_tests)

pub neither : (a b : Bool) → (a || b) ≡ false → (a ≡ false) × (b ≡ false)
neither true b h = absurd (cc)
neither false b h = (refl, h)

module _ (mesh : ObjMesh) (t : Topology) (cuttable : IsCuttable mesh t) (is : IsTopology t) (v : ℕ) (inside : v < t.level.point_count) where
  abbrev pub edge_in : ℕ → ℕ
  edge_in i = get_or (get_or t.edges_at v []) i 0

  abbrev pub edge_count : ℕ
  edge_count = length (get_or t.edges_at v [])

  abbrev face : ℕ → ℕ
  face i = face_in t is v inside i

  -- the place of the edge after the one at a place, about a cycle the first again
  abbrev pub next : ℕ → ℕ
  next i = if nat_eq (i + 1) edge_count then 0 else i + 1

  fan : IsFan t.level.polygons v (get_or t.faces_at v []) (get_or t.edges_at v [])
  fan = (is.listed v inside).fan (ap (λ (marks : List Bool). get_or marks v false) cuttable.accepted.complete ∙ get_or-replicate (length mesh.points) v true false (omega (arith, inside, same-points mesh t cuttable)))

  -- there are as many edges as faces, or one more
  pub edges-around : (edge_count ≡ face_count t v) ⊎ (edge_count ≡ face_count t v + 1)
  edges-around = fan.count

  pub on-mesh : (f : ℕ) (edge : ℕ × ℕ) → has_edge edge (polygon_at t.level.polygons f) ≡ true → has_edge edge (polygon_at mesh.faces f) ≡ true
  on-mesh f edge h = ap (λ (polygons : List Polygon). has_edge edge (polygon_at polygons f)) (sym (same-faces mesh t cuttable)) ∙ h

  pub on-level : (f : ℕ) (edge : ℕ × ℕ) → has_edge edge (polygon_at mesh.faces f) ≡ true → has_edge edge (polygon_at t.level.polygons f) ≡ true
  on-level f edge h = ap (λ (polygons : List Polygon). has_edge edge (polygon_at polygons f)) (same-faces mesh t cuttable) ∙ h

  pub edge-ends : (i : ℕ) → i < edge_count → has_end v (edge_at t.level.polygons (edge_in i)) ≡ true
  edge-ends i h = end-has v (edge_at t.level.polygons (edge_in i)) (edges-each t v i is inside h).there

  -- the edge after a face is the one at the next place
  pub after-next : (i : ℕ) → i < face_count t v → (next i < edge_count) × (edge_after t.level.polygons v (face i) ≡ edge_in (next i))
  after-next i h = go (nat_eq (i + 1) edge_count) refl
    where
      enough : face_count t v ≤ edge_count
      enough = enough-edges t is v inside

      go : (b : Bool) → nat_eq (i + 1) edge_count ≡ b → (next i < edge_count) × (edge_after t.level.polygons v (face i) ≡ edge_in (next i))
      go true e =
          let last : i ≡ face_count t v - 1 = omega (arith, eqb-true _ _ e, enough, h) in
          let whole : edge_count ≡ face_count t v = omega (arith, eqb-true _ _ e, enough, h) in
          rw e (omega (arith, whole, h), ap (λ (k : ℕ). edge_after t.level.polygons v (get_or (get_or t.faces_at v []) k 0)) last ∙ fan.closes whole (omega (arith, h)))
      go false e =
          let apart : i + 1 ≢ edge_count = λ same. absurd (let yes = eq-eqb _ _ same in cc) in
          let more : i + 1 < edge_count = omega (arith, apart, enough, h) in
          rw e (more, sym (fan.after i more h))

  number-has : (f : ℕ) (s : ℕ × ℕ) → has_side s (polygon_at t.level.polygons f) ≡ true → has_edge (edge_at t.level.polygons (edge_number t.level.polygons s)) (polygon_at t.level.polygons f) ≡ true
  number-has f s has =
      sym (edge-same s (edge_at t.level.polygons (edge_number t.level.polygons s)) (side-edge t.level.polygons f s has) (sides_of (polygon_at t.level.polygons f)))
      ∙ any-side-edge s (sides_of (polygon_at t.level.polygons f)) has

  -- a face has the edge at its place, and the one at the next
  pub has-before : (i : ℕ) → i < face_count t v → has_edge (edge_at t.level.polygons (edge_in i)) (polygon_at t.level.polygons (face i)) ≡ true
  has-before i h =
      let side = before-side t.level.polygons is.simple is.sides_once v (face i) (face-corner t is v inside i h) in
      subst (λ (n : ℕ). has_edge (edge_at t.level.polygons n) (polygon_at t.level.polygons (face i)) ≡ true) (sym side.2 ∙ sym (fan.before i h)) (number-has (face i) (side.0, v) side.1)

  pub has-after : (i : ℕ) → i < face_count t v → has_edge (edge_at t.level.polygons (edge_in (next i))) (polygon_at t.level.polygons (face i)) ≡ true
  has-after i h =
      let side = after-side t.level.polygons is.simple is.sides_once v (face i) (face-corner t is v inside i h) in
      subst (λ (n : ℕ). has_edge (edge_at t.level.polygons n) (polygon_at t.level.polygons (face i)) ≡ true) (sym side.2 ∙ (after-next i h).1) (number-has (face i) (v, side.0) side.1)

  edge-numbers : (f : ℕ) (edge : ℕ × ℕ) → has_edge edge (polygon_at t.level.polygons f) ≡ true → has_end v edge ≡ true → (edge_number t.level.polygons edge ≡ edge_before t.level.polygons v f) ⊎ (edge_number t.level.polygons edge ≡ edge_after t.level.polygons v f)
  edge-numbers f edge has ends =
      let found = any-side (same_edge edge) (sides_of (polygon_at t.level.polygons f)) has in
      let s : ℕ × ℕ = found.0 in
      go s found.2 (position-alike edge s (edges_of t.level.polygons) found.1) (or_cases (nat_eq v s.0) (nat_eq v s.1) (end-alike v edge s found.1 ends))
    where
      go : (s : ℕ × ℕ) → has_side s (polygon_at t.level.polygons f) ≡ true → edge_number t.level.polygons edge ≡ edge_number t.level.polygons s → (nat_eq v s.0 ≡ true) ⊎ (nat_eq v s.1 ≡ true) → (edge_number t.level.polygons edge ≡ edge_before t.level.polygons v f) ⊎ (edge_number t.level.polygons edge ≡ edge_after t.level.polygons v f)
      go s there number (inl e) =
          let same = eqb-true _ _ e in
          let side : has_side (v, s.1) (polygon_at t.level.polygons f) ≡ true = ap (λ (n : ℕ). has_side (n, s.1) (polygon_at t.level.polygons f)) same ∙ there in
          inr (number ∙ ap (λ (n : ℕ). edge_number t.level.polygons (n, s.1)) (sym same) ∙ sym (after-is t.level.polygons is.simple is.sides_once v f s.1 side))
      go s there number (inr e) =
          let same = eqb-true _ _ e in
          let side : has_side (s.0, v) (polygon_at t.level.polygons f) ≡ true = ap (λ (n : ℕ). has_side (s.0, n) (polygon_at t.level.polygons f)) same ∙ there in
          inl (number ∙ ap (λ (n : ℕ). edge_number t.level.polygons (s.0, n)) (sym same) ∙ sym (before-is t.level.polygons is.simple is.sides_once v f s.0 side))

  -- a face at the vertex has a place there
  pub face-place : (f : ℕ) → has_corner v (polygon_at t.level.polygons f) ≡ true → (i : ℕ) × (i < face_count t v) × (face i ≡ f)
  face-place f has = among-at f (get_or t.faces_at v []) (faces-all t v f is inside ∙ has)

  -- an edge of a face at the vertex has the place of the face or the next place
  pub edge-place : (i e : ℕ) → i < face_count t v → e < length (edges_of t.level.polygons) → has_edge (edge_at t.level.polygons e) (polygon_at t.level.polygons (face i)) ≡ true → has_end v (edge_at t.level.polygons e) ≡ true → (e ≡ edge_in i) ⊎ (e ≡ edge_in (next i))
  edge-place i e h exists has ends = go (edge-numbers (face i) (edge_at t.level.polygons e) has ends)
    where
      go : (edge_number t.level.polygons (edge_at t.level.polygons e) ≡ edge_before t.level.polygons v (face i)) ⊎ (edge_number t.level.polygons (edge_at t.level.polygons e) ≡ edge_after t.level.polygons v (face i)) → (e ≡ edge_in i) ⊎ (e ≡ edge_in (next i))
      go (inl n) = inl (sym (own-number t.level.polygons e exists) ∙ n ∙ sym (fan.before i h))
      go (inr n) = inr (sym (own-number t.level.polygons e exists) ∙ n ∙ (after-next i h).1)

  -- each edge has one place
  pub edge-once : (i j : ℕ) → i < edge_count → j < edge_count → edge_in i ≡ edge_in j → i ≡ j
  edge-once i j hi hj e = distinct-places (get_or t.edges_at v []) i j (edges-once t v is inside) hi hj e

  -- about a path the first edge has one face
  first-outer : edge_count ≡ face_count t v + 1 → 0 < face_count t v → is_boundary t.level.polygons (edge_at t.level.polygons (edge_in 0)) ≡ true
  first-outer path some =
      let e = edge_in 0 in
      let there = edges-each t v 0 is inside (omega (arith, path)) in
      let few = edge-few t e is there.exists in
      eq-eqb _ _ (one (length (faces_of_edge t.level.polygons (edge_at t.level.polygons e))) few.0 few.1 (λ two.
      let at_f = edge-face t.level.polygons e 0 (omega (arith, two)) in
      let at_g = edge-face t.level.polygons e 1 (omega (arith, two)) in
      let order = edge-order t.level.polygons e 0 (omega (arith, two)) in
      omega (arith, order, only (get_or (faces_of_edge t.level.polygons (edge_at t.level.polygons e)) 0 0) at_f.has, only (get_or (faces_of_edge t.level.polygons (edge_at t.level.polygons e)) 1 0) at_g.has)))
    where
      one : (n : ℕ) → 1 ≤ n → n ≤ 2 → (n ≡ 2 → ⊥) → n ≡ 1
      one n some few not_two = omega (arith, not_two)

      ends : has_end v (edge_at t.level.polygons (edge_in 0)) ≡ true
      ends = edge-ends 0 (omega (arith, path))

      only : (f : ℕ) → has_edge (edge_at t.level.polygons (edge_in 0)) (polygon_at t.level.polygons f) ≡ true → f ≡ face 0
      only f has =
          let place = face-place f (edge-end (polygon_at t.level.polygons f) v (edge_at t.level.polygons (edge_in 0)) ends has) in
          sym place.2 ∙ ap face (go place.0 place.1 (edge-place place.0 (edge_in 0) place.1 (edges-each t v 0 is inside (omega (arith, path))).exists (ap (λ (n : ℕ). has_edge (edge_at t.level.polygons (edge_in 0)) (polygon_at t.level.polygons n)) place.2 ∙ has) ends))
        where
          later : (i : ℕ) → i < face_count t v → next i ≡ i + 1
          later i h = go (nat_eq (i + 1) edge_count) refl
            where
              go : (b : Bool) → nat_eq (i + 1) edge_count ≡ b → next i ≡ i + 1
              go true e = absurd (omega (arith, eqb-true _ _ e, path, h))
              go false e = rw e refl

          go : (i : ℕ) → i < face_count t v → (edge_in 0 ≡ edge_in i) ⊎ (edge_in 0 ≡ edge_in (next i)) → i ≡ 0
          go i h (inl e) = sym (edge-once 0 i (omega (arith, path)) (omega (arith, path, h)) e)
          go i h (inr e) = let same = edge-once 0 (next i) (omega (arith, path)) (after-next i h).0 e in absurd (omega (arith, same, later i h))

  module _ (apart : List Bool) (marks : apart ≡ apart_marks mesh) where
    -- an edge is cut where its faces are apart
    pub cut-is : (i : ℕ) → i < edge_count → is_cut t apart v i ≡ is_apart mesh (edge_at t.level.polygons (edge_in i))
    cut-is i h =
        let there = edges-each t v i is inside h in
        let exists : edge_in i < length (edges_of mesh.faces) = subst (λ (polygons : List Polygon). edge_in i < length (edges_of polygons)) (same-faces mesh t cuttable) there.exists in
        ap (λ (xs : List Bool). get_or xs (edge_in i) false) marks
        ∙ get_or-map (is_apart mesh) (edges_of mesh.faces) (edge_in i) (0, 0) false exists
        ∙ ap (λ (polygons : List Polygon). is_apart mesh (edge_at polygons (edge_in i))) (sym (same-faces mesh t cuttable))

    -- neighbours that are not cut are near
    pub next-near : (i : ℕ) → i < face_count t v → next i < face_count t v → is_cut t apart v (next i) ≡ false → are_near mesh v (face i) (face (next i)) ≡ true
    next-near i h more joins =
        let edge = edge_at t.level.polygons (edge_in (next i)) in
        let parts = neither (is_boundary mesh.faces edge) (is_seam mesh edge) (sym (cut-is (next i) (after-next i h).0) ∙ joins) in
        near-from mesh v (face i) (face (next i)) edge (edge-ends (next i) (after-next i h).0) parts.1 (on-mesh (face i) edge (has-after i h)) (on-mesh (face (next i)) edge (has-before (next i) more))

    -- neighbours that are joined have one run
    pub next-run : (i : ℕ) → i < face_count t v → next i < face_count t v → is_cut t apart v (next i) ≡ false → run_of t apart v (next i) ≡ run_of t apart v i
    next-run i h more joins = go (nat_eq (i + 1) edge_count) refl
      where
        go : (b : Bool) → nat_eq (i + 1) edge_count ≡ b → run_of t apart v (next i) ≡ run_of t apart v i
        go true e =
            let whole : i + 1 ≡ face_count t v = omega (arith, eqb-true _ _ e, enough-edges t is v inside, h) in
            let first : next i ≡ 0 = rw e refl in
            let none : is_cut t apart v 0 ≡ false = ap (is_cut t apart v) (sym first) ∙ joins in
            ap (run_of t apart v) first
            ∙ last-no (is_cut t apart v) (last_run t apart v) 0 none
            ∙ sym (ap (last_before (is_cut t apart v) (last_run t apart v)) whole ∙ last-again (is_cut t apart v) 0 (face_count t v))
        go false e =
            let later : next i ≡ i + 1 = rw e refl in
            let none : is_cut t apart v (i + 1) ≡ false = ap (is_cut t apart v) (sym later) ∙ joins in
            ap (run_of t apart v) later ∙ last-no (is_cut t apart v) (last_run t apart v) (i + 1) none

    -- about a path the first edge is cut
    pub first-cut : edge_count ≡ face_count t v + 1 → 0 < face_count t v → is_cut t apart v 0 ≡ true
    first-cut path some =
        cut-is 0 (omega (arith, path))
        ∙ or_left _ _ (ap (λ (polygons : List Polygon). is_boundary polygons (edge_at t.level.polygons (edge_in 0))) (sym (same-faces mesh t cuttable)) ∙ first-outer path some)
