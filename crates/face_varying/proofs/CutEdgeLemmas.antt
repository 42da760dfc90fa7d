-- An edge of the cut mesh is at its boundary exactly where the faces on the two sides of its edge in the mesh are apart.
use Rattle.std.proofs.Common.{◌≡◌, ℕ, suc, ◌+◌, ◌<◌, ◌≤◌, Bool, true, false, ◌||◌, nat_eq, List, [], ◌∷◌, length, map, get_or, arith, refl, ap, sym, ◌∙◌, ◌⊎◌, inl, inr, if◌then◌else◌}
use Rattle.std.specs.List.{list_any, list_all, filter}
use Rattle.std.proofs.lemmas.Bool.{or_cases, or_left, or_right, eqb-true, eq-eqb, false_from_ne_true}
use Rattle.std.proofs.lemmas.List.{get_or-map, length-map}
use Rattle.subdiv_model.specs.Lists.{places_from}
use Rattle.subdiv_model.specs.Polygons.{Polygon, same_edge, sides_of, has_side, has_edge, has_corner, has_distinct_sides, is_among, polygon_at}
use Rattle.subdiv_model.specs.Edges.{all_sides, faces_of_edge, is_boundary, has_end}
use Rattle.subdiv_model.specs.Manifold.{is_simple}
use Rattle.subdiv_model.specs.ObjMesh.{ObjMesh}
use Rattle.subdiv_model.specs.Cut.{texture_number, is_seam_of, is_seam}
use Rattle.number_laws.proofs.CountLemmas.{any-weaker}
use Rattle.level_laws.proofs.FaceLemmas.{sides_of-length}
use Rattle.mesh_laws.proofs.FanLemmas.{places-at, side-start, side-end}
use Rattle.mesh_laws.proofs.ClosedLemmas.{any-side-edge}
use Rattle.mesh_laws.proofs.TurnedLemmas.{among-map}
use Rattle.level_topology.specs.Topology.{side_at}
use Rattle.level_topology.proofs.NumberingLemmas.{faces-alike}
use Rattle.level_topology.proofs.PlaceLemmas.{side-there}
use Rattle.texture_laws.specs.CutMesh.{cut_faces, point_of, vertex_of, vertices_of}
use Rattle.texture_laws.proofs.ChannelLemmas.{any-mapped, channel-vertex, cut-at, cut-whole}
use Rattle.texture_laws.proofs.JoinLemmas.{edge-end, seam-alike, joins-itself, joins-within, joins-edge, joins-number}
use Rattle.texture_laws.proofs.RenamedLemmas.{renamed, renamed-alike, renamed-sides}
use Rattle.face_varying.specs.Corners.{is_apart}
use Rattle.face_varying.proofs.EdgeSideLemmas.{has-own-side}
use Rattle.face_varying.proofs.TextureNumberLemmas.{few-faces, joined-number}

-- two numbers as a pair
abbrev pair : ℕ → ℕ → ℕ × ℕ
pair a b = (a, b)

-- pairs of equal parts
both-equal : {a b c d : ℕ} → a ≡ c → b ≡ d → pair a b ≡ pair c d
both-equal {b = b} {c = c} first second = ap (λ (x : ℕ). pair x b) first ∙ ap (pair c) second

-- among a few numbers there is one of them
one-of : (n a : ℕ) → is_among (a ∷ []) n ≡ true → n ≡ a
one-of n a h = here (or_cases (nat_eq n a) false h)
  where
    here : (nat_eq n a ≡ true) ⊎ (false ≡ true) → n ≡ a
    here (inl same) = eqb-true n a same
    here (inr none) = absurd (cc)

-- a number among two is one of both
one-of-two : (n a b : ℕ) → is_among (a ∷ (b ∷ [])) n ≡ true → (n ≡ a) ⊎ (n ≡ b)
one-of-two n a b h = here (or_cases (nat_eq n a) (is_among (b ∷ []) n) h)
  where
    here : (nat_eq n a ≡ true) ⊎ (is_among (b ∷ []) n ≡ true) → (n ≡ a) ⊎ (n ≡ b)
    here (inl same) = inl (eqb-true n a same)
    here (inr more) = inr (one-of n b more)

-- an item that passes the second test passes the first, so its place is among those of the first
places-kept : {X : Type 0} (d : X) (p q : X → Bool) (test : ℕ → Bool) (n : ℕ) (xs : List X) → ((x : X) → q x ≡ true → p x ≡ true) → ((i : ℕ) → i < length xs → test (n + i) ≡ q (get_or xs i d)) → places_from n q xs ≡ filter test (places_from n p xs)
places-kept d p q test n [] weaker same = refl
places-kept {X} d p q test n (x ∷ xs) weaker same =
    let stay : n + 0 ≡ n = omega arith in
    let first : test n ≡ q x = ap test (sym stay) ∙ same 0 (omega arith) in
    here (q x) (p x) refl refl first
    (places-kept d p q test (n + 1) xs weaker (λ i h. let next : n + 1 + i ≡ n + suc i = omega arith in ap test next ∙ same (suc i) (omega arith)))
  where
    here : (b c : Bool) → q x ≡ b → p x ≡ c → test n ≡ q x → places_from (n + 1) q xs ≡ filter test (places_from (n + 1) p xs) → places_from n q (x ∷ xs) ≡ filter test (places_from n p (x ∷ xs))
    here true true e k first behind = rw (e, k, first, e) (ap (λ (ns : List ℕ). n ∷ ns) behind)
    here true false e k first behind = let must = weaker x e in absurd (cc)
    here false true e k first behind = rw (e, k, first, e) behind
    here false false e k first behind = rw (e, k) behind

-- an edge has the edge by other names where the polygon has it
named-edge : (name : ℕ → ℕ) (s : ℕ × ℕ) (polygon : Polygon) → has_edge s polygon ≡ true → has_edge (renamed name s) (map name polygon) ≡ true
named-edge name s polygon h =
    ap (list_any (same_edge (renamed name s))) (renamed-sides name polygon)
    ∙ any-mapped (same_edge (renamed name s)) (renamed name) (sides_of polygon)
    ∙ any-weaker (same_edge s) (λ t. same_edge (renamed name s) (renamed name t)) (λ t same. renamed-alike name s t same) (sides_of polygon) h

-- the faces of an edge are those that have it
edge-place : (polygons : List Polygon) (s : ℕ × ℕ) (g : ℕ) → is_among (faces_of_edge polygons s) g ≡ has_edge s (polygon_at polygons g)
edge-place polygons s g =
    let n : g ≡ 0 + g = omega arith in
    ap (is_among (faces_of_edge polygons s)) n ∙ places-at (has_edge s) [] refl 0 g polygons

module _ (mesh : ObjMesh) where
  module _ (simple : list_all is_simple mesh.faces ≡ true) (once : has_distinct_sides (all_sides mesh.faces) ≡ true) where
    -- a side of a face, and the faces of the cut mesh that have its edge there
    module _ (f : ℕ) (s : ℕ × ℕ) (side : has_side s (polygon_at mesh.faces f) ≡ true) where
      abbrev cut_side : ℕ × ℕ
      cut_side = (point_of mesh f s.0, point_of mesh f s.1)

      -- a face has the side's edge in the cut mesh
      abbrev has_cut_side : ℕ → Bool
      has_cut_side g = has_edge cut_side (polygon_at (cut_faces mesh) g)

      -- the side starts at a corner of the face
      starts : has_corner s.0 (polygon_at mesh.faces f) ≡ true
      starts = side-start (polygon_at mesh.faces f) s side

      -- the side ends at a corner
      ends : has_corner s.1 (polygon_at mesh.faces f) ≡ true
      ends = side-end (polygon_at mesh.faces f) s side

      -- the face has its edge
      there : has_edge s (polygon_at mesh.faces f) ≡ true
      there = any-side-edge s (sides_of (polygon_at mesh.faces f)) side

      -- the points lead back to the vertices
      vertices : vertices_of mesh cut_side ≡ s
      vertices = both-equal (channel-vertex mesh f s.0 starts) (channel-vertex mesh f s.1 ends)

      -- a face with the same points at both ends has the edge
      has-points : (g : ℕ) → has_edge s (polygon_at mesh.faces g) ≡ true → point_of mesh g s.0 ≡ point_of mesh f s.0 → point_of mesh g s.1 ≡ point_of mesh f s.1 → has_cut_side g ≡ true
      has-points g at_g first second =
          let same : renamed (point_of mesh g) s ≡ cut_side = both-equal first second in
          ap (λ (t : ℕ × ℕ). has_edge t (polygon_at (cut_faces mesh) g)) (sym same) ∙ ap (has_edge (renamed (point_of mesh g) s)) (cut-at mesh g) ∙ named-edge (point_of mesh g) s (polygon_at mesh.faces g) at_g

      -- a face that has the edge in the cut mesh has it in the mesh
      cut-whole-edge : (polygon : Polygon) → has_edge cut_side polygon ≡ true → has_edge s (map (vertex_of mesh) polygon) ≡ true
      cut-whole-edge polygon h = ap (λ (t : ℕ × ℕ). has_edge t (map (vertex_of mesh) polygon)) (sym vertices) ∙ named-edge (vertex_of mesh) cut_side polygon h

      -- a face with the cut side has its point at an end
      end-point : (g v : ℕ) → has_corner v (polygon_at mesh.faces f) ≡ true → has_end (point_of mesh f v) cut_side ≡ true → has_cut_side g ≡ true → (has_corner v (polygon_at mesh.faces g) ≡ true) × (point_of mesh g v ≡ point_of mesh f v)
      end-point g v at_f is_end h =
          let corner = edge-end (polygon_at (cut_faces mesh) g) (point_of mesh f v) cut_side is_end h in
          let found = among-map (point_of mesh g) (polygon_at mesh.faces g) (point_of mesh f v) (ap (λ (polygon : Polygon). has_corner (point_of mesh f v) polygon) (sym (cut-at mesh g)) ∙ corner) in
          let same : found.0 ≡ v = sym (channel-vertex mesh g found.0 found.1) ∙ ap (vertex_of mesh) found.2 ∙ channel-vertex mesh f v at_f in
          (ap (λ (w : ℕ). has_corner w (polygon_at mesh.faces g)) (sym same) ∙ found.1, ap (point_of mesh g) (sym same) ∙ found.2)

      -- a face with the cut side has its texture number at an end
      end-texture : (g v : ℕ) → has_corner v (polygon_at mesh.faces f) ≡ true → has_end (point_of mesh f v) cut_side ≡ true → has_cut_side g ≡ true → texture_number mesh g v ≡ texture_number mesh f v
      end-texture g v at_f is_end h =
          let point = end-point g v at_f is_end h in
          sym (joined-number mesh simple once v f g ((joins-number mesh v f g at_f point.0).0 (sym point.1)))

      -- if the edge is no seam, each of its faces has it in the cut mesh
      joined-end : (g v : ℕ) → has_corner v (polygon_at mesh.faces f) ≡ true → has_end v s ≡ true → is_seam mesh s ≡ false → has_edge s (polygon_at mesh.faces g) ≡ true → point_of mesh g v ≡ point_of mesh f v
      joined-end g v at_f is_end joins at_g =
          let joined = sym (joins-edge mesh v f f g s at_f is_end joins there at_g) ∙ joins-itself mesh v f at_f in
          sym ((joins-number mesh v f g at_f (joins-within mesh v f g at_f joined)).1 joined)

      -- the ends of a pair
      first-end : (a b : ℕ) → has_end a (a, b) ≡ true
      first-end a b = or_left _ _ (eq-eqb a a refl)

      -- the second end is an end
      last-end : (a b : ℕ) → has_end b (a, b) ≡ true
      last-end a b = or_right _ _ (eq-eqb b b refl)

      -- a joined face has the edge in the cut mesh
      joined-side : (g : ℕ) → is_seam mesh s ≡ false → has_edge s (polygon_at mesh.faces g) ≡ true → has_cut_side g ≡ true
      joined-side g joins at_g = has-points g at_g (joined-end g s.0 starts (first-end s.0 s.1) joins at_g) (joined-end g s.1 ends (last-end s.0 s.1) joins at_g)

      -- of the at most two faces of the edge, only this one has it in the cut mesh if there is no other or the edge is a seam
      decide : (faces : List ℕ) → length faces ≤ 2 → is_among faces f ≡ true → (is_seam_of mesh s faces ≡ false → (g : ℕ) → is_among faces g ≡ true → has_cut_side g ≡ true)
          → nat_eq (length (filter has_cut_side faces)) 1 ≡ (nat_eq (length faces) 1 || is_seam_of mesh s faces)
      decide [] few at_f joins = absurd (cc)
      decide (a ∷ []) few at_f joins =
          let e = one-of f a at_f in
          let has : has_cut_side a ≡ true = ap has_cut_side (sym e) ∙ has-points f there refl refl in
          rw has refl
      decide (a ∷ (b ∷ (c ∷ rest))) few at_f joins = absurd (omega (arith, few))
      decide (a ∷ (b ∷ [])) few at_f joins = here (is_seam_of mesh s (a ∷ (b ∷ []))) refl
        where
          own : has_cut_side f ≡ true
          own = has-points f there refl refl

          same-seam : (g h : ℕ) → texture_number mesh g s.0 ≡ texture_number mesh h s.0 → texture_number mesh g s.1 ≡ texture_number mesh h s.1 → is_seam_of mesh s (g ∷ (h ∷ [])) ≡ false
          same-seam g h first second =
              let one : nat_eq (texture_number mesh g s.0) (texture_number mesh h s.0) ≡ true = eq-eqb _ _ first in
              let two : nat_eq (texture_number mesh g s.1) (texture_number mesh h s.1) ≡ true = eq-eqb _ _ second in
              rw (one, two) refl

          like : (g : ℕ) → has_cut_side g ≡ true → (texture_number mesh g s.0 ≡ texture_number mesh f s.0) × (texture_number mesh g s.1 ≡ texture_number mesh f s.1)
          like g h = (end-texture g s.0 starts (first-end (point_of mesh f s.0) (point_of mesh f s.1)) h, end-texture g s.1 ends (last-end (point_of mesh f s.0) (point_of mesh f s.1)) h)

          not-both : is_seam_of mesh s (a ∷ (b ∷ [])) ≡ true → has_cut_side a ≡ true → has_cut_side b ≡ true → ⊥
          not-both seam has_a has_b =
              let one = like a has_a in
              let two = like b has_b in
              let none = same-seam a b (one.0 ∙ sym two.0) (one.1 ∙ sym two.1) in
              cc

          here : (d : Bool) → is_seam_of mesh s (a ∷ (b ∷ [])) ≡ d → nat_eq (length (filter has_cut_side (a ∷ (b ∷ [])))) 1 ≡ (false || is_seam_of mesh s (a ∷ (b ∷ [])))
          here false e =
              let has_a = joins e a (or_left _ _ (eq-eqb a a refl)) in
              let has_b = joins e b (or_right _ _ (or_left _ _ (eq-eqb b b refl))) in
              rw (e, has_a, has_b) refl
          here true e = which (one-of-two f a b at_f)
            where
              which : (f ≡ a) ⊎ (f ≡ b) → nat_eq (length (filter has_cut_side (a ∷ (b ∷ [])))) 1 ≡ (false || is_seam_of mesh s (a ∷ (b ∷ [])))
              which (inl is) =
                  let has_a : has_cut_side a ≡ true = ap has_cut_side (sym is) ∙ own in
                  let not_b : has_cut_side b ≡ false = false_from_ne_true _ (λ has_b. not-both e has_a has_b) in
                  rw (e, has_a, not_b) refl
              which (inr is) =
                  let has_b : has_cut_side b ≡ true = ap has_cut_side (sym is) ∙ own in
                  let not_a : has_cut_side a ≡ false = false_from_ne_true _ (λ has_a. not-both e has_a has_b) in
                  rw (e, has_b, not_a) refl

      -- the faces of the edge in the cut mesh are among those in the mesh
      kept-faces : faces_of_edge (cut_faces mesh) cut_side ≡ filter has_cut_side (faces_of_edge mesh.faces s)
      kept-faces =
          places-kept [] (λ polygon. has_edge s (map (vertex_of mesh) polygon)) (has_edge cut_side) has_cut_side 0 (cut_faces mesh) cut-whole-edge (λ i h. let n : 0 + i ≡ i = omega arith in ap has_cut_side n)
          ∙ ap (filter has_cut_side) (sym (places-named (cut_faces mesh) 0) ∙ ap (λ (polygons : List Polygon). faces_of_edge polygons s) (cut-whole mesh))
        where
          places-named : (polygons : List Polygon) (n : ℕ) → places_from n (has_edge s) (map (map (vertex_of mesh)) polygons) ≡ places_from n (λ polygon. has_edge s (map (vertex_of mesh) polygon)) polygons
          places-named [] n = refl
          places-named (polygon ∷ polygons) n = ap (λ (ns : List ℕ). if has_edge s (map (vertex_of mesh) polygon) then n ∷ ns else ns) (places-named polygons (n + 1))

      -- the side is at the boundary of the cut mesh where the faces at its edge are apart
      pub cut-apart : is_boundary (cut_faces mesh) (point_of mesh f s.0, point_of mesh f s.1) ≡ is_apart mesh s
      cut-apart =
          ap (λ (faces : List ℕ). nat_eq (length faces) 1) kept-faces
          ∙ decide (faces_of_edge mesh.faces s) (few-faces mesh.faces s simple once) (edge-place mesh.faces s f ∙ there) (λ joins g at_g. joined-side g joins (sym (edge-place mesh.faces s g) ∙ at_g))

    -- the corner places of a side lead to its points
    pub side-points : (f c : ℕ) → c < length (polygon_at mesh.faces f) → side_at (polygon_at (cut_faces mesh) f) c ≡ renamed (point_of mesh f) (side_at (polygon_at mesh.faces f) c)
    side-points f c h =
        let within : c < length (sides_of (polygon_at mesh.faces f)) = omega (arith, h, sides_of-length (polygon_at mesh.faces f)) in
        ap (λ (polygon : Polygon). side_at polygon c) (cut-at mesh f)
        ∙ sym (side-there (map (point_of mesh f) (polygon_at mesh.faces f)) c (omega (arith, h, length-map (polygon_at mesh.faces f) (point_of mesh f))))
        ∙ ap (λ (sides : List (ℕ × ℕ)). get_or sides c (0, 0)) (renamed-sides (point_of mesh f) (polygon_at mesh.faces f))
        ∙ get_or-map (renamed (point_of mesh f)) (sides_of (polygon_at mesh.faces f)) c (0, 0) (0, 0) within
        ∙ ap (renamed (point_of mesh f)) (side-there (polygon_at mesh.faces f) c h)

    -- the points of a cut side lead to the side
    pub side-vertices : (f c : ℕ) → c < length (polygon_at mesh.faces f) → vertices_of mesh (side_at (polygon_at (cut_faces mesh) f) c) ≡ side_at (polygon_at mesh.faces f) c
    side-vertices f c h = ap (vertices_of mesh) (side-points f c h) ∙ vertices f (side_at (polygon_at mesh.faces f) c) (has-own-side (polygon_at mesh.faces f) c h)

    -- a side is at the boundary of the cut mesh where the faces of its edge in the mesh are apart
    pub side-apart : (f c : ℕ) → c < length (polygon_at mesh.faces f) → is_boundary (cut_faces mesh) (side_at (polygon_at (cut_faces mesh) f) c) ≡ is_apart mesh (side_at (polygon_at mesh.faces f) c)
    side-apart f c h = ap (is_boundary (cut_faces mesh)) (side-points f c h) ∙ cut-apart f (side_at (polygon_at mesh.faces f) c) (has-own-side (polygon_at mesh.faces f) c h)

  -- faces of an edge are apart whichever way it is named
  pub apart-alike : (s t : ℕ × ℕ) → same_edge s t ≡ true → is_apart mesh s ≡ is_apart mesh t
  apart-alike s t h = ap (λ (faces : List ℕ). nat_eq (length faces) 1 || is_seam mesh s) (faces-alike s t 0 mesh.faces h) ∙ ap (λ (b : Bool). is_boundary mesh.faces t || b) (seam-alike mesh s t h)
