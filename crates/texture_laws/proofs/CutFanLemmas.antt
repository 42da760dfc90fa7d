-- The cut mesh is a manifold: its faces are simple, no directed edge occurs twice, and joined faces are one fan.
use Rattle.std.proofs.Common.{◌≡◌, ℕ, ◌<◌, Bool, true, false, not, ◌&&◌, nat_eq, nat_le, List, [], ◌∷◌, length, map, refl, ap, sym, ◌∙◌, subst, ◌⊎◌, inl, inr, IsTrue}
use Rattle.std.specs.List.{All, list_any, list_all}
use Rattle.std.proofs.lemmas.Bool.{and_parts, and_from, or_cases, or_left, or_right, eqb-true, eq-eqb, not-true, not_from_false, false_from_ne_true}
use Rattle.std.proofs.lemmas.List.{length-map}
use Rattle.std.proofs.lemmas.List.Sums.{AllPass-from_list_all, list_all-from_AllPass}
use Rattle.subdiv_model.specs.Polygons.{Polygon, same_side, same_edge, sides_of, has_side, has_edge, has_corner, is_among, is_distinct, has_distinct_sides, polygon_at}
use Rattle.subdiv_model.specs.Edges.{all_sides, faces_of_point, has_end}
use Rattle.subdiv_model.specs.Manifold.{IsSuccessor, IsPath, HasOneFan, IsManifold, is_simple}
use Rattle.subdiv_model.specs.ObjMesh.{ObjMesh}
use Rattle.subdiv_model.specs.Cut.{is_seam, joined_faces}
use Rattle.number_laws.proofs.CountLemmas.{any-weaker}
use Rattle.mesh_laws.proofs.SideLemmas.{same_side-refl, distinct-count}
use Rattle.mesh_laws.proofs.ClosedLemmas.{any-side-edge}
use Rattle.mesh_laws.proofs.ChildClosedLemmas.{same-pair}
use Rattle.mesh_laws.proofs.TurnedLemmas.{among-map, map-among}
use Rattle.mesh_laws.proofs.FanLemmas.{any-side, faces-among, side-end, side-start, leader-unique, owner-unique, successor-unique, distinct-at}
use Rattle.texture_laws.specs.CutMesh.{cut_faces, cut_point_count, point_of, vertex_of}
use Rattle.texture_laws.proofs.ChannelLemmas.{channel-used, cut-at, cut-whole}
use Rattle.texture_laws.proofs.RenamedLemmas.{renamed, renamed-sides, renamed-all}
use Rattle.texture_laws.proofs.JoinLemmas.{are_near, near-from, near-parts, edge-cases, turned-edge, edge-same, seam-alike, joins-itself, joins-within, joins-near, joins-least, joins-number, number-point}
use Rattle.texture_laws.proofs.ChainLemmas.{IsLinked, IsChain, chain}
use Rattle.texture_laws.proofs.SeamlessLemmas.{AreNearHere, successor-near-here, linked-joined}

-- numbers with distinct names are distinct
distinct-named : (name : ℕ → ℕ) (numbers : List ℕ) → is_distinct (map name numbers) ≡ true → is_distinct numbers ≡ true
distinct-named name [] h = refl
distinct-named name (n ∷ numbers) h =
    let parts = and_parts (not (is_among (map name numbers) (name n))) (is_distinct (map name numbers)) h in
    and_from _ _ (not_from_false _ (false_from_ne_true _ (λ there.
    let again = map-among name numbers n (name n) there refl in
    let gone = not-true _ parts.0 in
    cc))) (distinct-named name numbers parts.1)

simple-named : (name : ℕ → ℕ) (polygons : List Polygon) → list_all is_simple (map (map name) polygons) ≡ true → list_all is_simple polygons ≡ true
simple-named name [] h = refl
simple-named name (polygon ∷ polygons) h =
    let outer = and_parts (is_simple (map name polygon)) (list_all is_simple (map (map name) polygons)) h in
    let inner = and_parts (nat_le 3 (length (map name polygon))) (is_distinct (map name polygon)) outer.0 in
    and_from _ _ (and_from _ _ (ap (nat_le 3) (sym (length-map polygon name)) ∙ inner.0) (distinct-named name polygon inner.1)) (simple-named name polygons outer.1)

side-named-too : (name : ℕ → ℕ) (s : ℕ × ℕ) (sides : List (ℕ × ℕ)) → list_any (same_side s) sides ≡ true → list_any (same_side (renamed name s)) (map (renamed name) sides) ≡ true
side-named-too name s [] h = absurd (cc)
side-named-too name s (t ∷ sides) h = here (or_cases (same_side s t) (list_any (same_side s) sides) h) (λ k. side-named-too name s sides k)
  where
    here : (same_side s t ≡ true) ⊎ (list_any (same_side s) sides ≡ true) → (list_any (same_side s) sides ≡ true → list_any (same_side (renamed name s)) (map (renamed name) sides) ≡ true) → list_any (same_side (renamed name s)) (map (renamed name) (t ∷ sides)) ≡ true
    here (inl same) behind = or_left _ _ (ap (λ (e : ℕ × ℕ). same_side (renamed name s) (renamed name e)) (sym (same-pair s t same)) ∙ same_side-refl (renamed name s))
    here (inr more) behind = or_right _ _ (behind more)

sides-named : (name : ℕ → ℕ) (sides : List (ℕ × ℕ)) → has_distinct_sides (map (renamed name) sides) ≡ true → has_distinct_sides sides ≡ true
sides-named name [] h = refl
sides-named name (s ∷ sides) h =
    let parts = and_parts (not (list_any (same_side (renamed name s)) (map (renamed name) sides))) (has_distinct_sides (map (renamed name) sides)) h in
    and_from _ _ (not_from_false _ (false_from_ne_true _ (λ there.
    let again = side-named-too name s sides there in
    let gone = not-true _ parts.0 in
    cc))) (sides-named name sides parts.1)

-- a side by other names is a side of the polygon by other names
side-in-named : (name : ℕ → ℕ) (s : ℕ × ℕ) (polygon : Polygon) → has_side s polygon ≡ true → has_side (renamed name s) (map name polygon) ≡ true
side-in-named name s polygon h = ap (list_any (same_side (renamed name s))) (renamed-sides name polygon) ∙ side-named-too name s (sides_of polygon) h

-- an edge of the polygon with an end at v goes from v or to v
edge-at : (v : ℕ) (edge : ℕ × ℕ) → has_end v edge ≡ true → (c : ℕ) × ((edge ≡ (v, c)) ⊎ (edge ≡ (c, v)))
edge-at v edge ends = here (or_cases (nat_eq v edge.0) (nat_eq v edge.1) ends)
  where
    here : (nat_eq v edge.0 ≡ true) ⊎ (nat_eq v edge.1 ≡ true) → (c : ℕ) × ((edge ≡ (v, c)) ⊎ (edge ≡ (c, v)))
    here (inl same) = (edge.1, inl (ap (λ (n : ℕ). (n, edge.1)) (sym (eqb-true v edge.0 same))))
    here (inr same) = (edge.0, inr (ap (λ (n : ℕ). (edge.0, n)) (sym (eqb-true v edge.1 same))))

side-ways : (a b : ℕ) (polygon : Polygon) → has_edge (a, b) polygon ≡ true → (has_side (a, b) polygon ≡ true) ⊎ (has_side (b, a) polygon ≡ true)
side-ways a b polygon h =
    let found = any-side (same_edge (a, b)) (sides_of polygon) h in
    here found.0 (edge-cases (a, b) found.0 found.1) found.2
  where
    here : (s : ℕ × ℕ) → (◌≡◌ {A = ℕ × ℕ} (a, b) s) ⊎ (◌≡◌ {A = ℕ × ℕ} (a, b) (s.1, s.0)) → has_side s polygon ≡ true → (has_side (a, b) polygon ≡ true) ⊎ (has_side (b, a) polygon ≡ true)
    here s (inl same) k = inl (ap (λ (t : ℕ × ℕ). has_side t polygon) same ∙ k)
    here s (inr turned) k = inr (ap (λ (t : ℕ × ℕ). has_side (t.1, t.0) polygon) turned ∙ k)

swap : {P Q : Type 0} → P ⊎ Q → Q ⊎ P
swap (inl p) = inr p
swap (inr q) = inl q

module _ (mesh : ObjMesh) (simple : list_all is_simple mesh.faces ≡ true) (distinct : has_distinct_sides (all_sides mesh.faces) ≡ true) where
  module _ (v : ℕ) where
    -- the test for a successor about v through an edge that is no seam
    abbrev pub joins_on : ℕ → ℕ → Bool
    joins_on f g = list_any (λ side. nat_eq v side.0 && (has_side (side.1, v) (polygon_at mesh.faces g) && not (is_seam mesh side))) (sides_of (polygon_at mesh.faces f))

    abbrev pub IsJoinedOn : ℕ → ℕ → Type 0
    IsJoinedOn f g = (is : IsSuccessor mesh.faces v f g) × (is_seam mesh (v, is.corner) ≡ false)

    joined_on-from : (f g : ℕ) → joins_on f g ≡ true → IsJoinedOn f g
    joined_on-from f g h =
        let found = any-side (λ side. nat_eq v side.0 && (has_side (side.1, v) (polygon_at mesh.faces g) && not (is_seam mesh side))) (sides_of (polygon_at mesh.faces f)) h in
        let s : ℕ × ℕ = found.0 in
        let outer = and_parts (nat_eq v s.0) (has_side (s.1, v) (polygon_at mesh.faces g) && not (is_seam mesh s)) found.1 in
        let inner = and_parts (has_side (s.1, v) (polygon_at mesh.faces g)) (not (is_seam mesh s)) outer.1 in
        let start : v ≡ s.0 = eqb-true v s.0 outer.0 in (
          record {
            corner = s.1;
            follows = ap (λ (n : ℕ). has_side (n, s.1) (polygon_at mesh.faces f)) start ∙ found.2;
            leads_back = inner.0;
          },
          ap (λ (n : ℕ). is_seam mesh (n, s.1)) start ∙ not-true _ inner.1,
        )

    joined_on-test : (f g c : ℕ) → has_side (v, c) (polygon_at mesh.faces f) ≡ true → has_side (c, v) (polygon_at mesh.faces g) ≡ true → is_seam mesh (v, c) ≡ false → joins_on f g ≡ true
    joined_on-test f g c follows leads_back joins =
        any-weaker (same_side (v, c)) (λ side. nat_eq v side.0 && (has_side (side.1, v) (polygon_at mesh.faces g) && not (is_seam mesh side))) (λ s h.
        let same = same-pair (v, c) s h in
        ap (λ (t : ℕ × ℕ). nat_eq v t.0 && (has_side (t.1, v) (polygon_at mesh.faces g) && not (is_seam mesh t))) (sym same)
        ∙ and_from _ _ (eq-eqb v v refl) (and_from _ _ leads_back (not_from_false _ joins))) (sides_of (polygon_at mesh.faces f)) follows

    owner-one : (s : ℕ × ℕ) (f g : ℕ) → has_side s (polygon_at mesh.faces f) ≡ true → has_side s (polygon_at mesh.faces g) ≡ true → f ≡ g
    owner-one s f g = owner-unique mesh.faces s f g (distinct-count s (all_sides mesh.faces) distinct)

    one-after : (f g h : ℕ) → joins_on f g ≡ true → joins_on f h ≡ true → g ≡ h
    one-after f g h a b = successor-unique mesh.faces simple distinct v f g h (joined_on-from f g a).0 (joined_on-from f h b).0

    one-before : (f g h : ℕ) → joins_on f h ≡ true → joins_on g h ≡ true → f ≡ g
    one-before f g h a b =
        let one = (joined_on-from f h a).0 in
        let two = (joined_on-from g h b).0 in
        let same : one.corner ≡ two.corner = leader-unique (polygon_at mesh.faces h) v one.corner two.corner (distinct-at mesh.faces h simple) one.leads_back two.leads_back in
        owner-one (v, two.corner) f g (ap (λ (c : ℕ). has_side (v, c) (polygon_at mesh.faces f)) (sym same) ∙ one.follows) two.follows

    here-from : (f g : ℕ) → joins_on f g ≡ true → has_corner v (polygon_at mesh.faces f) ≡ true
    here-from f g h = let is = (joined_on-from f g h).0 in side-start (polygon_at mesh.faces f) (v, is.corner) is.follows

    here-onward : (f g : ℕ) → joins_on f g ≡ true → has_corner v (polygon_at mesh.faces g) ≡ true
    here-onward f g h = let is = (joined_on-from f g h).0 in side-end (polygon_at mesh.faces g) (is.corner, v) is.leads_back

    joined-chain : (f : ℕ) → IsChain joins_on (faces_of_point mesh.faces v) (λ g h k. faces-among mesh.faces v g ∙ here-from g h k) (λ g h k. faces-among mesh.faces v h ∙ here-onward g h k) one-after one-before f
    joined-chain = chain joins_on (faces_of_point mesh.faces v) (λ g h k. faces-among mesh.faces v g ∙ here-from g h k) (λ g h k. faces-among mesh.faces v h ∙ here-onward g h k) one-after one-before

    -- near faces are one, or one is the successor of the other
    near-on : (f g : ℕ) → are_near mesh v f g ≡ true → (f ≡ g) ⊎ ((joins_on f g ≡ true) ⊎ (joins_on g f ≡ true))
    near-on f g h = here (near-parts mesh v f g h)
      where
        through : (c : ℕ) → is_seam mesh (v, c) ≡ false → (has_side (v, c) (polygon_at mesh.faces f) ≡ true) ⊎ (has_side (c, v) (polygon_at mesh.faces f) ≡ true) → (has_side (v, c) (polygon_at mesh.faces g) ≡ true) ⊎ (has_side (c, v) (polygon_at mesh.faces g) ≡ true) → (f ≡ g) ⊎ ((joins_on f g ≡ true) ⊎ (joins_on g f ≡ true))
        through c joins (inl at_f) (inl at_g) = inl (owner-one (v, c) f g at_f at_g)
        through c joins (inl at_f) (inr at_g) = inr (inl (joined_on-test f g c at_f at_g joins))
        through c joins (inr at_f) (inl at_g) = inr (inr (joined_on-test g f c at_g at_f joins))
        through c joins (inr at_f) (inr at_g) = inl (owner-one (c, v) f g at_f at_g)

        from : (edge : ℕ × ℕ) → is_seam mesh edge ≡ false → has_edge edge (polygon_at mesh.faces f) ≡ true → has_edge edge (polygon_at mesh.faces g) ≡ true → (c : ℕ) × ((edge ≡ (v, c)) ⊎ (edge ≡ (c, v))) → (f ≡ g) ⊎ ((joins_on f g ≡ true) ⊎ (joins_on g f ≡ true))
        from edge joins at_f at_g at = ways at.0 at.1
          where
            ways : (c : ℕ) → (edge ≡ (v, c)) ⊎ (edge ≡ (c, v)) → (f ≡ g) ⊎ ((joins_on f g ≡ true) ⊎ (joins_on g f ≡ true))
            ways c (inl same) =
                through c (ap (is_seam mesh) (sym same) ∙ joins)
                (side-ways v c (polygon_at mesh.faces f) (ap (λ (e : ℕ × ℕ). has_edge e (polygon_at mesh.faces f)) (sym same) ∙ at_f))
                (side-ways v c (polygon_at mesh.faces g) (ap (λ (e : ℕ × ℕ). has_edge e (polygon_at mesh.faces g)) (sym same) ∙ at_g))
            ways c (inr same) =
                through c (seam-alike mesh (v, c) (c, v) (turned-edge v c) ∙ ap (is_seam mesh) (sym same) ∙ joins)
                (swap (side-ways c v (polygon_at mesh.faces f) (ap (λ (e : ℕ × ℕ). has_edge e (polygon_at mesh.faces f)) (sym same) ∙ at_f)))
                (swap (side-ways c v (polygon_at mesh.faces g) (ap (λ (e : ℕ × ℕ). has_edge e (polygon_at mesh.faces g)) (sym same) ∙ at_g)))

        here : (f ≡ g) ⊎ ((edge : ℕ × ℕ) × (has_end v edge ≡ true) × (is_seam mesh edge ≡ false) × (has_edge edge (polygon_at mesh.faces f) ≡ true) × (has_edge edge (polygon_at mesh.faces g) ≡ true)) → (f ≡ g) ⊎ ((joins_on f g ≡ true) ⊎ (joins_on g f ≡ true))
        here (inl same) = inl same
        here (inr e) = from e.0 e.2 e.3 e.4 (edge-at v e.0 e.1)

    on-near : (f g : ℕ) → joins_on f g ≡ true → AreNearHere mesh v f g
    on-near f g h = let is = joined_on-from f g h in successor-near-here mesh v f g is.0 is.1

    on-linked : (faces : List ℕ) → IsLinked (λ m n. joins_on m n ≡ true) faces → IsLinked (AreNearHere mesh v) faces
    on-linked [] linked = tt
    on-linked (f ∷ []) linked = tt
    on-linked (f ∷ (g ∷ rest)) linked = (on-near f g linked.0, on-linked (g ∷ rest) linked.1)

    -- the chain of a face has the faces that are joined with it, and no others
    chain-joined : (f n : ℕ) → has_corner v (polygon_at mesh.faces f) ≡ true → is_among (joined-chain f).faces n ≡ true → is_among (joined_faces mesh v f) n ≡ true
    chain-joined f n at_f h = let all = joined-chain f in linked-joined mesh v f n all.faces (on-linked all.faces all.linked) at_f all.has h

    joined-chained : (f n : ℕ) → is_among (joined_faces mesh v f) n ≡ true → is_among (joined-chain f).faces n ≡ true
    joined-chained f n h =
        joins-least mesh v (λ m. is_among (joined-chain f).faces m ≡ true) (λ k m close there has. here k m has (near-on k m close)) f (joined-chain f).has n h
      where
        here : (k m : ℕ) → is_among (joined-chain f).faces k ≡ true → (k ≡ m) ⊎ ((joins_on k m ≡ true) ⊎ (joins_on m k ≡ true)) → is_among (joined-chain f).faces m ≡ true
        here k m has (inl same) = ap (is_among (joined-chain f).faces) (sym same) ∙ has
        here k m has (inr (inl on)) = (joined-chain f).forth k m has on
        here k m has (inr (inr on)) = (joined-chain f).back m k has on

    -- at a channel point the faces of the cut mesh are those that are joined at the vertex
    cut-joined : (face n : ℕ) → has_corner v (polygon_at mesh.faces face) ≡ true → has_corner (point_of mesh face v) (polygon_at (cut_faces mesh) n) ≡ true → is_among (joined_faces mesh v face) n ≡ true
    cut-joined face n at h =
        let p : ℕ = point_of mesh face v in
        let found = among-map (point_of mesh n) (polygon_at mesh.faces n) p (ap (has_corner p) (sym (cut-at mesh n)) ∙ h) in
        let w : ℕ = found.0 in
        let same : v ≡ w = ap (λ (s : ℕ × ℕ). s.0) (number-point mesh face n v w at found.1 (sym found.2)) in
        let there : has_corner v (polygon_at mesh.faces n) ≡ true = ap (λ (x : ℕ). has_corner x (polygon_at mesh.faces n)) same ∙ found.1 in
        (joins-number mesh v face n at there).0 (sym found.2 ∙ ap (point_of mesh n) (sym same))

    joined-number : (face n : ℕ) → has_corner v (polygon_at mesh.faces face) ≡ true → is_among (joined_faces mesh v face) n ≡ true → point_of mesh n v ≡ point_of mesh face v
    joined-number face n at h = sym ((joins-number mesh v face n at (joins-within mesh v face n at h)).1 h)

    joined-cut : (face n : ℕ) → has_corner v (polygon_at mesh.faces face) ≡ true → is_among (joined_faces mesh v face) n ≡ true → has_corner (point_of mesh face v) (polygon_at (cut_faces mesh) n) ≡ true
    joined-cut face n at h =
        ap (has_corner (point_of mesh face v)) (cut-at mesh n)
        ∙ map-among (point_of mesh n) (polygon_at mesh.faces n) v (point_of mesh face v) (joins-within mesh v face n at h) (joined-number face n at h)

    cut-side : (f : ℕ) (s : ℕ × ℕ) → has_side s (polygon_at mesh.faces f) ≡ true → has_side (renamed (point_of mesh f) s) (polygon_at (cut_faces mesh) f) ≡ true
    cut-side f s h =
        ap (has_side (renamed (point_of mesh f) s)) (cut-at mesh f) ∙ side-in-named (point_of mesh f) s (polygon_at mesh.faces f) h

    -- the successor through an edge that is no seam is the successor in the cut mesh
    cut-successor : (face f g : ℕ) → has_corner v (polygon_at mesh.faces face) ≡ true → is_among (joined_faces mesh v face) f ≡ true → is_among (joined_faces mesh v face) g ≡ true → joins_on f g ≡ true → IsSuccessor (cut_faces mesh) (point_of mesh face v) f g
    cut-successor face f g at in_f in_g on =
        let found = joined_on-from f g on in
        let is = found.0 in
        let number : ℕ → ℕ → ℕ = point_of mesh in
        record {
          corner = number f is.corner;
          follows = ap (λ (p : ℕ). has_side (p, number f is.corner) (polygon_at (cut_faces mesh) f)) (sym (joined-number face f at in_f)) ∙ cut-side f (v, is.corner) is.follows;
          leads_back =
              ap (λ (p : ℕ). has_side (p, number face v) (polygon_at (cut_faces mesh) g)) (other is.corner is.follows is.leads_back found.1)
              ∙ ap (λ (p : ℕ). has_side (number g is.corner, p) (polygon_at (cut_faces mesh) g)) (sym (joined-number face g at in_g))
              ∙ cut-side g (is.corner, v) is.leads_back;
        }
      where
        -- the edge joins the faces at its other end too
        other : (c : ℕ) → has_side (v, c) (polygon_at mesh.faces f) ≡ true → has_side (c, v) (polygon_at mesh.faces g) ≡ true → is_seam mesh (v, c) ≡ false → point_of mesh f c ≡ point_of mesh g c
        other c follows leads_back joins =
            let at_f = side-end (polygon_at mesh.faces f) (v, c) follows in
            let at_g = side-start (polygon_at mesh.faces g) (c, v) leads_back in
            let edge_f = any-side-edge (v, c) (sides_of (polygon_at mesh.faces f)) follows in
            let edge_g = edge-same (v, c) (c, v) (turned-edge v c) (sides_of (polygon_at mesh.faces g)) ∙ any-side-edge (c, v) (sides_of (polygon_at mesh.faces g)) leads_back in
            let close = near-from mesh c f g (v, c) (or_right _ _ (eq-eqb c c refl)) joins edge_f edge_g in
            (joins-number mesh c f g at_f at_g).1 (joins-near mesh c f f g at_f close at_g (joins-itself mesh c f at_f))

    cut-path : (face : ℕ) → has_corner v (polygon_at mesh.faces face) ≡ true → (faces : List ℕ) → IsLinked (λ m n. joins_on m n ≡ true) faces → ((n : ℕ) → is_among faces n ≡ true → is_among (joined_faces mesh v face) n ≡ true) → IsPath (cut_faces mesh) (point_of mesh face v) faces
    cut-path face at [] linked within = tt
    cut-path face at (f ∷ []) linked within = tt
    cut-path face at (f ∷ (g ∷ rest)) linked within =
        (cut-successor face f g at (within f (or_left _ _ (eq-eqb f f refl))) (within g (or_right (nat_eq g f) _ (or_left _ _ (eq-eqb g g refl)))) linked.0, cut-path face at (g ∷ rest) linked.1 (λ n h. within n (or_right (nat_eq n f) _ h)))

    cut-fan : (face : ℕ) → has_corner v (polygon_at mesh.faces face) ≡ true → HasOneFan (cut_faces mesh) (point_of mesh face v)
    cut-fan face at =
        record {
          fan = (joined-chain face).faces;
          once = (joined-chain face).once;
          all = λ n. (λ h. joined-cut face n at (chain-joined face n at h), λ h. joined-chained face n (cut-joined face n at h));
          path = cut-path face at (joined-chain face).faces (joined-chain face).linked (λ n h. chain-joined face n at h);
        }

  cut-simple : list_all is_simple (cut_faces mesh) ≡ true
  cut-simple = simple-named (vertex_of mesh) (cut_faces mesh) (ap (list_all is_simple) (cut-whole mesh) ∙ simple)

  cut-once : has_distinct_sides (all_sides (cut_faces mesh)) ≡ true
  cut-once =
      sides-named (vertex_of mesh) (all_sides (cut_faces mesh))
      (ap has_distinct_sides (sym (renamed-all (vertex_of mesh) (cut_faces mesh))) ∙ ap (λ (polygons : List Polygon). has_distinct_sides (all_sides polygons)) (cut-whole mesh) ∙ distinct)

  cut-fans : (p : ℕ) → p < cut_point_count mesh → HasOneFan (cut_faces mesh) p
  cut-fans p h = let found = channel-used mesh p h in subst (HasOneFan (cut_faces mesh)) found.3 (cut-fan found.1 found.0 found.2)

-- the cut mesh is a manifold, if the faces are simple and no directed edge occurs twice
pub cut-manifold : (mesh : ObjMesh) → All (λ polygon. IsTrue (is_simple polygon)) mesh.faces → IsTrue (has_distinct_sides (all_sides mesh.faces)) → IsManifold (cut_point_count mesh) (cut_faces mesh)
cut-manifold mesh simple distinct =
    let all = list_all-from_AllPass is_simple mesh.faces simple in
    record {
      simple = AllPass-from_list_all is_simple (cut_faces mesh) (cut-simple mesh all distinct);
      sides_once = cut-once mesh all distinct;
      fans = cut-fans mesh all distinct;
    }
