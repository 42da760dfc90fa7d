-- The lists of the next level at a vertex of the level.
use Rattle.std.proofs.Common.{◌≢◌, ◌≡◌, ℕ, ◌+◌, ◌-◌, ◌<◌, ◌⊎◌, inl, inr, Bool, true, false, nat_eq, List, [], ◌∷◌, ◌++◌, append-nil, length, map, get_or, replicate, arith, refl, ap, sym, ◌∙◌, subst}
use Rattle.std.proofs.lemmas.Bool.Decides.{nat_tests}
use Rattle.std.proofs.lemmas.Bool.{or_cases, eqb-true, eq-eqb}
use Rattle.std.proofs.lemmas.List.{get_or-map, length-map, length-append, get_or_append_left, ext_get_or}
use Rattle.std.proofs.Math.Seq.{get_or-append_seam}
use Rattle.subdiv_model.specs.Polygons.{Polygon, polygon_at, same_side, has_side, has_corner, is_among, is_distinct}
use Rattle.subdiv_model.specs.Edges.{edges_of, edge_number, has_end}
use Rattle.subdiv_model.specs.Manifold.{IsSuccessor, IsPath}
use Rattle.mesh_laws.proofs.SideLemmas.{among-place, distinct-places}
use Rattle.mesh_laws.proofs.WalkLemmas.{same-tests}
use Rattle.mesh_laws.proofs.TurnedLemmas.{among-map, map-among, map-distinct}
use Rattle.mesh_laws.proofs.FanLemmas.{distinct-at, side-start, side-end}
use Rattle.mesh_laws.proofs.ClosedLemmas.{any-place}
use Rattle.mesh_laws.proofs.Laws.{listed-as-side}
use Rattle.level_topology.specs.Topology.{Topology, IsTopology, IsFan, edge_at, corner_of, edge_before, edge_after, end_of}
use Rattle.level_topology.specs.PointRows.{IsRow, IsFanFrom, last_face}
use Rattle.level_topology.proofs.LawLemmas.{own-number, faces-all, faces-once, edges-once}
use Rattle.level_topology.proofs.FanOrderLemmas.{among-at}
use Rattle.level_topology.proofs.FanWalkLemmas.{after-is, before-is, edge-between, from-corner}
use Rattle.child_slots.specs.Slots.{first_child, corner_at, edge_from, before_in, half_slot, numbered_edge_point, quad_at}
use Rattle.child_slots.specs.Slotted.{Slotted, number_at}
use Rattle.uniform_refiner.specs.Put.{AreChildEdges}
use Rattle.child_slots.proofs.SlotLemmas.{end-low}
use Rattle.child_slots.proofs.SlotTellLemmas.{first-tells}
use Rattle.child_slots.proofs.ChildEdgeLemmas.{quad-side}
use Rattle.uniform_refiner.proofs.WholeEdgeLemmas.{slots-there}
use Rattle.uniform_refiner.proofs.PointLemmas.{vertex-corner, corner-there, path-from, number-tells, kids, kids-simple, kids-distinct, kid-place, kid-quad, kid-corner, kid-after, kid-before, row-of}

-- a list mapped to one value
pub map-all : (g : ℕ → ℕ) (xs : List ℕ) (a : ℕ) → ((x : ℕ) → is_among xs x ≡ true → g x ≡ a) → map g xs ≡ replicate (length xs) a
map-all g [] a same = refl
map-all g (x ∷ xs) a same =
    let self = eq-eqb x x refl in
    let first : g x ≡ a = same x (grind (arith, nat_tests)) in
    let rest = map-all g xs a (λ y h. same y (grind (arith, nat_tests))) in
    rw (first, rest) refl

module _ (t : Topology) (is : IsTopology t) (n : Slotted) (are : AreChildEdges t.level n) (v : ℕ) (low : v < t.level.point_count) (whole : get_or t.complete v false ≡ true) where
  abbrev points : ℕ
  points = t.level.point_count

  abbrev polygons : List Polygon
  polygons = t.level.polygons

  abbrev faces : List ℕ
  faces = get_or t.faces_at v []

  abbrev edges : List ℕ
  edges = get_or t.edges_at v []

  abbrev quads : List Polygon
  quads = kids t is

  fan : IsFan polygons v faces edges
  fan = (is.listed v low).fan whole

  -- the child face of a face at the vertex
  abbrev pub kid : ℕ → ℕ
  kid f = first_child polygons f + corner_of polygons v f

  there : (f : ℕ) → is_among faces f ≡ true → (corner_of polygons v f < length (polygon_at polygons f)) × (corner_at polygons f (corner_of polygons v f) ≡ v)
  there f h = corner-there polygons v f (sym (faces-all t v f is low) ∙ h)

  face-at : (i : ℕ) → i < length faces → is_among faces (get_or faces i 0) ≡ true
  face-at i h = among-place (get_or faces i 0) faces i h refl

  kid-first : (f : ℕ) → is_among faces f ≡ true → corner_of quads v (kid f) ≡ 0
  kid-first f h = kid-corner t is v f (corner_of polygons v f) 0 (there f h).0 (let same = eq-eqb v (corner_at polygons f (corner_of polygons v f)) (sym (there f h).1) in rw same refl)

  -- the edges of a child face at the vertex are halves of those of its face
  after-kid : (f : ℕ) → is_among faces f ≡ true → edge_after quads v (kid f) ≡ number_at n.slots (half_slot polygons v (edge_after polygons v f))
  after-kid f h =
      kid-after t is n are v f (corner_of polygons v f) 0 (there f h).0 (omega arith) (kid-first f h)
      ∙ ap (λ u. number_at n.slots (half_slot polygons u (edge_after polygons v f))) (there f h).1

  before-kid : (f : ℕ) → is_among faces f ≡ true → edge_before quads v (kid f) ≡ number_at n.slots (half_slot polygons v (edge_before polygons v f))
  before-kid f h =
      kid-before t is n are v f (corner_of polygons v f) 0 (there f h).0 (omega arith) (kid-first f h)
      ∙ ap (λ u. number_at n.slots (half_slot polygons u (edge_before polygons v f))) (there f h).1

  -- if the edge after a face is the edge before another, their child faces follow each other too
  kid-leads : (f g : ℕ) → is_among faces f ≡ true → is_among faces g ≡ true → edge_after polygons v f ≡ edge_before polygons v g → IsSuccessor quads v (kid f) (kid g)
  kid-leads f g h k same =
      let E : ℕ → ℕ = numbered_edge_point points polygons in
      let at_f = there f h in
      let at_g = there g k in
      let q = quad_at points polygons f (corner_of polygons v f) in
      let r = quad_at points polygons g (corner_of polygons v g) in
      let out = (quad-side (get_or q 0 0) (get_or q 1 0) (get_or q 2 0) (get_or q 3 0)).0 in
      let into = (quad-side (get_or r 0 0) (get_or r 1 0) (get_or r 2 0) (get_or r 3 0)).3 in
      record {
        corner = E (edge_after polygons v f);
        follows = ap (has_side (v, E (edge_after polygons v f))) (kid-quad t is f (corner_of polygons v f) at_f.0) ∙ ap (λ (u : ℕ). has_side (u, E (edge_after polygons v f)) q) (sym at_f.1) ∙ out;
        leads_back = ap (has_side (E (edge_after polygons v f), v)) (kid-quad t is g (corner_of polygons v g) at_g.0) ∙ ap (λ (e : ℕ). has_side (E e, v) r) same ∙ ap (λ (u : ℕ). has_side (E (edge_before polygons v g), u) r) (sym at_g.1) ∙ into;
      }

  -- the child faces at the vertex are those of its faces
  pub kid-of : (k : ℕ) → has_corner v (polygon_at quads k) ≡ true → (f : ℕ) × (is_among faces f ≡ true) × (kid f ≡ k)
  kid-of k has =
      let found = kid-place t is v k has in
      let f = found.0.face in
      let c = found.0.corner in
      let here = vertex-corner t is v f c low found.1 in
      let at_f : has_corner v (polygon_at polygons f) ≡ true = among-place v (polygon_at polygons f) c found.0.exists here in
      let among : is_among faces f ≡ true = faces-all t v f is low ∙ at_f in
      let same : corner_of polygons v f ≡ c = distinct-places (polygon_at polygons f) (corner_of polygons v f) c (distinct-at polygons f is.simple) (there f among).0 found.0.exists ((there f among).1 ∙ sym here) in
      (f, among, ap (λ i. first_child polygons f + i) same ∙ sym found.0.number)

  kid-all : (k : ℕ) → is_among (map kid faces) k ≡ has_corner v (polygon_at quads k)
  kid-all k = same-tests _ _ (λ h.
      let found = among-map kid faces k h in
      let at_f = there found.0 found.1 in
      ap (λ i. has_corner v (polygon_at quads i)) (sym found.2) ∙ ap (has_corner v) (kid-quad t is found.0 (corner_of polygons v found.0) at_f.0)
      ∙ (let same = eq-eqb v (corner_at polygons found.0 (corner_of polygons v found.0)) (sym at_f.1) in rw same refl)) (λ has.
      let found = kid-of k has in
      map-among kid faces found.0 k found.1 found.2)

  kid-once : is_distinct (map kid faces) ≡ true
  kid-once = map-distinct kid faces (λ f g h k same. first-tells polygons f g (corner_of polygons v f) (corner_of polygons v g) (there f h).0 (there g k).0 same) (faces-once t v is low)

  kid-item : (i : ℕ) → i < length faces → get_or (map kid faces) i 0 ≡ kid (get_or faces i 0)
  kid-item i h = get_or-map kid faces i 0 0 h

  kid-path : IsPath quads v (map kid faces)
  kid-path = path-from quads v (map kid faces) (λ i h.
      let inside : i + 1 < length faces = omega (arith, h, length-map faces kid) in
      let more : i + 1 < length edges = edges-more (i + 1) inside fan.count in
      let same : edge_after polygons v (get_or faces i 0) ≡ edge_before polygons v (get_or faces (i + 1) 0) = sym (fan.after i more (omega (arith, inside))) ∙ fan.before (i + 1) inside in
      let leads = kid-leads (get_or faces i 0) (get_or faces (i + 1) 0) (face-at i (omega (arith, inside))) (face-at (i + 1) inside) same in
      subst (λ (k : ℕ). IsSuccessor quads v k (get_or (map kid faces) (i + 1) 0)) (sym (kid-item i (omega (arith, inside))))
      (subst (λ (k : ℕ). IsSuccessor quads v (kid (get_or faces i 0)) k) (sym (kid-item (i + 1) inside)) leads))
    where
      edges-more : (i : ℕ) → i < length faces → (length edges ≡ length faces) ⊎ (length edges ≡ length faces + 1) → i < length edges
      edges-more i h (inl e) = omega (arith, h, e)
      edges-more i h (inr e) = omega (arith, h, e)

  module _ (some : 0 < length faces) where
    from : IsFanFrom quads v (get_or (map kid faces) 0 0) (map kid faces)
    from = record { path = kid-path; once = kid-once; all = kid-all; some = omega (arith, some, length-map faces kid); first = refl }

    -- the vertex is inside: the last child face leads to the first
    led : length edges ≡ length faces → IsSuccessor quads v (last_face (map kid faces)) (get_or (map kid faces) 0 0)
    led closed =
        let last : length faces - 1 < length faces = omega (arith, some) in
        let same : edge_after polygons v (get_or faces (length faces - 1) 0) ≡ edge_before polygons v (get_or faces 0 0) = fan.closes closed some ∙ fan.before 0 some in
        let count : length (map kid faces) - 1 ≡ length faces - 1 = ap (λ k. k - 1) (length-map faces kid) in
        let item : last_face (map kid faces) ≡ kid (get_or faces (length faces - 1) 0) = ap (λ k. get_or (map kid faces) k 0) count ∙ kid-item (length faces - 1) last in
        subst (λ (k : ℕ). IsSuccessor quads v k (get_or (map kid faces) 0 0)) (sym item)
        (subst (λ (k : ℕ). IsSuccessor quads v (kid (get_or faces (length faces - 1) 0)) k) (sym (kid-item 0 some)) (kid-leads (get_or faces (length faces - 1) 0) (get_or faces 0 0) (face-at (length faces - 1) last) (face-at 0 some) same))

    -- the vertex is at the boundary: none leads to the first
    first-without-predecessor : length edges ≡ length faces + 1 → (k : ℕ) → IsSuccessor quads v k (get_or (map kid faces) 0 0) → ⊥
    first-without-predecessor apart k leads =
        let found = kid-of k (from-corner quads (kids-simple t is) (kids-distinct t is) v k (get_or (map kid faces) 0 0) leads).0 in
        let f = found.0 in
        let g = get_or faces 0 0 in
        let among_g = face-at 0 some in
        let across : edge_before quads v (kid g) ≡ edge_after quads v (kid f) = ap (edge_before quads v) (sym (kid-item 0 some)) ∙ edge-between quads (kids-simple t is) (kids-distinct t is) v k (get_or (map kid faces) 0 0) leads ∙ ap (edge_after quads v) (sym found.2) in
        let numbers : number_at n.slots (half_slot polygons v (edge_before polygons v g)) ≡ number_at n.slots (half_slot polygons v (edge_after polygons v f)) = sym (before-kid g among_g) ∙ across ∙ after-kid f found.1 in
        let slots = number-tells n.slots _ _ (slot-before g among_g) (slot-after f found.1) numbers in
        let same : edge_before polygons v g ≡ edge_after polygons v f = omega (arith, slots, end-low polygons v (edge_before polygons v g), end-low polygons v (edge_after polygons v f)) in
        let place = among-at f faces found.1 in
        let later : get_or edges (place.0 + 1) 0 ≡ edge_after polygons v f = fan.after place.0 (omega (arith, apart, place.1)) place.1 ∙ ap (edge_after polygons v) place.2 in
        let clash = distinct-places edges 0 (place.0 + 1) (edges-once t v is low) (omega (arith, apart)) (omega (arith, apart, place.1)) (fan.before 0 some ∙ same ∙ sym later) in
        omega (arith, clash)
      where
        slot-after : (f : ℕ) → is_among faces f ≡ true → is_among n.slots (half_slot polygons v (edge_after polygons v f)) ≡ true
        slot-after f h = ap (λ u. is_among n.slots (half_slot polygons u (edge_after polygons v f))) (sym (there f h).1) ∙ slots-there t is n are f (corner_of polygons v f) (there f h).0 0 0 (omega arith)

        slot-before : (f : ℕ) → is_among faces f ≡ true → is_among n.slots (half_slot polygons v (edge_before polygons v f)) ≡ true
        slot-before f h = ap (λ u. is_among n.slots (half_slot polygons u (edge_before polygons v f))) (sym (there f h).1) ∙ slots-there t is n are f (corner_of polygons v f) (there f h).0 3 0 (omega arith)

    -- the halves at the vertex, one for each edge, are those of the child faces in their order
    abbrev pub halves : List ℕ
    halves = map (λ e. number_at n.slots (half_slot polygons v e)) edges

    half-item : (i : ℕ) → i < length edges → get_or halves i 0 ≡ number_at n.slots (half_slot polygons v (get_or edges i 0))
    half-item i h = get_or-map (λ e. number_at n.slots (half_slot polygons v e)) edges i 0 0 h

    half-count : length halves ≡ length edges
    half-count = length-map edges (λ e. number_at n.slots (half_slot polygons v e))

    before-count : length (map (edge_before quads v) (map kid faces)) ≡ length faces
    before-count = length-map (map kid faces) (edge_before quads v) ∙ length-map faces kid

    half-before : (i : ℕ) → i < length faces → i < length edges → get_or halves i 0 ≡ get_or (map (edge_before quads v) (map kid faces)) i 0
    half-before i h k =
        half-item i k ∙ ap (λ e. number_at n.slots (half_slot polygons v e)) (fan.before i h) ∙ sym (before-kid (get_or faces i 0) (face-at i h))
        ∙ ap (edge_before quads v) (sym (kid-item i h))
        ∙ sym (get_or-map (edge_before quads v) (map kid faces) i 0 0 (omega (arith, h, length-map faces kid)))

    closed-halves : length edges ≡ length faces → halves ≡ map (edge_before quads v) (map kid faces) ++ []
    closed-halves closed = ext_get_or 0 halves (map (edge_before quads v) (map kid faces)) (half-count ∙ closed ∙ sym before-count) (λ i h. half-before i (omega (arith, h, half-count, closed)) (omega (arith, h, half-count))) ∙ sym (append-nil (map (edge_before quads v) (map kid faces)))

    last-half : length edges ≡ length faces + 1 → get_or halves (length faces) 0 ≡ edge_after quads v (last_face (map kid faces))
    last-half apart =
        let last : length faces - 1 < length faces = omega (arith, some) in
        let next : length faces - 1 + 1 ≡ length faces = omega (arith, some) in
        let count : length (map kid faces) - 1 ≡ length faces - 1 = ap (λ k. k - 1) (length-map faces kid) in
        half-item (length faces) (omega (arith, apart))
        ∙ ap (λ e. number_at n.slots (half_slot polygons v e)) (ap (λ i. get_or edges i 0) (sym next) ∙ fan.after (length faces - 1) (omega (arith, apart, next)) last)
        ∙ sym (after-kid (get_or faces (length faces - 1) 0) (face-at (length faces - 1) last))
        ∙ ap (edge_after quads v) (sym (kid-item (length faces - 1) last) ∙ ap (λ k. get_or (map kid faces) k 0) (sym count))

    open-halves : length edges ≡ length faces + 1 → halves ≡ map (edge_before quads v) (map kid faces) ++ edge_after quads v (last_face (map kid faces)) ∷ []
    open-halves apart = ext_get_or 0 halves (map (edge_before quads v) (map kid faces) ++ edge_after quads v (last_face (map kid faces)) ∷ []) (half-count ∙ apart ∙ sym (length-append (map (edge_before quads v) (map kid faces)) (edge_after quads v (last_face (map kid faces)) ∷ []) ∙ ap (λ k. k + 1) before-count)) item
      where
        item : (i : ℕ) → i < length halves → get_or halves i 0 ≡ get_or (map (edge_before quads v) (map kid faces) ++ edge_after quads v (last_face (map kid faces)) ∷ []) i 0
        item i h = go (nat_eq i (length faces)) refl
          where
            go : (b : Bool) → nat_eq i (length faces) ≡ b → get_or halves i 0 ≡ get_or (map (edge_before quads v) (map kid faces) ++ edge_after quads v (last_face (map kid faces)) ∷ []) i 0
            go true e =
                let same : i ≡ length faces = eqb-true _ _ e in
                ap (λ k. get_or halves k 0) same ∙ last-half apart
                ∙ sym (ap (λ k. get_or (map (edge_before quads v) (map kid faces) ++ edge_after quads v (last_face (map kid faces)) ∷ []) k 0) (same ∙ sym before-count)
                ∙ get_or-append_seam (map (edge_before quads v) (map kid faces)) (edge_after quads v (last_face (map kid faces))) [] 0)
            go false e =
                let other : i ≢ length faces = λ same. absurd (let yes = eq-eqb _ _ same in cc) in
                let inside : i < length faces = omega (arith, h, half-count, apart, other) in
                half-before i inside (omega (arith, inside, apart))
                ∙ sym (get_or_append_left (map (edge_before quads v) (map kid faces)) (edge_after quads v (last_face (map kid faces)) ∷ []) 0 i (omega (arith, inside, before-count)))

    -- the lists are those of the point
    pub some-row : (at ends : List ℕ) → at ≡ replicate (length faces) 0 → ends ≡ map (end_of quads v) halves → IsRow quads v true (map kid faces) at halves ends
    some-row at ends a e = go fan.count
      where
        zeros : at ≡ map (corner_of quads v) (map kid faces)
        zeros = a ∙ ap (λ k. replicate k 0) (sym (length-map faces kid)) ∙ sym (map-all (corner_of quads v) (map kid faces) 0 (λ k h.
            let found = among-map kid faces k h in
            ap (corner_of quads v) (sym found.2) ∙ kid-first found.0 found.1))

        go : (length edges ≡ length faces) ⊎ (length edges ≡ length faces + 1) → IsRow quads v true (map kid faces) at halves ends
        go (inl closed) = row-of quads (kids-simple t is) (kids-distinct t is) v false (map kid faces) at halves ends (record { start = get_or (map kid faces) 0 0; is = from; no_predecessor = λ no. absurd (cc); led = λ yes. led closed }) zeros (closed-halves closed) e
        go (inr apart) = row-of quads (kids-simple t is) (kids-distinct t is) v true (map kid faces) at halves ends (record { start = get_or (map kid faces) 0 0; is = from; no_predecessor = λ yes. first-without-predecessor apart; led = λ no. absurd (cc) }) zeros (open-halves apart) e

-- the half of an edge at each end is an edge of the next level
pub half-among : (t : Topology) (is : IsTopology t) (n : Slotted) (are : AreChildEdges t.level n) (v e : ℕ) → e < length (edges_of t.level.polygons) → has_end v (edge_at t.level.polygons e) ≡ true → is_among n.slots (half_slot t.level.polygons v e) ≡ true
half-among t is n are v e inside ends =
    let polygons = t.level.polygons in
    let found = any-place (same_side (edge_at polygons e)) polygons (listed-as-side polygons e (0, 0) inside) in
    by-end found.0 found.2 (or_cases (nat_eq v (edge_at polygons e).0) (nat_eq v (edge_at polygons e).1) ends)
  where
    after : (f c : ℕ) → c < length (polygon_at t.level.polygons f) → corner_at t.level.polygons f c ≡ v → edge_from t.level.polygons f c ≡ e → is_among n.slots (half_slot t.level.polygons v e) ≡ true
    after f c h at number = ap (λ u. is_among n.slots (half_slot t.level.polygons u e)) (sym at) ∙ ap (λ d. is_among n.slots (half_slot t.level.polygons (corner_at t.level.polygons f c) d)) (sym number) ∙ slots-there t is n are f c h 0 0 (omega arith)

    before : (f c : ℕ) → c < length (polygon_at t.level.polygons f) → corner_at t.level.polygons f c ≡ v → edge_from t.level.polygons f (before_in t.level.polygons f c) ≡ e → is_among n.slots (half_slot t.level.polygons v e) ≡ true
    before f c h at number = ap (λ u. is_among n.slots (half_slot t.level.polygons u e)) (sym at) ∙ ap (λ d. is_among n.slots (half_slot t.level.polygons (corner_at t.level.polygons f c) d)) (sym number) ∙ slots-there t is n are f c h 3 0 (omega arith)

    by-end : (f : ℕ) → has_side (edge_at t.level.polygons e) (polygon_at t.level.polygons f) ≡ true → (nat_eq v (edge_at t.level.polygons e).0 ≡ true) ⊎ (nat_eq v (edge_at t.level.polygons e).1 ≡ true) → is_among n.slots (half_slot t.level.polygons v e) ≡ true
    by-end f has (inl first) =
        let polygons = t.level.polygons in
        let side : has_side (v, (edge_at polygons e).1) (polygon_at polygons f) ≡ true = ap (λ (u : ℕ). has_side (u, (edge_at polygons e).1) (polygon_at polygons f)) (eqb-true _ _ first) ∙ has in
        let number : edge_after polygons v f ≡ e = after-is polygons is.simple is.sides_once v f (edge_at polygons e).1 side ∙ ap (λ (u : ℕ). edge_number polygons (u, (edge_at polygons e).1)) (eqb-true _ _ first) ∙ own-number polygons e inside in
        let at = corner-there polygons v f (side-start (polygon_at polygons f) (v, (edge_at polygons e).1) side) in
        after f (corner_of polygons v f) at.0 at.1 number
    by-end f has (inr second) =
        let polygons = t.level.polygons in
        let side : has_side ((edge_at polygons e).0, v) (polygon_at polygons f) ≡ true = ap (λ (u : ℕ). has_side ((edge_at polygons e).0, u) (polygon_at polygons f)) (eqb-true _ _ second) ∙ has in
        let number : edge_before polygons v f ≡ e = before-is polygons is.simple is.sides_once v f (edge_at polygons e).0 side ∙ ap (λ (u : ℕ). edge_number polygons ((edge_at polygons e).0, u)) (eqb-true _ _ second) ∙ own-number polygons e inside in
        let at = corner-there polygons v f (side-end (polygon_at polygons f) ((edge_at polygons e).0, v) side) in
        before f (corner_of polygons v f) at.0 at.1 number
