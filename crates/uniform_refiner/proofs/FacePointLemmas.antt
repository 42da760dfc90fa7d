-- The lists of the next level at the point of a face.
use Rattle.std.proofs.Common.{◌≡◌, ◌≢◌, ℕ, suc, ◌+◌, ◌-◌, ◌<◌, ◌≤◌, ◌||◌, Bool, true, false, nat_eq, nat_le, nat_lt, List, [], ◌++◌, append-nil, length, map, get_or, replicate, arith, refl, ap, sym, ◌∙◌, subst}
use Rattle.std.specs.List.{All, list_all, range_with_len}
use Rattle.std.proofs.lemmas.Bool.Decides.{nat_tests}
use Rattle.std.proofs.lemmas.Bool.{and_parts, eqb-true, eq-eqb, ne_eqb, ltb-true, leb-true}
use Rattle.std.proofs.lemmas.List.{get_or-map, length-map, ext_get_or}
use Rattle.std.proofs.lemmas.List.FromFn.{get_or-range_with_len, get_or-map-range_with_len, length-range_with_len, length-map-range_with_len}
use Rattle.subdiv_model.specs.Polygons.{Polygon, polygon_at, has_side, has_corner, is_among, is_distinct}
use Rattle.subdiv_model.specs.Manifold.{IsSuccessor, IsPath, is_simple}
use Rattle.subdiv_model.specs.Child.{face_point}
use Rattle.mesh_laws.proofs.SideLemmas.{among-place}
use Rattle.mesh_laws.proofs.ClosedLemmas.{all-at}
use Rattle.mesh_laws.proofs.WalkLemmas.{same-tests}
use Rattle.mesh_laws.proofs.TurnedLemmas.{among-map, map-among, map-distinct}
use Rattle.level_topology.specs.Topology.{Topology, IsTopology, corner_of, corner_before, edge_before}
use Rattle.level_topology.specs.PointRows.{IsRow, IsFanFrom, last_face}
use Rattle.level_topology.proofs.LawLemmas.{ascend-distinct}
use Rattle.level_topology.proofs.FanOrderLemmas.{among-at}
use Rattle.child_slots.specs.Slots.{first_child, corner_at, edge_from, before_in, turn_at, inner_slot, numbered_edge_point, quad_at}
use Rattle.child_slots.specs.Slotted.{Slotted, number_at, end_in}
use Rattle.uniform_refiner.specs.Put.{AreChildEdges}
use Rattle.child_slots.proofs.SlotLemmas.{over-of}
use Rattle.child_slots.proofs.SlotTableLemmas.{among-number}
use Rattle.child_slots.proofs.QuadLemmas.{face-below}
use Rattle.child_slots.proofs.ChildEdgeLemmas.{quad-side}
use Rattle.uniform_refiner.proofs.WholeEdgeLemmas.{slots-there, ends-all}
use Rattle.uniform_refiner.proofs.PointLemmas.{path-from, kids, kids-simple, kids-distinct, kid-place, kid-quad, kid-corner, kid-before, row-of}
use Rattle.uniform_refiner.proofs.VertexLemmas.{map-all}

-- the corners of a face one before another, from the first one on
pub turn-low : (size i : ℕ) → i < size → turn_at size i < size
turn-low size i h = go (nat_eq i 0) refl
  where
    go : (b : Bool) → nat_eq i 0 ≡ b → turn_at size i < size
    go true e = rw e (omega (arith, h))
    go false e = let some : i ≢ 0 = (λ same. absurd (let yes = eq-eqb i 0 same in cc)) in rw e (omega (arith, h, some))

turn-some : (size i : ℕ) → i ≢ 0 → turn_at size i ≡ size - i
turn-some size i some = let no = ne_eqb i 0 some in rw no refl

turn-before : (size i : ℕ) → i + 1 < size → corner_before size (turn_at size i) ≡ turn_at size (i + 1)
turn-before size i h = go (nat_eq i 0) refl
  where
    next : turn_at size (i + 1) ≡ size - (i + 1)
    next = turn-some size (i + 1) (λ same. absurd (omega (arith, same)))

    go : (b : Bool) → nat_eq i 0 ≡ b → corner_before size (turn_at size i) ≡ turn_at size (i + 1)
    go true e =
        let none : i ≡ 0 = eqb-true i 0 e in
        ap (λ k. corner_before size (turn_at size k)) none ∙ omega (arith, next, none)
    go false e =
        let some : i ≢ 0 = (λ same. absurd (let yes = eq-eqb i 0 same in cc)) in
        let more = ne_eqb (size - i) 0 (λ same. absurd (omega (arith, same, h))) in
        ap (corner_before size) (turn-some size i some) ∙ rw more (omega (arith, next, h))

turn-last : (size i : ℕ) → i + 1 ≡ size → 2 ≤ size → corner_before size (turn_at size i) ≡ 0
turn-last size i e large =
    let some : i ≢ 0 = (λ same. absurd (omega (arith, same, e, large))) in
    let one : turn_at size i ≡ 1 = turn-some size i some ∙ omega (arith, e) in
    ap (corner_before size) one

turn-tells : (size i j : ℕ) → i < size → j < size → turn_at size i ≡ turn_at size j → i ≡ j
turn-tells size i j h k same = go (nat_eq i 0) (nat_eq j 0) refl refl
  where
    go : (p q : Bool) → nat_eq i 0 ≡ p → nat_eq j 0 ≡ q → i ≡ j
    go true true e f = eqb-true i 0 e ∙ sym (eqb-true j 0 f)
    go true false e f =
        let some : j ≢ 0 = (λ s. absurd (let yes = eq-eqb j 0 s in cc)) in
        let first : turn_at size i ≡ 0 = ap (turn_at size) (eqb-true i 0 e) in
        absurd (omega (arith, first, turn-some size j some, same, k))
    go false true e f =
        let some : i ≢ 0 = (λ s. absurd (let yes = eq-eqb i 0 s in cc)) in
        let first : turn_at size j ≡ 0 = ap (turn_at size) (eqb-true j 0 f) in
        absurd (omega (arith, first, turn-some size i some, same, h))
    go false false e f =
        let one : i ≢ 0 = (λ s. absurd (let yes = eq-eqb i 0 s in cc)) in
        let two : j ≢ 0 = (λ s. absurd (let yes = eq-eqb j 0 s in cc)) in
        omega (arith, turn-some size i one, turn-some size j two, same, h, k)

turn-meets : (size c : ℕ) → c < size → (i : ℕ) × (i < size) × (turn_at size i ≡ c)
turn-meets size c h = go (nat_eq c 0) refl
  where
    go : (b : Bool) → nat_eq c 0 ≡ b → (i : ℕ) × (i < size) × (turn_at size i ≡ c)
    go true e = (0, omega (arith, h), sym (eqb-true c 0 e))
    go false e =
        let some : c ≢ 0 = (λ s. absurd (let yes = eq-eqb c 0 s in cc)) in
        (size - c, omega (arith, h, some), turn-some size (size - c) (λ s. absurd (omega (arith, s, h))) ∙ omega (arith, h))

-- numbers from 0 on
range-low : (size i : ℕ) → is_among (range_with_len 0 size) i ≡ true → i < size
range-low size i h =
    let at = among-at i (range_with_len 0 size) h in
    let inside : at.0 < size = omega (arith, at.1, length-range_with_len 0 size) in
    omega (arith, inside, at.2, get_or-range_with_len 0 size at.0 0 inside)

range-meets : (size i : ℕ) → i < size → is_among (range_with_len 0 size) i ≡ true
range-meets size i h = among-place i (range_with_len 0 size) i (omega (arith, h, length-range_with_len 0 size)) (get_or-range_with_len 0 size i 0 h ∙ omega arith)

range-distinct : (size : ℕ) → is_distinct (range_with_len 0 size) ≡ true
range-distinct size = ascend-distinct (range_with_len 0 size) (λ k h.
    let count = length-range_with_len 0 size in
    omega (arith, get_or-range_with_len 0 size k 0 (omega (arith, h, count)), get_or-range_with_len 0 size (suc k) 0 (omega (arith, h, count))))

-- a corner is a point
pub corner-low : (t : Topology) → IsTopology t → (f c : ℕ) → f < length t.level.polygons → c < length (polygon_at t.level.polygons f) → corner_at t.level.polygons f c < t.level.point_count
corner-low t is f c inside h = ltb-true _ _ (all-at (λ v. nat_lt v t.level.point_count) (polygon_at t.level.polygons f) c 0 h (all-at (list_all (λ v. nat_lt v t.level.point_count)) t.level.polygons f [] inside (over-of t is)))

module _ (t : Topology) (is : IsTopology t) (n : Slotted) (are : AreChildEdges t.level n) (f : ℕ) (inside : f < length t.level.polygons) where
  abbrev points : ℕ
  points = t.level.point_count

  abbrev polygons : List Polygon
  polygons = t.level.polygons

  abbrev quads : List Polygon
  quads = kids t is

  abbrev size : ℕ
  size = length (polygon_at t.level.polygons f)

  abbrev x : ℕ
  x = face_point t.level.point_count f

  abbrev pub kid : ℕ → ℕ
  kid i = first_child polygons f + turn_at size i

  abbrev fan : List ℕ
  fan = map (λ i. first_child t.level.polygons f + turn_at (length (polygon_at t.level.polygons f)) i) (range_with_len 0 (length (polygon_at t.level.polygons f)))

  large : 3 ≤ size
  large =
      let parts = and_parts (nat_le 3 size) (is_distinct (polygon_at polygons f)) (all-at is_simple polygons f [] inside is.simple) in
      leb-true 3 size parts.0

  fan-item : (i : ℕ) → i < size → get_or fan i 0 ≡ kid i
  fan-item i h = get_or-map-range_with_len kid 0 size i i 0 h (omega arith)

  fan-count : length fan ≡ size
  fan-count = length-map-range_with_len kid 0 size

  -- no other point of a child face is the point of the face
  point-apart : (g c : ℕ) → g < length polygons → c < length (polygon_at polygons g) → (nat_eq x (corner_at polygons g c) ≡ false) × ((e : ℕ) → nat_eq x (numbered_edge_point points polygons e) ≡ false)
  point-apart g c there h = (
    ne_eqb _ _ (λ same. absurd (omega (arith, same, corner-low t is g c there h))),
    λ e. ne_eqb _ _ (λ same. absurd (omega (arith, same, inside))),
  )

  kid-third : (i : ℕ) → i < size → corner_of quads x (kid i) ≡ 2
  kid-third i h =
      let c = turn_at size i in
      let apart = point-apart f c inside (turn-low size i h) in
      let self = eq-eqb x x refl in
      let one = apart.0 in
      let two = apart.1 (edge_from polygons f c) in
      kid-corner t is x f c 2 (turn-low size i h) (rw (one, two, self) refl)

  before-kid : (i : ℕ) → i < size → edge_before quads x (kid i) ≡ number_at n.slots (inner_slot polygons f (turn_at size i))
  before-kid i h = kid-before t is n are x f (turn_at size i) 2 (turn-low size i h) (omega arith) (kid-third i h)

  -- the child at a corner leads to that at the corner before it
  kid-leads : (i j : ℕ) → i < size → j < size → corner_before size (turn_at size i) ≡ turn_at size j → IsSuccessor quads x (kid i) (kid j)
  kid-leads i j h k same =
      let c = turn_at size i in
      let d = turn_at size j in
      let E : ℕ → ℕ = numbered_edge_point points polygons in
      let q = quad_at points polygons f c in
      let r = quad_at points polygons f d in
      let out = (quad-side (get_or q 0 0) (get_or q 1 0) (get_or q 2 0) (get_or q 3 0)).2 in
      let into = (quad-side (get_or r 0 0) (get_or r 1 0) (get_or r 2 0) (get_or r 3 0)).1 in
      record {
        corner = E (edge_from polygons f d);
        follows = ap (has_side (x, E (edge_from polygons f d))) (kid-quad t is f c (turn-low size i h)) ∙ ap (λ (b : ℕ). has_side (x, E (edge_from polygons f b)) q) (sym same) ∙ out;
        leads_back = ap (has_side (E (edge_from polygons f d), x)) (kid-quad t is f d (turn-low size j k)) ∙ into;
      }

  kid-path : IsPath quads x fan
  kid-path = path-from quads x fan (λ i h.
      let next : i + 1 < size = omega (arith, h, fan-count) in
      let leads = kid-leads i (i + 1) (omega (arith, next)) next (turn-before size i next) in
      subst (λ (k : ℕ). IsSuccessor quads x k (get_or fan (i + 1) 0)) (sym (fan-item i (omega (arith, next))))
      (subst (λ (k : ℕ). IsSuccessor quads x (kid i) k) (sym (fan-item (i + 1) next)) leads))

  kid-of : (k : ℕ) → has_corner x (polygon_at quads k) ≡ true → is_among fan k ≡ true
  kid-of k has =
      let found = kid-place t is x k has in
      let g = found.0.face in
      let c = found.0.corner in
      let there : g < length polygons = face-below polygons g c found.0.exists in
      let apart = point-apart g c there found.0.exists in
      let third : nat_eq x (face_point points g) ≡ true = third-of _ _ _ _ apart.0 (apart.1 (edge_from polygons g c)) (apart.1 (edge_from polygons g (before_in polygons g c))) found.1 in
      let face : f ≡ g = omega (arith, eqb-true _ _ third) in
      let low : c < size = omega (arith, found.0.exists, ap (λ h. length (polygon_at polygons h)) face) in
      let place = turn-meets size c low in
      map-among kid (range_with_len 0 size) place.0 k (range-meets size place.0 place.1) (ap (λ i. first_child polygons f + i) place.2 ∙ ap (λ h. first_child polygons h + c) face ∙ sym found.0.number)
    where
      third-of : (a b c d : Bool) → a ≡ false → b ≡ false → d ≡ false → (a || (b || (c || (d || false)))) ≡ true → c ≡ true
      third-of a b c d p q r h = grind (arith, nat_tests)

  kid-all : (k : ℕ) → is_among fan k ≡ has_corner x (polygon_at quads k)
  kid-all k = same-tests _ _ (λ h.
      let found = among-map kid (range_with_len 0 size) k h in
      let low = range-low size found.0 found.1 in
      let c = turn_at size found.0 in
      let apart = point-apart f c inside (turn-low size found.0 low) in
      let self = eq-eqb x x refl in
      ap (λ i. has_corner x (polygon_at quads i)) (sym found.2) ∙ ap (has_corner x) (kid-quad t is f c (turn-low size found.0 low))
      ∙ grind (arith, nat_tests, self)) (kid-of k)

  kid-once : is_distinct fan ≡ true
  kid-once = map-distinct kid (range_with_len 0 size) (λ i j h k same. turn-tells size i j (range-low size i h) (range-low size j k) (omega (arith, same))) (range-distinct size)

  from : IsFanFrom quads x (get_or fan 0 0) fan
  from = record { path = kid-path; once = kid-once; all = kid-all; some = omega (arith, fan-count, large); first = refl }

  led : IsSuccessor quads x (last_face fan) (get_or fan 0 0)
  led =
      let last : size - 1 < size = omega (arith, large) in
      let leads = kid-leads (size - 1) 0 last (omega (arith, large)) (turn-last size (size - 1) (omega (arith, large)) (omega (arith, large))) in
      let item : last_face fan ≡ kid (size - 1) = ap (λ k. get_or fan (k - 1) 0) fan-count ∙ fan-item (size - 1) last in
      subst (λ (k : ℕ). IsSuccessor quads x k (get_or fan 0 0)) (sym item)
      (subst (λ (k : ℕ). IsSuccessor quads x (kid (size - 1)) k) (sym (fan-item 0 (omega (arith, large)))) leads)

  -- the edges inside the face are there, and have numbers
  pub inner-there : (i : ℕ) → i < size → is_among n.slots (inner_slot polygons f (turn_at size i)) ≡ true
  inner-there i h = slots-there t is n are f (turn_at size i) (turn-low size i h) 1 0 (omega arith)

  pub inner-inside : (edges : List ℕ) → edges ≡ map (λ i. number_at n.slots (inner_slot polygons f (turn_at size i))) (range_with_len 0 size) → All (λ e. e < length n.ends) edges
  inner-inside edges e = subst (λ xs. All (λ k. k < length n.ends) xs) (sym e) (λ i d h.
      let g : ℕ → ℕ = λ i. number_at n.slots (inner_slot polygons f (turn_at size i)) in
      let low : i < size = omega (arith, h, length-map-range_with_len g 0 size) in
      omega (arith, get_or-map-range_with_len g 0 size i i d low (omega arith), among-number n.slots (inner_slot polygons f (turn_at size i)) (inner-there i low), are.listed))

  -- the lists as the code writes them
  pub face-row : (faces at edges ends : List ℕ) → faces ≡ fan → at ≡ replicate (length faces) 2 → edges ≡ map (λ i. number_at n.slots (inner_slot polygons f (turn_at size i))) (range_with_len 0 size) → ends ≡ map (end_in n.ends x) edges → IsRow quads x true faces at edges ends
  face-row faces at edges ends e a b o =
      subst (λ xs. IsRow quads x true xs at edges ends) (sym e)
      (row-of quads (kids-simple t is) (kids-distinct t is) x false fan at edges ends (record { start = get_or fan 0 0; is = from; no_predecessor = λ no. absurd (cc); led = λ yes. led }) corners befores (o ∙ ap (λ es. map (end_in es x) edges) (ends-all t is n are)))
    where
      corners : at ≡ map (corner_of quads x) fan
      corners = a ∙ ap (λ xs. replicate (length xs) 2) e ∙ sym (map-all (corner_of quads x) fan 2 (λ k h.
          let found = among-map kid (range_with_len 0 size) k h in
          ap (corner_of quads x) (sym found.2) ∙ kid-third found.0 (range-low size found.0 found.1)))

      befores : edges ≡ map (edge_before quads x) fan ++ []
      befores = b ∙ ext_get_or 0 (map (λ i. number_at n.slots (inner_slot polygons f (turn_at size i))) (range_with_len 0 size)) (map (edge_before quads x) fan)
          (length-map-range_with_len (λ i. number_at n.slots (inner_slot polygons f (turn_at size i))) 0 size ∙ sym (length-map fan (edge_before quads x) ∙ fan-count))
          (λ i h.
          let low : i < size = omega (arith, h, length-map-range_with_len (λ i. number_at n.slots (inner_slot polygons f (turn_at size i))) 0 size) in
          get_or-map-range_with_len (λ i. number_at n.slots (inner_slot polygons f (turn_at size i))) 0 size i i 0 low (omega arith)
          ∙ sym (get_or-map (edge_before quads x) fan i 0 0 (omega (arith, low, fan-count)) ∙ ap (edge_before quads x) (fan-item i low) ∙ before-kid i low))
          ∙ sym (append-nil (map (edge_before quads x) fan))
