-- The child faces at a point of the next level.
use Rattle.std.proofs.Common.{◌||◌, ◌≡◌, ℕ, suc, ◌+◌, ◌<◌, Bool, true, false, nat_eq, List, [], ◌∷◌, ◌++◌, length, map, get_or, arith, ap, sym, ◌∙◌, subst, if◌then◌else◌}
use Rattle.std.specs.List.{list_all, position_or_len}
use Rattle.std.proofs.lemmas.Bool.Decides.{nat_tests}
use Rattle.std.proofs.lemmas.Bool.{ne_eqb, eqb-true}
use Rattle.std.proofs.lemmas.List.{get_or-map}
use Rattle.std.proofs.lemmas.List.Sums.{passes_at_first}
use Rattle.subdiv_model.specs.Polygons.{Polygon, polygon_at, has_corner, is_among, has_distinct_sides}
use Rattle.subdiv_model.specs.Edges.{all_sides}
use Rattle.subdiv_model.specs.Manifold.{IsSuccessor, IsPath, is_simple}
use Rattle.subdiv_model.specs.Child.{child_polygons}
use Rattle.level_laws.proofs.FaceLemmas.{child_polygons-length}
use Rattle.mesh_laws.proofs.ChildPlaceLemmas.{first-within}
use Rattle.mesh_laws.proofs.ChildFaceLemmas.{all-child, child-simple}
use Rattle.mesh_laws.proofs.ChildOnceLemmas.{child-distinct}
use Rattle.mesh_laws.proofs.ChildCornerLemmas.{corner-place}
use Rattle.level_topology.specs.Topology.{Topology, IsTopology, face_edges_of, corner_of, corner_before, end_of, edge_before, edge_after}
use Rattle.level_topology.specs.PointRows.{IsTurned, IsRow, last_face}
use Rattle.level_topology.proofs.FanWalkLemmas.{before-after, fan-permutation}
use Rattle.level_topology.proofs.TurnLemmas.{turned-edges}
use Rattle.child_slots.specs.Slots.{first_child, corner_at, edge_from, before_in, numbered_edge_point, quad_at, slots_at}
use Rattle.child_slots.specs.Slotted.{Slotted, number_at}
use Rattle.uniform_refiner.specs.Put.{AreChildEdges}
use Rattle.child_slots.proofs.SlotLemmas.{over-of}
use Rattle.child_slots.proofs.SlotTableLemmas.{among-number}
use Rattle.child_slots.proofs.QuadLemmas.{child-quad, face-below}
use Rattle.uniform_refiner.proofs.PlaceLemmas.{IsPlace, place-of}
use Rattle.uniform_refiner.proofs.WholeEdgeLemmas.{numbers-quad}

-- a face has its corner at the place of the corner
pub corner-there : (polygons : List Polygon) (v f : ℕ) → has_corner v (polygon_at polygons f) ≡ true → (corner_of polygons v f < length (polygon_at polygons f)) × (get_or (polygon_at polygons f) (corner_of polygons v f) 0 ≡ v)
corner-there polygons v f has =
    let within = first-within (nat_eq v) (polygon_at polygons f) has in
    (within, sym (eqb-true _ _ (passes_at_first (nat_eq v) (polygon_at polygons f) 0 within)))

-- faces of which each leads to the next are a path
pub path-from : (polygons : List Polygon) (v : ℕ) (fan : List ℕ) → ((i : ℕ) → i + 1 < length fan → IsSuccessor polygons v (get_or fan i 0) (get_or fan (i + 1) 0)) → IsPath polygons v fan
path-from polygons v [] leads = tt
path-from polygons v (f ∷ []) leads = tt
path-from polygons v (f ∷ (g ∷ rest)) leads = (
  leads 0 (omega arith),
  path-from polygons v (g ∷ rest) (λ i h.
      let next : suc i + 1 ≡ suc (i + 1) = omega arith in
      subst (λ (k : ℕ). IsSuccessor polygons v (get_or (g ∷ rest) i 0) (get_or (f ∷ (g ∷ rest)) k 0)) next (leads (suc i) (omega (arith, h)))),
)

-- two slots with one number are one
pub number-tells : (slots : List ℕ) (a b : ℕ) → is_among slots a ≡ true → is_among slots b ≡ true → number_at slots a ≡ number_at slots b → a ≡ b
number-tells slots a b h k same =
    let first = eqb-true _ _ (passes_at_first (nat_eq a) slots 0 (among-number slots a h)) in
    let second = eqb-true _ _ (passes_at_first (nat_eq b) slots 0 (among-number slots b k)) in
    first ∙ ap (λ i. get_or slots i 0) same ∙ sym second

module _ (t : Topology) (is : IsTopology t) where
  abbrev pub kids : List Polygon
  kids = child_polygons t.level.point_count t.level.polygons

  pub kids-simple : list_all is_simple kids ≡ true
  kids-simple = child-simple t.level.point_count t.level.polygons kids (all-child t.level.point_count t.level.polygons (over-of t is) is.simple)

  pub kids-distinct : has_distinct_sides (all_sides kids) ≡ true
  kids-distinct = child-distinct t.level.point_count t.level.polygons (over-of t is) is.simple is.sides_once

  -- a child face at a point is that of a corner, and so its corners are those of the quad there
  pub kid-place : (x k : ℕ) → has_corner x (polygon_at kids k) ≡ true → (place : IsPlace t.level.polygons k) × (has_corner x (quad_at t.level.point_count t.level.polygons place.face place.corner) ≡ true)
  kid-place x k has =
      let polygons = t.level.polygons in
      let place = place-of polygons k (omega (arith, corner-place kids k x has, child_polygons-length t.level.point_count polygons)) in
      (place, ap (has_corner x) (sym (child-quad t.level.point_count polygons place.face place.corner (face-below polygons place.face place.corner place.exists) place.exists)) ∙ ap (λ i. has_corner x (polygon_at kids i)) (sym place.number) ∙ has)

  pub kid-quad : (f c : ℕ) → c < length (polygon_at t.level.polygons f) → polygon_at kids (first_child t.level.polygons f + c) ≡ quad_at t.level.point_count t.level.polygons f c
  kid-quad f c h = child-quad t.level.point_count t.level.polygons f c (face-below t.level.polygons f c h) h

  -- the place of a point in a child face
  pub kid-corner : (x f c j : ℕ) → c < length (polygon_at t.level.polygons f) → position_or_len (nat_eq x) (quad_at t.level.point_count t.level.polygons f c) ≡ j → corner_of kids x (first_child t.level.polygons f + c) ≡ j
  kid-corner x f c j h at = ap (position_or_len (nat_eq x)) (kid-quad f c h) ∙ at

  -- a vertex of the level is no other corner of a child face than the first
  pub vertex-corner : (v f c : ℕ) → v < t.level.point_count → has_corner v (quad_at t.level.point_count t.level.polygons f c) ≡ true → corner_at t.level.polygons f c ≡ v
  vertex-corner v f c low has =
      let E : ℕ → ℕ = numbered_edge_point t.level.point_count t.level.polygons in
      let one : nat_eq v (E (edge_from t.level.polygons f c)) ≡ false = ne_eqb _ _ (λ e. absurd (omega (arith, low, e))) in
      let two : nat_eq v (t.level.point_count + f) ≡ false = ne_eqb _ _ (λ e. absurd (omega (arith, low, e))) in
      let three : nat_eq v (E (edge_from t.level.polygons f (before_in t.level.polygons f c))) ≡ false = ne_eqb _ _ (λ e. absurd (omega (arith, low, e))) in
      let first : nat_eq v (corner_at t.level.polygons f c) ≡ true = first-of (nat_eq v (corner_at t.level.polygons f c)) _ _ _ one two three has in
      sym (eqb-true _ _ first)
    where
      first-of : (a b c d : Bool) → b ≡ false → c ≡ false → d ≡ false → (a || (b || (c || (d || false)))) ≡ true → a ≡ true
      first-of a b c d p q r h = grind (arith, nat_tests)

  module _ (n : Slotted) (are : AreChildEdges t.level n) where
    kid-edge : (f c i : ℕ) → c < length (polygon_at t.level.polygons f) → i < 4 → get_or (face_edges_of kids (polygon_at kids (first_child t.level.polygons f + c))) i 0 ≡ number_at n.slots (get_or (slots_at t.level.polygons f c) i 0)
    kid-edge f c i h small = ap (λ xs. get_or xs i 0) (sym (numbers-quad t is n are f c h)) ∙ get_or-map (number_at n.slots) (slots_at t.level.polygons f c) i 0 0 small

    -- the edge that leaves a point in a child face, and the edge that comes to it there
    pub kid-after : (x f c j : ℕ) → c < length (polygon_at t.level.polygons f) → j < 4 → corner_of kids x (first_child t.level.polygons f + c) ≡ j → edge_after kids x (first_child t.level.polygons f + c) ≡ number_at n.slots (get_or (slots_at t.level.polygons f c) j 0)
    kid-after x f c j h small at = ap (λ i. get_or (face_edges_of kids (polygon_at kids (first_child t.level.polygons f + c))) i 0) at ∙ kid-edge f c j h small

    pub kid-before : (x f c j : ℕ) → c < length (polygon_at t.level.polygons f) → j < 4 → corner_of kids x (first_child t.level.polygons f + c) ≡ j → edge_before kids x (first_child t.level.polygons f + c) ≡ number_at n.slots (get_or (slots_at t.level.polygons f c) (corner_before 4 j) 0)
    kid-before x f c j h small at =
        let four : length (polygon_at kids (first_child t.level.polygons f + c)) ≡ 4 = ap length (kid-quad f c h) in
        ap (λ i. get_or (face_edges_of kids (polygon_at kids (first_child t.level.polygons f + c))) (corner_before (length (polygon_at kids (first_child t.level.polygons f + c))) i) 0) at
        ∙ ap (λ l. get_or (face_edges_of kids (polygon_at kids (first_child t.level.polygons f + c))) (corner_before l j) 0) four
        ∙ kid-edge f c (corner_before 4 j) h (before-small j small)
      where
        before-small : (j : ℕ) → j < 4 → corner_before 4 j < 4
        before-small j small = (before-after 4 j small).0

-- the lists at a point of a level whose faces are put in fan order
pub row-of : (polygons : List Polygon) → list_all is_simple polygons ≡ true → has_distinct_sides (all_sides polygons) ≡ true → (v : ℕ) (is_path : Bool) (fan at edges ends : List ℕ) → IsTurned polygons v is_path fan → at ≡ map (corner_of polygons v) fan → edges ≡ map (edge_before polygons v) fan ++ (if is_path then edge_after polygons v (last_face fan) ∷ [] else []) → ends ≡ map (end_of polygons v) edges → IsRow polygons v true fan at edges ends
row-of polygons simple distinct v is_path fan at edges ends is a e n =
    let both = turned-edges polygons simple distinct v is_path fan edges is e in
    record {
      faces_are = fan-permutation polygons simple distinct v is.start fan is.is;
      edges_are = both.0;
      fan = λ yes. both.1;
      plain_faces = λ no. absurd (cc);
      plain_edges = λ no. absurd (cc);
      corners_are = a;
      ends_are = n;
    }
