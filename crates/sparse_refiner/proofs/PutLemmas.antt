-- The tables of a part with one item more.
use Rattle.std.proofs.Common.{◌≡◌, ℕ, zero, suc, ◌+◌, ◌*◌, ◌<◌, ◌≤◌, List, [], ◌∷◌, ◌++◌, length, map, take, get_or, arith, ap, sym, ◌∙◌, subst, true}
use Rattle.std.specs.List.{All, sum_by}
use Rattle.std.proofs.lemmas.List.{map-append, map_more, take_more, length-take-le, get_or-map, length-map}
use Rattle.std.proofs.lemmas.List.Sums.{sum_by-cons}
use Rattle.subdiv_model.specs.Polygons.{Polygon, polygon_at, is_among}
use Rattle.subdiv_model.specs.Level.{Level}
use Rattle.level_topology.specs.Packed.{Paired, paired}
use Rattle.level_topology.specs.ChildTables.{place_of}
use Rattle.level_topology.specs.declared.child_origin.FacePlace.{FacePlace}
use Rattle.level_topology.specs.Topology.{Topology, IsTopology, face_edges_of}
use Rattle.child_slots.specs.Slots.{quad_at, slots_at}
use Rattle.child_slots.specs.Parts.{Part, part_polygons, whole_quad}
use Rattle.child_slots.specs.Slotted.{Slotted}
use Rattle.child_slots.specs.Walked.{ArePartEdges}
use Rattle.child_slots.proofs.SlotLemmas.{over-of}
use Rattle.child_slots.proofs.QuadLemmas.{face-below}
use Rattle.child_slots.proofs.PartLemmas.{quads-count, quad-at-place}
use Rattle.child_slots.proofs.ChildEdgeLemmas.{numbers-quad, slots-there}
use Rattle.sparse_refiner.specs.Tables.{first_faces, side_numbers}

-- one value more, seen through a function
pub values-more : {X Y Z : Type 0} (view : X → Z) (f : Y → Z) (ys : List Y) (old new : List X) (x : X) (i : ℕ) (d : Y) → i < length ys → map view old ≡ map f (take i ys) → new ≡ old ++ x ∷ [] → view x ≡ f (get_or ys i d) → map view new ≡ map f (take (i + 1) ys)
values-more view f ys old new x i d h before made value =
    ap (map view) made ∙ map-append view old (x ∷ []) ∙ ap (λ zs. zs ++ view x ∷ []) before ∙ ap (λ z. map f (take i ys) ++ z ∷ []) value ∙ sym (map_more f ys i d h)

pub items-more : {Y Z : Type 0} (f : Y → Z) (ys : List Y) (old new : List Z) (x : Z) (i : ℕ) (d : Y) → i < length ys → old ≡ map f (take i ys) → new ≡ old ++ x ∷ [] → x ≡ f (get_or ys i d) → new ≡ map f (take (i + 1) ys)
items-more f ys old new x i d h before made value =
    made ∙ ap (λ zs. zs ++ x ∷ []) before ∙ ap (λ z. map f (take i ys) ++ z ∷ []) value ∙ sym (map_more f ys i d h)

-- the faces of places are there
pub places-within : (polygons : List Polygon) (places : List FacePlace) → ((i : ℕ) → i < length (map place_of places) → (get_or (map place_of places) i (0, 0)).1 < length (polygon_at polygons (get_or (map place_of places) i (0, 0)).0)) → All (λ place. place.face < length polygons) places
places-within polygons places within = λ k d h.
    let at = get_or-map place_of places k d (0, 0) h in
    let inside = within k (omega (arith, h, length-map places place_of)) in
    face-below polygons (get_or places k d).face (get_or places k d).corner (subst (λ (x : ℕ × ℕ). x.1 < length (polygon_at polygons x.0)) at inside)

-- at first there is no face, and memory for all
pub no-faces : (level : Level) (p : Part) (count : ℕ) → count ≡ length p.places → paired [] [] count (4 * count) ≡ first_faces level p 0
no-faces level p count e = ap (λ (k : ℕ). paired [] [] k (4 * k)) e

-- in the end there are all faces
pub all-faces : (level : Level) (p : Part) (i count : ℕ) (now : Paired ℕ) → now ≡ first_faces level p i → i ≡ count → now ≡ first_faces level p count
all-faces level p i count now before last = before ∙ ap (first_faces level p) last

-- child faces have four corners
pub quads-corners : (points : ℕ) (polygons : List Polygon) (number : ℕ → ℕ) (k : ℕ) (places : List (ℕ × ℕ)) → sum_by length (take k (map (λ place. map number (whole_quad points polygons place)) places)) ≤ 4 * k
quads-corners points polygons number zero places = omega arith
quads-corners points polygons number (suc k) [] = omega arith
quads-corners points polygons number (suc k) (place ∷ places) =
    let quad : List ℕ = map number (whole_quad points polygons place) in
    let rest = take k (map (λ x. map number (whole_quad points polygons x)) places) in
    omega (arith, quads-corners points polygons number k places, sum_by-cons length quad rest)

pair-same : {lists lists' beside beside' : List (List ℕ)} {a b : ℕ} → lists ≡ lists' → beside ≡ beside' → paired lists beside a b ≡ paired lists' beside' a b
pair-same p q = cc

module _ (t : Topology) (is : IsTopology t) (p : Part) (n : Slotted) (are : ArePartEdges t.level p n) where
  abbrev points : ℕ
  points = t.level.point_count

  abbrev polygons : List Polygon
  polygons = t.level.polygons

  abbrev quads : List Polygon
  quads = part_polygons t.level.point_count t.level.polygons p

  count : length quads ≡ length p.places
  count = quads-count points polygons (over-of t is) is.simple p are.part

  -- the slots of a child face's sides have edges
  pub slots-at-place : (i f c : ℕ) (slots : List ℕ) → i < length p.places → get_or p.places i (0, 0) ≡ (f, c) → slots ≡ slots_at polygons f c → All (λ a. is_among n.slots a ≡ true) slots
  slots-at-place i f c slots h at s =
      let same : slots_at polygons (get_or p.places i (0, 0)).0 (get_or p.places i (0, 0)).1 ≡ slots = ap (λ (x : ℕ × ℕ). slots_at polygons x.0 x.1) at ∙ sym s in
      subst (λ (xs : List ℕ). All (λ a. is_among n.slots a ≡ true) xs) same (slots-there t is p n are i h)

  -- there is memory for one more face
  pub faces-room : (i : ℕ) (now : Paired ℕ) → i < length p.places → now ≡ first_faces t.level p i → (length now.lists < now.list_limit) × (sum_by length now.lists + 4 ≤ now.item_limit)
  faces-room i now h before = subst (λ (x : Paired ℕ). (length x.lists < x.list_limit) × (sum_by length x.lists + 4 ≤ x.item_limit)) (sym before) (
    omega (arith, h, length-take-le i quads (omega (arith, h, count))),
    omega (arith, h, quads-corners points polygons p.number i p.places),
  )

  pub corners-room : (i f c : ℕ) (now : Paired ℕ) (quad corners : List ℕ) → i < length p.places → get_or p.places i (0, 0) ≡ (f, c) → now ≡ first_faces t.level p i → quad ≡ quad_at points polygons f c → corners ≡ map p.number quad → sum_by length now.lists + length corners ≤ now.item_limit
  corners-room i f c now quad corners h at before q r =
      let four : length corners ≡ 4 = ap length (r ∙ ap (map p.number) q) in
      omega (arith, four, (faces-room i now h before).1)

  -- a face more
  pub faces-step : (i f c : ℕ) (now next : Paired ℕ) (quad corners slots numbers : List ℕ) → i < length p.places → get_or p.places i (0, 0) ≡ (f, c) → now ≡ first_faces t.level p i
      → quad ≡ quad_at points polygons f c → corners ≡ map p.number quad → slots ≡ slots_at polygons f c
      → numbers ≡ side_numbers n.slots slots
      → next ≡ paired (now.lists ++ corners ∷ []) (now.beside ++ numbers ∷ []) now.list_limit now.item_limit → next ≡ first_faces t.level p (i + 1)
  faces-step i f c now next quad corners slots numbers h at before q r s e made =
      let inside : i < length quads = omega (arith, h, count) in
      let here : polygon_at quads i ≡ map p.number (quad_at points polygons f c) = quad-at-place points polygons (over-of t is) is.simple p are.part i h ∙ ap (λ x. map p.number (whole_quad points polygons x)) at in
      let face : corners ≡ polygon_at quads i = r ∙ ap (map p.number) q ∙ sym here in
      let edges : numbers ≡ face_edges_of quads (polygon_at quads i) =
      e ∙ ap (side_numbers n.slots) (s ∙ ap (λ (x : ℕ × ℕ). slots_at polygons x.0 x.1) (sym at)) ∙ numbers-quad t is p n are i h in
      let lists : take i quads ++ corners ∷ [] ≡ take (i + 1) quads = ap (λ x. take i quads ++ x ∷ []) face ∙ sym (take_more quads i [] inside) in
      let beside : map (face_edges_of quads) (take i quads) ++ numbers ∷ [] ≡ map (face_edges_of quads) (take (i + 1) quads) =
      ap (λ x. map (face_edges_of quads) (take i quads) ++ x ∷ []) edges ∙ sym (map_more (face_edges_of quads) quads i [] inside) in
      made ∙ ap (λ (x : Paired ℕ). paired (x.lists ++ corners ∷ []) (x.beside ++ numbers ∷ []) x.list_limit x.item_limit) before ∙ pair-same lists beside
