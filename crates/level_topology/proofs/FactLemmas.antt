-- The facts of faces: the edges at a point that pass a test, and how many corners and edges of a face do.
use Rattle.std.proofs.Common.{◌≡◌, ◌≢◌, ℕ, suc, ◌+◌, ◌<◌, ◌≤◌, ◌^◌, Bool, true, false, not, ◌&&◌, ◌||◌, nat_eq, nat_lt, List, [], ◌∷◌, length, map, take, get_or, arith, refl, ap, sym, ◌∙◌}
use Rattle.std.specs.Int.{from_bool}
use Rattle.std.specs.List.{All, list_any, list_all, count_by}
use Rattle.std.proofs.lemmas.Bool.Decides.{nat_tests}
use Rattle.std.proofs.lemmas.Bool.{ltb-true}
use Rattle.std.proofs.lemmas.List.{get_or-map, length-take, take_all}
use Rattle.std.proofs.lemmas.List.Folds.{list_any_at}
use Rattle.std.proofs.lemmas.List.Sums.{AllPass-from_list_all, count_by-le-length, count_by_more_yes, count_by_more_no}
use Rattle.std.proofs.lemmas.List.Sorted.{list_any-IsPermutation, length_permutation}
use Rattle.number_laws.proofs.CountLemmas.{one_if, count-cons}
use Rattle.subdiv_model.specs.Polygons.{same_edge, sides_of, polygon_at}
use Rattle.subdiv_model.specs.Edges.{edges_of, edge_number, edges_of_point, faces_of_point, has_end, is_boundary}
use Rattle.subdiv_model.specs.Sharpness.{Smooth, is_sharp}
use Rattle.subdiv_model.specs.Level.{Level, edge_sharpness_of, vertex_sharpness_of, edges_at, faces_at}
use Rattle.subdiv_model.specs.Feature.{is_infinite, is_at_boundary, is_sharp_inside, is_smooth_at, is_regular}
use Rattle.mesh_laws.proofs.ClosedLemmas.{all-at}
use Rattle.mesh_laws.proofs.EdgeLemmas.{position-alike}
use Rattle.mesh_laws.proofs.PointLemmas.{boundary-alike}
use Rattle.level_laws.proofs.FaceLemmas.{sides_of-length}
use Rattle.level_laws.proofs.WellFormedLemmas.{first-of-six}
use Rattle.level_topology.specs.Topology.{Topology, IsTopology, edge_at, face_edges_of}
use Rattle.level_topology.proofs.LawLemmas.{own-number, edges-each, edge-exists, edges-as-many, edge-joins}
use Rattle.level_topology.proofs.PlaceLemmas.{filter-item, side-there}

-- A test of mapped items.
any-map : {X : Type 0} (at : ℕ → Bool) (test : X → Bool) (number : X → ℕ) (d : X) (xs : List X)
    → ((k : ℕ) → k < length xs → at (number (get_or xs k d)) ≡ test (get_or xs k d)) → list_any at (map number xs) ≡ list_any test xs
any-map at test number d [] same = refl
any-map at test number d (x ∷ xs) same =
    ap (λ b. b || list_any at (map number xs)) (same 0 (omega arith)) ∙ ap (λ b. test x || b) (any-map at test number d xs (λ k h. same (suc k) (omega arith)))

count-map : {X : Type 0} (at : ℕ → Bool) (test : X → Bool) (number : X → ℕ) (d : X) (xs : List X)
    → ((k : ℕ) → k < length xs → at (number (get_or xs k d)) ≡ test (get_or xs k d)) → count_by at (map number xs) ≡ count_by test xs
count-map at test number d [] same = refl
count-map at test number d (x ∷ xs) same =
    count-cons at (number x) (map number xs)
    ∙ ap (λ b. one_if b + count_by at (map number xs)) (same 0 (omega arith))
    ∙ ap (λ n. one_if (test x) + n) (count-map at test number d xs (λ k h. same (suc k) (omega arith))) ∙ sym (count-cons test x xs)

-- one item more of a list, which passes or does not
pub count-next : {X : Type 0} (test : X → Bool) (xs : List X) (i : ℕ) (d : X) (count more : ℕ) (passes : Bool) → i < length xs → more ≡ from_bool passes
    → passes ≡ test (get_or xs i d) → count ≡ count_by test (take i xs) → count + more ≡ count_by test (take (i + 1) xs)
count-next test xs i d count more passes inside em ep ec = go passes em ep
  where
    go : (b : Bool) → more ≡ from_bool b → b ≡ test (get_or xs i d) → count + more ≡ count_by test (take (i + 1) xs)
    go true m e = omega (arith, m, ec, count_by_more_yes test xs i d inside (sym e))
    go false m e = omega (arith, m, ec, count_by_more_no test xs i d inside (sym e))

pub count-most : {X : Type 0} (test : X → Bool) (xs : List X) (i : ℕ) (d : X) (count more : ℕ) (passes : Bool) → i < length xs → more ≡ from_bool passes
    → passes ≡ test (get_or xs i d) → count ≡ count_by test (take i xs) → count + more ≤ i + 1
count-most test xs i d count more passes inside em ep ec =
    omega (arith, count-next test xs i d count more passes inside em ep ec, count_by-le-length test (take (i + 1) xs), length-take (i + 1) xs)

-- which of the three kinds a regular point can be
inside-kind : (b four smooth two one infinite : Bool) → b ≡ false
    → ((not b && four && smooth) || (b && two && smooth) || (b && one && infinite)) ≡ (four && smooth)
inside-kind true four smooth two one infinite h = absurd (cc)
inside-kind false true true two one infinite h = refl
inside-kind false true false two one infinite h = refl
inside-kind false false smooth two one infinite h = refl

boundary-kind : (b four smooth two one infinite : Bool) → b ≡ true
    → ((not b && four && smooth) || (b && two && smooth) || (b && one && infinite)) ≡ ((two && smooth) || (one && infinite))
boundary-kind true four smooth two one infinite h = refl
boundary-kind false four smooth two one infinite h = absurd (cc)

pub regular-inside : (level : Level) (v : ℕ) → is_at_boundary level v ≡ false
    → is_regular level v ≡ (nat_eq (length (edges_at level v)) 4 && is_smooth_at level v)
regular-inside level v h = inside-kind _ _ _ _ _ _ h

regular-outside : (level : Level) (v : ℕ) → is_at_boundary level v ≡ true
    → is_regular level v ≡ ((nat_eq (length (faces_at level v)) 2 && is_smooth_at level v) || (nat_eq (length (faces_at level v)) 1 && is_infinite (vertex_sharpness_of level v)))
regular-outside level v h = boundary-kind _ _ _ _ _ _ h

-- and on the boundary it depends on how many faces there are
module _ (level : Level) (v n : ℕ) (boundary : is_at_boundary level v ≡ true) (count : n ≡ length (faces_at level v)) where
  by-count : is_regular level v ≡ ((nat_eq n 2 && is_smooth_at level v) || (nat_eq n 1 && is_infinite (vertex_sharpness_of level v)))
  by-count = regular-outside level v boundary
      ∙ ap (λ k. (nat_eq k 2 && is_smooth_at level v) || (nat_eq k 1 && is_infinite (vertex_sharpness_of level v))) (sym count)

  pub regular-side : n ≡ 2 → is_regular level v ≡ is_smooth_at level v
  regular-side two = by-count ∙ one-test n _ _ two
    where
      one-test : (n : ℕ) (smooth infinite : Bool) → n ≡ 2 → ((nat_eq n 2 && smooth) || (nat_eq n 1 && infinite)) ≡ smooth
      one-test n smooth infinite h = grind (arith, nat_tests)

  pub regular-corner : n ≡ 1 → is_regular level v ≡ is_infinite (vertex_sharpness_of level v)
  regular-corner one = by-count ∙ one-test n _ _ one
    where
      one-test : (n : ℕ) (smooth infinite : Bool) → n ≡ 1 → ((nat_eq n 2 && smooth) || (nat_eq n 1 && infinite)) ≡ infinite
      one-test n smooth infinite h = grind (arith, nat_tests)

  pub regular-neither : n ≢ 2 → n ≢ 1 → is_regular level v ≡ nat_eq n 1
  regular-neither two one = by-count ∙ one-test n _ _ two one
    where
      one-test : (n : ℕ) (smooth infinite : Bool) → n ≢ 2 → n ≢ 1 → ((nat_eq n 2 && smooth) || (nat_eq n 1 && infinite)) ≡ nat_eq n 1
      one-test n smooth infinite h k = grind (arith, nat_tests)

module _ (t : Topology) (is : IsTopology t) where
  -- The listed edges at a point pass a test exactly if those of the definitions do.
  pub any-listed : (test : ℕ × ℕ → Bool) (v : ℕ) → v < t.level.point_count
      → list_any (λ e. test (edge_at t.level.polygons e)) (get_or t.edges_at v []) ≡ list_any test (edges_of_point t.level.polygons v)
  any-listed test v inside =
      let polygons = t.level.polygons in
      sym (list_any-IsPermutation (λ e. test (edge_at polygons e)) _ _ (is.listed v inside).edges)
      ∙ any-map (λ e. test (edge_at polygons e)) test (edge_number polygons) (0, 0) (edges_of_point polygons v) (λ k h.
      let found = filter-item (has_end v) (0, 0) (edges_of polygons) k h in
      ap (λ s. test (edge_at polygons (edge_number polygons s))) found.2
      ∙ ap (λ e. test (edge_at polygons e)) (own-number polygons found.0 found.1) ∙ ap test (sym found.2))

  module _ (v : ℕ) (inside : v < t.level.point_count) (edges : List ℕ) (listed : edges ≡ get_or t.edges_at v []) (i : ℕ) where
    -- each of them is an edge
    pub edge-listed : i < length edges → get_or edges i 0 < length (edges_of t.level.polygons)
    edge-listed h =
        let within : i < length (get_or t.edges_at v []) = omega (arith, ap length listed) in
        rw listed (edges-each t v i is inside within).exists

    -- one that passes is found
    pub some-listed : (test : ℕ × ℕ → Bool) → i < length edges → test (edge_at t.level.polygons (get_or edges i 0)) ≡ true
        → list_any test (edges_of_point t.level.polygons v) ≡ true
    some-listed test h passes =
        let at : ℕ → Bool = λ e. test (edge_at t.level.polygons e) in
        sym (any-listed test v inside) ∙ ap (list_any at) (sym listed) ∙ list_any_at at edges i 0 h passes

    -- where none of all passes, none is there
    pub none-listed : (test : ℕ × ℕ → Bool) → length edges ≤ i → list_any (λ e. test (edge_at t.level.polygons e)) (take i edges) ≡ false
        → list_any test (edges_of_point t.level.polygons v) ≡ false
    none-listed test past none =
        let at : ℕ → Bool = λ e. test (edge_at t.level.polygons e) in
        sym (any-listed test v inside) ∙ ap (list_any at) (sym listed) ∙ ap (list_any at) (sym (take_all i edges past)) ∙ none

  -- as many faces are listed at a point as there are
  pub faces-listed : (v : ℕ) → v < t.level.point_count → length (get_or t.faces_at v []) ≡ length (faces_of_point t.level.polygons v)
  faces-listed v inside = length_permutation _ _ (is.listed v inside).faces

  -- the corners of a face are points
  pub corners-exist : (f : ℕ) → f < length t.level.polygons → All (λ v. v < t.level.point_count) (polygon_at t.level.polygons f)
  corners-exist f inside c d h =
      let over = all-at (list_all (λ v. nat_lt v t.level.point_count)) t.level.polygons f [] inside (first-of-six _ _ _ _ _ _ is.formed) in
      ltb-true _ _ (AllPass-from_list_all (λ v. nat_lt v t.level.point_count) (polygon_at t.level.polygons f) over c d h)

  -- and its edges are edges
  pub edges-exist : (f i : ℕ) (edges : List ℕ) → edges ≡ face_edges_of t.level.polygons (polygon_at t.level.polygons f) → i < length edges
      → get_or edges i 0 < length (edges_of t.level.polygons)
  edges-exist f i edges e h =
      rw e (edge-exists t.level.polygons f i (omega (arith, ap length e, edges-as-many t.level.polygons f)))

  -- a face has few corners
  pub corners-few : (f : ℕ) → f < length t.level.polygons → length (polygon_at t.level.polygons f) ≤ 2 ^ 16
  corners-few f inside = is.small.sizes f [] inside

  pub edges-few : (f : ℕ) (edges : List ℕ) → f < length t.level.polygons → edges ≡ face_edges_of t.level.polygons (polygon_at t.level.polygons f)
      → length edges ≤ 2 ^ 16
  edges-few f edges inside e = omega (arith, ap length e, edges-as-many t.level.polygons f, corners-few f inside)

  -- a sharp edge of two faces is one in either direction
  sharp-alike : (s u : ℕ × ℕ) → same_edge s u ≡ true → is_sharp_inside t.level s ≡ is_sharp_inside t.level u
  sharp-alike s u same =
      let polygons = t.level.polygons in
      ap (λ b. not b && is_sharp (edge_sharpness_of t.level s)) (boundary-alike polygons is.simple s u same)
      ∙ ap (λ n. not (is_boundary polygons u) && is_sharp (get_or t.level.edge_sharpness n Smooth)) (position-alike s u (edges_of polygons) same)

  -- the edges of a face are counted as its sides
  pub sharp-counted : (f : ℕ)
      → count_by (λ e. is_sharp_inside t.level (edge_at t.level.polygons e)) (face_edges_of t.level.polygons (polygon_at t.level.polygons f))
      ≡ count_by (is_sharp_inside t.level) (sides_of (polygon_at t.level.polygons f))
  sharp-counted f =
      let polygons = t.level.polygons in
      let sides = sides_of (polygon_at polygons f) in
      count-map (λ e. is_sharp_inside t.level (edge_at polygons e)) (is_sharp_inside t.level) (edge_number polygons) (0, 0) sides (λ k h.
      let within : k < length (polygon_at polygons f) = omega (arith, sides_of-length (polygon_at polygons f)) in
      let number : get_or (face_edges_of polygons (polygon_at polygons f)) k 0 ≡ edge_number polygons (get_or sides k (0, 0)) = get_or-map (edge_number polygons) sides k (0, 0) 0 h in
      sym (sharp-alike (get_or sides k (0, 0)) (edge_at polygons (edge_number polygons (get_or sides k (0, 0))))
      (ap (λ n. same_edge (get_or sides k (0, 0)) (edge_at polygons n)) (sym number)
      ∙ ap (λ s. same_edge s (edge_at polygons (get_or (face_edges_of polygons (polygon_at polygons f)) k 0))) (side-there (polygon_at polygons f) k within)
      ∙ edge-joins polygons f k within)))
