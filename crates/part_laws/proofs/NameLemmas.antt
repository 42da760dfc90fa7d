-- The names of the points of the next level: the name of each kind of point, and that different points have different names.
use Rattle.std.proofs.Common.{◌≡◌, ℕ, ◌+◌, ◌-◌, ◌<◌, Bool, true, false, ◌&&◌, nat_eq, nat_lt, List, [], ◌∷◌, length, map, get_or, arith, refl, ap, sym, ◌∙◌}
use Rattle.std.specs.List.{filter, list_all, list_any, position_or_len}
use Rattle.std.proofs.Math.Numerals.{one-add}
use Rattle.std.proofs.lemmas.List.{get_or-map}
use Rattle.std.proofs.lemmas.Bool.{or_right, and_parts, and_from, eqb-true, eq-eqb, ltb-true, lt-ltb, le-ltb}
use Rattle.std.proofs.lemmas.List.Sums.{passes_at_first}
use Rattle.subdiv_model.specs.Lists.{last_of}
use Rattle.subdiv_model.specs.Polygons.{Polygon, same_side, same_edge, sides_of, sides_back_to, has_side, polygon_at, is_over}
use Rattle.subdiv_model.specs.Edges.{all_sides, edges_of, edge_number}
use Rattle.subdiv_model.specs.Level.{Level}
use Rattle.subdiv_model.specs.Child.{face_point, edge_point, child_face, child_faces_along, child_faces}
use Rattle.mesh_laws.proofs.SideLemmas.{same_edge-sym}
use Rattle.mesh_laws.proofs.EdgeLemmas.{any-first_named, position-within, position-alike, any-alike}
use Rattle.mesh_laws.proofs.ClosedLemmas.{any-place}
use Rattle.mesh_laws.proofs.FanLemmas.{any-side, side-start}
use Rattle.mesh_laws.proofs.ChildCornerLemmas.{corner-place, corner-point, side-named}
use Rattle.mesh_laws.proofs.ChildPlaceLemmas.{own-sides}
use Rattle.mesh_laws.proofs.ChildFaceLemmas.{last-all}
use Rattle.part_laws.specs.Parts.{IsPart, IsWholeAlong, renamed, face_in}
use Rattle.part_laws.specs.Children.{edge_at, child_name}
use Rattle.part_laws.proofs.RenamedLemmas.{sides-renamed}
use Rattle.part_laws.proofs.PartLemmas.{polygon-in, edge-ends, same-edges-along}

-- the edge at the number of an edge is the same edge
pub edge-there : (polygons : List Polygon) (edge : ℕ × ℕ) → list_any (same_edge edge) (edges_of polygons) ≡ true → same_edge edge (edge_at polygons (edge_number polygons edge)) ≡ true
edge-there polygons edge h = passes_at_first (same_edge edge) (edges_of polygons) (0, 0) (position-within edge (edges_of polygons) h)

side-self : (name : ℕ → ℕ) (s t : ℕ × ℕ) → same_side s t ≡ true → same_side (renamed name s) (renamed name t) ≡ true
side-self name s t h =
    let parts = and_parts (nat_eq s.0 t.0) (nat_eq s.1 t.1) h in
    and_from _ _ (eq-eqb _ _ (ap name (eqb-true s.0 t.0 parts.0))) (eq-eqb _ _ (ap name (eqb-true s.1 t.1 parts.1)))

last-mapped : {X Y : Type 0} (f : X → Y) (x : X) (xs : List X) → last_of (f x) (map f xs) ≡ f (last_of x xs)
last-mapped f x [] = refl
last-mapped f x (y ∷ xs) = last-mapped f y xs

-- the first item that passes is the first kept item
first-kept : {X : Type 0} (test : X → Bool) (d : X) (xs : List X) → get_or xs (position_or_len test xs) d ≡ get_or (filter test xs) 0 d
first-kept test d [] = refl
first-kept test d (x ∷ xs) = go (test x) refl (first-kept test d xs)
  where
    go : (b : Bool) → test x ≡ b → get_or xs (position_or_len test xs) d ≡ get_or (filter test xs) 0 d → get_or (x ∷ xs) (position_or_len test (x ∷ xs)) d ≡ get_or (filter test (x ∷ xs)) 0 d
    go true e rest = rw e refl
    go false e rest = rw (e, one-add) rest

some-kept : {X : Type 0} (test : X → Bool) (xs : List X) → list_any test xs ≡ true → 0 < length (filter test xs)
some-kept test [] h = absurd (cc)
some-kept test (x ∷ xs) h = go (test x) refl (λ more. some-kept test xs more)
  where
    go : (b : Bool) → test x ≡ b → (list_any test xs ≡ true → 0 < length (filter test xs)) → 0 < length (filter test (x ∷ xs))
    go true e behind = rw e (omega arith)
    go false e behind = let rest = behind (rw e at h) in rw e rest

-- an edge along which the part has all faces has the same direction in both lists
pub same-edge-at : (name : ℕ → ℕ) (faces : List ℕ) (part whole : List Polygon) → IsPart name faces part whole → (edge : ℕ × ℕ) → list_any (same_edge edge) (edges_of part) ≡ true → IsWholeAlong faces whole (renamed name edge) → edge_at whole (edge_number whole (renamed name edge)) ≡ renamed name (edge_at part (edge_number part edge))
same-edge-at name faces part whole is edge h all =
    let some = filter (same_edge edge) (edges_of part) in
    first-kept (same_edge (renamed name edge)) (0, 0) (edges_of whole)
    ∙ ap (λ l. get_or l 0 (0, 0)) (sym (same-edges-along name faces part whole is edge (edge-ends name faces part whole is edge h) all))
    ∙ get_or-map (renamed name) some 0 (0, 0) (0, 0) (some-kept (same_edge edge) (edges_of part) h)
    ∙ ap (renamed name) (sym (first-kept (same_edge edge) (0, 0) (edges_of part)))

-- the names of a side that is there are there
any-renamed : (name : ℕ → ℕ) (s : ℕ × ℕ) (sides : List (ℕ × ℕ)) → list_any (same_side s) sides ≡ true → list_any (same_side (renamed name s)) (map (renamed name) sides) ≡ true
any-renamed name s [] h = h
any-renamed name s (t ∷ sides) h = go (same_side s t) refl (λ more. any-renamed name s sides more)
  where
    go : (b : Bool) → same_side s t ≡ b → (list_any (same_side s) sides ≡ true → list_any (same_side (renamed name s)) (map (renamed name) sides) ≡ true) → list_any (same_side (renamed name s)) (map (renamed name) (t ∷ sides)) ≡ true
    go true e behind = let here = side-self name s t e in rw here refl
    go false e behind =
        let rest = behind (rw e at h) in rw rest (or_right (same_side (renamed name s) (renamed name t)) true refl)

-- a side of a face of the part is one of its face in the whole
pub side-in : (name : ℕ → ℕ) (faces : List ℕ) (part whole : List Polygon) → IsPart name faces part whole → (k : ℕ) (s : ℕ × ℕ) → has_side s (polygon_at part k) ≡ true → has_side (renamed name s) (polygon_at whole (face_in faces k)) ≡ true
side-in name faces part whole is k s h =
    let inside = corner-place part k s.0 (side-start (polygon_at part k) s h) in
    ap (has_side (renamed name s)) (sym (polygon-in name faces part whole is k inside))
    ∙ ap (list_any (same_side (renamed name s))) (sides-renamed name (polygon_at part k))
    ∙ any-renamed name s (sides_of (polygon_at part k)) h

-- equal edges stay equal under the names
pub same-renamed : (name : ℕ → ℕ) (s t : ℕ × ℕ) → same_edge s t ≡ true → same_edge (renamed name s) (renamed name t) ≡ true
same-renamed name s t h = go (same_side s t) refl
  where
    self : (a b : ℕ) → nat_eq a b ≡ true → nat_eq (name a) (name b) ≡ true
    self a b e = eq-eqb (name a) (name b) (ap name (eqb-true a b e))

    go : (b : Bool) → same_side s t ≡ b → same_edge (renamed name s) (renamed name t) ≡ true
    go true e = let here = side-self name s t e in rw here refl
    go false e =
        let turned : (nat_eq s.0 t.1 && nat_eq s.1 t.0) ≡ true = rw e at h in
        let parts = and_parts (nat_eq s.0 t.1) (nat_eq s.1 t.0) turned in
        let one = self s.0 t.1 parts.0 in
        let two = self s.1 t.0 parts.1 in
        rw (one, two) (or_right (same_side (renamed name s) (renamed name t)) true refl)

module _ (name : ℕ → ℕ) (faces : List ℕ) (part whole : Level) (is : IsPart name faces part.polygons whole.polygons) where
  pub name-old : (n : ℕ) → n < part.point_count → child_name name faces part whole n ≡ name n
  name-old n h = let below = lt-ltb n part.point_count h in rw below refl

  pub name-face : (k : ℕ) → k < length part.polygons → child_name name faces part whole (face_point part.point_count k) ≡ face_point whole.point_count (face_in faces k)
  name-face k h =
      let one : nat_lt (part.point_count + k) part.point_count ≡ false = le-ltb _ _ (omega arith) in
      let two : nat_lt (part.point_count + k) (part.point_count + length part.polygons) ≡ true = lt-ltb _ _ (omega (arith, h)) in
      let back : part.point_count + k - part.point_count ≡ k = omega arith in
      rw (one, two, back) refl

  pub name-edge : (edge : ℕ × ℕ) → list_any (same_edge edge) (edges_of part.polygons) ≡ true → child_name name faces part whole (edge_point part.point_count part.polygons edge) ≡ edge_point whole.point_count whole.polygons (renamed name edge)
  name-edge edge h =
      let n = edge_number part.polygons edge in
      let all = part.point_count + length part.polygons in
      let one : nat_lt (all + n) part.point_count ≡ false = le-ltb _ _ (omega arith) in
      let two : nat_lt (all + n) all ≡ false = le-ltb _ _ (omega arith) in
      let back : all + n - all ≡ n = omega arith in
      let same = same-renamed name edge (edge_at part.polygons n) (edge-there part.polygons edge h) in
      rw (one, two) (ap (λ m. edge_point whole.point_count whole.polygons (renamed name (edge_at part.polygons m))) back
      ∙ ap (λ m. whole.point_count + length whole.polygons + m) (sym (position-alike (renamed name edge) (renamed name (edge_at part.polygons n)) (edges_of whole.polygons) same)))

  -- a side of a face is one of its face in the whole, and its edge is listed there
  pub side-named-in : (k : ℕ) (s : ℕ × ℕ) → has_side s (polygon_at part.polygons k) ≡ true → has_side (renamed name s) (polygon_at whole.polygons (face_in faces k)) ≡ true
  side-named-in k s h = side-in name faces part.polygons whole.polygons is k s h

  pub edge-listed : (edge : ℕ × ℕ) → list_any (same_edge edge) (edges_of part.polygons) ≡ true → list_any (same_edge (renamed name edge)) (edges_of whole.polygons) ≡ true
  edge-listed edge h =
      let found = any-side (same_edge edge) (all_sides part.polygons) (sym (any-first_named edge (all_sides part.polygons)) ∙ h) in
      let place = any-place (same_side found.0) part.polygons found.2 in
      let there = side-named whole.polygons (face_in faces place.0) (renamed name found.0) (side-named-in place.0 found.0 place.2) in
      any-alike (renamed name found.0) (renamed name edge) (edges_of whole.polygons) (same_edge-sym (renamed name found.0) (renamed name edge) ∙ same-renamed name edge found.0 found.1) there

  module _ (over : is_over part.point_count part.polygons ≡ true) where
    -- the ends of a side are points
    side-below : (k : ℕ) (s : ℕ × ℕ) → has_side s (polygon_at part.polygons k) ≡ true → s.0 < part.point_count
    side-below k s h = ltb-true s.0 part.point_count (corner-point part.point_count part.polygons k s.0 over (side-start (polygon_at part.polygons k) s h))

    -- a child face is that of the face in the whole between the same sides
    pub quad-in : (k : ℕ) (before after : ℕ × ℕ) → has_side before (polygon_at part.polygons k) ≡ true → has_side after (polygon_at part.polygons k) ≡ true → map (child_name name faces part whole) (child_face part.point_count part.polygons k before after) ≡ child_face whole.point_count whole.polygons (face_in faces k) (renamed name before) (renamed name after)
    quad-in k before after h g =
        let one = name-old after.0 (side-below k after g) in
        let two = name-edge after (side-named part.polygons k after g) in
        let three = name-face k (corner-place part.polygons k after.0 (side-start (polygon_at part.polygons k) after g)) in
        let four = name-edge before (side-named part.polygons k before h) in
        rw (one, two, three, four) refl

    along-in : (k : ℕ) (before : ℕ × ℕ) (sides : List (ℕ × ℕ)) → has_side before (polygon_at part.polygons k) ≡ true → list_all (λ s. has_side s (polygon_at part.polygons k)) sides ≡ true → map (map (child_name name faces part whole)) (child_faces_along part.point_count part.polygons k before sides) ≡ child_faces_along whole.point_count whole.polygons (face_in faces k) (renamed name before) (map (renamed name) sides)
    along-in k before [] h all = refl
    along-in k before (side ∷ sides) h all =
        let parts = and_parts (has_side side (polygon_at part.polygons k)) (list_all (λ s. has_side s (polygon_at part.polygons k)) sides) all in
        let here = quad-in k before side h parts.0 in
        let rest = along-in k side sides parts.0 parts.1 in
        rw (here, rest) refl

    -- the names of all child faces of a face
    path-in : (k v : ℕ) (rest : Polygon) → polygon_at part.polygons k ≡ v ∷ rest → map (map (child_name name faces part whole)) (child_faces part.point_count part.polygons k (v ∷ rest)) ≡ child_faces whole.point_count whole.polygons (face_in faces k) (map name (v ∷ rest))
    path-in k v rest e =
        let sides = sides_of (v ∷ rest) in
        let first : ℕ × ℕ = (v, get_or rest 0 v) in
        let more = sides_back_to v rest in
        let along : List (ℕ × ℕ) → List Polygon = λ some. child_faces_along whole.point_count whole.polygons (face_in faces k) (last_of (0, 0) some) some in
        let own : list_all (λ s. has_side s (polygon_at part.polygons k)) sides ≡ true = ap (λ p. list_all (λ s. has_side s p) sides) e ∙ own-sides sides in
        let last : has_side (last_of (0, 0) sides) (polygon_at part.polygons k) ≡ true = last-all (λ s. has_side s (polygon_at part.polygons k)) first more own in
        along-in k (last_of (0, 0) sides) sides last own
        ∙ ap (λ s. child_faces_along whole.point_count whole.polygons (face_in faces k) s (map (renamed name) sides)) (sym (last-mapped (renamed name) first more))
        ∙ ap along (sym (sides-renamed name (v ∷ rest)))

    pub children-of-face : (k : ℕ) → k < length part.polygons → map (map (child_name name faces part whole)) (child_faces part.point_count part.polygons k (polygon_at part.polygons k)) ≡ child_faces whole.point_count whole.polygons (face_in faces k) (polygon_at whole.polygons (face_in faces k))
    children-of-face k inside =
        go (polygon_at part.polygons k) refl
        ∙ ap (child_faces whole.point_count whole.polygons (face_in faces k)) (polygon-in name faces part.polygons whole.polygons is k inside)
      where
        go : (polygon : Polygon) → polygon_at part.polygons k ≡ polygon → map (map (child_name name faces part whole)) (child_faces part.point_count part.polygons k polygon) ≡ child_faces whole.point_count whole.polygons (face_in faces k) (map name polygon)
        go [] e = refl
        go (v ∷ rest) e = path-in k v rest e
