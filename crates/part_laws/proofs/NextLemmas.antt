-- A part of the next level of a part is a part of the next level of the whole: its marks and its sharpness.
use Rattle.std.proofs.Common.{◌≡◌, ℕ, ◌+◌, ◌<◌, Bool, true, false, nat_eq, List, [], ◌∷◌, length, map, get_or, replicate, arith, refl, ap, sym, ◌∙◌, subst, inl, inr}
use Rattle.std.specs.List.{list_any}
use Rattle.std.proofs.lemmas.Bool.{or_right, and_parts, eqb-true, eq-eqb, ltb-true}
use Rattle.std.proofs.lemmas.Bool.Decides.{nat_tests}
use Rattle.std.proofs.lemmas.List.{length-map, length-replicate, get_or-map, get_or-replicate, ext_get_or, map-id}
use Rattle.std.proofs.lemmas.List.FromFn.{length-map-range_with_len, get_or-map-range_with_len}
use Rattle.subdiv_model.specs.Polygons.{Polygon, same_side, same_edge, has_corner, has_side, polygon_at, is_over}
use Rattle.subdiv_model.specs.Edges.{all_sides, edges_of, has_end}
use Rattle.subdiv_model.specs.Sharpness.{Method, Normal, Chaikin, Sharpness, Smooth, uniform_child, half_child}
use Rattle.subdiv_model.specs.Level.{Level, edge_sharpness_of, vertex_sharpness_of, is_hole, ring_at}
use Rattle.subdiv_model.specs.Child.{face_point, edge_point, child_polygons, child_holes, child_level, half_sharpness}
use Rattle.mesh_laws.proofs.EdgeLemmas.{any-first_named, position-alike}
use Rattle.mesh_laws.proofs.ClosedLemmas.{any-place}
use Rattle.mesh_laws.proofs.FanLemmas.{any-side, side-start}
use Rattle.mesh_laws.proofs.ChildPlaceLemmas.{IsChildOf, all-of}
use Rattle.mesh_laws.proofs.ChildCornerLemmas.{corner-place, corner-point, side-named}
use Rattle.level_laws.proofs.FaceLemmas.{child-hole}
use Rattle.level_laws.proofs.HalfLemmas.{half-sharp, inside-smooth}
use Rattle.level_laws.proofs.NewPointLemmas.{new-smooth, old-uniform}
use Rattle.part_laws.specs.Parts.{IsWholeAt, is_corner, renamed, face_in}
use Rattle.part_laws.specs.LevelParts.{IsLevelPart}
use Rattle.part_laws.specs.Children.{children_of, children_in, child_name, corner_of_child, IsNextPart}
use Rattle.part_laws.proofs.PartLemmas.{as-many, polygon-in}
use Rattle.part_laws.proofs.LevelLemmas.{same-half}
use Rattle.part_laws.proofs.JoinLemmas.{joined, corner-in, corners-named}
use Rattle.part_laws.proofs.PlaceLemmas.{parts-in, read-children, first_place}
use Rattle.part_laws.proofs.NameLemmas.{name-old, name-face, name-edge, edge-listed, same-renamed, side-named-in}
use Rattle.part_laws.proofs.ChildLemmas.{IsNew, kind, child-part, name-below, face-below}

pub sharpness-alike : (level : Level) (s t : ℕ × ℕ) → same_edge s t ≡ true → edge_sharpness_of level s ≡ edge_sharpness_of level t
sharpness-alike level s t h = ap (λ n. get_or level.edge_sharpness n Smooth) (position-alike s t (edges_of level.polygons) h)

sharpness-turned : (level : Level) (a b : ℕ) → edge_sharpness_of level (a, b) ≡ edge_sharpness_of level (b, a)
sharpness-turned level a b = sharpness-alike level (a, b) (b, a) (grind (arith, nat_tests))

pair-same : {a a' b b' : ℕ} → a ≡ a' → b ≡ b' → ◌≡◌ {A = ℕ × ℕ} (a, b) (a', b')
pair-same p q = cc

-- an end of an edge is one under the names
end-named : (name : ℕ → ℕ) (v : ℕ) (s : ℕ × ℕ) → has_end v s ≡ true → has_end (name v) (renamed name s) ≡ true
end-named name v s h = go (nat_eq v s.0) refl
  where
    go : (b : Bool) → nat_eq v s.0 ≡ b → has_end (name v) (renamed name s) ≡ true
    go true e = let one = eq-eqb (name v) (name s.0) (ap name (eqb-true v s.0 e)) in rw one refl
    go false e =
        let other : nat_eq v s.1 ≡ true = rw e at h in
        let one = eq-eqb (name v) (name s.1) (ap name (eqb-true v s.1 other)) in
        rw one (or_right (nat_eq (name v) (name s.0)) true refl)

-- a child face begins at its corner
begins-at : (points : ℕ) (polygons : List Polygon) (k v : ℕ) (quad : Polygon) → IsChildOf points polygons k v quad → get_or quad 0 0 ≡ v
begins-at points polygons k v quad c = ap (λ q. get_or q 0 0) c.is

-- the four sides of a quad
side-cases : (a b c d : ℕ) (s : ℕ × ℕ) (P : ℕ × ℕ → Type 0) → P (a, b) → P (b, c) → P (c, d) → P (d, a) → has_side s (a ∷ b ∷ c ∷ d ∷ []) ≡ true → P s
side-cases a b c d s P one two three four h = go (same_side s (a, b)) (same_side s (b, c)) (same_side s (c, d)) refl refl refl
  where
    at : (t : ℕ × ℕ) → same_side s t ≡ true → P t → P s
    at t e p =
        let parts = and_parts (nat_eq s.0 t.0) (nat_eq s.1 t.1) e in
        let first = eqb-true s.0 t.0 parts.0 in
        let second = eqb-true s.1 t.1 parts.1 in
        subst P (pair-same (sym first) (sym second)) p

    go : (p q r : Bool) → same_side s (a, b) ≡ p → same_side s (b, c) ≡ q → same_side s (c, d) ≡ r → P s
    go true q r e f g = at (a, b) e one
    go false true r e f g = at (b, c) f two
    go false false true e f g = at (c, d) g three
    go false false false e f g = at (d, a) (let last : same_side s (d, a) ≡ true = grind (arith, nat_tests) in last) four

module _ (name : ℕ → ℕ) (faces : List ℕ) (part whole : Level) (is : IsLevelPart name faces part whole) (over : is_over part.point_count part.polygons ≡ true) (whole_over : is_over whole.point_count whole.polygons ≡ true) where
  abbrev kid : ℕ → ℕ
  kid n = child_name name faces part whole n

  -- the half of an edge has the same sharpness, under the method chaikin where the part has all faces at its end
  half-same : (edge : ℕ × ℕ) (v : ℕ) → list_any (same_edge edge) (edges_of part.polygons) ≡ true → is_corner part.polygons v ≡ true → (part.method ≡ Chaikin → IsWholeAt faces whole.polygons (name v)) → half_sharpness part edge v ≡ half_sharpness whole (renamed name edge) (name v)
  half-same edge v listed there all = go part.method refl
    where
      go : (m : Method) → part.method ≡ m → half_sharpness part edge v ≡ half_sharpness whole (renamed name edge) (name v)
      go Normal e =
          ap (λ m. half_child m (ring_at part v) (edge_sharpness_of part edge)) e
          ∙ ap uniform_child (is.edges edge listed)
          ∙ ap (λ m. half_child m (ring_at whole (name v)) (edge_sharpness_of whole (renamed name edge))) (sym e ∙ is.method)
      go Chaikin e = same-half name faces part whole is v there (all e) edge listed

  module _ (k v : ℕ) (quad : Polygon) (c : IsChildOf part.point_count part.polygons k v quad) (all : part.method ≡ Chaikin → IsWholeAt faces whole.polygons (name v)) where
    abbrev Agrees : ℕ × ℕ → Type 0
    Agrees s = edge_sharpness_of (child_level part) s ≡ edge_sharpness_of (child_level whole) (renamed (child_name name faces part whole) s)

    at : has_corner v (polygon_at part.polygons k) ≡ true
    at = side-start (polygon_at part.polygons k) (v, c.w) c.after

    there : is_corner part.polygons v ≡ true
    there = corner-in part.polygons v k at

    below : v < part.point_count
    below = ltb-true v part.point_count (corner-point part.point_count part.polygons k v over at)

    inside : k < length part.polygons
    inside = corner-place part.polygons k v at

    half-agrees : (edge : ℕ × ℕ) → has_side edge (polygon_at part.polygons k) ≡ true → has_end v edge ≡ true → edge_sharpness_of (child_level part) (v, edge_point part.point_count part.polygons edge) ≡ edge_sharpness_of (child_level whole) (kid v, kid (edge_point part.point_count part.polygons edge))
    half-agrees edge side ends =
        let listed = side-named part.polygons k edge side in
        let old = name-old name faces part whole is.polygons v below in
        let new = name-edge name faces part whole is.polygons edge listed in
        half-sharp part over edge v listed ends
        ∙ half-same edge v listed there all
        ∙ sym (half-sharp whole whole_over (renamed name edge) (name v) (edge-listed name faces part whole is.polygons edge listed) (end-named name v edge ends))
        ∙ ap (λ n. edge_sharpness_of (child_level whole) (n, edge_point whole.point_count whole.polygons (renamed name edge))) (sym old)
        ∙ ap (λ n. edge_sharpness_of (child_level whole) (kid v, n)) (sym new)

    -- the sides of a child face have the same sharpness
    side-agrees : (s : ℕ × ℕ) → has_side s quad ≡ true → Agrees s
    side-agrees s h =
        let points = part.point_count in
        let before : ℕ × ℕ = (c.u, v) in
        let after : ℕ × ℕ = (v, c.w) in
        let self = eq-eqb v v refl in
        let starts : has_end v after ≡ true = rw self refl in
        let ends : has_end v before ≡ true = rw self (or_right (nat_eq v c.u) true refl) in
        let one = half-agrees after c.after starts in
        let four = half-agrees before c.before ends in
        let smooth_after = inside-smooth part over k after inside in
        let smooth_before = inside-smooth part over k before inside in
        let whole_after = inside-smooth whole whole_over (face_in faces k) (renamed name after) (face-below name faces part whole is.polygons whole_over k inside) in
        let whole_before = inside-smooth whole whole_over (face_in faces k) (renamed name before) (face-below name faces part whole is.polygons whole_over k inside) in
        let center = name-face name faces part whole is.polygons k inside in
        let new_after = name-edge name faces part whole is.polygons after (side-named part.polygons k after c.after) in
        let new_before = name-edge name faces part whole is.polygons before (side-named part.polygons k before c.before) in
        let sharp : ℕ → ℕ → Sharpness = λ a b. edge_sharpness_of (child_level whole) (a, b) in
        side-cases v (edge_point points part.polygons after) (face_point points k) (edge_point points part.polygons before) s Agrees
        one
        (smooth_after.1 ∙ sym whole_after.1 ∙ ap (λ a. sharp a (face_point whole.point_count (face_in faces k))) (sym new_after) ∙ ap (sharp (kid (edge_point points part.polygons after))) (sym center))
        (smooth_before.0 ∙ sym whole_before.0 ∙ ap (λ a. sharp a (edge_point whole.point_count whole.polygons (renamed name before))) (sym center) ∙ ap (sharp (kid (face_point points k))) (sym new_before))
        (sharpness-turned (child_level part) (edge_point points part.polygons before) v
        ∙ four ∙ sharpness-turned (child_level whole) (kid v) (kid (edge_point points part.polygons before)))
        (ap (has_side s) (sym c.is) ∙ h)

  -- the points of the next level have the same sharpness
  vertex-agrees : (x : ℕ) → IsNew part.point_count part.polygons x → vertex_sharpness_of (child_level part) x ≡ vertex_sharpness_of (child_level whole) (child_name name faces part whole x)
  vertex-agrees x (inl a) =
      old-uniform part x a.0 ∙ ap uniform_child (is.vertices x a.1)
      ∙ sym (old-uniform whole (name x) (name-below name faces part whole is.polygons whole_over x a.1))
      ∙ ap (vertex_sharpness_of (child_level whole)) (sym (name-old name faces part whole is.polygons x a.0))
  vertex-agrees x (inr (inl b)) =
      let e = ap kid b.2 ∙ name-face name faces part whole is.polygons b.0 b.1 in
      new-smooth part x (omega (arith, b.2)) ∙ sym (new-smooth whole (kid x) (omega (arith, e)))
  vertex-agrees x (inr (inr b)) =
      let e = ap kid b.2 ∙ name-edge name faces part whole is.polygons b.0 b.1 in
      new-smooth part x (omega (arith, b.2)) ∙ sym (new-smooth whole (kid x) (omega (arith, e)))

  -- the child faces have the same marks
  marks-in : child_holes part ≡ map (is_hole (child_level whole)) (children_in whole.polygons faces)
  marks-in =
      let others : ℕ → List Bool = λ f. replicate (length (polygon_at whole.polygons f)) (is_hole whole f) in
      let marks : ℕ → Polygon → List Bool = λ k polygon. replicate (length polygon) (is_hole part k) in
      let long : (k : ℕ) → k < length part.polygons → length (polygon_at part.polygons k) ≡ length (polygon_at whole.polygons (face_in faces k)) =
      λ k h. sym (length-map (polygon_at part.polygons k) name) ∙ ap length (polygon-in name faces part.polygons whole.polygons is.polygons k h) in
      sym (map-id (child_holes part))
      ∙ parts-in (λ b. b) marks others 0 part.polygons faces (as-many name faces part.polygons whole.polygons is.polygons) (λ i h.
      map-id (marks (0 + i) (polygon_at part.polygons i))
      ∙ ap (λ k. replicate (length (polygon_at part.polygons i)) (is_hole part k)) (let e : 0 + i ≡ i = omega arith in e)
      ∙ ap (λ n. replicate n (is_hole part i)) (long i h)
      ∙ ap (replicate (length (polygon_at whole.polygons (face_in faces i)))) (is.holes i h))
      ∙ read-children whole.polygons others (is_hole (child_level whole)) (λ f h.
      let n = length (polygon_at whole.polygons f) in
      let first = first_place whole.polygons f in
      ext_get_or false (others f) (map (is_hole (child_level whole)) (children_of whole.polygons f)) (length-replicate n (is_hole whole f) ∙ sym (length-map-range_with_len (is_hole (child_level whole)) first n)) (λ c less.
      let corner : c < n = omega (arith, less, length-replicate n (is_hole whole f)) in
      get_or-replicate n c (is_hole whole f) false corner ∙ sym (child-hole whole f c h corner) ∙ sym (get_or-map-range_with_len (is_hole (child_level whole)) first n c (first + c) false corner refl))) faces is.polygons.inside

  -- a part of the next level of the part is a part of the next level of the whole
  module _ (next_name : ℕ → ℕ) (next_faces : List ℕ) (next : Level) (n : IsNextPart name faces part whole next_name next_faces next) where
    abbrev kids : List Polygon
    kids = child_polygons part.point_count part.polygons

    -- the side of a child face, where the part has all faces at its corner
    side-of : (m : ℕ) (side : ℕ × ℕ) → has_side side (polygon_at kids m) ≡ true → (part.method ≡ Chaikin → IsWholeAt faces whole.polygons (name (corner_of_child part m))) → edge_sharpness_of (child_level part) side ≡ edge_sharpness_of (child_level whole) (renamed (child_name name faces part whole) side)
    side-of m side h all =
        let found = all-of part.point_count part.polygons m [] (corner-place kids m side.0 (side-start (polygon_at kids m) side h)) in
        go found.0 found.1 found.2
      where
        go : (k v : ℕ) → IsChildOf part.point_count part.polygons k v (polygon_at kids m) → edge_sharpness_of (child_level part) side ≡ edge_sharpness_of (child_level whole) (renamed (child_name name faces part whole) side)
        go k v c =
            let corner : corner_of_child part m ≡ v = begins-at part.point_count part.polygons k v (polygon_at kids m) c in
            side-agrees k v (polygon_at kids m) c (λ chaikin. subst (λ n. IsWholeAt faces whole.polygons (name n)) corner (all chaikin)) side h

    edge-agrees : (edge : ℕ × ℕ) → list_any (same_edge edge) (edges_of next.polygons) ≡ true → edge_sharpness_of next edge ≡ edge_sharpness_of (child_level whole) (renamed (child_name name faces part whole) (renamed next_name edge))
    edge-agrees edge listed =
        let found = any-side (same_edge edge) (all_sides next.polygons) (sym (any-first_named edge (all_sides next.polygons)) ∙ listed) in
        let place = any-place (same_side found.0) next.polygons found.2 in
        go found.0 found.1 place.0 place.1 place.2
      where
        go : (s : ℕ × ℕ) → same_edge edge s ≡ true → (j : ℕ) → j < length next.polygons → has_side s (polygon_at next.polygons j) ≡ true → edge_sharpness_of next edge ≡ edge_sharpness_of (child_level whole) (renamed (child_name name faces part whole) (renamed next_name edge))
        go s is_same j inside there =
            let side = renamed next_name s in
            let same = same-renamed next_name edge s is_same in
            n.is_part.edges edge listed
            ∙ sharpness-alike (child_level part) (renamed next_name edge) side same
            ∙ side-of (face_in next_faces j) side (side-named-in next_name next_faces next (child_level part) n.is_part.polygons j s there) (λ chaikin. n.has_all chaikin j inside)
            ∙ sym (sharpness-alike (child_level whole) (renamed kid (renamed next_name edge)) (renamed kid side) (same-renamed kid (renamed next_name edge) side same))

    hole-agrees : (j : ℕ) → j < length next.polygons → is_hole next j ≡ is_hole (child_level whole) (face_in (map (face_in (children_in whole.polygons faces)) next_faces) j)
    hole-agrees j h =
        let numbers = children_in whole.polygons faces in
        let m = face_in next_faces j in
        let below : j < length next_faces = omega (arith, h, as-many next_name next_faces next.polygons kids n.is_part.polygons) in
        let inner = n.is_part.polygons.inside j 0 below in
        let many = as-many (child_name name faces part whole) numbers kids (child_polygons whole.point_count whole.polygons) (child-part name faces part whole is.polygons whole_over over) in
        n.is_part.holes j h
        ∙ ap (λ l. get_or l m false) marks-in
        ∙ get_or-map (is_hole (child_level whole)) numbers m 0 false (omega (arith, inner, many))
        ∙ ap (is_hole (child_level whole)) (sym (get_or-map (face_in numbers) next_faces j 0 0 below))

    pub next-part : IsLevelPart (λ p. child_name name faces part whole (next_name p)) (map (face_in (children_in whole.polygons faces)) next_faces) next (child_level whole)
    next-part = record {
      polygons = joined next_name (child_name name faces part whole) next_faces (children_in whole.polygons faces) next.polygons kids (child_polygons whole.point_count whole.polygons) n.is_part.polygons (child-part name faces part whole is.polygons whole_over over);
      method = n.is_part.method ∙ is.method;
      holes = hole-agrees;
      edges = edge-agrees;
      vertices = λ p h. n.is_part.vertices p h ∙ vertex-agrees (next_name p) (kind part.point_count part.polygons over (next_name p) (corners-named next_name next_faces next.polygons kids n.is_part.polygons p h));
    }
