-- The next level of a part is a part of the next level of the whole, and where it is whole.
use Rattle.std.proofs.Common.{get_or, ◌≡◌, ℕ, ◌+◌, ◌<◌, true, ◌&&◌, nat_eq, List, [], length, map, arith, refl, ap, sym, ◌∙◌, subst, ◌⊎◌, inl, inr}
use Rattle.std.specs.List.{list_any, sum_by}
use Rattle.std.proofs.lemmas.Bool.{or_right, eq-eqb, ltb-true, lt-ltb}
use Rattle.std.proofs.lemmas.Bool.Decides.{nat_tests}
use Rattle.std.proofs.lemmas.List.{length-map}
use Rattle.std.proofs.lemmas.List.Folds.{list_any_at}
use Rattle.subdiv_model.specs.Polygons.{Polygon, same_side, same_edge, has_corner, has_side, is_among, polygon_at, is_over, sides_of}
use Rattle.subdiv_model.specs.Edges.{edges_of, edge_number, has_end}
use Rattle.subdiv_model.specs.Level.{Level}
use Rattle.subdiv_model.specs.Child.{face_point, edge_point, child_faces, child_polygons}
use Rattle.number_laws.proofs.CountLemmas.{any-weaker}
use Rattle.mesh_laws.proofs.EdgeLemmas.{position-alike, same-number}
use Rattle.mesh_laws.proofs.FanLemmas.{side-start}
use Rattle.mesh_laws.proofs.ChildPlaceLemmas.{IsChildOf, all-of}
use Rattle.mesh_laws.proofs.ChildCornerLemmas.{corner-place, corner-point, corner-cases, side-named}
use Rattle.level_laws.proofs.FaceLemmas.{child_polygons-length}
use Rattle.part_laws.specs.Parts.{IsPart, IsWholeAt, IsWholeAlong, is_corner, renamed, face_in}
use Rattle.part_laws.specs.LevelParts.{LevelPart}
use Rattle.part_laws.specs.Values.{NextPoint, Old, NewOfFace, NewOfEdge, HasNextPoint, WholeChild, number_of, corners_of}
use Rattle.part_laws.specs.Children.{IsOverPoints, name_next, faces_next, children_in, child_name}
use Rattle.part_laws.proofs.AscendingLemmas.{ascends}
use Rattle.part_laws.proofs.RenamedLemmas.{edge-same}
use Rattle.part_laws.proofs.PartLemmas.{as-many, polygon-in, edge-ends, whole-along}
use Rattle.part_laws.proofs.MaskLemmas.{faces-apart}
use Rattle.part_laws.proofs.JoinLemmas.{corner-of, corner-in, corners-named}
use Rattle.part_laws.proofs.PlaceLemmas.{owner, places-in, among-children, children-ascend, increasing, bounded, parts-in, read-children, faces-read, child-of-face, first_place}
use Rattle.part_laws.proofs.NameLemmas.{name-old, name-face, name-edge, edge-listed, children-of-face}

-- the point is a corner of the level, or the new point of a face, or that of an edge
abbrev pub IsNew : ℕ → List Polygon → ℕ → Type 0
IsNew points polygons x =
    ((x < points) × (is_corner polygons x ≡ true))
    ⊎ (((k : ℕ) × (k < length polygons) × (x ≡ face_point points k))
    ⊎ ((edge : ℕ × ℕ) × (list_any (same_edge edge) (edges_of polygons) ≡ true) × (x ≡ edge_point points polygons edge)))

module _ (points : ℕ) (polygons : List Polygon) (over : is_over points polygons ≡ true) where
  -- each corner of a child face is an old point or a new one
  pub kind-of-child : (k v x : ℕ) (quad : Polygon) → IsChildOf points polygons k v quad → has_corner x quad ≡ true → IsNew points polygons x
  kind-of-child k v x quad c h = go (corner-cases points polygons k v x quad c h)
    where
      at : has_corner v (polygon_at polygons k) ≡ true
      at = side-start (polygon_at polygons k) (v, c.w) c.after

      go : (x ≡ v) ⊎ ((x ≡ edge_point points polygons (v, c.w)) ⊎ ((x ≡ face_point points k) ⊎ (x ≡ edge_point points polygons (c.u, v)))) → IsNew points polygons x
      go (inl e) = inl (omega (arith, e, ltb-true v points (corner-point points polygons k v over at)), ap (is_corner polygons) e ∙ corner-in polygons v k at)
      go (inr (inl e)) = inr (inr ((v, c.w), side-named polygons k (v, c.w) c.after, e))
      go (inr (inr (inl e))) = inr (inl (k, corner-place polygons k v at, e))
      go (inr (inr (inr e))) = inr (inr ((c.u, v), side-named polygons k (c.u, v) c.before, e))

  pub kind : (x : ℕ) → is_corner (child_polygons points polygons) x ≡ true → IsNew points polygons x
  kind x h =
      let kids = child_polygons points polygons in
      let place = corner-of kids x h in
      let found = all-of points polygons place.0 [] place.1 in
      kind-of-child found.0 found.1 x (polygon_at kids place.0) found.2 place.2

module _ (name : ℕ → ℕ) (faces : List ℕ) (part whole : Level) (is : IsPart name faces part.polygons whole.polygons) where
  abbrev kid : ℕ → ℕ
  kid n = child_name name faces part whole n

  abbrev IsKid : ℕ → Type 0
  IsKid x = IsNew part.point_count part.polygons x

  -- edges of the part that are one edge in the whole are one edge
  edges-apart : (s t : ℕ × ℕ) → list_any (same_edge s) (edges_of part.polygons) ≡ true → list_any (same_edge t) (edges_of part.polygons) ≡ true → edge_number whole.polygons (renamed name s) ≡ edge_number whole.polygons (renamed name t) → edge_number part.polygons s ≡ edge_number part.polygons t
  edges-apart s t h k e =
      let ends = edge-ends name faces part.polygons whole.polygons is s h in
      let others = edge-ends name faces part.polygons whole.polygons is t k in
      let one : (is_corner part.polygons s.0 && is_corner part.polygons s.1) ≡ true = let a = ends.first in let b = ends.second in rw (a, b) refl in
      let two : (is_corner part.polygons t.0 && is_corner part.polygons t.1) ≡ true = let a = others.first in let b = others.second in rw (a, b) refl in
      let same : same_edge (renamed name s) (renamed name t) ≡ true = sym (same-number (renamed name s) (renamed name t) (edges_of whole.polygons) (edge-listed name faces part whole is s h)) ∙ eq-eqb _ _ e in
      position-alike s t (edges_of part.polygons) (sym (edge-same name (is_corner part.polygons) is.apart s t one two) ∙ same)

  -- the child of a face at a corner is that of its face in the whole at the same corner
  pub child-places : (k c : ℕ) → k < length part.polygons → c < length (polygon_at part.polygons k) → face_in (children_in whole.polygons faces) (first_place part.polygons k + c) ≡ first_place whole.polygons (face_in faces k) + c
  child-places k c h corner =
      places-in whole.polygons part.polygons faces (as-many name faces part.polygons whole.polygons is) (λ i l.
      sym (length-map (polygon_at part.polygons i) name) ∙ ap length (polygon-in name faces part.polygons whole.polygons is i l)) k c h corner

  module _ (whole_over : is_over whole.point_count whole.polygons ≡ true) where
    -- the name of a corner is a point of the whole
    pub name-below : (p : ℕ) → is_corner part.polygons p ≡ true → name p < whole.point_count
    name-below p h =
        let there = corner-of whole.polygons (name p) (corners-named name faces part.polygons whole.polygons is p h) in
        ltb-true (name p) whole.point_count (corner-point whole.point_count whole.polygons there.0 (name p) whole_over there.2)

    pub face-below : (k : ℕ) → k < length part.polygons → face_in faces k < length whole.polygons
    face-below k h = is.inside k 0 (omega (arith, h, as-many name faces part.polygons whole.polygons is))

    -- the names of two points of the next level differ
    tells : (x y : ℕ) → IsKid x → IsKid y → kid x ≡ kid y → x ≡ y
    tells x y (inl a) (inl b) e = is.apart x y a.1 b.1 (sym (name-old name faces part whole is x a.0) ∙ e ∙ name-old name faces part whole is y b.0)
    tells x y (inl a) (inr (inl b)) e =
        let f = ap kid b.2 ∙ name-face name faces part whole is b.0 b.1 in
        absurd (omega (arith, e, f, name-old name faces part whole is x a.0, name-below x a.1))
    tells x y (inl a) (inr (inr b)) e =
        let f = ap kid b.2 ∙ name-edge name faces part whole is b.0 b.1 in
        absurd (omega (arith, e, f, name-old name faces part whole is x a.0, name-below x a.1))
    tells x y (inr (inl a)) (inl b) e =
        let f = ap kid a.2 ∙ name-face name faces part whole is a.0 a.1 in
        absurd (omega (arith, e, f, name-old name faces part whole is y b.0, name-below y b.1))
    tells x y (inr (inl a)) (inr (inl b)) e =
        let f = ap kid a.2 ∙ name-face name faces part whole is a.0 a.1 in
        let g = ap kid b.2 ∙ name-face name faces part whole is b.0 b.1 in
        let same : face_in faces a.0 ≡ face_in faces b.0 = omega (arith, e, f, g) in
        let one = faces-apart name faces part.polygons whole.polygons is a.0 b.0 (lt-ltb _ _ a.1) (lt-ltb _ _ b.1) same in
        omega (arith, a.2, b.2, one)
    tells x y (inr (inl a)) (inr (inr b)) e =
        let f = ap kid a.2 ∙ name-face name faces part whole is a.0 a.1 in
        let g = ap kid b.2 ∙ name-edge name faces part whole is b.0 b.1 in
        absurd (omega (arith, e, f, g, face-below a.0 a.1))
    tells x y (inr (inr a)) (inl b) e =
        let f = ap kid a.2 ∙ name-edge name faces part whole is a.0 a.1 in
        absurd (omega (arith, e, f, name-old name faces part whole is y b.0, name-below y b.1))
    tells x y (inr (inr a)) (inr (inl b)) e =
        let f = ap kid a.2 ∙ name-edge name faces part whole is a.0 a.1 in
        let g = ap kid b.2 ∙ name-face name faces part whole is b.0 b.1 in
        absurd (omega (arith, e, f, g, face-below b.0 b.1))
    tells x y (inr (inr a)) (inr (inr b)) e =
        let f = ap kid a.2 ∙ name-edge name faces part whole is a.0 a.1 in
        let g = ap kid b.2 ∙ name-edge name faces part whole is b.0 b.1 in
        let same : edge_number whole.polygons (renamed name a.0) ≡ edge_number whole.polygons (renamed name b.0) = omega (arith, e, f, g) in
        let one = edges-apart a.0 b.0 a.1 b.1 same in
        omega (arith, a.2, b.2, one)

    module _ (over : is_over part.point_count part.polygons ≡ true) where
      -- the next level of a part is a part of the next level
      pub child-part : IsPart (child_name name faces part whole) (children_in whole.polygons faces) (child_polygons part.point_count part.polygons) (child_polygons whole.point_count whole.polygons)
      child-part =
          let up = children-ascend whole.polygons 0 faces (ascends (length whole.polygons) faces is.ascending is.inside) in
          let numbers = children_in whole.polygons faces in
          let kids = child_polygons whole.point_count whole.polygons in
          let others : ℕ → List Polygon = λ f. child_faces whole.point_count whole.polygons f (polygon_at whole.polygons f) in
          record {
            ascending = increasing (first_place whole.polygons 0) (sum_by length whole.polygons) numbers up;
            inside = λ k d h. omega (arith, bounded (first_place whole.polygons 0) (sum_by length whole.polygons) numbers up k d h, child_polygons-length whole.point_count whole.polygons);
            same =
                parts-in (map kid) (child_faces part.point_count part.polygons) others 0 part.polygons faces (as-many name faces part.polygons whole.polygons is) (λ i h.
                ap (λ n. map (map kid) (child_faces part.point_count part.polygons n (polygon_at part.polygons i))) (let e : 0 + i ≡ i = omega arith in e)
                ∙ children-of-face name faces part whole is over i h)
                ∙ read-children whole.polygons others (polygon_at kids) (faces-read whole.point_count whole.polygons) faces is.inside;
            apart = λ x y h k e. tells x y (kind part.point_count part.polygons over x h) (kind part.point_count part.polygons over y k) e;
          }

    -- a child face at a point is a child of a face that the part has: then the point is whole in the next level
    whole-next : (x : ℕ) → ((g v : ℕ) (quad : Polygon) → IsChildOf whole.point_count whole.polygons g v quad → has_corner x quad ≡ true → is_among faces g ≡ true) → IsWholeAt (children_in whole.polygons faces) (child_polygons whole.point_count whole.polygons) x
    whole-next x each n h =
        let kids = child_polygons whole.point_count whole.polygons in
        let below = corner-place kids n x h in
        let own = owner whole.polygons n (omega (arith, below, child_polygons-length whole.point_count whole.polygons)) in
        let found = child-of-face whole.point_count whole.polygons own.0 own.1 own.2 own.3 in
        let here : has_corner x (polygon_at kids (first_place whole.polygons own.0 + own.1)) ≡ true = ap (λ m. has_corner x (polygon_at kids m)) (sym own.4) ∙ h in
        let there = each own.0 found.0 (polygon_at kids (first_place whole.polygons own.0 + own.1)) found.1 here in
        ap (is_among (children_in whole.polygons faces)) own.4 ∙ among-children whole.polygons faces own.0 own.1 own.3 there

    module _ (g v x : ℕ) (quad : Polygon) (c : IsChildOf whole.point_count whole.polygons g v quad) (h : has_corner x quad ≡ true) where
      at-corner : has_corner v (polygon_at whole.polygons g) ≡ true
      at-corner = side-start (polygon_at whole.polygons g) (v, c.w) c.after

      corner-below : v < whole.point_count
      corner-below = ltb-true v whole.point_count (corner-point whole.point_count whole.polygons g v whole_over at-corner)

      among-corner : x < whole.point_count → IsWholeAt faces whole.polygons x → is_among faces g ≡ true
      among-corner less all = go (corner-cases whole.point_count whole.polygons g v x quad c h)
        where
          go : (x ≡ v) ⊎ ((x ≡ edge_point whole.point_count whole.polygons (v, c.w)) ⊎ ((x ≡ face_point whole.point_count g) ⊎ (x ≡ edge_point whole.point_count whole.polygons (c.u, v)))) → is_among faces g ≡ true
          go (inl e) = all g (ap (λ n. has_corner n (polygon_at whole.polygons g)) e ∙ at-corner)
          go (inr (inl e)) = absurd (omega (arith, less, e))
          go (inr (inr (inl e))) = absurd (omega (arith, less, e))
          go (inr (inr (inr e))) = absurd (omega (arith, less, e))

      among-center : (f : ℕ) → x ≡ face_point whole.point_count f → f < length whole.polygons → is_among faces f ≡ true → is_among faces g ≡ true
      among-center f same less there = go (corner-cases whole.point_count whole.polygons g v x quad c h)
        where
          go : (x ≡ v) ⊎ ((x ≡ edge_point whole.point_count whole.polygons (v, c.w)) ⊎ ((x ≡ face_point whole.point_count g) ⊎ (x ≡ edge_point whole.point_count whole.polygons (c.u, v)))) → is_among faces g ≡ true
          go (inl e) = absurd (omega (arith, corner-below, e, same))
          go (inr (inl e)) = absurd (omega (arith, less, e, same))
          go (inr (inr (inl e))) = let one : g ≡ f = omega (arith, e, same) in ap (is_among faces) one ∙ there
          go (inr (inr (inr e))) = absurd (omega (arith, less, e, same))

      among-edge : (edge : ℕ × ℕ) → x ≡ edge_point whole.point_count whole.polygons edge → list_any (same_edge edge) (edges_of whole.polygons) ≡ true → IsWholeAlong faces whole.polygons edge → is_among faces g ≡ true
      among-edge edge same listed all = go (corner-cases whole.point_count whole.polygons g v x quad c h)
        where
          along : (s : ℕ × ℕ) → has_side s (polygon_at whole.polygons g) ≡ true → x ≡ edge_point whole.point_count whole.polygons s → is_among faces g ≡ true
          along s there e =
              let number : edge_number whole.polygons edge ≡ edge_number whole.polygons s = omega (arith, e, same) in
              let one : same_edge edge s ≡ true = sym (same-number edge s (edges_of whole.polygons) listed) ∙ eq-eqb _ _ number in
              all g (any-weaker (same_side s) (same_edge edge) (λ t k. grind (arith, nat_tests)) (sides_of (polygon_at whole.polygons g)) there)

          inside : g < length whole.polygons
          inside = corner-place whole.polygons g v at-corner

          go : (x ≡ v) ⊎ ((x ≡ edge_point whole.point_count whole.polygons (v, c.w)) ⊎ ((x ≡ face_point whole.point_count g) ⊎ (x ≡ edge_point whole.point_count whole.polygons (c.u, v)))) → is_among faces g ≡ true
          go (inl e) = absurd (omega (arith, corner-below, e, same))
          go (inr (inl e)) = along (v, c.w) c.after e
          go (inr (inr (inl e))) = absurd (omega (arith, inside, e, same))
          go (inr (inr (inr e))) = along (c.u, v) c.before e

    -- a point that is whole is whole in the next level
    pub whole-old : (p : ℕ) → is_corner part.polygons p ≡ true → IsWholeAt faces whole.polygons (name p) → IsWholeAt (children_in whole.polygons faces) (child_polygons whole.point_count whole.polygons) (name p)
    whole-old p h all = whole-next (name p) (λ g v quad c k. among-corner g v (name p) quad c k (name-below p h) all)

    -- the new point of each face is whole
    pub whole-face : (k : ℕ) → k < length part.polygons → IsWholeAt (children_in whole.polygons faces) (child_polygons whole.point_count whole.polygons) (face_point whole.point_count (face_in faces k))
    whole-face k h =
        let there = list_any_at (nat_eq (face_in faces k)) faces k 0 (omega (arith, h, as-many name faces part.polygons whole.polygons is)) (eq-eqb (face_in faces k) (face_in faces k) refl) in
        whole-next (face_point whole.point_count (face_in faces k)) (λ g v quad c l. among-center g v (face_point whole.point_count (face_in faces k)) quad c l (face_in faces k) refl (face-below k h) there)

    -- the next level has all faces at the new point of each whole edge
    pub whole-edge : (edge : ℕ × ℕ) → list_any (same_edge edge) (edges_of part.polygons) ≡ true → IsWholeAlong faces whole.polygons (renamed name edge) → IsWholeAt (children_in whole.polygons faces) (child_polygons whole.point_count whole.polygons) (edge_point whole.point_count whole.polygons (renamed name edge))
    whole-edge edge h all =
        whole-next (edge_point whole.point_count whole.polygons (renamed name edge)) (λ g v quad c k.
        among-edge g v (edge_point whole.point_count whole.polygons (renamed name edge)) quad c k (renamed name edge) refl (edge-listed name faces part whole is edge h) all)

-- the points of the next level of which the part has all sources
pub next-whole : (part : LevelPart) → IsOverPoints part → (x : NextPoint part) → IsWholeAt (faces_next part) (child_polygons part.whole.point_count part.whole.polygons) (name_next part (number_of x))
next-whole part over x = go x
  where
    go : (y : NextPoint part) → IsWholeAt (faces_next part) (child_polygons part.whole.point_count part.whole.polygons) (name_next part (number_of y))
    go (Old at) =
        let found = corner-of part.level.polygons at.point at.is_there in
        let below = ltb-true at.point part.level.point_count (corner-point part.level.point_count part.level.polygons found.0 at.point over.level found.2) in
        subst (λ n. IsWholeAt (children_in part.whole.polygons part.faces) (child_polygons part.whole.point_count part.whole.polygons) n) (sym (name-old part.name part.faces part.level part.whole part.is_part.polygons at.point below))
        (whole-old part.name part.faces part.level part.whole part.is_part.polygons over.whole at.point at.is_there at.has_all)
    go (NewOfFace k inside) =
        subst (λ n. IsWholeAt (children_in part.whole.polygons part.faces) (child_polygons part.whole.point_count part.whole.polygons) n) (sym (name-face part.name part.faces part.level part.whole part.is_part.polygons k inside))
        (whole-face part.name part.faces part.level part.whole part.is_part.polygons over.whole k inside)
    go (NewOfEdge along) =
        subst (λ n. IsWholeAt (children_in part.whole.polygons part.faces) (child_polygons part.whole.point_count part.whole.polygons) n) (sym (name-edge part.name part.faces part.level part.whole part.is_part.polygons along.edge along.is_edge))
        (whole-edge part.name part.faces part.level part.whole part.is_part.polygons over.whole along.edge along.is_edge along.has_all)

-- the corners of a child face at a whole point are points of which the part has all sources
pub child-points : (part : LevelPart) → IsOverPoints part → (child : WholeChild part) (x : ℕ) → has_corner x (corners_of child) ≡ true → HasNextPoint part x
child-points part over child x h =
    let kids = child_polygons part.level.point_count part.level.polygons in
    let found = all-of part.level.point_count part.level.polygons child.number [] (corner-place kids child.number x h) in
    go found.0 found.1 found.2
  where
    go : (k v : ℕ) → IsChildOf part.level.point_count part.level.polygons k v (corners_of child) → HasNextPoint part x
    go k v c = each (corner-cases part.level.point_count part.level.polygons k v x (corners_of child) c h)
      where
        at : has_corner v (polygon_at part.level.polygons k) ≡ true
        at = side-start (polygon_at part.level.polygons k) (v, c.w) c.after

        all : IsWholeAt part.faces part.whole.polygons (part.name v)
        all = subst (λ n. IsWholeAt part.faces part.whole.polygons (part.name n)) (ap (λ q. get_or q 0 0) c.is) child.has_all

        self : nat_eq (part.name v) (part.name v) ≡ true
        self = eq-eqb (part.name v) (part.name v) refl

        along : (s : ℕ × ℕ) → has_side s (polygon_at part.level.polygons k) ≡ true → has_end (part.name v) (renamed part.name s) ≡ true → x ≡ edge_point part.level.point_count part.level.polygons s → HasNextPoint part x
        along s side ends e = (
          NewOfEdge (record {
            edge = s;
            is_edge = side-named part.level.polygons k s side;
            has_all = whole-along part.faces part.whole.polygons (part.name v) (renamed part.name s) ends all;
          }),
          sym e,
        )

        each : (x ≡ v) ⊎ ((x ≡ edge_point part.level.point_count part.level.polygons (v, c.w)) ⊎ ((x ≡ face_point part.level.point_count k) ⊎ (x ≡ edge_point part.level.point_count part.level.polygons (c.u, v)))) → HasNextPoint part x
        each (inl e) = (Old (record { point = v; is_there = corner-in part.level.polygons v k at; has_all = all }), sym e)
        each (inr (inl e)) = along (v, c.w) c.after (rw self refl) e
        each (inr (inr (inl e))) = (NewOfFace k (corner-place part.level.polygons k v at), sym e)
        each (inr (inr (inr e))) = along (c.u, v) c.before (rw self (or_right (nat_eq (part.name v) (part.name c.u)) true refl)) e
