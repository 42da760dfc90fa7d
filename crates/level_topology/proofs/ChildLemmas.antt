-- The numbers of points and faces in the whole next level, and the laws of a child.
use Rattle.std.proofs.Common.{◌≡◌, ℕ, zero, suc, ◌+◌, ◌-◌, ◌<◌, ◌≤◌, Bool, true, false, nat_eq, nat_lt, List, [], ◌∷◌, length, map, get_or, Some, arith, refl, ap, sym, ◌∙◌, length-append}
use Rattle.std.specs.List.{All, position, sum_by}
use Rattle.std.proofs.lemmas.Bool.Decides.{same_from_decides}
use Rattle.std.proofs.lemmas.Bool.{eqb-true, eq-eqb, ltb-true, ltb-false, lt-ltb, le-ltb, and_parts, and_from}
use Rattle.std.proofs.lemmas.List.{length-map}
use Rattle.std.proofs.lemmas.List.Sums.{sum_by-cons}
use Rattle.std.proofs.lemmas.List.Folds.{list_any_at}
use Rattle.std.proofs.lemmas.List.Quantifiers.{position-Some}
use Rattle.subdiv_model.specs.Polygons.{Polygon, polygon_at, sides_of}
use Rattle.subdiv_model.specs.Edges.{all_sides, edges_of}
use Rattle.mesh_laws.proofs.EdgeLemmas.{length-first}
use Rattle.mesh_laws.proofs.ChildCornerLemmas.{corner-point}
use Rattle.level_laws.proofs.FaceLemmas.{sides_of-length}
use Rattle.level_laws.proofs.WellFormedLemmas.{first-of-six}
use Rattle.level_topology.specs.Topology.{Topology, IsTopology}
use Rattle.level_topology.specs.Packed.{Ascend, gaps}
use Rattle.level_topology.specs.Child.{PointOrigin, FromVertex, FromFace, FromEdge, same_origin, IsOriginWithin, same_place, IsChild, corner_origins, origins_along}
use Rattle.level_topology.specs.ChildTables.{point_number, numbered_origin, corner_number, numbered_place}
use Rattle.level_topology.proofs.PieceLemmas.{ascend_at}
use Rattle.level_topology.proofs.ChildTableLemmas.{position-own, position-there}

-- equal origins, and equal places
pub same_origin-refl : (a : PointOrigin) → same_origin a a ≡ true
same_origin-refl (FromVertex v) = eq-eqb v v refl
same_origin-refl (FromFace f) = eq-eqb f f refl
same_origin-refl (FromEdge e) = eq-eqb e e refl

pub same_origin-true : (a b : PointOrigin) → same_origin a b ≡ true → a ≡ b
same_origin-true (FromVertex v) (FromVertex w) h = ap FromVertex (eqb-true v w h)
same_origin-true (FromFace f) (FromFace g) h = ap FromFace (eqb-true f g h)
same_origin-true (FromEdge d) (FromEdge e) h = ap FromEdge (eqb-true d e h)
same_origin-true (FromVertex v) (FromFace g) h = absurd (cc)
same_origin-true (FromVertex v) (FromEdge e) h = absurd (cc)
same_origin-true (FromFace f) (FromVertex w) h = absurd (cc)
same_origin-true (FromFace f) (FromEdge e) h = absurd (cc)
same_origin-true (FromEdge d) (FromVertex w) h = absurd (cc)
same_origin-true (FromEdge d) (FromFace g) h = absurd (cc)

pub same_place-refl : (a : ℕ × ℕ) → same_place a a ≡ true
same_place-refl a = and_from _ _ (eq-eqb a.0 a.0 refl) (eq-eqb a.1 a.1 refl)

pub same_place-true : (a b : ℕ × ℕ) → same_place a b ≡ true → a ≡ b
same_place-true a b h =
    let parts = and_parts (nat_eq a.0 b.0) (nat_eq a.1 b.1) h in
    ap (λ (n : ℕ). (n, a.1)) (eqb-true a.0 b.0 parts.0) ∙ ap (λ (n : ℕ). (b.0, n)) (eqb-true a.1 b.1 parts.1)

-- A thing that its number determines has the number of every thing equal to it.
numbers-same : {X : Type 0} (number : X → ℕ) (back : ℕ → X) (same : X → X → Bool) → ((a : X) → same a a ≡ true) → ((a b : X) → same a b ≡ true → a ≡ b) → (a b : X) → back (number a) ≡ a → back (number b) ≡ b → nat_eq (number a) (number b) ≡ same a b
numbers-same number back same itself equal a b back_a back_b =
    same_from_decides (nat_eq (number a) (number b)) (same a b)
    ((λ h. sym back_a ∙ ap back (eqb-true _ _ h) ∙ back_b), (λ e. eq-eqb _ _ (ap number e)))
    ((equal a b), (λ e. ap (same a) (sym e) ∙ itself a))

-- Its number in the whole next level determines the origin of a point.
pub origin-of-number : (points faces edges : ℕ) (origin : PointOrigin) → IsOriginWithin points faces edges origin → numbered_origin points faces (point_number points faces origin) ≡ origin
origin-of-number points faces edges (FromVertex v) h = let here = lt-ltb v points h in rw here refl
origin-of-number points faces edges (FromFace f) h =
    let past = le-ltb (points + f) points (omega arith) in
    let at : points + f - points ≡ f = omega arith in
    let here = lt-ltb f faces h in
    rw (past, at, here) refl
origin-of-number points faces edges (FromEdge e) h =
    let past = le-ltb (points + faces + e) points (omega arith) in
    let at : points + faces + e - points ≡ faces + e = omega arith in
    let beyond = le-ltb (faces + e) faces (omega arith) in
    let back : faces + e - faces ≡ e = omega arith in
    rw (past, at, beyond, back) refl

pub origin-below : (points faces edges : ℕ) (origin : PointOrigin) → IsOriginWithin points faces edges origin → point_number points faces origin < points + faces + edges
origin-below points faces edges (FromVertex v) h = omega (arith, h)
origin-below points faces edges (FromFace f) h = omega (arith, h)
origin-below points faces edges (FromEdge e) h = omega (arith, h)

pub origin-numbers : (points faces edges : ℕ) (a b : PointOrigin) → IsOriginWithin points faces edges a → IsOriginWithin points faces edges b → nat_eq (point_number points faces a) (point_number points faces b) ≡ same_origin a b
origin-numbers points faces edges a b ha hb =
    numbers-same (point_number points faces) (numbered_origin points faces) same_origin same_origin-refl same_origin-true a b (origin-of-number points faces edges a ha) (origin-of-number points faces edges b hb)

-- A number in the whole next level is the number of its origin.
pub number-of-origin : (points faces n : ℕ) → point_number points faces (numbered_origin points faces n) ≡ n
number-of-origin points faces n = go (nat_lt n points) (nat_lt (n - points) faces) refl refl
  where
    go : (p q : Bool) → nat_lt n points ≡ p → nat_lt (n - points) faces ≡ q → point_number points faces (numbered_origin points faces n) ≡ n
    go true q h k = rw h refl
    go false true h k = rw (h, k) (omega (arith, ltb-false _ _ h))
    go false false h k = rw (h, k) (omega (arith, ltb-false _ _ h, ltb-false _ _ k))

pub origin-within : (points faces edges n : ℕ) → n < points + faces + edges → IsOriginWithin points faces edges (numbered_origin points faces n)
origin-within points faces edges n inside = go (nat_lt n points) (nat_lt (n - points) faces) refl refl
  where
    go : (p q : Bool) → nat_lt n points ≡ p → nat_lt (n - points) faces ≡ q → IsOriginWithin points faces edges (numbered_origin points faces n)
    go true q h k = rw h (ltb-true _ _ h)
    go false true h k = rw (h, k) (ltb-true _ _ k)
    go false false h k = rw (h, k) (omega (arith, inside, ltb-false _ _ h, ltb-false _ _ k))

-- Its number there determines the place of a face.
head-at : (starts : List ℕ) (end i : ℕ) → Ascend starts end → i < length starts → get_or starts 0 0 ≤ get_or starts i 0
head-at starts end zero a h = omega arith
head-at starts end (suc i) a h = omega (arith, head-at starts end i a (omega arith), (ascend_at starts end i a h).0)

pub length-gaps : (starts : List ℕ) → length (gaps starts) ≡ length starts - 1
length-gaps [] = refl
length-gaps (a ∷ []) = refl
length-gaps (a ∷ (b ∷ starts)) = omega (arith, length-gaps (b ∷ starts))

place-of-number-from : (face : ℕ) (starts : List ℕ) (end g c : ℕ) → Ascend starts end → c < get_or (gaps starts) g 0 → numbered_place face starts (get_or starts g 0 + c) ≡ (face + g, c)
place-of-number-from face [] end g c a h = absurd (omega arith)
place-of-number-from face (s ∷ []) end g c a h = absurd (omega arith)
place-of-number-from face (s ∷ (t ∷ starts)) end zero c a h =
    let here = lt-ltb (s + c) t (omega arith) in
    let at : s + c - s ≡ c = omega arith in
    let first : face ≡ face + 0 = omega arith in
    rw (here, at) (ap (λ n. (n, c)) first)
place-of-number-from face (s ∷ (t ∷ starts)) end (suc g) c a h =
    let some : g < length (gaps (t ∷ starts)) = inside (gaps (t ∷ starts)) g h in
    let above : t ≤ get_or (t ∷ starts) g 0 = head-at (t ∷ starts) end g a.1 (omega (arith, length-gaps (t ∷ starts))) in
    let past = le-ltb (get_or (t ∷ starts) g 0 + c) t (omega arith) in
    let next : face + 1 + g ≡ face + suc g = omega arith in
    rw past (place-of-number-from (face + 1) (t ∷ starts) end g c a.1 h ∙ ap (λ n. (n, c)) next)
  where
    inside : (sizes : List ℕ) (k : ℕ) → c < get_or sizes k 0 → k < length sizes
    inside [] k h = absurd (omega arith)
    inside (m ∷ sizes) zero h = omega arith
    inside (m ∷ sizes) (suc k) h = omega (arith, inside sizes k h)

pub place-of-number : (starts : List ℕ) (end : ℕ) (place : ℕ × ℕ) → Ascend starts end → place.1 < get_or (gaps starts) place.0 0 → numbered_place 0 starts (corner_number starts place) ≡ place
place-of-number starts end place a h =
    let at : 0 + place.0 ≡ place.0 = omega arith in
    place-of-number-from 0 starts end place.0 place.1 a h ∙ ap (λ n. (n, place.1)) at

pub place-below : (starts : List ℕ) (end : ℕ) (place : ℕ × ℕ) → Ascend starts end → place.1 < get_or (gaps starts) place.0 0 → (place.0 + 1 < length starts) × (corner_number starts place < end)
place-below [] end place a h = absurd a
place-below (s ∷ starts) end place a h = go s starts place.0 a h
  where
    go : (s : ℕ) (starts : List ℕ) (g : ℕ) → Ascend (s ∷ starts) end → place.1 < get_or (gaps (s ∷ starts)) g 0 → (g + 1 < length (s ∷ starts)) × (get_or (s ∷ starts) g 0 + place.1 < end)
    go s [] g a h = absurd (omega arith)
    go s (t ∷ starts) zero a h = (omega arith, omega (arith, h, (ascend_at (s ∷ (t ∷ starts)) end 0 a (omega arith)).1))
    go s (t ∷ starts) (suc g) a h = let rest = go t starts g a.1 h in (omega (arith, rest.0), rest.1)

pub place-numbers : (starts : List ℕ) (end : ℕ) (a b : ℕ × ℕ) → Ascend starts end → a.1 < get_or (gaps starts) a.0 0 → b.1 < get_or (gaps starts) b.0 0 → nat_eq (corner_number starts a) (corner_number starts b) ≡ same_place a b
place-numbers starts end a b ascend ha hb =
    numbers-same (corner_number starts) (numbered_place 0 starts) same_place same_place-refl same_place-true a b (place-of-number starts end a ascend ha) (place-of-number starts end b ascend hb)

-- There are at most as many edges as corners.
sides-corners : (polygons : List Polygon) → length (all_sides polygons) ≡ sum_by length polygons
sides-corners [] = refl
sides-corners (polygon ∷ polygons) =
    omega (arith, length-append (sides_of polygon) (all_sides polygons), sides_of-length polygon, sides-corners polygons, sum_by-cons length polygon polygons)

pub edges-corners : (polygons : List Polygon) → length (edges_of polygons) ≤ sum_by length polygons
edges-corners polygons = omega (arith, length-first (all_sides polygons), sides-corners polygons)

-- the laws of a child
module _ (parent level : Topology) (origins : List PointOrigin) (places : List (ℕ × ℕ)) (is : IsChild parent level origins places) where
  pub law-origin : (origin : PointOrigin) (p : ℕ) → position (same_origin origin) origins ≡ Some p → (p < level.level.point_count) × (get_or origins p (FromVertex 0) ≡ origin)
  law-origin origin p found =
      let there = position-Some (same_origin origin) origins p (FromVertex 0) found in
      (omega (arith, there.0, is.each_point), sym (same_origin-true _ _ there.1))

  pub law-point : (p : ℕ) → p < level.level.point_count → position (same_origin (get_or origins p (FromVertex 0))) origins ≡ Some p
  law-point p h =
      let inside : p < length origins = omega (arith, h, is.each_point) in
      position-there _ origins p (position-own same_origin same_origin-refl same_origin-true origins p (FromVertex 0) is.origins_once inside) inside

  pub law-place : (place : ℕ × ℕ) (f : ℕ) → position (same_place place) places ≡ Some f → (f < length level.level.polygons) × (get_or places f (0, 0) ≡ place)
  law-place place f found =
      let there = position-Some (same_place place) places f (0, 0) found in
      (omega (arith, there.0, is.each_face), sym (same_place-true _ _ there.1))

  pub law-face : (f : ℕ) → f < length level.level.polygons → position (same_place (get_or places f (0, 0))) places ≡ Some f
  law-face f h =
      let inside : f < length places = omega (arith, h, is.each_face) in
      position-there _ places f (position-own same_place same_place-refl same_place-true places f (0, 0) is.places_once inside) inside

  pub law-corners : (f : ℕ) → f < length level.level.polygons → origins_along origins (polygon_at level.level.polygons f) ≡ corner_origins parent.level.polygons (get_or places f (0, 0))
  law-corners f h = is.corners f (omega (arith, h, is.each_face))

  pub law-quad : (f : ℕ) → f < length level.level.polygons → length (polygon_at level.level.polygons f) ≡ 4
  law-quad f h = sym (length-map (polygon_at level.level.polygons f) (λ p. get_or origins p (FromVertex 0))) ∙ ap length (law-corners f h)

  along-points : (polygon : Polygon) → All (λ p. p < level.level.point_count) polygon → map (λ origin. position (same_origin origin) origins) (origins_along origins polygon) ≡ map (λ p. Some p) polygon
  along-points [] all = refl
  along-points (p ∷ rest) all =
      let first = law-point p (all 0 p (omega arith)) in
      let behind = along-points rest (λ k d h. all (suc k) d (omega arith)) in
      cc

  pub law-points : IsTopology level → (place : ℕ × ℕ) (f : ℕ) → position (same_place place) places ≡ Some f → map (λ origin. position (same_origin origin) origins) (corner_origins parent.level.polygons place) ≡ map (λ p. Some p) (polygon_at level.level.polygons f)
  law-points formed place f found =
      let at = law-place place f found in
      ap (λ q. map (λ origin. position (same_origin origin) origins) (corner_origins parent.level.polygons q)) (sym at.1)
      ∙ ap (map (λ origin. position (same_origin origin) origins)) (sym (law-corners f at.0))
      ∙ along-points (polygon_at level.level.polygons f) within
    where
      within : All (λ p. p < level.level.point_count) (polygon_at level.level.polygons f)
      within k d h =
          let polygon = polygon_at level.level.polygons f in
          let v = get_or polygon k d in
          let over = first-of-six _ _ _ _ _ _ formed.formed in
          ltb-true v level.level.point_count (corner-point level.level.point_count level.level.polygons f v over (list_any_at (nat_eq v) polygon k d h (eq-eqb v v refl)))
