-- A quad that is a face: from each of its corners, by each of its sides, and where each directed side occurs once.
use Rattle.std.proofs.Common.{◌≡◌, ℕ, ◌+◌, ◌%◌, true, false, not, nat_eq, nat_lt, List, [], ◌∷◌, length, get_or, arith, refl, ap, sym, ◌∙◌}
use Rattle.std.specs.List.{list_all, position_or_len}
use Rattle.std.proofs.lemmas.Bool.Decides.{nat_tests}
use Rattle.std.proofs.lemmas.Bool.{and_parts, eqb-true, eq-eqb, not-true, false_from_ne_true}
use Rattle.std.proofs.lemmas.List.Sums.{position_or_len_is}
use Rattle.subdiv_model.specs.Polygons.{Polygon, has_side, has_corner, is_among, is_distinct, polygon_at, is_over, has_distinct_sides}
use Rattle.subdiv_model.specs.Edges.{all_sides}
use Rattle.subdiv_model.specs.Manifold.{is_simple}
use Rattle.subdiv_model.specs.Patch.{corner_from}
use Rattle.mesh_laws.proofs.SideLemmas.{no-side-back, distinct-count}
use Rattle.mesh_laws.proofs.ClosedLemmas.{all-at}
use Rattle.mesh_laws.proofs.FanLemmas.{owner-unique, distinct-at, side-start}
use Rattle.mesh_laws.proofs.ChildCornerLemmas.{corner-place, corner-point}
use Rattle.grid_laws.specs.Grids.{IsQuad, from_first, from_second, from_third, from_fourth, HasQuad, face_beside}

-- From each corner.

-- a quad is one from its next corner
pub turned-is : (polygons : List Polygon) (face p q r s : ℕ) → IsQuad polygons face p q r s → IsQuad polygons face q r s p
turned-is polygons face p q r s (from_first e) = from_fourth e
turned-is polygons face p q r s (from_second e) = from_first e
turned-is polygons face p q r s (from_third e) = from_second e
turned-is polygons face p q r s (from_fourth e) = from_third e

abbrev pub turned-quad : {polygons : List Polygon} {p q r s : ℕ} → HasQuad polygons p q r s → HasQuad polygons q r s p
turned-quad {polygons} {p} {q} {r} {s} quad = record { face = quad.face; inside = quad.inside; is = turned-is polygons quad.face p q r s quad.is }

-- Lists of four.

pub four-alike : {X : Type 0} {a b c d p q r s : X} → a ≡ p → b ≡ q → c ≡ r → d ≡ s → a ∷ b ∷ c ∷ d ∷ [] ≡ p ∷ q ∷ r ∷ s ∷ []
four-alike e f g h = λ i. e i ∷ f i ∷ g i ∷ h i ∷ []

pub four-listed : (quad : Polygon) → length quad ≡ 4 → quad ≡ get_or quad 0 0 ∷ get_or quad 1 0 ∷ get_or quad 2 0 ∷ get_or quad 3 0 ∷ []
four-listed (a ∷ b ∷ c ∷ d ∷ []) h = refl
four-listed [] h = absurd (omega (arith, h))
four-listed (a ∷ []) h = absurd (omega (arith, h))
four-listed (a ∷ b ∷ []) h = absurd (omega (arith, h))
four-listed (a ∷ b ∷ c ∷ []) h = absurd (omega (arith, h))
four-listed (a ∷ b ∷ c ∷ d ∷ e ∷ rest) h = absurd (omega (arith, h))

-- A list of four distinct numbers.

list-side : (p q r s : ℕ) → has_side (p, q) (p ∷ q ∷ r ∷ s ∷ []) ≡ true
list-side p q r s = grind (arith, nat_tests)

list-side-second : (p q r s : ℕ) → has_side (p, q) (q ∷ r ∷ s ∷ p ∷ []) ≡ true
list-side-second p q r s = grind (arith, nat_tests)

list-side-third : (p q r s : ℕ) → has_side (p, q) (r ∷ s ∷ p ∷ q ∷ []) ≡ true
list-side-third p q r s = grind (arith, nat_tests)

list-side-fourth : (p q r s : ℕ) → has_side (p, q) (s ∷ p ∷ q ∷ r ∷ []) ≡ true
list-side-fourth p q r s = grind (arith, nat_tests)

-- no two of the four are one number
pub record AreApart (p q r s : ℕ) : Type 0 where
  pub pq : nat_eq p q ≡ false
  pub pr : nat_eq p r ≡ false
  pub ps : nat_eq p s ≡ false
  pub qr : nat_eq q r ≡ false
  pub qs : nat_eq q s ≡ false
  pub rs : nat_eq r s ≡ false

pub apart-swapped : (m n : ℕ) → nat_eq m n ≡ false → nat_eq n m ≡ false
apart-swapped m n h = grind (arith, nat_tests)

apart-turned : (p q r s : ℕ) → AreApart p q r s → AreApart q r s p
apart-turned p q r s is = record {
  pq = is.qr;
  pr = is.qs;
  ps = apart-swapped p q is.pq;
  qr = is.rs;
  qs = apart-swapped p r is.pr;
  rs = apart-swapped p s is.ps;
}

not-first : (v a b : ℕ) (rest : List ℕ) → is_among (a ∷ b ∷ rest) v ≡ false → (nat_eq v a ≡ false) × (is_among (b ∷ rest) v ≡ false)
not-first v a b rest h = (grind (arith, nat_tests), grind (arith, nat_tests))

pub apart-listed : (p q r s : ℕ) → is_distinct (p ∷ q ∷ r ∷ s ∷ []) ≡ true → AreApart p q r s
apart-listed p q r s h =
    let one = and_parts (not (is_among (q ∷ r ∷ s ∷ []) p)) (is_distinct (q ∷ r ∷ s ∷ [])) h in
    let two = and_parts (not (is_among (r ∷ s ∷ []) q)) (is_distinct (r ∷ s ∷ [])) one.1 in
    let three = and_parts (not (is_among (s ∷ []) r)) (is_distinct (s ∷ [])) two.1 in
    let p1 = not-first p q r (s ∷ []) (not-true _ one.0) in
    let p2 = not-first p r s [] p1.1 in
    let q1 = not-first q r s [] (not-true _ two.0) in
    record { pq = p1.0; pr = p2.0; ps = last p s p2.1; qr = q1.0; qs = last q s q1.1; rs = last r s (not-true _ three.0) }
  where
    last : (v a : ℕ) → is_among (a ∷ []) v ≡ false → nat_eq v a ≡ false
    last v a h = grind (arith, nat_tests)

-- the places of the four
first-place : (a b c d : ℕ) → position_or_len (nat_eq a) (a ∷ b ∷ c ∷ d ∷ []) ≡ 0
first-place a b c d = let self : nat_eq a a ≡ true = eq-eqb a a refl in rw self refl

second-place : (a b c d : ℕ) → nat_eq b a ≡ false → position_or_len (nat_eq b) (a ∷ b ∷ c ∷ d ∷ []) ≡ 1
second-place a b c d h = let self : nat_eq b b ≡ true = eq-eqb b b refl in rw (h, self) refl

third-place : (a b c d : ℕ) → nat_eq c a ≡ false → nat_eq c b ≡ false → position_or_len (nat_eq c) (a ∷ b ∷ c ∷ d ∷ []) ≡ 2
third-place a b c d h k = let self : nat_eq c c ≡ true = eq-eqb c c refl in rw (h, k, self) refl

fourth-place : (a b c d : ℕ) → nat_eq d a ≡ false → nat_eq d b ≡ false → nat_eq d c ≡ false → position_or_len (nat_eq d) (a ∷ b ∷ c ∷ d ∷ []) ≡ 3
fourth-place a b c d h k l = let self : nat_eq d d ≡ true = eq-eqb d d refl in rw (h, k, l, self) refl

-- the corner of a polygon a number of places after another
abbrev after : ℕ → ℕ → Polygon → ℕ
after p places polygon = get_or polygon ((position_or_len (nat_eq p) polygon + places) % 4) 0

-- Polygons.

module _ (polygons : List Polygon) where
  -- a quad has the side from its first corner
  pub quad-side : (face p q r s : ℕ) → IsQuad polygons face p q r s → has_side (p, q) (polygon_at polygons face) ≡ true
  quad-side face p q r s (from_first e) = ap (has_side (p, q)) e ∙ list-side p q r s
  quad-side face p q r s (from_second e) = ap (has_side (p, q)) e ∙ list-side-second p q r s
  quad-side face p q r s (from_third e) = ap (has_side (p, q)) e ∙ list-side-third p q r s
  quad-side face p q r s (from_fourth e) = ap (has_side (p, q)) e ∙ list-side-fourth p q r s

  -- the quad has its first corner
  pub quad-corner : (face p q r s : ℕ) → IsQuad polygons face p q r s → has_corner p (polygon_at polygons face) ≡ true
  quad-corner face p q r s is = side-start (polygon_at polygons face) (p, q) (quad-side face p q r s is)

  pub quad-length : (face p q r s : ℕ) → IsQuad polygons face p q r s → length (polygon_at polygons face) ≡ 4
  quad-length face p q r s (from_first e) = ap length e
  quad-length face p q r s (from_second e) = ap length e
  quad-length face p q r s (from_third e) = ap length e
  quad-length face p q r s (from_fourth e) = ap length e

  -- each corner of a quad is a point
  pub quad-below : (points : ℕ) → is_over points polygons ≡ true → {p q r s : ℕ} → HasQuad polygons p q r s → nat_lt p points ≡ true
  quad-below points over {p} {q} {r} {s} quad = corner-point points polygons quad.face p over (quad-corner quad.face p q r s quad.is)

  module _ (simple : list_all is_simple polygons ≡ true) where
    -- the faces on both sides of an edge are two
    pub faces-apart : (f g a b : ℕ) → has_side (a, b) (polygon_at polygons f) ≡ true → has_side (b, a) (polygon_at polygons g) ≡ true → nat_eq f g ≡ false
    faces-apart f g a b side back = false_from_ne_true _ (λ same.
        no-side-back (polygon_at polygons f) a b
        (all-at is_simple polygons f [] (corner-place polygons f a (side-start (polygon_at polygons f) (a, b) side)) simple) side
        (ap (λ n. has_side (b, a) (polygon_at polygons n)) (eqb-true f g same) ∙ back))

    -- the corners of a quad are apart
    is-apart : (face p q r s : ℕ) → IsQuad polygons face p q r s → AreApart p q r s
    is-apart face p q r s (from_first e) = apart-listed p q r s (ap is_distinct (sym e) ∙ distinct-at polygons face simple)
    is-apart face p q r s (from_second e) =
        apart-turned s p q r (apart-turned r s p q (apart-turned q r s p (apart-listed q r s p (ap is_distinct (sym e) ∙ distinct-at polygons face simple))))
    is-apart face p q r s (from_third e) =
        apart-turned s p q r (apart-turned r s p q (apart-listed r s p q (ap is_distinct (sym e) ∙ distinct-at polygons face simple)))
    is-apart face p q r s (from_fourth e) = apart-turned s p q r (apart-listed s p q r (ap is_distinct (sym e) ∙ distinct-at polygons face simple))

    pub quad-apart : {p q r s : ℕ} → HasQuad polygons p q r s → AreApart p q r s
    quad-apart {p} {q} {r} {s} quad = is-apart quad.face p q r s quad.is

    -- v is a number of places after the first corner, if it is at that place seen from each corner
    corner-after : (k v face p q r s : ℕ) → AreApart p q r s
        → get_or (p ∷ q ∷ r ∷ s ∷ []) ((0 + k) % 4) 0 ≡ v → get_or (q ∷ r ∷ s ∷ p ∷ []) ((3 + k) % 4) 0 ≡ v
        → get_or (r ∷ s ∷ p ∷ q ∷ []) ((2 + k) % 4) 0 ≡ v → get_or (s ∷ p ∷ q ∷ r ∷ []) ((1 + k) % 4) 0 ≡ v
        → IsQuad polygons face p q r s → after p k (polygon_at polygons face) ≡ v
    corner-after k v face p q r s is first second third fourth (from_first e) =
        ap (after p k) e ∙ ap (λ n. get_or (p ∷ q ∷ r ∷ s ∷ []) ((n + k) % 4) 0) (first-place p q r s) ∙ first
    corner-after k v face p q r s is first second third fourth (from_second e) =
        ap (after p k) e ∙ ap (λ n. get_or (q ∷ r ∷ s ∷ p ∷ []) ((n + k) % 4) 0) (fourth-place q r s p is.pq is.pr is.ps) ∙ second
    corner-after k v face p q r s is first second third fourth (from_third e) =
        ap (after p k) e ∙ ap (λ n. get_or (r ∷ s ∷ p ∷ q ∷ []) ((n + k) % 4) 0) (third-place r s p q is.pr is.ps) ∙ third
    corner-after k v face p q r s is first second third fourth (from_fourth e) =
        ap (after p k) e ∙ ap (λ n. get_or (s ∷ p ∷ q ∷ r ∷ []) ((n + k) % 4) 0) (second-place s p q r is.ps) ∙ fourth

    module _ (distinct : has_distinct_sides (all_sides polygons) ≡ true) where
      -- the first face that has a side is the one that has it
      pub side-face : (side : ℕ × ℕ) (face : ℕ) → has_side side (polygon_at polygons face) ≡ true → face_beside polygons side ≡ face
      side-face side face h =
          let inside = corner-place polygons face side.0 (side-start (polygon_at polygons face) side h) in
          position_or_len_is (has_side side) polygons face [] (omega (arith, inside))
          (λ k before. false_from_ne_true _ (λ there.
          let same = owner-unique polygons side k face (distinct-count side (all_sides polygons) distinct) there h in omega (arith, same, before)))
          (λ _. h)

      -- the face beside a side of a quad is the quad
      pub quad-face : {p q r s : ℕ} → (quad : HasQuad polygons p q r s) → face_beside polygons (p, q) ≡ quad.face
      quad-face {p} {q} {r} {s} quad = side-face (p, q) quad.face (quad-side quad.face p q r s quad.is)

      -- the corners after the side are the other corners
      pub quad-third : {p q r s : ℕ} → HasQuad polygons p q r s → corner_from polygons (p, q) 2 ≡ r
      quad-third {p} {q} {r} {s} quad =
          ap (λ face. after p 2 (polygon_at polygons face)) (quad-face quad) ∙ corner-after 2 r quad.face p q r s (quad-apart quad) refl refl refl refl quad.is

      pub quad-fourth : {p q r s : ℕ} → HasQuad polygons p q r s → corner_from polygons (p, q) 3 ≡ s
      quad-fourth {p} {q} {r} {s} quad =
          ap (λ face. after p 3 (polygon_at polygons face)) (quad-face quad) ∙ corner-after 3 s quad.face p q r s (quad-apart quad) refl refl refl refl quad.is
