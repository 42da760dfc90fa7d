-- The sides and corners of the child of a face at its corner, and its one place.
use Rattle.std.proofs.Common.{◌≡◌, ℕ, zero, suc, ◌<◌, Bool, true, false, nat_eq, nat_lt, List, [], ◌∷◌, length, get_or, arith, refl, ap, sym, ◌∙◌, subst, ◌⊎◌, inl, inr}
use Rattle.std.specs.List.{list_any, list_all}
use Rattle.std.proofs.lemmas.Bool.Decides.{nat_tests}
use Rattle.std.proofs.lemmas.Bool.{eqb-true}
use Rattle.subdiv_model.specs.Polygons.{Polygon, same_side, same_edge, has_side, has_corner, polygon_at, is_over, has_distinct_sides}
use Rattle.subdiv_model.specs.Edges.{all_sides, edges_of}
use Rattle.subdiv_model.specs.Manifold.{is_simple}
use Rattle.subdiv_model.specs.Child.{edge_point, face_point, child_face, child_polygons}
use Rattle.mesh_laws.proofs.EdgeLemmas.{any-first_named}
use Rattle.mesh_laws.proofs.ClosedLemmas.{any-all, any-here, all-at, any-side-edge}
use Rattle.mesh_laws.proofs.FanLemmas.{follower-unique, leader-unique, owner-unique, distinct-at, side-start}
use Rattle.mesh_laws.proofs.ChildOnceLemmas.{child-times}
use Rattle.mesh_laws.proofs.ChildPlaceLemmas.{IsChildOf, child_at, child-at}

-- each corner of a quad has a side to the next one
quad-sides : (a b c d : ℕ) → (has_side (a, b) (a ∷ b ∷ c ∷ d ∷ []) ≡ true) × (has_side (b, c) (a ∷ b ∷ c ∷ d ∷ []) ≡ true) × (has_side (c, d) (a ∷ b ∷ c ∷ d ∷ []) ≡ true) × (has_side (d, a) (a ∷ b ∷ c ∷ d ∷ []) ≡ true)
quad-sides a b c d = (grind (arith, nat_tests), grind (arith, nat_tests), grind (arith, nat_tests), grind (arith, nat_tests))

-- each corner is one
quad-corners : (a b c d : ℕ) → (has_corner a (a ∷ b ∷ c ∷ d ∷ []) ≡ true) × (has_corner b (a ∷ b ∷ c ∷ d ∷ []) ≡ true) × (has_corner c (a ∷ b ∷ c ∷ d ∷ []) ≡ true) × (has_corner d (a ∷ b ∷ c ∷ d ∷ []) ≡ true)
quad-corners a b c d = (grind (arith, nat_tests), grind (arith, nat_tests), grind (arith, nat_tests), grind (arith, nat_tests))

-- a quad has no fifth corner
quad-cases : (a b c d x : ℕ) → has_corner x (a ∷ b ∷ c ∷ d ∷ []) ≡ true → (x ≡ a) ⊎ ((x ≡ b) ⊎ ((x ≡ c) ⊎ (x ≡ d)))
quad-cases a b c d x h = go (nat_eq x a) (nat_eq x b) (nat_eq x c) refl refl refl
  where
    go : (p q r : Bool) → nat_eq x a ≡ p → nat_eq x b ≡ q → nat_eq x c ≡ r → (x ≡ a) ⊎ ((x ≡ b) ⊎ ((x ≡ c) ⊎ (x ≡ d)))
    go true q r e f g = inl (eqb-true x a e)
    go false true r e f g = inr (inl (eqb-true x b f))
    go false false true e f g = inr (inr (inl (eqb-true x c g)))
    go false false false e f g = inr (inr (inr (let last : nat_eq x d ≡ true = grind (arith, nat_tests) in eqb-true x d last)))

-- a polygon that has a corner is there
pub corner-place : (polygons : List Polygon) (k v : ℕ) → has_corner v (polygon_at polygons k) ≡ true → k < length polygons
corner-place [] k v h = absurd (cc)
corner-place (polygon ∷ polygons) zero v h = omega arith
corner-place (polygon ∷ polygons) (suc k) v h = let behind = corner-place polygons k v h in omega (arith, behind)

-- each corner of a polygon is a point
pub corner-point : (points : ℕ) (polygons : List Polygon) (k v : ℕ) → is_over points polygons ≡ true → has_corner v (polygon_at polygons k) ≡ true → nat_lt v points ≡ true
corner-point points polygons k v over h =
    let all = all-at (list_all (λ n. nat_lt n points)) polygons k [] (corner-place polygons k v h) over in
    let found = any-all (nat_eq v) (λ n. nat_lt n points) (polygon_at polygons k) h all in
    ap (λ n. nat_lt n points) (eqb-true v found.0 found.1) ∙ found.2

-- the edge of a side is listed
pub side-named : (polygons : List Polygon) (k : ℕ) (s : ℕ × ℕ) → has_side s (polygon_at polygons k) ≡ true → list_any (same_edge s) (edges_of polygons) ≡ true
side-named polygons k s h = any-first_named s (all_sides polygons) ∙ any-side-edge s (all_sides polygons) (any-here (same_side s) polygons k h)

module _ (points : ℕ) (polygons : List Polygon) where
  -- the child of one face at one corner is no other's
  child-tells : (k v m n : ℕ) (quad : Polygon) → IsChildOf points polygons k v quad → IsChildOf points polygons m n quad → (k ≡ m) × (v ≡ n)
  child-tells k v m n quad c d =
      let same : child_face points polygons k (c.u, v) (v, c.w) ≡ child_face points polygons m (d.u, n) (n, d.w) = sym c.is ∙ d.is in
      let first : v ≡ n = ap (λ q. get_or q 0 0) same in
      let third : face_point points k ≡ face_point points m = ap (λ q. get_or q 2 0) same in
      (omega (arith, third), first)

  -- the corners of a child are its own corner, the points of the two edges there, and the point of the face
  pub corner-cases : (k v x : ℕ) (quad : Polygon) (c : IsChildOf points polygons k v quad) → has_corner x quad ≡ true → (x ≡ v) ⊎ ((x ≡ edge_point points polygons (v, c.w)) ⊎ ((x ≡ face_point points k) ⊎ (x ≡ edge_point points polygons (c.u, v))))
  corner-cases k v x quad c h = quad-cases _ _ _ _ x (ap (has_corner x) (sym c.is) ∙ h)

  pub corner-self : (k v : ℕ) (quad : Polygon) → IsChildOf points polygons k v quad → has_corner v quad ≡ true
  corner-self k v quad c = ap (has_corner v) c.is ∙ (quad-corners v _ _ _).0

  pub corner-center : (k v : ℕ) (quad : Polygon) → IsChildOf points polygons k v quad → has_corner (face_point points k) quad ≡ true
  corner-center k v quad c = ap (has_corner (face_point points k)) c.is ∙ (quad-corners v _ (face_point points k) _).2

  module _ (simple : list_all is_simple polygons ≡ true) where
    -- a child has the side from its corner to the point of the edge after it
    pub out : (k v w : ℕ) (quad : Polygon) → IsChildOf points polygons k v quad → has_side (v, w) (polygon_at polygons k) ≡ true → has_side (v, edge_point points polygons (v, w)) quad ≡ true
    out k v w quad c h =
        let e : c.w ≡ w = follower-unique (polygon_at polygons k) v c.w w (distinct-at polygons k simple) c.after h in
        let here : has_side (v, edge_point points polygons (v, c.w)) quad ≡ true = ap (has_side (v, edge_point points polygons (v, c.w))) c.is ∙ (quad-sides v _ _ _).0 in
        subst (λ n. has_side (v, edge_point points polygons (v, n)) quad ≡ true) e here

    -- from there to the point of the face
    pub toward : (k v w : ℕ) (quad : Polygon) → IsChildOf points polygons k v quad → has_side (v, w) (polygon_at polygons k) ≡ true → has_side (edge_point points polygons (v, w), face_point points k) quad ≡ true
    toward k v w quad c h =
        let e : c.w ≡ w = follower-unique (polygon_at polygons k) v c.w w (distinct-at polygons k simple) c.after h in
        let here : has_side (edge_point points polygons (v, c.w), face_point points k) quad ≡ true = ap (has_side (edge_point points polygons (v, c.w), face_point points k)) c.is ∙ (quad-sides v _ _ _).1 in
        subst (λ n. has_side (edge_point points polygons (v, n), face_point points k) quad ≡ true) e here

    -- from there to the point of the edge before its corner
    pub away : (k u v : ℕ) (quad : Polygon) → IsChildOf points polygons k v quad → has_side (u, v) (polygon_at polygons k) ≡ true → has_side (face_point points k, edge_point points polygons (u, v)) quad ≡ true
    away k u v quad c h =
        let e : c.u ≡ u = leader-unique (polygon_at polygons k) v c.u u (distinct-at polygons k simple) c.before h in
        let here : has_side (face_point points k, edge_point points polygons (c.u, v)) quad ≡ true = ap (has_side (face_point points k, edge_point points polygons (c.u, v))) c.is ∙ (quad-sides v _ _ _).2 in
        subst (λ n. has_side (face_point points k, edge_point points polygons (n, v)) quad ≡ true) e here

    -- a child has the side from the edge point to its corner
    pub into : (k u v : ℕ) (quad : Polygon) → IsChildOf points polygons k v quad → has_side (u, v) (polygon_at polygons k) ≡ true → has_side (edge_point points polygons (u, v), v) quad ≡ true
    into k u v quad c h =
        let e : c.u ≡ u = leader-unique (polygon_at polygons k) v c.u u (distinct-at polygons k simple) c.before h in
        let here : has_side (edge_point points polygons (c.u, v), v) quad ≡ true = ap (has_side (edge_point points polygons (c.u, v), v)) c.is ∙ (quad-sides v _ _ _).3 in
        subst (λ n. has_side (edge_point points polygons (n, v), v) quad ≡ true) e here

    module _ (over : is_over points polygons ≡ true) (distinct : has_distinct_sides (all_sides polygons) ≡ true) where
      -- the child at a corner of a face
      pub at-corner : (k v : ℕ) → has_corner v (polygon_at polygons k) ≡ true → IsChildOf points polygons k v (polygon_at (child_polygons points polygons) (child_at points polygons k v))
      at-corner k v h = child-at points polygons k v (corner-place polygons k v h) h

      -- a child is at no other place
      pub one-place : (k v place : ℕ) → IsChildOf points polygons k v (polygon_at (child_polygons points polygons) place) → child_at points polygons k v ≡ place
      one-place k v place c =
          let there = at-corner k v (side-start (polygon_at polygons k) (v, c.w) c.after) in
          owner-unique (child_polygons points polygons) (v, edge_point points polygons (v, c.w)) (child_at points polygons k v) place (child-times points polygons over simple distinct (v, edge_point points polygons (v, c.w))) (out k v c.w _ there c.after) (out k v c.w _ c c.after)

      -- two children at one place are one
      pub places-tell : (k v m n : ℕ) → has_corner v (polygon_at polygons k) ≡ true → has_corner n (polygon_at polygons m) ≡ true → child_at points polygons k v ≡ child_at points polygons m n → (k ≡ m) × (v ≡ n)
      places-tell k v m n h g e =
          let c = at-corner k v h in
          let d = at-corner m n g in
          child-tells k v m n (polygon_at (child_polygons points polygons) (child_at points polygons m n)) (subst (λ p. IsChildOf points polygons k v (polygon_at (child_polygons points polygons) p)) e c) d
