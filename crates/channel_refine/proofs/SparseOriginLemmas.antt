-- The masks of the next sparse points by their origins, and the vertices that have a point there.
use Rattle.std.proofs.Common.{◌≡◌, ℕ, ◌-◌, ◌<◌, Bool, true, false, nat_eq, nat_lt, List, length, map, get_or, refl, ap, sym, ◌∙◌, subst, zero-add, if◌then◌else◌}
use Rattle.std.specs.List.{list_any, list_all, range_with_len}
use Rattle.std.proofs.lemmas.Bool.{eqb-true, eq-eqb, lt-ltb, ltb-true}
use Rattle.std.proofs.lemmas.List.FromFn.{get_or-map-range_with_len}
use Rattle.subdiv_model.specs.Polygons.{has_corner, is_among, polygon_at}
use Rattle.subdiv_model.specs.Level.{Level}
use Rattle.subdiv_model.specs.Child.{child_points}
use Rattle.subdiv_model.specs.Mask.{Scheme, Mask, child_masks}
use Rattle.subdiv_model.specs.Sparse.{child_number, is_on}
use Rattle.number_laws.proofs.CountLemmas.{all-weaker}
use Rattle.mesh_laws.proofs.FanLemmas.{any-number, number-any}
use Rattle.mesh_laws.proofs.ChildCornerLemmas.{corner-place, corner-point, corner-self}
use Rattle.mesh_laws.proofs.ChildOverLemmas.{child-over-points}
use Rattle.part_laws.specs.Parts.{is_corner}
use Rattle.part_laws.proofs.ListLemmas.{any-mapped, map-agree, map-twice}
use Rattle.part_laws.proofs.TermLemmas.{all-true}
use Rattle.part_laws.proofs.JoinLemmas.{corner-in, corner-of}
use Rattle.part_laws.proofs.SelfLemmas.{among-at}
use Rattle.part_laws.proofs.NameLemmas.{name-old}
use Rattle.sparse_laws.specs.NextSparse.{vertex_at}
use Rattle.sparse_laws.specs.Laws.{SparseRefinement, AgreeingTest, chosen_by}
use Rattle.sparse_laws.proofs.SelectedLemmas.{among-all}
use Rattle.sparse_laws.proofs.CornerLemmas.{child, child-at-place}
use Rattle.sparse_laws.proofs.CompleteLemmas.{kid, kids, kid-part}
use Rattle.sparse_laws.proofs.NextPartLemmas.{points-own, points-same}
use Rattle.sparse_laws.proofs.NextSparseLemmas.{selection}
use Rattle.sparse_laws.proofs.OverflowLemmas.{name-present, point-on}
use Rattle.sparse_values.specs.Uniform.{items_at, next_points_of}
use Rattle.level_topology.specs.Child.{PointOrigin, FromVertex, FromFace, FromEdge, same_origin}
use Rattle.level_topology.specs.ChildTables.{numbered_origin}
use Rattle.child_masks.specs.Masks.{mask_from, masks_from, has_origin}
use Rattle.level_walk.proofs.OriginLemmas.{masks-of-all}

-- the origin of a point with a number
abbrev pub origin_in : Level → ℕ → PointOrigin
origin_in level n = numbered_origin level.point_count (length level.polygons) n

-- A function of the masks of some points gives the same as for the whole next level at these points.
module _ {X : Type 0} (f : Mask → X) (d : X) (level : Level) (scheme : Scheme) where
  abbrev of_number : ℕ → X
  of_number n = f (mask_from level scheme (origin_in level n))

  by-number : (points : List ℕ) → map f (masks_from level scheme (map (origin_in level) points)) ≡ map of_number points
  by-number points = ap (map f) (map-twice (origin_in level) (mask_from level scheme) points) ∙ map-twice (λ n. mask_from level scheme (origin_in level n)) f points

  at-number : (n : ℕ) → n < child_points level.point_count level.polygons → of_number n ≡ get_or (map f (child_masks level scheme)) n d
  at-number n h =
      let all = range_with_len 0 (child_points level.point_count level.polygons) in
      sym (get_or-map-range_with_len of_number 0 (child_points level.point_count level.polygons) n n d h (zero-add n))
      ∙ ap (λ xs. get_or xs n d) (sym (by-number all) ∙ ap (map f) (masks-of-all level scheme))

  pub at-origins : (points : List ℕ) → list_all (λ n. nat_lt n (child_points level.point_count level.polygons)) points ≡ true
      → map f (masks_from level scheme (map (origin_in level) points)) ≡ items_at points d (map f (child_masks level scheme))
  at-origins points below =
      by-number points
      ∙ map-agree (λ n. nat_lt n (child_points level.point_count level.polygons)) of_number (λ n. get_or (map f (child_masks level scheme)) n d)
      (λ n h. at-number n (ltb-true _ _ h)) points below

any-of-map : {X Y : Type 0} (f : X → Y) (test : Y → Bool) (xs : List X) → list_any test (map f xs) ≡ list_any (λ x. test (f x)) xs
any-of-map f test xs = any-mapped (λ x. true) f (λ x. test (f x)) test (λ x h. refl) xs (all-true xs)

-- a point that comes from a vertex has its number
vertex-number : (points faces n v : ℕ) → same_origin (FromVertex v) (numbered_origin points faces n) ≡ true → (n < points) × (n ≡ v)
vertex-number points faces n v h = go (nat_lt n points) (nat_lt (n - points) faces) refl h
  where
    go : (a b : Bool) → nat_lt n points ≡ a → same_origin (FromVertex v) (if a then FromVertex n else (if b then FromFace (n - points) else FromEdge (n - points - faces))) ≡ true
        → (n < points) × (n ≡ v)
    go true b e h = (ltb-true n points e, sym (eqb-true v n h))
    go false true e h = absurd (cc)
    go false false e h = absurd (cc)

vertex-own : (points faces v : ℕ) → v < points → same_origin (FromVertex v) (numbered_origin points faces v) ≡ true
vertex-own points faces v h = let below = lt-ltb v points h in rw below (eq-eqb v v refl)

module _ (kept : SparseRefinement) (by : AgreeingTest kept) where
  -- the points of the next sparse level are points of the whole next level
  pub next-below : list_all (λ n. nat_lt n (child_points kept.sparse.level.point_count kept.sparse.level.polygons)) (next_points_of by) ≡ true
  next-below =
      let s = selection kept by in
      all-weaker (is_corner (kids s)) (λ n. nat_lt n (child_points kept.sparse.level.point_count kept.sparse.level.polygons)) (λ n h.
      let found = corner-of (kids s) n h in
      corner-point (child_points kept.sparse.level.point_count kept.sparse.level.polygons) (kids s) found.0 n (child-over-points kept.sparse.level.point_count kept.sparse.level.polygons kept.is.over) found.2)
      (next_points_of by) (points-own s)

  -- a vertex that has a point at the next level lies on a selected face
  pub origin-on : (v : ℕ) → has_origin (map (origin_in kept.sparse.level) (next_points_of by)) (FromVertex v) ≡ true
      → (v < kept.sparse.level.point_count) × (is_on kept.sparse.level.polygons (chosen_by by) v ≡ true)
  origin-on v h =
      let level = kept.sparse.level in
      let found = any-number (λ n. same_origin (FromVertex v) (origin_in level n)) (next_points_of by) (sym (any-of-map (origin_in level) (same_origin (FromVertex v)) (next_points_of by)) ∙ h) in
      let number = vertex-number level.point_count (length level.polygons) found.0 v found.1 in
      go found.0 number.1 number.0 found.2
    where
      go : (n : ℕ) → n ≡ v → n < kept.sparse.level.point_count → is_among (next_points_of by) n ≡ true
          → (v < kept.sparse.level.point_count) × (is_on kept.sparse.level.polygons (chosen_by by) v ≡ true)
      go n same below among =
          (subst (λ m. m < kept.sparse.level.point_count) same below, ap (is_on kept.sparse.level.polygons (chosen_by by)) (sym same) ∙ point-on (selection kept by) n below among)

  -- a vertex that lies on a selected face has a point at the next level
  on-corner : (v : ℕ) → is_on kept.sparse.level.polygons (chosen_by by) v ≡ true → is_corner (kids (selection kept by)) v ≡ true
  on-corner v on =
      let s = selection kept by in
      let found = any-number (λ f. has_corner v (polygon_at s.part.polygons f)) s.some on in
      let f = found.0 in
      let place = among-at (polygon_at s.part.polygons f) v found.1 in
      let c = place.0 in
      let own =
      ap (λ n. has_corner n (child s.part s.over f c)) place.2
      ∙ corner-self s.part.point_count s.part.polygons f (vertex_at s.part.polygons (f, c)) (child s.part s.over f c) (child-at-place s.part s.over f c (corner-place s.part.polygons f v found.1) place.1) in
      corner-in (kids s) v (child_number s.part.polygons (f, c)) own

  on-among : (v : ℕ) → v < kept.sparse.level.point_count → is_on kept.sparse.level.polygons (chosen_by by) v ≡ true → is_among (next_points_of by) v ≡ true
  on-among v below on =
      let s = selection kept by in
      let points = next_points_of by in
      let there : is_among (map (kid s) points) (s.name v) ≡ true = ap (λ ns. is_among ns (s.name v)) (sym (points-same s)) ∙ name-present s v below on in
      let found = any-number (λ m. nat_eq (s.name v) (kid s m)) points (sym (any-of-map (kid s) (nat_eq (s.name v)) points) ∙ there) in
      let named : kid s v ≡ kid s found.0 = name-old s.name s.numbers s.part s.whole s.is.polygons v below ∙ eqb-true (s.name v) (kid s found.0) found.1 in
      let own = among-all (is_corner (kids s)) points found.0 found.2 (points-own s) in
      ap (is_among points) ((kid-part s).apart v found.0 (on-corner v on) own named) ∙ found.2

  pub on-origin : (v : ℕ) → v < kept.sparse.level.point_count → is_on kept.sparse.level.polygons (chosen_by by) v ≡ true
      → has_origin (map (origin_in kept.sparse.level) (next_points_of by)) (FromVertex v) ≡ true
  on-origin v below on =
      let level = kept.sparse.level in
      any-of-map (origin_in level) (same_origin (FromVertex v)) (next_points_of by)
      ∙ number-any (λ n. same_origin (FromVertex v) (origin_in level n)) (next_points_of by) v (vertex-own level.point_count (length level.polygons) v below) (on-among v below on)
