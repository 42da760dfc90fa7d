-- The sharpness of the halves of an edge, and of the edges inside faces.
use Rattle.std.proofs.Common.{◌≡◌, ℕ, ◌+◌, ◌<◌, Bool, true, false, ◌&&◌, nat_eq, nat_lt, List, [], ◌∷◌, length, get_or, arith, refl, ap, sym, ◌∙◌, if◌then◌else◌, IsTrue}
use Rattle.std.specs.List.{All, list_any, list_all, flat_map}
use Rattle.std.proofs.lemmas.List.Folds.{list_any_at}
use Rattle.std.proofs.lemmas.Bool.Decides.{nat_tests}
use Rattle.std.proofs.lemmas.Bool.{and_parts, eqb-true}
use Rattle.subdiv_model.specs.Polygons.{same_side, same_edge, is_over}
use Rattle.subdiv_model.specs.Edges.{all_sides, edges_of, has_end}
use Rattle.subdiv_model.specs.Sharpness.{Sharpness, Smooth, half_child}
use Rattle.subdiv_model.specs.Level.{Level, edge_sharpness_of, ring_at}
use Rattle.subdiv_model.specs.Child.{edge_point, face_point, child_polygons, half_sharpness, half_at, halves_of, sharpness_among, child_level}
use Rattle.number_laws.proofs.CountLemmas.{any-from_count, count-some}
use Rattle.mesh_laws.proofs.SideLemmas.{same_edge-refl, same_edge-alike}
use Rattle.mesh_laws.proofs.EdgeLemmas.{any-first_named, position-alike, any-alike}
use Rattle.mesh_laws.proofs.ClosedLemmas.{any-all, any-side-edge, first_named-all}
use Rattle.mesh_laws.proofs.ChildCountLemmas.{is_inside, is_named, sides-inside, same-edge-point, corner-edge, face-corner, face-edge, times-out, times-in}
use Rattle.mesh_laws.proofs.ChildFaceLemmas.{is_sound}
use Rattle.mesh_laws.proofs.ChildPlaceLemmas.{own-sides}
use Rattle.mesh_laws.proofs.ChildOverLemmas.{listed-sound}
use Rattle.level_laws.proofs.NumberedLemmas.{listed-at}

-- the new point of an edge of the level
abbrev pub point_of : Level → ℕ × ℕ → ℕ
point_of level edge = edge_point level.point_count level.polygons edge

-- the edge is one of the level's
abbrev pub is_edge : Level → ℕ × ℕ → Bool
is_edge level edge = is_named level.point_count level.polygons edge

abbrev pub child_edges : Level → List (ℕ × ℕ)
child_edges level = edges_of (child_polygons level.point_count level.polygons)

abbrev pub child_sides : Level → List (ℕ × ℕ)
child_sides level = all_sides (child_polygons level.point_count level.polygons)

-- the halves of some edges
abbrev pub halves_from : Level → List (ℕ × ℕ) → List ((ℕ × ℕ) × Sharpness)
halves_from level some = flat_map (λ edge. half_at level edge edge.0 ∷ half_at level edge edge.1 ∷ []) some

-- the pairs that name an edge name the same edge too
pub among-alike : (entries : List ((ℕ × ℕ) × Sharpness)) (s t : ℕ × ℕ) → same_edge s t ≡ true
    → sharpness_among entries s ≡ sharpness_among entries t
among-alike [] s t h = refl
among-alike (entry ∷ entries) s t h = rw (same_edge-alike s t entry.0 h, among-alike entries s t h) refl

-- an edge of the child level has what the halves say of it
pub child-edge : (level : Level) (edge : ℕ × ℕ)
    → edge_sharpness_of (child_level level) edge ≡ (if list_any (same_edge edge) (child_edges level) then sharpness_among (halves_of level) edge else Smooth)
child-edge level edge = listed-at (sharpness_among (halves_of level)) Smooth (among-alike (halves_of level)) edge (child_edges level)

module _ (level : Level) (over : is_over level.point_count level.polygons ≡ true) where
  -- the half of an edge at v is the half of another at u exactly where both are the same
  half-names : (v u : ℕ) (edge e : ℕ × ℕ) → nat_lt v level.point_count ≡ true → is_edge level edge ≡ true
      → same_edge (v, point_of level edge) (u, point_of level e) ≡ (nat_eq v u && same_edge edge e)
  half-names v u edge e inside named =
      let one = same-edge-point level.point_count level.polygons edge e named in
      let none = corner-edge level.point_count level.polygons v e inside in
      rw (one, none) (grind (arith, nat_tests))

  -- the same edge has the same half at a point
  half-alike : (v : ℕ) (s t : ℕ × ℕ) → same_edge s t ≡ true → half_sharpness level s v ≡ half_sharpness level t v
  half-alike v s t h = ap (λ (n : ℕ). half_child level.method (ring_at level v) (get_or level.edge_sharpness n Smooth)) (position-alike s t (edges_of level.polygons) h)

  end-alike : (v : ℕ) (s t : ℕ × ℕ) → same_edge s t ≡ true → has_end v s ≡ has_end v t
  end-alike v s t h = grind (arith, nat_tests)

  -- the first half equal to this edge has its sharpness
  among-half : (edge : ℕ × ℕ) (v : ℕ) → nat_lt v level.point_count ≡ true → is_edge level edge ≡ true → has_end v edge ≡ true
      → (some : List (ℕ × ℕ)) → list_any (same_edge edge) some ≡ true
      → sharpness_among (halves_from level some) (v, point_of level edge) ≡ half_sharpness level edge v
  among-half edge v inside named ends [] there = absurd (cc)
  among-half edge v inside named ends (e ∷ some) there = here (same_edge edge e) (nat_eq v e.0) refl refl (λ more. among-half edge v inside named ends some more)
    where
      here : (b first : Bool) → same_edge edge e ≡ b → nat_eq v e.0 ≡ first
          → (list_any (same_edge edge) some ≡ true → sharpness_among (halves_from level some) (v, point_of level edge) ≡ half_sharpness level edge v)
          → sharpness_among (halves_from level (e ∷ some)) (v, point_of level edge) ≡ half_sharpness level edge v
      here true true is at after =
          let names = half-names v e.0 edge e inside named in
          let same : v ≡ e.0 = eqb-true v e.0 at in
          rw (names, at, is) (ap (half_sharpness level e) (sym same) ∙ sym (half-alike v edge e is))
      here true false is at after =
          let first = half-names v e.0 edge e inside named in
          let names = half-names v e.1 edge e inside named in
          let ends' = end-alike v edge e is in
          let other : nat_eq v e.1 ≡ true = grind (arith, nat_tests) in
          let same : v ≡ e.1 = eqb-true v e.1 other in
          rw (first, names, at, is, other) (ap (half_sharpness level e) (sym same) ∙ sym (half-alike v edge e is))
      here false first is at after =
          let one = half-names v e.0 edge e inside named in
          let two = half-names v e.1 edge e inside named in
          let more : list_any (same_edge edge) some ≡ true = grind (arith, nat_tests) in
          let none : (nat_eq v e.0 && same_edge edge e) ≡ false = grind (arith, nat_tests) in
          let none' : (nat_eq v e.1 && same_edge edge e) ≡ false = grind (arith, nat_tests) in
          let c1 = one ∙ none in
          let c2 = two ∙ none' in
          rw (c1, c2) (after more)

  -- a side gives a half at each of its ends
  side-out : (s : ℕ × ℕ) → is_sound level.point_count level.polygons s ≡ true → list_any (same_side s) (all_sides level.polygons) ≡ true
      → list_any (same_edge (s.0, point_of level s)) (child_edges level) ≡ true
  side-out s sound there =
      let parts = and_parts (is_edge level s) (is_inside level.point_count s) sound in
      let half : ℕ × ℕ = (s.0, point_of level s) in
      let some = count-some (same_side s) (all_sides level.polygons) there in
      let times = times-out level.point_count level.polygons over s parts.0 parts.1 in
      let found = any-from_count (same_side half) (child_sides level) (omega (arith, some, times)) in
      any-first_named half (child_sides level) ∙ any-side-edge half (child_sides level) found

  side-in : (s : ℕ × ℕ) → is_sound level.point_count level.polygons s ≡ true → list_any (same_side s) (all_sides level.polygons) ≡ true
      → list_any (same_edge (s.1, point_of level s)) (child_edges level) ≡ true
  side-in s sound there =
      let parts = and_parts (is_edge level s) (is_inside level.point_count s) sound in
      let half : ℕ × ℕ = (point_of level s, s.1) in
      let some = count-some (same_side s) (all_sides level.polygons) there in
      let times = times-in level.point_count level.polygons over s parts.0 parts.1 in
      let found = any-from_count (same_side half) (child_sides level) (omega (arith, some, times)) in
      let turned : same_edge half (s.1, point_of level s) ≡ true = grind (arith, nat_tests) in
      any-alike half (s.1, point_of level s) (child_edges level) turned (any-first_named half (child_sides level) ∙ any-side-edge half (child_sides level) found)

  -- the half of an edge at one of its ends is an edge of the child level, and has its sharpness there
  pub half-sharp : (edge : ℕ × ℕ) (v : ℕ) → is_edge level edge ≡ true → has_end v edge ≡ true
      → edge_sharpness_of (child_level level) (v, point_of level edge) ≡ half_sharpness level edge v
  half-sharp edge v named ends =
      let sides = all_sides level.polygons in
      let points = level.point_count in
      let found = any-all (same_edge edge) (λ s. list_any (same_side s) sides) sides (sym (any-first_named edge sides) ∙ named) (own-sides sides) in
      let sound = listed-sound points level.polygons over found.0 found.2 in
      let inside = and_parts (nat_lt found.0.0 points) (nat_lt found.0.1 points) (and_parts (is_named points level.polygons found.0) (is_inside points found.0) sound).1 in
      go found.0 found.1 (side-out found.0 sound found.2) (side-in found.0 sound found.2) inside.0 inside.1 (nat_eq v found.0.0) refl
    where
      half : ℕ × ℕ
      half = (v, point_of level edge)

      listed : Bool
      listed = list_any (same_edge half) (child_edges level)

      close : nat_lt v level.point_count ≡ true → listed ≡ true → edge_sharpness_of (child_level level) half ≡ half_sharpness level edge v
      close inside there =
          child-edge level half
          ∙ ap (λ b. if b then sharpness_among (halves_of level) half else Smooth) there
          ∙ among-half edge v inside named ends (edges_of level.polygons) named

      to-half : (s : ℕ × ℕ) (u : ℕ) → same_edge edge s ≡ true → v ≡ u
          → list_any (same_edge (u, point_of level s)) (child_edges level) ≡ true → listed ≡ true
      to-half s u is same there =
          let P : ℕ → ℕ → Bool = λ m n. list_any (same_edge (m, n)) (child_edges level) in
          ap (λ m. P m (point_of level edge)) same
          ∙ ap (λ n. P u (level.point_count + length level.polygons + n)) (position-alike edge s (edges_of level.polygons) is)
          ∙ there

      go : (s : ℕ × ℕ) → same_edge edge s ≡ true → list_any (same_edge (s.0, point_of level s)) (child_edges level) ≡ true
          → list_any (same_edge (s.1, point_of level s)) (child_edges level) ≡ true → nat_lt s.0 level.point_count ≡ true
          → nat_lt s.1 level.point_count ≡ true → (first : Bool) → nat_eq v s.0 ≡ first
          → edge_sharpness_of (child_level level) half ≡ half_sharpness level edge v
      go s is out into start end true at =
          let same : v ≡ s.0 = eqb-true v s.0 at in
          close (ap (λ n. nat_lt n level.point_count) same ∙ start) (to-half s s.0 is same out)
      go s is out into start end false at =
          let alike = end-alike v edge s is in
          let other : nat_eq v s.1 ≡ true = grind (arith, nat_tests) in
          let same : v ≡ s.1 = eqb-true v s.1 other in
          close (ap (λ n. nat_lt n level.point_count) same ∙ end) (to-half s s.1 is same into)

-- each edge of the level has its halves at both ends
pub halves-sharp : (level : Level) → IsTrue (is_over level.point_count level.polygons)
    → All (λ edge. (v : ℕ) → IsTrue (has_end v edge) → edge_sharpness_of (child_level level) (v, point_of level edge) ≡ half_sharpness level edge v)
    (edges_of level.polygons)
halves-sharp level over k d h = λ v ends.
    let edge : ℕ × ℕ = get_or (edges_of level.polygons) k d in
    half-sharp level over edge v (list_any_at (same_edge edge) (edges_of level.polygons) k d h (same_edge-refl edge)) ends

module _ (level : Level) (over : is_over level.point_count level.polygons ≡ true) where
  -- an edge point and a face point are no half
  no-half : (face u : ℕ) (edge e : ℕ × ℕ) → face < length level.polygons → nat_lt u level.point_count ≡ true
      → same_edge (face_point level.point_count face, point_of level edge) (u, point_of level e) ≡ false
  no-half face u edge e inside below =
      let one = face-corner level.point_count level.polygons u face below in
      let two = face-edge level.point_count level.polygons face e inside in
      rw (one, two) refl

  among-none : (face : ℕ) (edge : ℕ × ℕ) → face < length level.polygons → (some : List (ℕ × ℕ))
      → list_all (is_inside level.point_count) some ≡ true
      → sharpness_among (halves_from level some) (face_point level.point_count face, point_of level edge) ≡ Smooth
  among-none face edge inside [] all = refl
  among-none face edge inside (e ∷ some) all =
      let parts = and_parts (is_inside level.point_count e) (list_all (is_inside level.point_count) some) all in
      let ends = and_parts (nat_lt e.0 level.point_count) (nat_lt e.1 level.point_count) parts.0 in
      let one = no-half face e.0 edge e inside ends.0 in
      let two = no-half face e.1 edge e inside ends.1 in
      rw (one, two) (among-none face edge inside some parts.1)

  smooth-either : (edge : ℕ × ℕ) → sharpness_among (halves_of level) edge ≡ Smooth → edge_sharpness_of (child_level level) edge ≡ Smooth
  smooth-either edge none = child-edge level edge ∙ go (list_any (same_edge edge) (child_edges level))
    where
      go : (b : Bool) → (if b then sharpness_among (halves_of level) edge else Smooth) ≡ Smooth
      go true = none
      go false = refl

  -- an edge from a face point to an edge point is smooth
  pub inside-smooth : (face : ℕ) (edge : ℕ × ℕ) → face < length level.polygons
      → (edge_sharpness_of (child_level level) (face_point level.point_count face, point_of level edge) ≡ Smooth)
      × (edge_sharpness_of (child_level level) (point_of level edge, face_point level.point_count face) ≡ Smooth)
  inside-smooth face edge inside =
      let pair : ℕ × ℕ = (face_point level.point_count face, point_of level edge) in
      let back : ℕ × ℕ = (point_of level edge, face_point level.point_count face) in
      let turned : same_edge back pair ≡ true = grind (arith, nat_tests) in
      let all = first_named-all (is_inside level.point_count) (all_sides level.polygons) (sides-inside level.point_count level.polygons over) in
      let none = among-none face edge inside (edges_of level.polygons) all in
      (smooth-either pair none, smooth-either back (among-alike (halves_of level) back pair turned ∙ none))
