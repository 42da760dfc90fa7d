-- The points of the next level, and the vertices on selected faces.
use Rattle.std.proofs.Common.{◌≡◌, ℕ, ◌<◌, Bool, true, nat_eq, nat_lt, List, [], ◌∷◌, length, map, get_or, refl, ap, sym, ◌∙◌}
use Rattle.std.specs.List.{list_any, list_all}
use Rattle.subdiv_model.specs.Polygons.{Polygon, has_corner, is_among, is_over, polygon_at}
use Rattle.subdiv_model.specs.Level.{Level}
use Rattle.subdiv_model.specs.Child.{child_polygons}
use Rattle.subdiv_model.specs.Sparse.{child_number, corners_of, is_on}
use Rattle.number_laws.proofs.ListLemmas.{any-flat_map}
use Rattle.mesh_laws.proofs.FanLemmas.{any-number, number-any}
use Rattle.mesh_laws.proofs.ClosedLemmas.{all-at}
use Rattle.mesh_laws.proofs.ChildCornerLemmas.{corner-place, corner-self}
use Rattle.part_laws.specs.Parts.{is_corner}
use Rattle.part_laws.proofs.ListLemmas.{any-mapped}
use Rattle.part_laws.proofs.TermLemmas.{all-true}
use Rattle.part_laws.proofs.SelfLemmas.{among-at}
use Rattle.sparse_laws.specs.NextSparse.{next_children, next_points, vertex_at}
use Rattle.sparse_laws.proofs.CornerLemmas.{child, child-at-place, one-among, vertices-old}
use Rattle.sparse_laws.proofs.NextPartLemmas.{points-own}
use Rattle.sparse_level.proofs.OnceLemmas.{once-among}
use Rattle.sparse_refiner.proofs.SelfLemmas.{selection, child-there, child-at, child-on, vertex-of}

any-of-map : {X Y : Type 0} (f : X → Y) (test : Y → Bool) (xs : List X) → list_any test (map f xs) ≡ list_any (λ x. test (f x)) xs
any-of-map f test xs = any-mapped (λ x. true) f (λ x. test (f x)) test (λ x h. refl) xs (all-true xs)

module _ (level : Level) (over : is_over level.point_count level.polygons ≡ true) (some : List ℕ) (within : list_all (λ f. nat_lt f (length level.polygons)) some ≡ true) where
  abbrev kids : List Polygon
  kids = child_polygons level.point_count level.polygons

  -- a point is a corner of a present child face
  point-of-child : (n : ℕ) → is_among (next_points level some) n ≡ list_any (λ m. has_corner n (polygon_at kids m)) (next_children level.polygons some)
  point-of-child n =
      once-among (corners_of (map (polygon_at kids) (next_children level.polygons some))) n
      ∙ any-flat_map (nat_eq n) (λ polygon. polygon) (map (polygon_at kids) (next_children level.polygons some))
      ∙ any-of-map (polygon_at kids) (has_corner n) (next_children level.polygons some)

  -- a vertex that is a point lies on a selected face
  pub point-on : (v : ℕ) → v < level.point_count → is_among (next_points level some) v ≡ true → is_on level.polygons some v ≡ true
  point-on v below there =
      let found = any-number (λ m. has_corner v (polygon_at kids m)) (next_children level.polygons some) (sym (point-of-child v) ∙ there) in
      let m = found.0 in
      let c = child-at level over some within m v found.1 in
      let w = vertex_at level.polygons (c.face, c.place) in
      let one : is_among (v ∷ []) w ≡ true = ap (λ ns. is_among ns w) (sym (vertices-old level over v below)) ∙ vertex-of level over some within m v found.1 c in
      ap (is_on level.polygons some) (sym (one-among w v one)) ∙ sym (child-on level over some within m c) ∙ found.2

  -- a vertex on a selected face is a point of the next level
  pub on-point : (v : ℕ) → is_on level.polygons some v ≡ true → is_among (next_points level some) v ≡ true
  on-point v on =
      let found = any-number (λ f. has_corner v (polygon_at level.polygons f)) some on in
      let f = found.0 in
      let h = corner-place level.polygons f v found.1 in
      let place = among-at (polygon_at level.polygons f) v found.1 in
      let c = place.0 in
      let m = child_number level.polygons (f, c) in
      let present = child-there level over some within f c h place.1 ∙ ap (is_on level.polygons some) (sym place.2) ∙ on in
      let own : has_corner v (polygon_at kids m) ≡ true = ap (λ n. has_corner n (child level over f c)) place.2 ∙ corner-self level.point_count level.polygons f (vertex_at level.polygons (f, c)) (child level over f c) (child-at-place level over f c h place.1) in
      point-of-child v ∙ number-any (λ i. has_corner v (polygon_at kids i)) (next_children level.polygons some) m own present

  -- each point is a corner of the whole next level
  pub point-corner : (k : ℕ) → k < length (next_points level some) → is_corner kids (get_or (next_points level some) k 0) ≡ true
  point-corner k h = all-at (is_corner kids) (next_points level some) k 0 h (points-own (selection level over some within))
