-- The polygons of each level are over its points, whether or not they are a manifold.
use Rattle.std.proofs.Common.{◌≡◌, ℕ, zero, suc, nat_lt, List, get_or, refl, ap, ◌∙◌, true, IsTrue}
use Rattle.std.specs.List.{list_any, list_all}
use Rattle.std.proofs.lemmas.Bool.{and_parts}
use Rattle.std.proofs.lemmas.List.Sums.{list_all-from_AllPass}
use Rattle.subdiv_model.specs.Polygons.{Polygon, same_side, has_side, polygon_at, is_over}
use Rattle.subdiv_model.specs.Edges.{all_sides}
use Rattle.subdiv_model.specs.Level.{Level}
use Rattle.subdiv_model.specs.Child.{child_polygons, child_points, refined_level}
use Rattle.mesh_laws.proofs.ClosedLemmas.{any-all, any-here}
use Rattle.mesh_laws.proofs.FanLemmas.{side-start}
use Rattle.mesh_laws.proofs.ChildCountLemmas.{is_inside, is_named}
use Rattle.mesh_laws.proofs.ChildFaceLemmas.{is_sound, sound-sides, edge-point-inside, corner-inside, face-inside}
use Rattle.mesh_laws.proofs.ChildClosedLemmas.{same-pair}
use Rattle.mesh_laws.proofs.ChildPlaceLemmas.{IsChildOf, all-of}
use Rattle.mesh_laws.proofs.ChildCornerLemmas.{corner-place}

module _ (points : ℕ) (polygons : List Polygon) (over : is_over points polygons ≡ true) where
  -- a side of the level names an edge, and its ends are points
  pub listed-sound : (s : ℕ × ℕ) → list_any (same_side s) (all_sides polygons) ≡ true → is_sound points polygons s ≡ true
  listed-sound s there =
      let found = any-all (same_side s) (is_sound points polygons) (all_sides polygons) there (sound-sides points polygons over) in
      ap (is_sound points polygons) (same-pair s found.0 found.1) ∙ found.2

  side-sound : (k : ℕ) (s : ℕ × ℕ) → has_side s (polygon_at polygons k) ≡ true → is_sound points polygons s ≡ true
  side-sound k s h = listed-sound s (any-here (same_side s) polygons k h)

  -- the corners of a child face are points of the next level
  child-below : (k v : ℕ) (quad : Polygon) → IsChildOf points polygons k v quad
      → list_all (λ n. nat_lt n (child_points points polygons)) quad ≡ true
  child-below k v quad c =
      let before = and_parts (is_named points polygons (c.u, v)) (is_inside points (c.u, v)) (side-sound k (c.u, v) c.before) in
      let after = and_parts (is_named points polygons (v, c.w)) (is_inside points (v, c.w)) (side-sound k (v, c.w) c.after) in
      let inside = corner-place polygons k v (side-start (polygon_at polygons k) (v, c.w) c.after) in
      let one = corner-inside points polygons v (and_parts (nat_lt v points) (nat_lt c.w points) after.1).0 in
      let two = edge-point-inside points polygons (v, c.w) after.0 in
      let three = face-inside points polygons k inside in
      let four = edge-point-inside points polygons (c.u, v) before.0 in
      ap (list_all (λ n. nat_lt n (child_points points polygons))) c.is ∙ rw (one, two, three, four) refl

  -- the polygons of the next level are over its points
  pub child-over-points : is_over (child_points points polygons) (child_polygons points polygons) ≡ true
  child-over-points = list_all-from_AllPass (list_all (λ n. nat_lt n (child_points points polygons))) (child_polygons points polygons)
      (λ k d h. let found = all-of points polygons k d h in
      child-below found.0 found.1 (get_or (child_polygons points polygons) k d) found.2)

pub levels-over-points : (level : Level) (k : ℕ) → IsTrue (is_over level.point_count level.polygons)
    → IsTrue (is_over (refined_level level k).point_count (refined_level level k).polygons)
levels-over-points level zero over = over
levels-over-points level (suc k) over =
    let before = refined_level level k in
    child-over-points before.point_count before.polygons (levels-over-points level k over)
