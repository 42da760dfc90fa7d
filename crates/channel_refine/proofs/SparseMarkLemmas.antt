-- Points in the order of their first appearance, each with a mark.
use Rattle.std.proofs.Common.{◌≡◌, ℕ, ◌+◌, ◌<◌, nat_eq, nat_lt, List, [], ◌∷◌, ◌++◌, length, get_or, take, arith, ap, sym, ◌∙◌, subst}
use Rattle.std.specs.List.{All, list_all}
use Rattle.std.proofs.lemmas.Bool.{ltb-true}
use Rattle.std.proofs.lemmas.Grind.{flat_map-append}
use Rattle.std.proofs.lemmas.List.{append-nil, take_more}
use Rattle.subdiv_model.specs.Lists.{each_once_by}
use Rattle.subdiv_model.specs.Polygons.{Polygon, polygon_at}
use Rattle.subdiv_model.specs.Sparse.{corners_of}
use Rattle.mesh_laws.proofs.ClosedLemmas.{all-at}
use Rattle.level_laws.proofs.WellFormedLemmas.{first-of-six}
use Rattle.level_topology.specs.Topology.{Topology, IsTopology}
use Rattle.sparse_level.specs.Places.{with_points}
use Rattle.sparse_level.proofs.OnceLemmas.{once-more}

-- the corners of one more face
pub face-more : (polygons : List Polygon) (points : List ℕ) (f : ℕ) → f < length polygons → points ≡ each_once_by nat_eq (corners_of (take f polygons))
    → with_points points (polygon_at polygons f) ≡ each_once_by nat_eq (corners_of (take (f + 1) polygons))
face-more polygons points f h are =
    ap (λ l. with_points l (polygon_at polygons f)) are ∙ sym (once-more (corners_of (take f polygons)) (polygon_at polygons f))
    ∙ ap (each_once_by nat_eq) (sym (ap corners_of (take_more polygons f [] h) ∙ flat_map-append (λ polygon. polygon) (take f polygons) (polygon_at polygons f ∷ [])
    ∙ ap (λ (l : List ℕ). corners_of (take f polygons) ++ l) (append-nil (polygon_at polygons f))))

-- the corners of a face have marks
pub corners-inside : (t : Topology) → IsTopology t → (f count : ℕ) (corners : List ℕ) → f < length t.level.polygons → count ≡ t.level.point_count → corners ≡ polygon_at t.level.polygons f → All (λ n. n < count) corners
corners-inside t is f count corners inside many same k d h =
    let over = first-of-six _ _ _ _ _ _ is.formed in
    let all = all-at (list_all (λ n. nat_lt n t.level.point_count)) t.level.polygons f [] inside over in
    let below : k < length (polygon_at t.level.polygons f) = omega (arith, h, ap length same) in
    let one = ltb-true _ _ (all-at (λ n. nat_lt n t.level.point_count) (polygon_at t.level.polygons f) k d below all) in
    subst (λ l. get_or l k d < count) (sym same) (subst (λ n. get_or (polygon_at t.level.polygons f) k d < n) (sym many) one)
