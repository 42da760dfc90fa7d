-- The levels of a cut mesh are manifolds whose boundary is infinitely sharp, and their faces have as many corners as those of the mesh.
use Rattle.std.proofs.Common.{◌≡◌, ℕ, zero, suc, true, nat_eq, nat_lt, List, [], ◌∷◌, length, map, drop, get_or, replicate, arith, refl, ap, sym, ◌∙◌}
use Rattle.std.specs.List.{list_all, sum_by}
use Rattle.std.proofs.lemmas.Bool.{and_parts, eqb-true}
use Rattle.std.proofs.lemmas.List.{length-map}
use Rattle.std.proofs.lemmas.List.Sums.{sum_by-cons}
use Rattle.subdiv_model.specs.Polygons.{Polygon, is_over, is_distinct}
use Rattle.subdiv_model.specs.ObjMesh.{ObjMesh}
use Rattle.subdiv_model.specs.Level.{Level}
use Rattle.subdiv_model.specs.Base.{base_level}
use Rattle.subdiv_model.specs.Child.{child_points, child_polygons, refined_level}
use Rattle.subdiv_model.specs.Cut.{SeamMode, cut_level}
use Rattle.number_laws.proofs.CountLemmas.{all-weaker}
use Rattle.mesh_laws.proofs.ChildFaceLemmas.{is_child, all-child}
use Rattle.mesh_laws.proofs.Laws.{all-simple}
use Rattle.level_laws.proofs.FaceLemmas.{child_polygons-length}
use Rattle.level_laws.proofs.WellFormedLemmas.{first-of-six}
use Rattle.level_laws.specs.Tags.{HasProperTags}
use Rattle.mask_laws.specs.Laws.{IsManifoldMesh, IsManifoldWithSharpBoundary, mesh_level}
use Rattle.subdiv_model.specs.Feature.{is_infinite}
use Rattle.mask_laws.proofs.BoundaryLemmas.{boundary-named, sharp-from}
use Rattle.texture_laws.specs.CutMesh.{cut_faces, cut_point_count, vertex_of}
use Rattle.texture_laws.proofs.ChannelLemmas.{cut-whole}
use Rattle.texture_laws.proofs.CutFanLemmas.{cut-manifold}
use Rattle.texture_laws.proofs.CutLevelLemmas.{cut-boundary, cut-well-formed}
use Rattle.continued_laws.proofs.StepLemmas.{sharp-on, sharp-mesh}

-- Two levels.

-- the corners of a level are points
pub over-points : (level : Level) → IsManifoldWithSharpBoundary level → is_over level.point_count level.polygons ≡ true
over-points level is = first-of-six (is_over level.point_count level.polygons) _ _ _ _ _ is.formed

-- each child face has four corners
four-corners : (points : ℕ) (polygons : List Polygon) (quad : Polygon) → is_child points polygons quad ≡ true → nat_eq (length quad) 4 ≡ true
four-corners points polygons quad h = (and_parts (nat_eq (length quad) 4) (is_distinct quad) (and_parts _ (list_all (λ v. nat_lt v (child_points points polygons)) quad) h).0).0

all-fours : (quads : List Polygon) → list_all (λ quad. nat_eq (length quad) 4) quads ≡ true → map length quads ≡ replicate (length quads) 4
all-fours [] h = refl
all-fours (quad ∷ quads) h =
    let parts = and_parts (nat_eq (length quad) 4) (list_all (λ other. nat_eq (length other) 4) quads) h in
    ap (λ n. n ∷ map length quads) (eqb-true (length quad) 4 parts.0) ∙ ap (λ ns. 4 ∷ ns) (all-fours quads parts.1)

child-fours : (level : Level) → IsManifoldWithSharpBoundary level
    → map length (child_polygons level.point_count level.polygons) ≡ replicate (length (child_polygons level.point_count level.polygons)) 4
child-fours level is =
    let quads = child_polygons level.point_count level.polygons in
    all-fours quads
    (all-weaker (is_child level.point_count level.polygons) (λ quad. nat_eq (length quad) 4) (four-corners level.point_count level.polygons) quads
    (all-child level.point_count level.polygons (over-points level is) (all-simple level.point_count level.polygons is.manifold)))

-- faces with as many corners have as many corners in all
same-sums : (ps qs : List Polygon) → map length ps ≡ map length qs → sum_by length ps ≡ sum_by length qs
same-sums [] [] h = refl
same-sums [] (q ∷ qs) h = absurd (omega (arith, ap length h))
same-sums (p ∷ ps) [] h = absurd (omega (arith, ap length h))
same-sums (p ∷ ps) (q ∷ qs) h =
    let here : length p ≡ length q = ap (λ ns. get_or ns 0 0) h in
    let rest = same-sums ps qs (ap (drop 1) h) in
    omega (arith, here, rest, sum_by-cons length p ps, sum_by-cons length q qs)

pub corners-on : (one two : Level) (k : ℕ) → IsManifoldWithSharpBoundary one → IsManifoldWithSharpBoundary two
    → map length one.polygons ≡ map length two.polygons → map length (refined_level one k).polygons ≡ map length (refined_level two k).polygons
corners-on one two zero first second same = same
corners-on one two (suc k) first second same =
    let a = refined_level one k in
    let b = refined_level two k in
    let count : length (child_polygons a.point_count a.polygons) ≡ length (child_polygons b.point_count b.polygons) =
    child_polygons-length a.point_count a.polygons
    ∙ same-sums a.polygons b.polygons (corners-on one two k first second same)
    ∙ sym (child_polygons-length b.point_count b.polygons) in
    child-fours a (sharp-on one k first) ∙ ap (λ n. replicate n 4) count ∙ sym (child-fours b (sharp-on two k second))

-- The cut mesh.

module _ (mesh : ObjMesh) (is : IsManifoldMesh mesh) (proper : HasProperTags mesh) (mode : SeamMode) where
  base-sharp : IsManifoldWithSharpBoundary (base_level mesh)
  base-sharp = sharp-mesh mesh 0 is proper

  cut-sharp : IsManifoldWithSharpBoundary (cut_level mode mesh)
  cut-sharp =
      let manifold = cut-manifold mesh is.manifold.simple is.manifold.sides_once in
      let simple = all-simple (cut_point_count mesh) (cut_faces mesh) manifold in
      let cut = cut_level mode mesh in
      record {
        formed = cut-well-formed mesh mode base-sharp.formed;
        manifold = manifold;
        sharp_boundary = sharp-from cut (λ t on_boundary. ap is_infinite (cut-boundary mesh mode t (boundary-named cut simple t on_boundary) on_boundary));
      }

  pub cut-levels-sharp : (k : ℕ) → IsManifoldWithSharpBoundary (refined_level (cut_level mode mesh) k)
  cut-levels-sharp k = sharp-on (cut_level mode mesh) k cut-sharp

  renamed-corners : (name : ℕ → ℕ) (polygons : List Polygon) → map length (map (map name) polygons) ≡ map length polygons
  renamed-corners name [] = refl
  renamed-corners name (polygon ∷ polygons) =
      ap (λ n. n ∷ map length (map (map name) polygons)) (length-map polygon name) ∙ ap (λ ns. length polygon ∷ ns) (renamed-corners name polygons)

  pub cut-corners-same : (k : ℕ) → map length (mesh_level mesh k).polygons ≡ map length (refined_level (cut_level mode mesh) k).polygons
  cut-corners-same k =
      corners-on (base_level mesh) (cut_level mode mesh) k base-sharp cut-sharp
      (ap (map length) (sym (cut-whole mesh)) ∙ renamed-corners (vertex_of mesh) (cut_faces mesh))
