-- The vertices and the texture values of all corners are those of their channel points.
use Rattle.std.proofs.Common.{◌≡◌, ℕ, suc, ◌+◌, ◌<◌, nat_le, pos, List, [], ◌∷◌, ◌++◌, length, map, get_or, arith, refl, ap, sym, ◌∙◌}
use Rattle.std.proofs.lemmas.Bool.{and_parts}
use Rattle.std.proofs.lemmas.List.{map-append, map-id, length-map, get_or-map, ext_get_or}
use Rattle.subdiv_model.specs.Polygons.{Polygon, polygon_at, is_distinct}
use Rattle.subdiv_model.specs.Manifold.{is_simple}
use Rattle.subdiv_model.specs.ObjMesh.{ObjMesh}
use Rattle.subdiv_model.specs.Cut.{texture_number, channel_point}
use Rattle.mesh_laws.proofs.SideLemmas.{among-place}
use Rattle.mesh_laws.proofs.ClosedLemmas.{all-at}
use Rattle.level_topology.specs.Topology.{Topology}
use Rattle.mesh_check.proofs.BaseFaceLemmas.{sound-simple, sound-sides}
use Rattle.face_varying.specs.Corners.{corner_points}
use Rattle.face_varying.specs.Cut.{IsCuttable}
use Rattle.face_varying.specs.TextureValues.{value_at, value_of}
use Rattle.face_varying.proofs.CornerLemmas.{from_corners}
use Rattle.face_varying.proofs.EdgeSideLemmas.{corner-own}
use Rattle.face_varying.proofs.CuttableLemmas.{same-faces, texture-length}
use Rattle.face_varying.proofs.FirstOneStepLemmas.{joined_lists}
use Rattle.face_varying.proofs.TextureNumberLemmas.{point-number-at}

-- one function after another, over all corners
mapped-corners : {X Y : Type 0} (k : X → Y) (g : ℕ → ℕ → X) (n : ℕ) (faces : List Polygon) → map k (from_corners g n faces) ≡ from_corners (λ f v. k (g f v)) n faces
mapped-corners k g n [] = refl
mapped-corners {X} {Y} k g n (face ∷ faces) =
    map-append k (map (g n) face) (from_corners g (n + 1) faces)
    ∙ ap (λ (ys : List Y). ys ++ map k (from_corners g (n + 1) faces)) (map-map k (g n) face)
    ∙ ap (λ (ys : List Y). map (λ v. k (g n v)) face ++ ys) (mapped-corners k g (n + 1) faces)
  where
    map-map : (k : X → Y) (h : ℕ → X) (vs : List ℕ) → map k (map h vs) ≡ map (λ v. k (h v)) vs
    map-map k h [] = refl
    map-map k h (v ∷ vs) = ap (λ (ys : List Y). k (h v) ∷ ys) (map-map k h vs)

-- two ways to say it of each face are two ways to say it of all
listed-corners : {Y : Type 0} (h : ℕ → Y) (g : ℕ → ℕ → Y) (n : ℕ) (lists faces : List Polygon) → length lists ≡ length faces
    → ((f : ℕ) → f < length faces → map h (polygon_at lists f) ≡ map (g (n + f)) (polygon_at faces f)) → map h (joined_lists lists) ≡ from_corners g n faces
listed-corners h g n [] [] same each = refl
listed-corners h g n [] (face ∷ faces) same each = absurd (omega arith)
listed-corners h g n (list ∷ lists) [] same each = absurd (omega arith)
listed-corners {Y} h g n (list ∷ lists) (face ∷ faces) same each =
    let first : n + 0 ≡ n = omega arith in
    map-append h list (joined_lists lists)
    ∙ ap (λ (ys : List Y). ys ++ map h (joined_lists lists)) (each 0 (omega arith) ∙ ap (λ k. map (g k) face) first)
    ∙ ap (λ (ys : List Y). map (g n) face ++ ys)
    (listed-corners h g (n + 1) lists faces (omega arith) (λ f inside.
    let number : n + suc f ≡ n + 1 + f = omega arith in
    each (suc f) (omega arith) ∙ ap (λ k. map (g k) (polygon_at faces f)) number))

-- the vertices of the points of all corners are the corners
pub corner-vertices : (mesh : ObjMesh) → joined_lists mesh.faces ≡ map (λ point. point.0) (corner_points mesh)
corner-vertices mesh =
    sym (map-id (joined_lists mesh.faces))
    ∙ listed-corners (λ v. v) (λ f v. v) 0 mesh.faces mesh.faces refl (λ f inside. refl)
    ∙ sym (mapped-corners (λ (point : ℕ × ℕ). point.0) (channel_point mesh) 0 mesh.faces)

module _ (mesh : ObjMesh) (base : Topology) (cuttable : IsCuttable mesh base) where
  -- there are texture numbers for each face, as many as corners
  pub as-many : length mesh.texture_corners ≡ length mesh.faces
  as-many = sym (length-map mesh.texture_corners length) ∙ ap length (cuttable.within.textured cuttable.textured) ∙ length-map mesh.faces length

  pub as-long : (f : ℕ) → length (polygon_at mesh.texture_corners f) ≡ length (polygon_at mesh.faces f)
  as-long f = texture-length mesh base cuttable f ∙ ap (λ (faces : List Polygon). length (polygon_at faces f)) (same-faces mesh base cuttable)

  corner-value : (f c : ℕ) → f < length mesh.faces → c < length (polygon_at mesh.faces f) → get_or (polygon_at mesh.texture_corners f) c 0 ≡ texture_number mesh (channel_point mesh f (get_or (polygon_at mesh.faces f) c 0)).1 (get_or (polygon_at mesh.faces f) c 0)
  corner-value f c inside corner =
      let polygon : Polygon = polygon_at mesh.faces f in
      let v : ℕ = get_or polygon c 0 in
      let simple = sound-simple (length mesh.points) mesh.faces cuttable.accepted.manifold in
      let shape = and_parts (nat_le 3 (length polygon)) (is_distinct polygon) (all-at is_simple mesh.faces f [] inside simple) in
      sym (point-number-at mesh simple (sound-sides (length mesh.points) mesh.faces cuttable.accepted.manifold) f v (among-place v polygon c corner refl) ∙ ap (λ k. get_or (polygon_at mesh.texture_corners f) k 0) (corner-own polygon c shape.1 corner))

  face-values : (f : ℕ) → f < length mesh.faces → map (value_at mesh.texture) (polygon_at mesh.texture_corners f) ≡ map (λ v. value_of mesh (channel_point mesh f v)) (polygon_at mesh.faces f)
  face-values f inside =
      let corners : Polygon = polygon_at mesh.texture_corners f in
      let polygon : Polygon = polygon_at mesh.faces f in
      let long = as-long f in
      ext_get_or (pos 0, pos 0) (map (value_at mesh.texture) corners) (map (λ v. value_of mesh (channel_point mesh f v)) polygon) (length-map corners (value_at mesh.texture) ∙ long ∙ sym (length-map polygon (λ v. value_of mesh (channel_point mesh f v)))) (λ c h.
      let within : c < length polygon = omega (arith, h, long, length-map corners (value_at mesh.texture)) in
      get_or-map (value_at mesh.texture) corners c 0 (pos 0, pos 0) (omega arith)
      ∙ ap (value_at mesh.texture) (corner-value f c inside within)
      ∙ sym (get_or-map (λ v. value_of mesh (channel_point mesh f v)) polygon c 0 (pos 0, pos 0) within))

  -- the texture values of all corners are those of their points
  pub corner-values : map (value_at mesh.texture) (joined_lists mesh.texture_corners) ≡ map (value_of mesh) (corner_points mesh)
  corner-values =
      listed-corners (value_at mesh.texture) (λ f v. value_of mesh (channel_point mesh f v)) 0 mesh.texture_corners mesh.faces as-many (λ f inside.
      let number : f ≡ 0 + f = omega arith in
      face-values f inside ∙ ap (λ k. map (λ v. value_of mesh (channel_point mesh k v)) (polygon_at mesh.faces f)) number)
      ∙ sym (mapped-corners (value_of mesh) (channel_point mesh) 0 mesh.faces)
