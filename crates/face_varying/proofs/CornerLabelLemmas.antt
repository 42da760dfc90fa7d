-- If each vertex has its labels, the labels of corners are equal exactly where the corners have one channel point.
use Rattle.std.proofs.Common.{◌≡◌, ℕ, ◌+◌, ◌<◌, Bool, true, List, [], length, get_or, arith, refl, ap, sym, ◌∙◌, subst, ◌↔◌}
use Rattle.std.specs.List.{All, sum_by}
use Rattle.std.proofs.lemmas.List.{get_or_default}
use Rattle.subdiv_model.specs.Polygons.{Polygon, has_corner, polygon_at}
use Rattle.subdiv_model.specs.ObjMesh.{ObjMesh}
use Rattle.subdiv_model.specs.Cut.{channel_point}
use Rattle.mesh_laws.proofs.SideLemmas.{among-place}
use Rattle.mesh_laws.proofs.FanLemmas.{distinct-at}
use Rattle.texture_laws.proofs.JoinLemmas.{same-point, point-same}
use Rattle.level_topology.specs.Topology.{Topology, IsTopology, corner_of}
use Rattle.face_varying.specs.Corners.{AreLabels, apart_marks, corner_points}
use Rattle.face_varying.specs.CornerPlaces.{start_of, corner_at}
use Rattle.face_varying.specs.Cut.{IsCuttable}
use Rattle.face_varying.specs.Fans.{HasRuns, face_count}
use Rattle.face_varying.proofs.CornerLemmas.{corners-length, place-of-corner, IsCornerAt, corner-of-place, place-below, place-once}
use Rattle.face_varying.proofs.CuttableLemmas.{same-faces, same-points}
use Rattle.face_varying.proofs.EdgeSideLemmas.{corner-own}
use Rattle.face_varying.proofs.FanPlaceLemmas.{face_in, face-there}
use Rattle.face_varying.proofs.JoinedRunLemmas.{joined-label, label-joined}

module _ (mesh : ObjMesh) (t : Topology) (cuttable : IsCuttable mesh t) (is : IsTopology t) (apart : List Bool) (marks : apart ≡ apart_marks mesh)
    (labels : List ℕ) (size : length labels ≡ sum_by length t.level.polygons) (runs : (v : ℕ) → v < t.level.point_count → HasRuns t apart v (face_count t v) labels) where
  abbrev faces : List Polygon
  faces = t.level.polygons

  -- the label of a face at a vertex
  abbrev label : ℕ → ℕ → ℕ
  label v f = get_or labels (corner_at faces v f) 0

  abbrev vertex : ℕ → ℕ → ℕ
  vertex f c = get_or (polygon_at faces f) c 0

  abbrev On : ℕ → ℕ → Type 0
  On f v = has_corner v (polygon_at faces f) ≡ true

  to-mesh : (f v : ℕ) → On f v → has_corner v (polygon_at mesh.faces f) ≡ true
  to-mesh f v h = ap (λ (polygons : List Polygon). has_corner v (polygon_at polygons f)) (sym (same-faces mesh t cuttable)) ∙ h

  vertex-exists : (f c : ℕ) → f < length faces → c < length (polygon_at faces f) → vertex f c < t.level.point_count
  vertex-exists f c exists within =
      let All-in : List Polygon → Type 0 = λ polygons. All (λ face. All (λ v. v < length mesh.points) face) polygons in
      let all : All-in faces = subst All-in (sym (same-faces mesh t cuttable)) cuttable.within.faces in
      omega (arith, all f [] exists c 0 within, same-points mesh t cuttable)

  on-own : (f c : ℕ) → c < length (polygon_at faces f) → On f (vertex f c)
  on-own f c within = among-place (vertex f c) (polygon_at faces f) c within refl

  -- a corner has the label of its face at its vertex
  label-own : (f c : ℕ) → c < length (polygon_at faces f) → get_or labels (start_of faces f + c) 0 ≡ label (vertex f c) f
  label-own f c within = ap (λ (k : ℕ). get_or labels (start_of faces f + k) 0) (sym (corner-own (polygon_at faces f) c (distinct-at faces f is.simple) within))

  -- a corner and its channel point
  point-own : (f c : ℕ) → f < length faces → c < length (polygon_at faces f) → get_or (corner_points mesh) (start_of faces f + c) (0, 0) ≡ channel_point mesh f (vertex f c)
  point-own f c exists within =
      ap (λ (polygons : List Polygon). get_or (corner_points mesh) (start_of polygons f + c) (0, 0)) (same-faces mesh t cuttable)
      ∙ place-of-corner (channel_point mesh) mesh.faces f c (0, 0)
      (subst (λ (polygons : List Polygon). f < length polygons) (same-faces mesh t cuttable) exists)
      (subst (λ (polygons : List Polygon). c < length (polygon_at polygons f)) (same-faces mesh t cuttable) within)
      ∙ ap (λ (polygons : List Polygon). channel_point mesh f (get_or (polygon_at polygons f) c 0)) (sym (same-faces mesh t cuttable))

  -- a face at a vertex that is joined with this one, and whose corner is the label
  record HasLabel (v f : ℕ) : Type 0 where
    pub owner : ℕ
    pub exists : owner < length faces
    pub within : corner_of faces v owner < length (polygon_at faces owner)
    pub there : get_or (polygon_at faces owner) (corner_of faces v owner) 0 ≡ v
    pub labelled : label v f ≡ corner_at faces v owner
    pub point : channel_point mesh f v ≡ channel_point mesh owner v

  has-label : (v f : ℕ) → v < t.level.point_count → On f v → HasLabel v f
  has-label v f inside on =
      let found = label-joined mesh t cuttable is v inside apart marks labels (runs v inside) f on in
      let owner = face_in t is v inside found.0 in
      let place = face-there t is v inside found.0 found.1 in
      record {
        owner = owner;
        exists = place.exists;
        within = place.within;
        there = place.there;
        labelled = found.2;
        point = same-point mesh v f owner (to-mesh f v on) found.3;
      }

  -- equal labels are of one channel point
  labels-points : (f c g d : ℕ) → f < length faces → c < length (polygon_at faces f) → g < length faces → d < length (polygon_at faces g) → label (vertex f c) f ≡ label (vertex g d) g → channel_point mesh f (vertex f c) ≡ channel_point mesh g (vertex g d)
  labels-points f c g d exists within exists_g within_g e =
      let one = has-label (vertex f c) f (vertex-exists f c exists within) (on-own f c within) in
      let two = has-label (vertex g d) g (vertex-exists g d exists_g within_g) (on-own g d within_g) in
      let same = place-once faces one.owner (corner_of faces (vertex f c) one.owner) two.owner (corner_of faces (vertex g d) two.owner) one.exists one.within two.exists two.within (sym one.labelled ∙ e ∙ two.labelled) in
      let vertices : vertex f c ≡ vertex g d = sym one.there ∙ ap (λ (n : ℕ). get_or (polygon_at faces n) (corner_of faces (vertex f c) one.owner) 0) same.0 ∙ ap (λ (n : ℕ). get_or (polygon_at faces two.owner) n 0) same.1 ∙ two.there in
      one.point ∙ ap (λ (n : ℕ). channel_point mesh n (vertex f c)) same.0 ∙ ap (channel_point mesh two.owner) vertices ∙ sym two.point

  -- one channel point has one label
  points-labels : (f c g d : ℕ) → f < length faces → c < length (polygon_at faces f) → d < length (polygon_at faces g) → channel_point mesh f (vertex f c) ≡ channel_point mesh g (vertex g d) → label (vertex f c) f ≡ label (vertex g d) g
  points-labels f c g d exists within within_g e =
      let v = vertex f c in
      let inside = vertex-exists f c exists within in
      let vertices : v ≡ vertex g d = ap (λ (p : ℕ × ℕ). p.0) e in
      let on : On g v = subst (λ (n : ℕ). On g n) (sym vertices) (on-own g d within_g) in
      let point : channel_point mesh f v ≡ channel_point mesh g v = e ∙ ap (channel_point mesh g) (sym vertices) in
      let joined = point-same mesh v f g (to-mesh f v (on-own f c within)) (to-mesh g v on) point in
      sym (joined-label mesh t cuttable is v inside apart marks labels (runs v inside) f g (on-own f c within) joined) ∙ ap (λ (n : ℕ). label n g) vertices

  pub corner-labels : AreLabels (corner_points mesh) labels
  corner-labels = record {
    each = size ∙ ap (sum_by length) (same-faces mesh t cuttable) ∙ sym (corners-length (channel_point mesh) 0 mesh.faces);
    within = λ k d h. below k d h (corner-of-place faces k (omega (arith, size, h)));
    same = λ i j hi hj. alike i j (corner-of-place faces i (omega (arith, hi, count))) (corner-of-place faces j (omega (arith, hj, count)));
  }
    where
      count : length (corner_points mesh) ≡ sum_by length faces
      count = corners-length (channel_point mesh) 0 mesh.faces ∙ sym (ap (sum_by length) (same-faces mesh t cuttable))

      below : (k d : ℕ) → k < length labels → IsCornerAt faces k → get_or labels k d < length labels
      below k d h at =
          let v = vertex at.face at.corner in
          let has = has-label v at.face (vertex-exists at.face at.corner at.exists at.within) (on-own at.face at.corner at.within) in
          let value : get_or labels k 0 ≡ corner_at faces v has.owner = ap (λ (n : ℕ). get_or labels n 0) at.place ∙ label-own at.face at.corner at.within ∙ has.labelled in
          omega (arith, get_or_default labels k d 0 h, value, place-below faces has.owner (corner_of faces v has.owner) has.exists has.within, size)

      alike : (i j : ℕ) → IsCornerAt faces i → IsCornerAt faces j → (get_or labels i 0 ≡ get_or labels j 0) ↔ (get_or (corner_points mesh) i (0, 0) ≡ get_or (corner_points mesh) j (0, 0))
      alike i j at_i at_j = (
        λ e. point i at_i ∙ labels-points at_i.face at_i.corner at_j.face at_j.corner at_i.exists at_i.within at_j.exists at_j.within (sym (label-at i at_i) ∙ e ∙ label-at j at_j) ∙ sym (point j at_j),
        λ e. label-at i at_i ∙ points-labels at_i.face at_i.corner at_j.face at_j.corner at_i.exists at_i.within at_j.within (sym (point i at_i) ∙ e ∙ point j at_j) ∙ sym (label-at j at_j),
      )
        where
          label-at : (k : ℕ) → (at : IsCornerAt faces k) → get_or labels k 0 ≡ label (vertex at.face at.corner) at.face
          label-at k at = ap (λ (n : ℕ). get_or labels n 0) at.place ∙ label-own at.face at.corner at.within

          point : (k : ℕ) → (at : IsCornerAt faces k) → get_or (corner_points mesh) k (0, 0) ≡ channel_point mesh at.face (vertex at.face at.corner)
          point k at = ap (λ (n : ℕ). get_or (corner_points mesh) n (0, 0)) at.place ∙ point-own at.face at.corner at.exists at.within
