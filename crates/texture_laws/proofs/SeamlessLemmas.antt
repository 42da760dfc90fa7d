-- In a manifold without seams all faces at a vertex are joined, and so each vertex with a face has one channel point.
use Rattle.std.proofs.Common.{◌≡◌, ℕ, ◌<◌, true, false, List, [], ◌∷◌, length, refl, ap, sym, ◌∙◌, ◌↔◌, IsTrue}
use Rattle.std.proofs.lemmas.Bool.{or_left, eq-eqb, false_from_ne_true, ltb-true}
use Rattle.subdiv_model.specs.Polygons.{Polygon, same_edge, sides_of, has_edge, has_corner, is_among, polygon_at}
use Rattle.subdiv_model.specs.Edges.{edges_of}
use Rattle.subdiv_model.specs.Manifold.{IsSuccessor, IsPath}
use Rattle.subdiv_model.specs.ObjMesh.{ObjMesh}
use Rattle.subdiv_model.specs.Cut.{is_seam, joined_faces, channel_point}
use Rattle.number_laws.proofs.CountLemmas.{any-weaker}
use Rattle.mesh_laws.proofs.ClosedLemmas.{any-side-edge}
use Rattle.mesh_laws.proofs.ChildCornerLemmas.{corner-point}
use Rattle.mesh_laws.proofs.FanLemmas.{side-end, side-start}
use Rattle.texture_laws.specs.CutMesh.{cut_point_count, point_of, vertex_of}
use Rattle.texture_laws.specs.Seamless.{IsSeamlessManifold}
use Rattle.texture_laws.proofs.ChannelLemmas.{channel-vertex, channel-used}
use Rattle.texture_laws.proofs.ChainLemmas.{IsLinked, linked-all}
use Rattle.texture_laws.proofs.JoinLemmas.{are_near, near-from, near-back, edge-same, turned-edge, edge-listed, seam-alike, joins-itself, joins-near, same-point, number-point, point-number}

pub path-linked : (polygons : List Polygon) (v : ℕ) (R : ℕ → ℕ → Type 0) → ((f g : ℕ) → IsSuccessor polygons v f g → R f g) → (faces : List ℕ) → IsPath polygons v faces → IsLinked R faces
path-linked polygons v R each [] path = tt
path-linked polygons v R each (f ∷ []) path = tt
path-linked polygons v R each (f ∷ (g ∷ rest)) path = (each f g path.0, path-linked polygons v R each (g ∷ rest) path.1)

module _ (mesh : ObjMesh) where
  -- a face and its successor through an edge that is no seam are near
  pub successor-near : (v f g : ℕ) → (is : IsSuccessor mesh.faces v f g) → is_seam mesh (v, is.corner) ≡ false → are_near mesh v f g ≡ true
  successor-near v f g is joins =
      let at_f = any-side-edge (v, is.corner) (sides_of (polygon_at mesh.faces f)) is.follows in
      let at_g = any-side-edge (is.corner, v) (sides_of (polygon_at mesh.faces g)) is.leads_back in
      near-from mesh v f g (v, is.corner) (or_left _ _ (eq-eqb v v refl)) joins at_f (edge-same (v, is.corner) (is.corner, v) (turned-edge v is.corner) (sides_of (polygon_at mesh.faces g)) ∙ at_g)

  -- two faces are near at v
  abbrev pub AreNearHere : ℕ → ℕ → ℕ → Type 0
  AreNearHere v f g = (are_near mesh v f g ≡ true) × (has_corner v (polygon_at mesh.faces f) ≡ true) × (has_corner v (polygon_at mesh.faces g) ≡ true)

  pub successor-near-here : (v f g : ℕ) → (is : IsSuccessor mesh.faces v f g) → is_seam mesh (v, is.corner) ≡ false → AreNearHere v f g
  successor-near-here v f g is joins =
      (successor-near v f g is joins, side-start (polygon_at mesh.faces f) (v, is.corner) is.follows, side-end (polygon_at mesh.faces g) (is.corner, v) is.leads_back)

  -- faces that are linked from near to near at v are joined there
  pub linked-joined : (v f g : ℕ) (faces : List ℕ) → IsLinked (AreNearHere v) faces → has_corner v (polygon_at mesh.faces f) ≡ true → is_among faces f ≡ true → is_among faces g ≡ true → is_among (joined_faces mesh v f) g ≡ true
  linked-joined v f g faces linked at_f there_f there_g =
      linked-all (AreNearHere v) (λ n. is_among (joined_faces mesh v f) n ≡ true) (λ k m close one. joins-near mesh v f k m at_f close.0 close.2 one) (λ k m close one. joins-near mesh v f m k at_f (near-back mesh v k m close.0) close.1 one) f g faces linked (joins-itself mesh v f at_f) there_f there_g

  module _ (is : IsSeamlessManifold mesh) where
    no-seam : (face : ℕ) (edge : ℕ × ℕ) → has_edge edge (polygon_at mesh.faces face) ≡ true → is_seam mesh edge ≡ false
    no-seam face edge h =
        false_from_ne_true _ (λ seam.
        let some = any-weaker (same_edge edge) (is_seam mesh) (λ e k. sym (seam-alike mesh edge e k) ∙ seam) (edges_of mesh.faces) (edge-listed mesh.faces face edge h) in
        let none = is.no_seams in
        cc)

    pub all-joined : (v f g : ℕ) → has_corner v (polygon_at mesh.faces f) ≡ true → has_corner v (polygon_at mesh.faces g) ≡ true → is_among (joined_faces mesh v f) g ≡ true
    all-joined v f g at_f at_g =
        let one = is.manifold.fans v (ltb-true _ _ (corner-point (length mesh.points) mesh.faces f v is.over at_f)) in
        linked-joined v f g one.fan (path-linked mesh.faces v (AreNearHere v) (λ k m next. successor-near-here v k m next (no-seam k (v, next.corner) (any-side-edge (v, next.corner) (sides_of (polygon_at mesh.faces k)) next.follows))) one.fan one.path) at_f ((one.all f).1 at_f) ((one.all g).1 at_g)

    -- the faces at a vertex have one channel point, and no other vertex has it
    pub seamless-number : (f g v w : ℕ) → IsTrue (has_corner v (polygon_at mesh.faces f)) → IsTrue (has_corner w (polygon_at mesh.faces g)) → (point_of mesh f v ≡ point_of mesh g w) ↔ (v ≡ w)
    seamless-number f g v w at_f at_g =
        (λ e. ap (λ (s : ℕ × ℕ). s.0) (number-point mesh f g v w at_f at_g e), λ e. point-number mesh f g v w at_f at_g (same e))
      where
        same : v ≡ w → channel_point mesh f v ≡ channel_point mesh g w
        same e =
            let there = ap (λ (n : ℕ). has_corner n (polygon_at mesh.faces g)) e ∙ at_g in
            same-point mesh v f g at_f (all-joined v f g at_f there) ∙ ap (channel_point mesh g) e

    pub seamless-once : (p q : ℕ) → p < cut_point_count mesh → q < cut_point_count mesh → vertex_of mesh p ≡ vertex_of mesh q → p ≡ q
    seamless-once p q hp hq e =
        let at_p = channel-used mesh p hp in
        let at_q = channel-used mesh q hq in
        let vertex_p = sym (ap (vertex_of mesh) at_p.3) ∙ channel-vertex mesh at_p.0 at_p.1 at_p.2 in
        let vertex_q = sym (ap (vertex_of mesh) at_q.3) ∙ channel-vertex mesh at_q.0 at_q.1 at_q.2 in
        sym at_p.3 ∙ (seamless-number at_p.0 at_q.0 at_p.1 at_q.1 at_p.2 at_q.2).1 (sym vertex_p ∙ e ∙ vertex_q) ∙ at_q.3
