-- All faces at a new point are present exactly if all vertices of the point are on selected faces.
use Rattle.std.proofs.Common.{◌≡◌, ℕ, ◌+◌, ◌<◌, true, List, [], ◌∷◌, length, arith, refl, ap, sym, ◌∙◌, subst, inl, inr}
use Rattle.std.specs.List.{list_all}
use Rattle.std.proofs.lemmas.Bool.{and_parts, eq-eqb}
use Rattle.subdiv_model.specs.Lists.{places}
use Rattle.subdiv_model.specs.Polygons.{Polygon, has_corner, is_among, polygon_at}
use Rattle.subdiv_model.specs.Edges.{edges_of, edge_number, faces_of_point}
use Rattle.subdiv_model.specs.Child.{edge_point, child_polygons}
use Rattle.subdiv_model.specs.Sparse.{child_number, corners_of, is_on}
use Rattle.mesh_laws.proofs.FanLemmas.{faces-among, number-any}
use Rattle.mesh_laws.proofs.EdgeLemmas.{position-alike, any-alike}
use Rattle.number_laws.proofs.CountLemmas.{all-weaker}
use Rattle.level_laws.proofs.FaceLemmas.{child_polygons-length}
use Rattle.part_laws.specs.Parts.{IsPart, IsWholeAt, is_corner, renamed, face_in}
use Rattle.part_laws.specs.LevelParts.{LevelPart}
use Rattle.part_laws.specs.Children.{edge_at, child_name, children_in, IsOverPoints}
use Rattle.part_laws.specs.Values.{Old, NewOfFace, NewOfEdge}
use Rattle.part_laws.proofs.PartLemmas.{as-many, whole-along}
use Rattle.part_laws.proofs.NameLemmas.{edge-there}
use Rattle.part_laws.proofs.JoinLemmas.{corner-named, corner-unnamed}
use Rattle.part_laws.proofs.SelfLemmas.{among-at}
use Rattle.part_laws.proofs.PlaceLemmas.{first_place, owner}
use Rattle.part_laws.proofs.ChildLemmas.{IsNew, kind, child-part, child-places, next-whole}
use Rattle.sparse_laws.specs.NextSparse.{vertex_at, vertices_of, has_all_faces}
use Rattle.sparse_laws.proofs.SelectedLemmas.{among-all}
use Rattle.sparse_laws.proofs.CornerLemmas.{HasChild, all-among, all-own, each-vertex, own-vertex, vertices-old, vertices-edge}
use Rattle.sparse_laws.proofs.PresentLemmas.{Selection, present-at}
use Rattle.mesh_laws.proofs.WalkLemmas.{same-tests}

module _ (s : Selection) where
  -- the next level of the part and that of the whole
  abbrev pub kids : List Polygon
  kids = child_polygons s.part.point_count s.part.polygons

  abbrev pub kids_there : List Polygon
  kids_there = child_polygons s.whole.point_count s.whole.polygons

  abbrev pub kid : ℕ → ℕ
  kid n = child_name s.name s.numbers s.part s.whole n

  abbrev pub kid_numbers : List ℕ
  kid_numbers = children_in s.whole.polygons s.numbers

  pub kid-part : IsPart (kid) (kid_numbers) (kids) (kids_there)
  kid-part = child-part s.name s.numbers s.part s.whole s.is.polygons s.whole_over s.over

  abbrev level_part : LevelPart
  level_part = record {
    name = s.name;
    faces = s.numbers;
    level = s.part;
    whole = s.whole;
    is_part = s.is;
  }

  over_points : IsOverPoints level_part
  over_points = record { level = s.over; whole = s.whole_over }

  -- the part has all faces of the next level at the point
  kid-whole : (n : ℕ) → IsNew s.part.point_count s.part.polygons n → list_all (is_on s.part.polygons s.some) (vertices_of s.part n) ≡ true → IsWholeAt kid_numbers kids_there (kid n)
  kid-whole n (inl a) all =
      let here : list_all (is_on s.part.polygons s.some) (n ∷ []) ≡ true = ap (list_all (is_on s.part.polygons s.some)) (sym (vertices-old s.part s.over n a.0)) ∙ all in
      let on = (and_parts (is_on s.part.polygons s.some n) true here).0 in
      next-whole level_part over_points (Old (record { point = n; is_there = a.1; has_all = s.has_all n on }))
  kid-whole n (inr (inl b)) all =
      subst (λ m. IsWholeAt kid_numbers kids_there (kid m)) (sym b.2) (next-whole level_part over_points (NewOfFace b.0 b.1))
  kid-whole n (inr (inr e)) all =
      let edge = edge_at s.part.polygons (edge_number s.part.polygons e.0) in
      let there = edge-there s.part.polygons e.0 e.1 in
      let here : list_all (is_on s.part.polygons s.some) (edge.0 ∷ edge.1 ∷ []) ≡ true = ap (list_all (is_on s.part.polygons s.some)) (sym (vertices-edge s.part s.over e.0)) ∙ ap (λ m. list_all (is_on s.part.polygons s.some) (vertices_of s.part m)) (sym e.2) ∙ all in
      let on = (and_parts (is_on s.part.polygons s.some edge.0) _ here).0 in
      let self = eq-eqb (s.name edge.0) (s.name edge.0) refl in
      let along = whole-along s.numbers s.whole.polygons (s.name edge.0) (renamed s.name edge) (rw self refl) (s.has_all edge.0 on) in
      let same : edge_point s.part.point_count s.part.polygons edge ≡ n = ap (λ m. s.part.point_count + length s.part.polygons + m) (sym (position-alike e.0 edge (edges_of s.part.polygons) there)) ∙ sym e.2 in
      subst (λ m. IsWholeAt kid_numbers kids_there (kid m)) same
      (next-whole level_part over_points (NewOfEdge (record { edge = edge; is_edge = any-alike e.0 edge (edges_of s.part.polygons) there e.1; has_all = along })))

  abbrev present_faces : List ℕ
  present_faces = places (is_on s.whole.polygons s.others) (corners_of s.whole.polygons)

  -- all faces at the point are present
  present-from : (n : ℕ) → is_corner kids n ≡ true → list_all (is_on s.part.polygons s.some) (vertices_of s.part n) ≡ true → IsWholeAt present_faces kids_there (kid n)
  present-from n there all m at =
      let among = kid-whole n (kind s.part.point_count s.part.polygons s.over n there) all m at in
      let found = among-at kid_numbers m among in
      let j = found.0 in
      let below : j < length kids = omega (arith, found.1, as-many kid kid_numbers kids kids_there kid-part) in
      let corner = corner-unnamed kid kid_numbers kids kids_there kid-part n j there below (ap (λ i. has_corner (kid n) (polygon_at kids_there i)) (sym found.2) ∙ at) in
      let own = owner s.part.polygons j (omega (arith, below, child_polygons-length s.part.point_count s.part.polygons)) in
      ap (is_among present_faces) found.2 ∙ go j own.0 own.1 own.2 own.3 own.4 corner
    where
      go : (j f c : ℕ) → f < length s.part.polygons → c < length (polygon_at s.part.polygons f) → j ≡ first_place s.part.polygons f + c → has_corner n (polygon_at kids j) ≡ true → is_among present_faces (face_in kid_numbers j) ≡ true
      go j f c h k e corner =
          let vertex = own-vertex s.part s.over f c n h k (ap (λ i. has_corner n (polygon_at kids i)) (sym e) ∙ corner) in
          ap (λ i. is_among present_faces (face_in kid_numbers i)) e
          ∙ ap (is_among present_faces) (child-places s.name s.numbers s.part s.whole s.is.polygons f c h k)
          ∙ present-at s f c h k
          ∙ among-all (is_on s.part.polygons s.some) (vertices_of s.part n) (vertex_at s.part.polygons (f, c)) vertex all

  -- if all faces at the point are present, each of its vertices is on a selected face
  on-from : (n : ℕ) → is_corner kids n ≡ true → IsWholeAt present_faces kids_there (kid n) → (w : ℕ) → is_among (vertices_of s.part n) w ≡ true → is_on s.part.polygons s.some w ≡ true
  on-from n there all w among = go (each-vertex s.part s.over w n (kind s.part.point_count s.part.polygons s.over n there) among)
    where
      go : HasChild s.part s.over w n → is_on s.part.polygons s.some w ≡ true
      go c =
          let j = child_number s.part.polygons (c.face, c.place) in
          let at = corner-named kid kid_numbers kids kids_there kid-part n j c.there in
          let number = child-places s.name s.numbers s.part s.whole s.is.polygons c.face c.place c.is_face c.is_corner in
          ap (is_on s.part.polygons s.some) (sym c.vertex)
          ∙ sym (present-at s c.face c.place c.is_face c.is_corner)
          ∙ ap (is_among present_faces) (sym number)
          ∙ all (face_in kid_numbers j) at

  whole-test : (v : ℕ) → IsWholeAt present_faces kids_there v → list_all (is_among present_faces) (faces_of_point kids_there v) ≡ true
  whole-test v all = all-among (is_among present_faces) (faces_of_point kids_there v) (λ m h. all m (sym (faces-among kids_there v m) ∙ h))

  whole-from-test : (v : ℕ) → list_all (is_among present_faces) (faces_of_point kids_there v) ≡ true → IsWholeAt present_faces kids_there v
  whole-from-test v all m h = among-all (is_among present_faces) (faces_of_point kids_there v) m (faces-among kids_there v m ∙ h) all

  pub complete-same : (n : ℕ) → is_corner (kids) n ≡ true → has_all_faces s.part s.some n ≡ list_all (is_among (places (is_on s.whole.polygons s.others) (corners_of s.whole.polygons))) (faces_of_point (kids_there) (kid n))
  complete-same n there =
      same-tests (has_all_faces s.part s.some n) (list_all (is_among present_faces) (faces_of_point kids_there (kid n)))
      (λ all. whole-test (kid n) (present-from n there all))
      (λ all. all-among (is_on s.part.polygons s.some) (vertices_of s.part n) (λ w h. on-from n there (whole-from-test (kid n) all) w h))

  -- each corner of a child of a selected face has all its vertices on that face
  pub inner-complete : (f c n : ℕ) → f < length s.part.polygons → c < length (polygon_at s.part.polygons f) → is_among s.some f ≡ true → has_corner n (polygon_at (kids) (child_number s.part.polygons (f, c))) ≡ true → has_all_faces s.part s.some n ≡ true
  inner-complete f c n h k chosen at =
      all-weaker (λ w. has_corner w (polygon_at s.part.polygons f)) (is_on s.part.polygons s.some) (λ w there. number-any (λ i. has_corner w (polygon_at s.part.polygons i)) s.some f there chosen) (vertices_of s.part n) (all-own s.part s.over f c n h k at)
