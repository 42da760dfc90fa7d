-- The opposite corners at a point of the next level are the points of its faces.
use Rattle.std.proofs.Common.{◌≡◌, ℕ, Bool, true, false, nat_eq, nat_lt, ℤ, pos, ◌+ℤ◌, ◌*ℤ◌, List, [], ◌∷◌, map, refl, ap, sym, ◌∙◌}
use Rattle.std.specs.List.{list_all, count_by, enumerate_from}
use Rattle.std.proofs.Math.IntN.{zero-*ℤ}
use Rattle.subdiv_model.specs.Lists.{last_of}
use Rattle.subdiv_model.specs.Polygons.{Polygon, sides_of, has_corner, polygon_at}
use Rattle.subdiv_model.specs.Edges.{edges_of, faces_of_point}
use Rattle.subdiv_model.specs.Child.{face_point, edge_point, child_face, child_faces_along, child_faces, child_polygons}
use Rattle.subdiv_model.specs.Limit.{opposite_corner}
use Rattle.number_laws.proofs.CountLemmas.{one_if, count-cons}
use Rattle.number_laws.proofs.WholeNumberLemmas.{pos-sum}
use Rattle.mesh_laws.proofs.ChildCountLemmas.{corner-edge, corner-face}
use Rattle.mask_laws.proofs.SumLemmas.{sum_ℤ}
use Rattle.limit_laws.proofs.SumExchangeLemmas.{number_if, number-no, sum-agree, sum-flat, sum-map}
use Rattle.limit_laws.proofs.FaceStarLemmas.{sum-read, sum-unnumbered, all-numbered, is_plain_quad, plain-starts}

module _ (points : ℕ) (polygons : List Polygon) (v : ℕ) (below : nat_lt v points ≡ true) (g : ℕ → ℤ) where
  -- the number at the corner opposite to the point, where the polygon has the point
  abbrev across : Polygon → ℤ
  across quad = number_if (has_corner v quad) (g (opposite_corner v quad))

  -- a child face has the point where it begins with it, and the point of the face is opposite
  one-across : (k : ℕ) (before after : ℕ × ℕ) → across (child_face points polygons k before after) ≡ number_if (nat_eq v after.0) (g (face_point points k))
  one-across k before after = here (nat_eq v after.0) refl
    where
      e1 : nat_eq v (edge_point points polygons after) ≡ false
      e1 = corner-edge points polygons v after below

      e2 : nat_eq v (face_point points k) ≡ false
      e2 = corner-face points polygons v k below

      e3 : nat_eq v (edge_point points polygons before) ≡ false
      e3 = corner-edge points polygons v before below

      here : (b : Bool) → nat_eq v after.0 ≡ b → across (child_face points polygons k before after) ≡ number_if (nat_eq v after.0) (g (face_point points k))
      here true e = rw e refl
      here false e =
          let quad = child_face points polygons k before after in
          let none : has_corner v quad ≡ false = rw (e, e1, e2, e3) refl in
          number-no (has_corner v quad) (g (opposite_corner v quad)) none ∙ sym (number-no (nat_eq v after.0) (g (face_point points k)) e)

  along-across : (k : ℕ) (before : ℕ × ℕ) (sides : List (ℕ × ℕ)) → sum_ℤ across (child_faces_along points polygons k before sides) ≡ pos (count_by (λ s. nat_eq v s.0) sides) *ℤ g (face_point points k)
  along-across k before [] = sym (zero-*ℤ (g (face_point points k)))
  along-across k before (side ∷ sides) =
      ap (λ n. n +ℤ sum_ℤ across (child_faces_along points polygons k side sides)) (one-across k before side)
      ∙ ap (λ n. number_if (nat_eq v side.0) (g (face_point points k)) +ℤ n) (along-across k side sides)
      ∙ pos-sum (one_if (nat_eq v side.0)) (count_by (λ s. nat_eq v s.0) sides) (g (face_point points k))
      ∙ ap (λ n. pos n *ℤ g (face_point points k)) (sym (count-cons (λ s. nat_eq v s.0) side sides))

  module _ (plain : list_all (is_plain_quad (edges_of polygons)) polygons ≡ true) where
    face-across : (k : ℕ) (polygon : Polygon) → is_plain_quad (edges_of polygons) polygon ≡ true
        → sum_ℤ across (child_faces points polygons k polygon) ≡ number_if (has_corner v polygon) (g (face_point points k))
    face-across k polygon h =
        along-across k (last_of (0, 0) (sides_of polygon)) (sides_of polygon)
        ∙ ap (λ n. pos n *ℤ g (face_point points k)) (plain-starts v (edges_of polygons) polygon h)

    -- the opposite corners at the point are the points of its faces
    pub child-opposites : sum_ℤ g (map (λ f. opposite_corner v (polygon_at (child_polygons points polygons) f)) (faces_of_point (child_polygons points polygons) v))
        ≡ sum_ℤ (λ f. g (face_point points f)) (faces_of_point polygons v)
    child-opposites =
        let children = child_polygons points polygons in
        let numbered = enumerate_from 0 polygons in
        sum-map g (λ f. opposite_corner v (polygon_at children f)) (faces_of_point children v)
        ∙ sum-read [] children (λ f p. g (opposite_corner v p)) (has_corner v)
        ∙ sum-unnumbered across 0 children
        ∙ sum-flat across (λ face. child_faces points polygons face.0 face.1) numbered
        ∙ sum-agree (λ face. is_plain_quad (edges_of polygons) face.1) (λ face. sum_ℤ across (child_faces points polygons face.0 face.1))
        (λ face. number_if (has_corner v face.1) (g (face_point points face.0))) (λ face h. face-across face.0 face.1 h) numbered
        (all-numbered (is_plain_quad (edges_of polygons)) 0 polygons ∙ plain)
        ∙ sym (sum-read [] polygons (λ f p. g (face_point points f)) (has_corner v))
