-- A level as a part of itself, of which some faces are selected.
use Rattle.std.proofs.Common.{◌≡◌, ℕ, ◌+◌, ◌<◌, Bool, true, nat_lt, List, length, map, arith, ap, sym, ◌∙◌}
use Rattle.std.specs.List.{list_all, range_with_len}
use Rattle.std.proofs.lemmas.Bool.{and_parts, lt-ltb, ltb-true}
use Rattle.std.proofs.lemmas.List.{map-id}
use Rattle.std.proofs.lemmas.List.FromFn.{get_or-range_with_len}
use Rattle.std.proofs.lemmas.List.Sums.{list_all-from_AllPass}
use Rattle.subdiv_model.specs.Lists.{places}
use Rattle.subdiv_model.specs.Polygons.{has_corner, is_among, is_over, polygon_at}
use Rattle.subdiv_model.specs.Level.{Level}
use Rattle.subdiv_model.specs.Child.{child_polygons}
use Rattle.subdiv_model.specs.Sparse.{child_number, corners_of, is_on}
use Rattle.mesh_laws.proofs.ChildCornerLemmas.{corner-place}
use Rattle.level_laws.proofs.FaceLemmas.{child_polygons-length}
use Rattle.part_laws.specs.Parts.{IsWholeAt, face_in}
use Rattle.part_laws.proofs.ListLemmas.{map-agree}
use Rattle.part_laws.proofs.PlaceLemmas.{bounded, first_place, owner, owner-below}
use Rattle.part_laws.proofs.SelfLemmas.{self-level, self-whole}
use Rattle.sparse_laws.specs.NextSparse.{has_all_faces, next_children, next_places, vertex_at, vertices_of}
use Rattle.sparse_laws.proofs.CornerLemmas.{own-vertex}
use Rattle.sparse_laws.proofs.InnerLemmas.{places-ascend}
use Rattle.sparse_laws.proofs.NumberLemmas.{among-places, corner-read, corners-length, is_place}
use Rattle.sparse_laws.proofs.PresentLemmas.{Selection, all-chosen, number_there, numbers-same}
use Rattle.sparse_laws.proofs.SelectedLemmas.{among-all}
use Rattle.sparse_level.specs.Places.{marked}

-- marked faces are faces
pub marked-within : (marks : List Bool) (count : ℕ) → length marks ≡ count → list_all (λ f. nat_lt f count) (marked marks) ≡ true
marked-within marks count e = list_all-from_AllPass (λ f. nat_lt f count) (marked marks) (λ k d h. lt-ltb _ _ (omega (arith, e, bounded 0 (0 + length marks) (marked marks) (places-ascend (λ mark. mark) 0 marks) k d h)))

module _ (level : Level) (over : is_over level.point_count level.polygons ≡ true) (some : List ℕ) (within : list_all (λ f. nat_lt f (length level.polygons)) some ≡ true) where
  number-read : (f : ℕ) → nat_lt f (length level.polygons) ≡ true → face_in (range_with_len 0 (length level.polygons)) f ≡ f
  number-read f h = omega (arith, get_or-range_with_len 0 (length level.polygons) f 0 (ltb-true _ _ h))

  pub same-faces : map (face_in (range_with_len 0 (length level.polygons))) some ≡ some
  same-faces = map-agree (λ f. nat_lt f (length level.polygons)) (face_in (range_with_len 0 (length level.polygons))) (λ f. f) number-read some within ∙ map-id some

  abbrev pub selection : Selection
  selection = record {
    name = λ p. p;
    numbers = range_with_len 0 (length level.polygons);
    part = level;
    whole = level;
    is = self-level level;
    over = over;
    whole_over = over;
    some = some;
    others = some;
    same = same-faces;
    within = within;
    has_all = λ w on. self-whole level.polygons w;
  }

  number-same : (place : ℕ × ℕ) → is_place level.polygons place ≡ true → number_there selection place ≡ child_number level.polygons place
  number-same place h =
      let parts = and_parts (nat_lt place.0 (length level.polygons)) (nat_lt place.1 (length (polygon_at level.polygons place.0))) h in
      ap (λ f. first_place level.polygons f + place.1) (number-read place.0 parts.0)

  -- the present child faces are the corners with a vertex on a selected face
  children-are : places (is_on level.polygons some) (corners_of level.polygons) ≡ next_children level.polygons some
  children-are = numbers-same selection ∙ map-agree (is_place level.polygons) (number_there selection) (child_number level.polygons) number-same (next_places level.polygons some) (all-chosen selection)

  pub child-there : (f c : ℕ) → f < length level.polygons → c < length (polygon_at level.polygons f) → is_among (next_children level.polygons some) (child_number level.polygons (f, c)) ≡ is_on level.polygons some (vertex_at level.polygons (f, c))
  child-there f c h k =
      ap (λ ns. is_among ns (child_number level.polygons (f, c))) (sym children-are)
      ∙ among-places (is_on level.polygons some) 0 (child_number level.polygons (f, c)) (corners_of level.polygons) (omega (arith, owner-below level.polygons f c h k, corners-length level.polygons))
      ∙ ap (is_on level.polygons some) (corner-read level.polygons f c h k)

  -- a child face is that of a corner
  pub record ChildAt (m : ℕ) : Type 0 where
    pub face : ℕ
    pub place : ℕ
    pub is_face : face < length level.polygons
    pub is_corner : place < length (polygon_at level.polygons face)
    pub number : m ≡ child_number level.polygons (face, place)

  pub child-at : (m n : ℕ) → has_corner n (polygon_at (child_polygons level.point_count level.polygons) m) ≡ true → ChildAt m
  child-at m n at =
      let kids = child_polygons level.point_count level.polygons in
      let own = owner level.polygons m (omega (arith, corner-place kids m n at, child_polygons-length level.point_count level.polygons)) in
      record { face = own.0; place = own.1; is_face = own.2; is_corner = own.3; number = own.4 }

  -- the vertex of a child face is one that each of its corners comes from
  pub vertex-of : (m n : ℕ) → has_corner n (polygon_at (child_polygons level.point_count level.polygons) m) ≡ true → (c : ChildAt m) → is_among (vertices_of level n) (vertex_at level.polygons (c.face, c.place)) ≡ true
  vertex-of m n at c = own-vertex level over c.face c.place n c.is_face c.is_corner (ap (λ i. has_corner n (polygon_at (child_polygons level.point_count level.polygons) i)) (sym c.number) ∙ at)

  pub child-on : (m : ℕ) (c : ChildAt m) → is_among (next_children level.polygons some) m ≡ is_on level.polygons some (vertex_at level.polygons (c.face, c.place))
  child-on m c = ap (is_among (next_children level.polygons some)) c.number ∙ child-there c.face c.place c.is_face c.is_corner

  -- if all vertices that a point comes from lie on selected faces, all child faces at the point are present
  pub whole-at : (n : ℕ) → has_all_faces level some n ≡ true → IsWholeAt (next_children level.polygons some) (child_polygons level.point_count level.polygons) n
  whole-at n all m at =
      let c = child-at m n at in
      child-on m c ∙ among-all (is_on level.polygons some) (vertices_of level n) (vertex_at level.polygons (c.face, c.place)) (vertex-of m n at c) all
