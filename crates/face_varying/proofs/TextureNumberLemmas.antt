-- The texture number of a face at a vertex: at a corner of the face, and of faces that are joined there.
use Rattle.std.proofs.Common.{◌≡◌, ℕ, ◌+◌, ◌≤◌, true, false, ◌||◌, nat_eq, List, [], ◌∷◌, length, get_or, arith, refl, ap, sym, ◌∙◌, ◌⊎◌, inl, inr}
use Rattle.std.specs.List.{list_all}
use Rattle.std.proofs.lemmas.Bool.{or_cases, or_parts, or_left, eqb-true, eq-eqb, not-false}
use Rattle.subdiv_model.specs.Polygons.{Polygon, polygon_at, is_among, has_corner, has_edge, has_distinct_sides}
use Rattle.subdiv_model.specs.Edges.{all_sides, faces_of_edge, has_end}
use Rattle.subdiv_model.specs.Manifold.{is_simple}
use Rattle.subdiv_model.specs.ObjMesh.{ObjMesh}
use Rattle.subdiv_model.specs.Cut.{texture_number, differ_at, is_seam_of, joined_faces, channel_point}
use Rattle.mesh_laws.proofs.SideLemmas.{distinct-count, edge-count-le}
use Rattle.mesh_laws.proofs.EdgeLemmas.{faces-count}
use Rattle.mesh_laws.proofs.FanLemmas.{places-at}
use Rattle.texture_laws.proofs.JoinLemmas.{joins-itself, joins-only}

-- an edge has two faces at most
pub few-faces : (polygons : List Polygon) (edge : ℕ × ℕ) → list_all is_simple polygons ≡ true → has_distinct_sides (all_sides polygons) ≡ true → length (faces_of_edge polygons edge) ≤ 2
few-faces polygons edge simple distinct =
    omega (arith, faces-count edge 0 polygons simple, edge-count-le edge (all_sides polygons), distinct-count edge (all_sides polygons) distinct, distinct-count (edge.1, edge.0) (all_sides polygons) distinct)

edge-among : (polygons : List Polygon) (edge : ℕ × ℕ) (face : ℕ) → has_edge edge (polygon_at polygons face) ≡ true → is_among (faces_of_edge polygons edge) face ≡ true
edge-among polygons edge face h =
    let number : 0 + face ≡ face = omega arith in
    ap (is_among (faces_of_edge polygons edge)) (sym number) ∙ places-at (has_edge edge) [] refl 0 face polygons ∙ h

module _ (mesh : ObjMesh) where
  -- if an edge with at most two faces is no seam, its faces have one texture number at each end
  unseamed : (edge : ℕ × ℕ) (faces : List ℕ) (v f g : ℕ) → length faces ≤ 2 → is_seam_of mesh edge faces ≡ false → has_end v edge ≡ true → is_among faces f ≡ true → is_among faces g ≡ true → texture_number mesh f v ≡ texture_number mesh g v
  unseamed edge [] v f g few joins ends at_f at_g = absurd (cc)
  unseamed edge (x ∷ []) v f g few joins ends at_f at_g = ap (λ n. texture_number mesh n v) (one f at_f ∙ sym (one g at_g))
    where
      one : (n : ℕ) → is_among (x ∷ []) n ≡ true → n ≡ x
      one n h = here (or_cases (nat_eq n x) false h)
        where
          here : (nat_eq n x ≡ true) ⊎ (false ≡ true) → n ≡ x
          here (inl same) = eqb-true n x same
          here (inr none) = absurd (cc)
  unseamed edge (x ∷ (y ∷ [])) v f g few joins ends at_f at_g = as_first f at_f ∙ sym (as_first g at_g)
    where
      parts : (differ_at mesh x y edge.0 ≡ false) × (differ_at mesh x y edge.1 ≡ false)
      parts = or_parts (differ_at mesh x y edge.0) (differ_at mesh x y edge.1) joins

      alike : (w : ℕ) → differ_at mesh x y w ≡ false → nat_eq v w ≡ true → texture_number mesh y v ≡ texture_number mesh x v
      alike w agree same =
          let is = eqb-true v w same in
          ap (texture_number mesh y) is ∙ sym (eqb-true _ _ (not-false _ agree)) ∙ ap (texture_number mesh x) (sym is)

      both : (nat_eq v edge.0 ≡ true) ⊎ (nat_eq v edge.1 ≡ true) → texture_number mesh y v ≡ texture_number mesh x v
      both (inl first) = alike edge.0 parts.0 first
      both (inr second) = alike edge.1 parts.1 second

      as_first : (n : ℕ) → is_among (x ∷ (y ∷ [])) n ≡ true → texture_number mesh n v ≡ texture_number mesh x v
      as_first n h = here (or_cases (nat_eq n x) (nat_eq n y || false) h)
        where
          there : (nat_eq n y ≡ true) ⊎ (false ≡ true) → texture_number mesh n v ≡ texture_number mesh x v
          there (inl same) = ap (λ m. texture_number mesh m v) (eqb-true n y same) ∙ both (or_cases (nat_eq v edge.0) (nat_eq v edge.1) ends)
          there (inr none) = absurd (cc)

          here : (nat_eq n x ≡ true) ⊎ ((nat_eq n y || false) ≡ true) → texture_number mesh n v ≡ texture_number mesh x v
          here (inl same) = ap (λ m. texture_number mesh m v) (eqb-true n x same)
          here (inr more) = there (or_cases (nat_eq n y) false more)
  unseamed edge (x ∷ (y ∷ (z ∷ faces))) v f g few joins ends at_f at_g = absurd (omega arith)

  module _ (simple : list_all is_simple mesh.faces ≡ true) (distinct : has_distinct_sides (all_sides mesh.faces) ≡ true) where
    -- faces that are joined at a vertex have one texture number there
    pub joined-number : (v f g : ℕ) → is_among (joined_faces mesh v f) g ≡ true → texture_number mesh f v ≡ texture_number mesh g v
    joined-number v f g h =
        eqb-true _ _
        (joins-only mesh v (λ n. nat_eq (texture_number mesh f v) (texture_number mesh n v))
        (λ a b edge ends joins at_a at_b kept. eq-eqb _ _ (eqb-true _ _ kept ∙ unseamed edge (faces_of_edge mesh.faces edge) v a b (few-faces mesh.faces edge simple distinct) joins ends (edge-among mesh.faces edge a at_a) (edge-among mesh.faces edge b at_b)))
        f (eq-eqb _ _ refl) g h)

    -- the channel point of a face at a vertex has the texture number of the face there
    pub point-number-at : (f v : ℕ) → has_corner v (polygon_at mesh.faces f) ≡ true → texture_number mesh (channel_point mesh f v).1 v ≡ texture_number mesh f v
    point-number-at f v h =
        sym (joined-number v f (channel_point mesh f v).1 (first-among (joined_faces mesh v f) f f (joins-itself mesh v f h)))
      where
        first-among : (xs : List ℕ) (d n : ℕ) → is_among xs n ≡ true → is_among xs (get_or xs 0 d) ≡ true
        first-among [] d n there = absurd (cc)
        first-among (x ∷ xs) d n there = or_left _ _ (eq-eqb x x refl)
