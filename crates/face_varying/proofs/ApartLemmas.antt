-- The faces of an edge are apart where the numbers that are noted for its two sides differ.
use Rattle.std.proofs.Common.{◌≡◌, ◌≢◌, ℕ, ◌+◌, ◌<◌, ◌≤◌, Bool, true, false, not, ◌||◌, nat_eq, List, [], ◌∷◌, ◌++◌, length, map, take, get_or, Option, Some, None, is_none, arith, ap, sym, ◌∙◌, subst, ◌⊎◌, inl, inr}
use Rattle.std.specs.List.{position_or_len}
use Rattle.std.specs.Option.{option_to_list}
use Rattle.std.proofs.lemmas.Bool.Decides.{nat_tests}
use Rattle.std.proofs.lemmas.Bool.{eq-eqb, false_from_ne_true, eqb-true}
use Rattle.std.proofs.lemmas.List.{map_more, take_all}
use Rattle.subdiv_model.specs.Polygons.{Polygon, sides_of, same_edge, has_side, has_edge, polygon_at}
use Rattle.subdiv_model.specs.Edges.{all_sides, edges_of, edge_number, faces_of_edge}
use Rattle.subdiv_model.specs.ObjMesh.{ObjMesh}
use Rattle.subdiv_model.specs.Cut.{texture_number, is_seam_of}
use Rattle.mesh_laws.proofs.SideLemmas.{same_edge-sym, distinct-count}
use Rattle.mesh_laws.proofs.FanLemmas.{any-side, owner-unique, distinct-at}
use Rattle.texture_laws.proofs.JoinLemmas.{edge-cases}
use Rattle.level_topology.specs.Topology.{Topology, IsTopology, edge_at, side_at, corner_after}
use Rattle.level_topology.proofs.LawLemmas.{edge-face, edge-order, either-number}
use Rattle.face_varying.specs.Corners.{is_apart, apart_marks}
use Rattle.face_varying.specs.CornerPlaces.{start_of}
use Rattle.face_varying.specs.Cut.{IsCuttable}
use Rattle.face_varying.specs.Sides.{AreNoted, is_along, by_end, noted}
use Rattle.face_varying.proofs.CornerLemmas.{place-below, start-all}
use Rattle.face_varying.proofs.CuttableLemmas.{same-faces, texture-length}
use Rattle.face_varying.proofs.EdgeSideLemmas.{after-within, corner-of-side, corner-own, side-ends}

-- two pairs of numbers differ at either place
abbrev pub differ : ℕ × ℕ → ℕ × ℕ → Bool
differ one other = not (nat_eq one.0 other.0) || not (nat_eq one.1 other.1)

differ-swap : (one other : ℕ × ℕ) → differ one other ≡ differ other one
differ-swap one other = grind (arith, nat_tests)

module _ (mesh : ObjMesh) (base : Topology) (cuttable : IsCuttable mesh base) (is : IsTopology base) (along against : List (ℕ × ℕ))
    (all : AreNoted base.level.polygons mesh.texture_corners along against (start_of base.level.polygons (length base.level.polygons))) where
  abbrev faces : List Polygon
  faces = base.level.polygons

  -- the texture numbers of a face at the ends of an edge
  abbrev numbers : ℕ → ℕ × ℕ → ℕ × ℕ
  numbers f edge = (texture_number mesh f edge.0, texture_number mesh f edge.1)

  -- the texture numbers of a side are those at its corners
  numbers-there : (f c : ℕ) → c < length (polygon_at faces f) → side_at (polygon_at mesh.texture_corners f) c ≡ numbers f (side_at (polygon_at faces f) c)
  numbers-there f c inside =
      let row = polygon_at mesh.texture_corners f in
      let size = length (polygon_at faces f) in
      let after = corner_after size c in
      ap (λ (n : ℕ). (get_or row c 0, get_or row (corner_after n c) 0)) (texture-length mesh base cuttable f)
      ∙ ap (λ (k : ℕ). (get_or row k 0, get_or row after 0)) (sym (own-place c inside))
      ∙ ap (λ (k : ℕ). (texture_number mesh f (get_or (polygon_at faces f) c 0), get_or row k 0)) (sym (own-place after (after-within size c inside)))
    where
      own-place : (k : ℕ) → k < length (polygon_at faces f) → position_or_len (nat_eq (get_or (polygon_at faces f) k 0)) (polygon_at mesh.faces f) ≡ k
      own-place k h =
          ap (λ (polygons : List Polygon). position_or_len (nat_eq (get_or (polygon_at faces f) k 0)) (polygon_at polygons f)) (sym (same-faces mesh base cuttable))
          ∙ corner-own (polygon_at faces f) k (distinct-at faces f is.simple) h

  -- a side of an edge is noted in its direction
  side-noted : (f : ℕ) (s : ℕ × ℕ) → f < length faces → has_side s (polygon_at faces f) ≡ true → noted along against (is_along faces s) (edge_number faces s) ≡ by_end (is_along faces s) (numbers f s)
  side-noted f s inside has =
      let found = corner-of-side (polygon_at faces f) s has in
      let c = found.0 in
      let below = place-below faces f c inside found.1 in
      subst (λ (t : ℕ × ℕ). noted along against (is_along faces t) (edge_number faces t) ≡ by_end (is_along faces t) (numbers f t)) found.2
      (all.each f c inside found.1 (omega (arith, below, start-all faces)) ∙ ap (by_end (is_along faces (side_at (polygon_at faces f) c))) (numbers-there f c found.1))

  module _ (e : ℕ) (inside : e < length (edges_of faces)) where
    abbrev edge : ℕ × ℕ
    edge = edge_at faces e

    -- a face of the edge has its numbers in one of the two
    abbrev IsNotedAlong : ℕ → Type 0
    IsNotedAlong f = (has_side edge (polygon_at faces f) ≡ true) × (get_or along e (0, 0) ≡ numbers f edge)

    abbrev IsNotedAgainst : ℕ → Type 0
    IsNotedAgainst f = (has_side (edge.1, edge.0) (polygon_at faces f) ≡ true) × (get_or against e (0, 0) ≡ numbers f edge)

    face-noted : (f : ℕ) → f < length faces → has_edge edge (polygon_at faces f) ≡ true → IsNotedAlong f ⊎ IsNotedAgainst f
    face-noted f exists has =
        let found = any-side (same_edge edge) (sides_of (polygon_at faces f)) has in
        go found.0 found.1 found.2 (edge-cases edge found.0 found.1)
      where
        number : (s : ℕ × ℕ) → same_edge edge s ≡ true → edge_number faces s ≡ e
        number s same = either-number faces e s inside (same_edge-sym s edge ∙ same)

        go : (s : ℕ × ℕ) → same_edge edge s ≡ true → has_side s (polygon_at faces f) ≡ true → (edge ≡ s) ⊎ (edge ≡ (s.1, s.0)) → IsNotedAlong f ⊎ IsNotedAgainst f
        go s same there (inl e_is) =
            let forward : is_along faces s ≡ true = ap (λ (n : ℕ). nat_eq (edge_at faces n).0 s.0) (number s same) ∙ eq-eqb _ _ (ap (λ (t : ℕ × ℕ). t.0) e_is) in
            let found = side-noted f s exists there in
            inl (
              ap (λ (t : ℕ × ℕ). has_side t (polygon_at faces f)) e_is ∙ there,
              ap (λ (n : ℕ). get_or along n (0, 0)) (sym (number s same))
                  ∙ subst (λ (b : Bool). noted along against b (edge_number faces s) ≡ by_end b (numbers f s)) forward found
                  ∙ ap (numbers f) (sym e_is),
            )
        go s same there (inr e_is) =
            let apart = side-ends faces is.simple f s there in
            let forward : is_along faces s ≡ false = false_from_ne_true _ (λ yes.
            absurd (apart (sym (eqb-true _ _ (sym (ap (λ (n : ℕ). nat_eq (edge_at faces n).0 s.0) (number s same)) ∙ yes)) ∙ ap (λ (t : ℕ × ℕ). t.0) e_is))) in
            let found = side-noted f s exists there in
            inr (
              ap (λ (t : ℕ × ℕ). has_side (t.1, t.0) (polygon_at faces f)) e_is ∙ there,
              ap (λ (n : ℕ). get_or against n (0, 0)) (sym (number s same))
                  ∙ subst (λ (b : Bool). noted along against b (edge_number faces s) ≡ by_end b (numbers f s)) forward found
                  ∙ ap (numbers f) (sym e_is),
            )

    one-owner : (f g : ℕ) (s : ℕ × ℕ) → has_side s (polygon_at faces f) ≡ true → has_side s (polygon_at faces g) ≡ true → f ≡ g
    one-owner f g s at_f at_g = owner-unique faces s f g (distinct-count s (all_sides faces) is.sides_once) at_f at_g

    -- of two faces each has its numbers in one of the two lists
    two-noted : (f g : ℕ) → f ≢ g → IsNotedAlong f ⊎ IsNotedAgainst f → IsNotedAlong g ⊎ IsNotedAgainst g → differ (get_or along e (0, 0)) (get_or against e (0, 0)) ≡ differ (numbers f edge) (numbers g edge)
    two-noted f g apart (inl a) (inl b) = absurd (apart (one-owner f g edge a.0 b.0))
    two-noted f g apart (inl a) (inr b) = ap (λ (p : ℕ × ℕ). differ p (get_or against e (0, 0))) a.1 ∙ ap (differ (numbers f edge)) b.1
    two-noted f g apart (inr a) (inl b) = ap (λ (p : ℕ × ℕ). differ p (get_or against e (0, 0))) b.1 ∙ ap (differ (numbers g edge)) a.1 ∙ differ-swap (numbers g edge) (numbers f edge)
    two-noted f g apart (inr a) (inr b) = absurd (apart (one-owner f g (edge.1, edge.0) a.0 b.0))

    apart-by : (listed : List ℕ) → faces_of_edge faces edge ≡ listed → is_apart mesh edge ≡ (nat_eq (length listed) 1 || is_seam_of mesh edge listed)
    apart-by listed same = ap (λ (xs : List ℕ). nat_eq (length xs) 1 || is_seam_of mesh edge xs) (ap (λ (polygons : List Polygon). faces_of_edge polygons edge) (sym (same-faces mesh base cuttable)) ∙ same)

    -- an edge of one face
    pub apart-one : (first : ℕ) (second : Option ℕ) → is_none second ≡ true → first ∷ option_to_list second ≡ faces_of_edge faces edge → true ≡ is_apart mesh edge
    apart-one first None none same = sym (apart-by (first ∷ []) (sym same))
    apart-one first (Some g) none same = absurd (cc)

    -- an edge of two
    pub apart-two : (first : ℕ) (second : Option ℕ) → is_none second ≡ false → first ∷ option_to_list second ≡ faces_of_edge faces edge
        → differ (get_or along e (0, 0)) (get_or against e (0, 0)) ≡ is_apart mesh edge
    apart-two first None some same = absurd (cc)
    apart-two first (Some g) some same =
        let size : length (faces_of_edge faces edge) ≡ 2 = ap (λ (xs : List ℕ). length xs) (sym same) in
        let at_f = edge-face faces e 0 (omega (arith, size)) in
        let at_g = edge-face faces e 1 (omega (arith, size)) in
        let order = edge-order faces e 0 (omega (arith, size)) in
        let f_is : get_or (faces_of_edge faces edge) 0 0 ≡ first = ap (λ (xs : List ℕ). get_or xs 0 0) (sym same) in
        let g_is : get_or (faces_of_edge faces edge) 1 0 ≡ g = ap (λ (xs : List ℕ). get_or xs 1 0) (sym same) in
        let apart : first ≢ g = λ one. absurd (omega (arith, order, f_is, g_is, one)) in
        two-noted first g apart
        (face-noted first (omega (arith, at_f.exists, f_is)) (ap (λ (n : ℕ). has_edge edge (polygon_at faces n)) (sym f_is) ∙ at_f.has))
        (face-noted g (omega (arith, at_g.exists, g_is)) (ap (λ (n : ℕ). has_edge edge (polygon_at faces n)) (sym g_is) ∙ at_g.has))
        ∙ sym (apart-by (first ∷ (g ∷ [])) (sym same))

-- the mark of one edge more
pub marks-more : (mesh : ObjMesh) (polygons : List Polygon) (e : ℕ) (old new : List Bool) (mark : Bool) → polygons ≡ mesh.faces → e < length (edges_of polygons) → mark ≡ is_apart mesh (edge_at polygons e) → new ≡ old ++ mark ∷ []
    → old ≡ map (is_apart mesh) (take e (edges_of mesh.faces)) → new ≡ map (is_apart mesh) (take (e + 1) (edges_of mesh.faces))
marks-more mesh polygons e old new mark same inside is put whole =
    put
    ∙ ap (λ b. old ++ b ∷ []) (is ∙ ap (λ (ps : List Polygon). is_apart mesh (edge_at ps e)) same)
    ∙ ap (λ bs. bs ++ is_apart mesh (edge_at mesh.faces e) ∷ []) whole
    ∙ sym (map_more (is_apart mesh) (edges_of mesh.faces) e (0, 0) (omega (arith, inside, ap (λ (ps : List Polygon). length (edges_of ps)) same)))

-- at the end all edges have their marks
pub marks-all : (mesh : ObjMesh) (polygons : List Polygon) (e : ℕ) (marks : List Bool) → polygons ≡ mesh.faces → length (edges_of polygons) ≤ e → marks ≡ map (is_apart mesh) (take e (edges_of mesh.faces)) → marks ≡ apart_marks mesh
marks-all mesh polygons e marks same all whole = whole ∙ ap (map (is_apart mesh)) (take_all e (edges_of mesh.faces) (omega (arith, all, ap (λ (ps : List Polygon). length (edges_of ps)) same)))
