-- The points of the next level in the middles of quads and of edges, as whole numbers of the level's points.
use Rattle.std.proofs.Common.{◌≡◌, ℕ, ◌*◌, true, ℤ, pos, ◌+ℤ◌, ◌*ℤ◌, List, [], ◌∷◌, length, arith, refl, ap, sym, ◌∙◌, ◌⊎◌, inl, inr, subst}
use Rattle.std.proofs.lemmas.Int.{ints}
use Rattle.std.proofs.Math.IntN.{+ℤ_comm}
use Rattle.subdiv_model.specs.Polygons.{same_side, has_side, polygon_at}
use Rattle.subdiv_model.specs.Edges.{all_sides, faces_of_edge}
use Rattle.subdiv_model.specs.Sharpness.{Smooth}
use Rattle.subdiv_model.specs.Level.{Level, edge_sharpness_of}
use Rattle.subdiv_model.specs.Child.{face_point, edge_point}
use Rattle.subdiv_model.specs.Mask.{CatmullClark, SourcePoint, mask_of_corners, mask_of_edge, smooth_edge_mask}
use Rattle.subdiv_model.specs.Value.{Value}
use Rattle.subdiv_model.specs.Refined.{mask_value, point_value, source_value, child_values}
use Rattle.subdiv_model.specs.Patch.{is_regular_in_quads}
use Rattle.mesh_laws.proofs.EdgeLemmas.{any-first_named}
use Rattle.mesh_laws.proofs.ClosedLemmas.{any-here, any-side-edge}
use Rattle.texture_laws.proofs.JoinLemmas.{turned-edge, edge-cases}
use Rattle.level_laws.proofs.HalfLemmas.{is_edge}
use Rattle.mask_laws.specs.Laws.{IsManifoldWithSharpBoundary}
use Rattle.mask_laws.proofs.SumLemmas.{sum_ℤ, IsOver}
use Rattle.limit_laws.proofs.ChildValueLemmas.{listed, listed-same, value-face, value-new}
use Rattle.grid_laws.specs.Grids.{HasQuad, face_beside}
use Rattle.grid_laws.proofs.GridLemmas.{level-simple, level-distinct}
use Rattle.grid_laws.proofs.QuadLemmas.{quad-length, quad-face}
use Rattle.grid_laws.proofs.StarLemmas.{out-side}
use Rattle.grid_laws.proofs.RegularLemmas.{sharpness-alike, regular-edge}
use Rattle.patch_laws.proofs.WholeValueLemmas.{AreWhole, face-number, edge-number}
use Rattle.patch_laws.proofs.QuadEdgeLemmas.{quad-total, faces-of-two}

-- the value of a point of the next level
abbrev pub next_value : Level → List Value → ℕ → Value
next_value level values q = point_value (child_values level CatmullClark values) q

module _ (level : Level) (well : IsManifoldWithSharpBoundary level) (values : List Value) (m : ℕ) (g : ℕ → ℤ) (are : AreWhole values m g) where
  -- the middle of a quad, by one of its sides
  pub middle-point : (p q r s : ℕ) → HasQuad level.polygons p q r s
      → IsOver (64 * m) (next_value level values (face_point level.point_count (face_beside level.polygons (p, q)))) (pos 16 *ℤ ((g p +ℤ g q) +ℤ (g r +ℤ g s)))
  middle-point p q r s quad =
      let polygons = level.polygons in
      let found = quad-face polygons (level-simple level well) (level-distinct level well) quad in
      let at : next_value level values (face_point level.point_count (face_beside polygons (p, q))) ≡ mask_value (source_value level values) (mask_of_corners (polygon_at polygons quad.face)) =
      ap (λ f. next_value level values (face_point level.point_count f)) found ∙ value-face level CatmullClark values quad.face quad.inside in
      let four = quad-length polygons quad.face p q r s quad.is in
      let total = quad-total polygons g quad.face p q r s quad.is in
      let n = (g p +ℤ g q) +ℤ (g r +ℤ g s) in
      let P : ℤ → Type 0 = λ (k : ℤ). IsOver (64 * m) (mask_value (source_value level values) (mask_of_corners (polygon_at polygons quad.face))) (pos 16 *ℤ k) in
      subst (λ (x : Value). IsOver (64 * m) x (pos 16 *ℤ n)) (sym at) (subst P total (face-number level values m g are quad.face four))

  -- Edges.

  module _ (p q r s t u : ℕ) (first : HasQuad level.polygons p q r s) (second : HasQuad level.polygons q p t u)
      (regular : (is_regular_in_quads level p ≡ true) ⊎ (is_regular_in_quads level q ≡ true)) where
    -- an edge that is listed in one of the two directions
    record IsListed (e : ℕ × ℕ) : Type 0 where
      faces : (faces_of_edge level.polygons e ≡ first.face ∷ second.face ∷ []) ⊎ (faces_of_edge level.polygons e ≡ second.face ∷ first.face ∷ [])
      sum : g e.0 +ℤ g e.1 ≡ g p +ℤ g q

    -- the edge is a side of each of the two, in the one direction and in the other
    out : has_side (p, q) (polygon_at level.polygons first.face) ≡ true
    out = out-side first

    back : has_side (q, p) (polygon_at level.polygons second.face) ≡ true
    back = out-side second

    forward : IsListed (p, q)
    forward = record { faces = faces-of-two level well p q first.face second.face out back; sum = refl }

    backward : IsListed (q, p)
    backward = record {
      faces = other (faces-of-two level well q p second.face first.face back out);
      sum = +ℤ_comm (g q) (g p);
    }
      where
        other : (faces_of_edge level.polygons (q, p) ≡ second.face ∷ first.face ∷ []) ⊎ (faces_of_edge level.polygons (q, p) ≡ first.face ∷ second.face ∷ [])
            → (faces_of_edge level.polygons (q, p) ≡ first.face ∷ second.face ∷ []) ⊎ (faces_of_edge level.polygons (q, p) ≡ second.face ∷ first.face ∷ [])
        other (inl h) = inr h
        other (inr h) = inl h

    named : is_edge level (p, q) ≡ true
    named =
        any-first_named (p, q) (all_sides level.polygons)
        ∙ any-side-edge (p, q) (all_sides level.polygons) (any-here (same_side (p, q)) level.polygons first.face out)

    is-listed : IsListed (listed level (p, q))
    is-listed = here (edge-cases (p, q) (listed level (p, q)) (listed-same level (p, q) named))
      where
        own : ℕ × ℕ
        own = (p, q)

        here : (own ≡ listed level (p, q)) ⊎ (own ≡ ((listed level (p, q)).1, (listed level (p, q)).0)) → IsListed (listed level (p, q))
        here (inl h) = subst IsListed h forward
        here (inr h) = subst IsListed (ap (λ (e : ℕ × ℕ). (e.1, e.0)) h) backward

    -- the edge is smooth, since it has a regular end
    is-smooth : edge_sharpness_of level (listed level (p, q)) ≡ Smooth
    is-smooth = sym (sharpness-alike level (p, q) (listed level (p, q)) (listed-same level (p, q) named)) ∙ from-end regular
      where
        from-end : (is_regular_in_quads level p ≡ true) ⊎ (is_regular_in_quads level q ≡ true) → edge_sharpness_of level (p, q) ≡ Smooth
        from-end (inl h) = regular-edge level well p first.face q h out
        from-end (inr h) = sharpness-alike level (p, q) (q, p) (turned-edge p q) ∙ regular-edge level well q second.face p h back

    -- six times each end of the edge and once each other corner of both quads, all four times
    abbrev total : ℤ
    total = pos 24 *ℤ (g p +ℤ g q) +ℤ pos 4 *ℤ ((g r +ℤ g s) +ℤ (g t +ℤ g u))

    -- the middle of an edge of two quads with a regular end
    pub edge-middle : IsOver (64 * m) (next_value level values (edge_point level.point_count level.polygons (p, q))) total
    edge-middle = here is-listed.faces
      where
        e : ℕ × ℕ
        e = listed level (p, q)

        value : SourcePoint → Value
        value = source_value level values

        at : next_value level values (edge_point level.point_count level.polygons (p, q)) ≡ mask_value value (smooth_edge_mask e (faces_of_edge level.polygons e))
        at =
            value-new level CatmullClark values (p, q) named
            ∙ ap (λ k. mask_value value (mask_of_edge k e (faces_of_edge level.polygons e))) is-smooth

        S : ℕ → ℤ
        S f = sum_ℤ g (polygon_at level.polygons f)

        first_total : S first.face ≡ (g p +ℤ g q) +ℤ (g r +ℤ g s)
        first_total = quad-total level.polygons g first.face p q r s first.is

        second_total : S second.face ≡ (g q +ℤ g p) +ℤ (g t +ℤ g u)
        second_total = quad-total level.polygons g second.face q p t u second.is

        joined : (a b c d x y w z : ℤ) → x +ℤ y ≡ a +ℤ b → w ≡ (a +ℤ b) +ℤ c → z ≡ (b +ℤ a) +ℤ d
            → pos 4 *ℤ ((pos 4 *ℤ x +ℤ pos 4 *ℤ y) +ℤ (w +ℤ z)) ≡ pos 24 *ℤ (a +ℤ b) +ℤ pos 4 *ℤ (c +ℤ d)
        joined a b c d x y w z h k l = omega (arith, ints, h, k, l)

        swapped : (a b c : ℤ) → pos 4 *ℤ (a +ℤ (b +ℤ c)) ≡ pos 4 *ℤ (a +ℤ (c +ℤ b))
        swapped a b c = omega (arith, ints)

        moved : (f h : ℕ) (n : ℤ) → faces_of_edge level.polygons e ≡ f ∷ h ∷ [] → IsOver (64 * m) (mask_value value (smooth_edge_mask e (f ∷ h ∷ []))) n
            → n ≡ total → IsOver (64 * m) (next_value level values (edge_point level.point_count level.polygons (p, q))) total
        moved f h n is over same =
            let from : next_value level values (edge_point level.point_count level.polygons (p, q)) ≡ mask_value value (smooth_edge_mask e (f ∷ h ∷ [])) =
            at ∙ ap (λ l. mask_value value (smooth_edge_mask e l)) is in
            subst (λ (x : Value). IsOver (64 * m) x total) (sym from)
            (subst (λ (k : ℤ). IsOver (64 * m) (mask_value value (smooth_edge_mask e (f ∷ h ∷ []))) k) same over)

        four_first : length (polygon_at level.polygons first.face) ≡ 4
        four_first = quad-length level.polygons first.face p q r s first.is

        four_second : length (polygon_at level.polygons second.face) ≡ 4
        four_second = quad-length level.polygons second.face q p t u second.is

        sums : pos 4 *ℤ ((pos 4 *ℤ g e.0 +ℤ pos 4 *ℤ g e.1) +ℤ (S first.face +ℤ S second.face)) ≡ total
        sums = joined (g p) (g q) (g r +ℤ g s) (g t +ℤ g u) (g e.0) (g e.1) (S first.face) (S second.face) is-listed.sum first_total second_total

        here : (faces_of_edge level.polygons e ≡ first.face ∷ second.face ∷ []) ⊎ (faces_of_edge level.polygons e ≡ second.face ∷ first.face ∷ [])
            → IsOver (64 * m) (next_value level values (edge_point level.point_count level.polygons (p, q))) total
        here (inl h) = moved first.face second.face _ h (edge-number level values m g are e first.face second.face four_first four_second) sums
        here (inr h) =
            moved second.face first.face _ h (edge-number level values m g are e second.face first.face four_second four_first)
            (swapped (pos 4 *ℤ g e.0 +ℤ pos 4 *ℤ g e.1) (S second.face) (S first.face) ∙ sums)
