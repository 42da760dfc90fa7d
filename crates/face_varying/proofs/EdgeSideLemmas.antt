-- Sides of faces, and the edges that they are.
use Rattle.std.proofs.Common.{◌≡◌, ◌≢◌, ℕ, ◌<◌, true, nat_eq, List, length, get_or, arith, refl, ap, sym, ◌∙◌, subst, ◌⊎◌, inl, inr}
use Rattle.std.specs.List.{list_any, list_all, position_or_len}
use Rattle.std.proofs.lemmas.Bool.Decides.{nat_tests}
use Rattle.std.proofs.lemmas.Bool.{eqb-true, eq-eqb}
use Rattle.std.proofs.lemmas.List.{get_or-map}
use Rattle.std.proofs.lemmas.List.Sums.{passes_at_first}
use Rattle.std.proofs.lemmas.List.Folds.{list_any_at}
use Rattle.subdiv_model.specs.Polygons.{Polygon, sides_of, same_side, same_edge, has_side, is_distinct, has_distinct_sides, polygon_at}
use Rattle.subdiv_model.specs.Edges.{all_sides, edges_of, edge_number}
use Rattle.subdiv_model.specs.Manifold.{is_simple}
use Rattle.level_laws.proofs.FaceLemmas.{sides_of-length}
use Rattle.mesh_laws.proofs.SideLemmas.{same_side-refl, distinct-count, distinct-places, among-place}
use Rattle.mesh_laws.proofs.EdgeLemmas.{position-within, same-number}
use Rattle.mesh_laws.proofs.ClosedLemmas.{any-here, any-side-edge, no-loop}
use Rattle.mesh_laws.proofs.FanLemmas.{owner-unique, distinct-at}
use Rattle.mesh_laws.proofs.ChildPlaceLemmas.{first-within}
use Rattle.texture_laws.proofs.OnceLemmas.{side-at}
use Rattle.texture_laws.proofs.JoinLemmas.{edge-cases, edge-listed}
use Rattle.level_topology.specs.Topology.{edge_at, face_edges_of, side_at, corner_after}
use Rattle.level_topology.proofs.PlaceLemmas.{side-there}
use Rattle.face_varying.specs.Sides.{is_along}

-- each corner of a face of distinct corners is the first of its vertex there
pub corner-own : (polygon : Polygon) (c : ℕ) → is_distinct polygon ≡ true → c < length polygon → position_or_len (nat_eq (get_or polygon c 0)) polygon ≡ c
corner-own polygon c distinct inside =
    let v = get_or polygon c 0 in
    let within = first-within (nat_eq v) polygon (among-place v polygon c inside refl) in
    distinct-places polygon (position_or_len (nat_eq v) polygon) c distinct within inside (sym (eqb-true _ _ (passes_at_first (nat_eq v) polygon 0 within)))

-- the corner after a corner is one
pub after-within : (size c : ℕ) → c < size → corner_after size c < size
after-within size c h = grind (arith, nat_tests)

-- each corner has its side
pub has-own-side : (polygon : Polygon) (c : ℕ) → c < length polygon → has_side (side_at polygon c) polygon ≡ true
has-own-side polygon c h =
    let within : c < length (sides_of polygon) = omega (arith, sides_of-length polygon) in
    subst (λ s. list_any (same_side s) (sides_of polygon) ≡ true) (side-there polygon c h)
    (list_any_at (same_side (get_or (sides_of polygon) c (0, 0))) (sides_of polygon) c (0, 0) within (same_side-refl (get_or (sides_of polygon) c (0, 0))))

-- each side has its corner
pub corner-of-side : (polygon : Polygon) (s : ℕ × ℕ) → has_side s polygon ≡ true → (c : ℕ) × (c < length polygon) × (side_at polygon c ≡ s)
corner-of-side polygon s has =
    let c = position_or_len (same_side s) (sides_of polygon) in
    let within = first-within (same_side s) (sides_of polygon) has in
    let inside : c < length polygon = omega (arith, within, sides_of-length polygon) in
    (c, inside, sym (side-there polygon c inside) ∙ side-at s (sides_of polygon) has)

module _ (polygons : List Polygon) where
  -- the edges of a face are those of its sides
  pub side-number : (f c : ℕ) → c < length (polygon_at polygons f) → get_or (face_edges_of polygons (polygon_at polygons f)) c 0 ≡ edge_number polygons (side_at (polygon_at polygons f) c)
  side-number f c h =
      let within : c < length (sides_of (polygon_at polygons f)) = omega (arith, sides_of-length (polygon_at polygons f)) in
      get_or-map (edge_number polygons) (sides_of (polygon_at polygons f)) c (0, 0) 0 within ∙ ap (edge_number polygons) (side-there (polygon_at polygons f) c h)

  pub side-listed : (f : ℕ) (s : ℕ × ℕ) → has_side s (polygon_at polygons f) ≡ true → list_any (same_edge s) (edges_of polygons) ≡ true
  side-listed f s has = edge-listed polygons f s (any-side-edge s (sides_of (polygon_at polygons f)) has)

  -- the edge of a side has its number
  pub side-edge : (f : ℕ) (s : ℕ × ℕ) → has_side s (polygon_at polygons f) ≡ true → same_edge s (edge_at polygons (edge_number polygons s)) ≡ true
  side-edge f s has = passes_at_first (same_edge s) (edges_of polygons) (0, 0) (position-within s (edges_of polygons) (side-listed f s has))

  module _ (simple : list_all is_simple polygons ≡ true) where
    -- no side leads from a vertex to itself
    pub side-ends : (f : ℕ) (s : ℕ × ℕ) → has_side s (polygon_at polygons f) ≡ true → s.0 ≢ s.1
    side-ends f s has same =
        let apart = no-loop polygons s simple (any-here (same_side s) polygons f has) in
        let yes = eq-eqb s.0 s.1 same in
        absurd (cc)

    module _ (distinct : has_distinct_sides (all_sides polygons) ≡ true) where
      -- two sides of one edge that go in one direction are one
      pub side-once : (f g : ℕ) (s t : ℕ × ℕ) → has_side s (polygon_at polygons f) ≡ true → has_side t (polygon_at polygons g) ≡ true
          → edge_number polygons s ≡ edge_number polygons t → is_along polygons s ≡ is_along polygons t → s ≡ t
      side-once f g s t has_s has_t number along =
          here (edge-cases s t alike) (edge-cases s edge (side-edge f s has_s))
        where
          edge : ℕ × ℕ
          edge = edge_at polygons (edge_number polygons s)

          alike : same_edge s t ≡ true
          alike = sym (same-number s t (edges_of polygons) (side-listed f s has_s)) ∙ eq-eqb _ _ number

          clash : (a b x : ℕ) → a ≢ b → (x ≡ a) ⊎ (x ≡ b) → nat_eq x a ≡ nat_eq x b → ⊥
          clash a b x apart (inl e) h = apart (sym e ∙ eqb-true _ _ (sym h ∙ eq-eqb _ _ e))
          clash a b x apart (inr e) h = apart (sym (eqb-true _ _ (h ∙ eq-eqb _ _ e)) ∙ e)

          turned : s ≡ (t.1, t.0) → nat_eq edge.0 s.0 ≡ nat_eq edge.0 s.1
          turned e =
              ap (λ (n : ℕ). nat_eq edge.0 n) refl ∙ along
              ∙ ap (λ (n : ℕ). nat_eq (edge_at polygons n).0 t.0) (sym number)
              ∙ ap (λ (u : ℕ × ℕ). nat_eq edge.0 u.1) (sym e)

          here : (s ≡ t) ⊎ (s ≡ (t.1, t.0)) → (s ≡ edge) ⊎ (s ≡ (edge.1, edge.0)) → s ≡ t
          here (inl same) which = same
          here (inr back) (inl e) = absurd (clash s.0 s.1 edge.0 (side-ends f s has_s) (inl (ap (λ (u : ℕ × ℕ). u.0) (sym e))) (turned back))
          here (inr back) (inr e) = absurd (clash s.0 s.1 edge.0 (side-ends f s has_s) (inr (ap (λ (u : ℕ × ℕ). u.1) (sym e))) (turned back))

      -- sides in one direction with one edge number are that of one corner
      pub side-place-once : (f c g d : ℕ) → c < length (polygon_at polygons f) → d < length (polygon_at polygons g)
          → edge_number polygons (side_at (polygon_at polygons f) c) ≡ edge_number polygons (side_at (polygon_at polygons g) d)
          → is_along polygons (side_at (polygon_at polygons f) c) ≡ is_along polygons (side_at (polygon_at polygons g) d) → (f ≡ g) × (c ≡ d)
      side-place-once f c g d corner corner_g number along =
          let s = side_at (polygon_at polygons f) c in
          let t = side_at (polygon_at polygons g) d in
          let has_s = has-own-side (polygon_at polygons f) c corner in
          let has_t = has-own-side (polygon_at polygons g) d corner_g in
          let same : s ≡ t = side-once f g s t has_s has_t number along in
          let also : has_side s (polygon_at polygons g) ≡ true = ap (λ (u : ℕ × ℕ). has_side u (polygon_at polygons g)) same ∙ has_t in
          let one : f ≡ g = owner-unique polygons s f g (distinct-count s (all_sides polygons) distinct) has_s also in
          let at : c < length (polygon_at polygons g) = subst (λ (n : ℕ). c < length (polygon_at polygons n)) one corner in
          let first : get_or (polygon_at polygons g) c 0 ≡ get_or (polygon_at polygons g) d 0 = ap (λ (n : ℕ). get_or (polygon_at polygons n) c 0) (sym one) ∙ ap (λ (u : ℕ × ℕ). u.0) same in
          (one, distinct-places (polygon_at polygons g) c d (distinct-at polygons g simple) at corner_g first)
