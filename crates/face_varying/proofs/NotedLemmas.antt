-- The texture numbers that are noted for the sides of edges, one side more at a time.
use Rattle.std.proofs.Common.{◌≡◌, ℕ, ◌+◌, ◌<◌, Bool, true, false, nat_lt, List, length, get_or, replicate, slice_set, arith, refl, ap, sym, ◌∙◌, subst, if◌then◌else◌}
use Rattle.std.specs.List.{list_all}
use Rattle.std.proofs.lemmas.Bool.{ltb-true, ltb-false}
use Rattle.std.proofs.lemmas.List.{length-set, length-replicate, get_or-set_same, get_or-set_other}
use Rattle.subdiv_model.specs.Polygons.{Polygon, has_distinct_sides, polygon_at}
use Rattle.subdiv_model.specs.Edges.{all_sides, edges_of, edge_number}
use Rattle.subdiv_model.specs.Manifold.{is_simple}
use Rattle.level_topology.specs.Topology.{side_at}
use Rattle.face_varying.specs.CornerPlaces.{start_of}
use Rattle.face_varying.specs.Sides.{AreNoted, is_along, by_end, noted}
use Rattle.face_varying.proofs.CornerLemmas.{place-once}
use Rattle.face_varying.proofs.EdgeSideLemmas.{side-place-once}

-- the note in one direction of an edge is there
noted-here : (along against next_along next_against : List (ℕ × ℕ)) (forward : Bool) (e s t : ℕ) → e < length along → e < length against
    → next_along ≡ (if forward then slice_set along e (s, t) else along) → next_against ≡ (if forward then against else slice_set against e (t, s))
    → noted next_along next_against forward e ≡ by_end forward (s, t)
noted-here along against next_along next_against true e s t inside inside_against p q =
    ap (λ (xs : List (ℕ × ℕ)). get_or xs e (0, 0)) p ∙ get_or-set_same along e (s, t) (0, 0) inside
noted-here along against next_along next_against false e s t inside inside_against p q =
    ap (λ (xs : List (ℕ × ℕ)). get_or xs e (0, 0)) q ∙ get_or-set_same against e (t, s) (0, 0) inside_against

-- nothing but the noted place changes
noted-other : (along against next_along next_against : List (ℕ × ℕ)) (forward other : Bool) (e k s t : ℕ) → (k ≡ e → other ≡ forward → ⊥)
    → next_along ≡ (if forward then slice_set along e (s, t) else along) → next_against ≡ (if forward then against else slice_set against e (t, s))
    → noted next_along next_against other k ≡ noted along against other k
noted-other along against next_along next_against true true e k s t apart p q =
    ap (λ (xs : List (ℕ × ℕ)). get_or xs k (0, 0)) p ∙ get_or-set_other along e k (s, t) (0, 0) (λ same. apart same refl)
noted-other along against next_along next_against true false e k s t apart p q = ap (λ (xs : List (ℕ × ℕ)). get_or xs k (0, 0)) q
noted-other along against next_along next_against false true e k s t apart p q = ap (λ (xs : List (ℕ × ℕ)). get_or xs k (0, 0)) p
noted-other along against next_along next_against false false e k s t apart p q =
    ap (λ (xs : List (ℕ × ℕ)). get_or xs k (0, 0)) q ∙ get_or-set_other against e k (t, s) (0, 0) (λ same. apart same refl)

noted-length : (old next : List (ℕ × ℕ)) (set : Bool) (e : ℕ) (pair : ℕ × ℕ) → next ≡ (if set then slice_set old e pair else old) → length next ≡ length old
noted-length old next true e pair h = ap length h ∙ length-set old e pair
noted-length old next false e pair h = ap length h

kept-length : (old next : List (ℕ × ℕ)) (kept : Bool) (e : ℕ) (pair : ℕ × ℕ) → next ≡ (if kept then old else slice_set old e pair) → length next ≡ length old
kept-length old next true e pair h = ap length h
kept-length old next false e pair h = ap length h ∙ length-set old e pair

module _ (polygons : List Polygon) (texture : List (List ℕ)) (simple : list_all is_simple polygons ≡ true) (distinct : has_distinct_sides (all_sides polygons) ≡ true) where
  -- the side of one corner more
  pub noted-more : (along against next_along next_against : List (ℕ × ℕ)) (f c e s t : ℕ) (forward : Bool) → f < length polygons → c < length (polygon_at polygons f)
      → AreNoted polygons texture along against (start_of polygons f + c) → e ≡ edge_number polygons (side_at (polygon_at polygons f) c) → e < length (edges_of polygons)
      → forward ≡ is_along polygons (side_at (polygon_at polygons f) c) → (s, t) ≡ side_at (polygon_at texture f) c
      → next_along ≡ (if forward then slice_set along e (s, t) else along) → next_against ≡ (if forward then against else slice_set against e (t, s))
      → AreNoted polygons texture next_along next_against (start_of polygons f + (c + 1))
  noted-more along against next_along next_against f c e s t forward inside corner before number listed is-along numbers p q = record {
    along_size = noted-length along next_along forward e (s, t) p ∙ before.along_size;
    against_size = kept-length against next_against forward e (t, s) q ∙ before.against_size;
    each = λ g d inside_g corner_g h. which g d inside_g corner_g h (nat_lt (start_of polygons g + d) (start_of polygons f + c)) refl;
  }
    where
      here : noted next_along next_against (is_along polygons (side_at (polygon_at polygons f) c)) (edge_number polygons (side_at (polygon_at polygons f) c)) ≡ by_end (is_along polygons (side_at (polygon_at polygons f) c)) (side_at (polygon_at texture f) c)
      here =
          subst (λ (b : Bool). noted next_along next_against b (edge_number polygons (side_at (polygon_at polygons f) c)) ≡ by_end b (side_at (polygon_at texture f) c)) is-along
          (ap (noted next_along next_against forward) (sym number)
          ∙ noted-here along against next_along next_against forward e s t (omega (arith, listed, before.along_size)) (omega (arith, listed, before.against_size)) p q
          ∙ ap (by_end forward) numbers)

      which : (g d : ℕ) → g < length polygons → d < length (polygon_at polygons g) → start_of polygons g + d < start_of polygons f + (c + 1) → (b : Bool) → nat_lt (start_of polygons g + d) (start_of polygons f + c) ≡ b
          → noted next_along next_against (is_along polygons (side_at (polygon_at polygons g) d)) (edge_number polygons (side_at (polygon_at polygons g) d)) ≡ by_end (is_along polygons (side_at (polygon_at polygons g) d)) (side_at (polygon_at texture g) d)
      which g d inside_g corner_g h true earlier =
          noted-other along against next_along next_against forward (is_along polygons (side_at (polygon_at polygons g) d)) e (edge_number polygons (side_at (polygon_at polygons g) d)) s t (λ same also.
          let one = side-place-once polygons simple distinct g d f c corner_g corner (same ∙ number) (also ∙ is-along) in
          let place : start_of polygons g + d ≡ start_of polygons f + c = ap (λ (n : ℕ). start_of polygons n + d) one.0 ∙ ap (λ (n : ℕ). start_of polygons f + n) one.1 in
          let less = ltb-true _ _ earlier in
          omega arith) p q
          ∙ before.each g d inside_g corner_g (ltb-true _ _ earlier)
      which g d inside_g corner_g h false last =
          let same = place-once polygons g d f c inside_g corner_g inside corner (omega (arith, h, ltb-false _ _ last)) in
          subst (λ (n : ℕ). noted next_along next_against (is_along polygons (side_at (polygon_at polygons n) d)) (edge_number polygons (side_at (polygon_at polygons n) d)) ≡ by_end (is_along polygons (side_at (polygon_at polygons n) d)) (side_at (polygon_at texture n) d)) (sym same.0)
          (subst (λ (n : ℕ). noted next_along next_against (is_along polygons (side_at (polygon_at polygons f) n)) (edge_number polygons (side_at (polygon_at polygons f) n)) ≡ by_end (is_along polygons (side_at (polygon_at polygons f) n)) (side_at (polygon_at texture f) n)) (sym same.1) here)

-- at first nothing is noted
pub none-noted : (polygons : List Polygon) (texture : List (List ℕ)) (along against : List (ℕ × ℕ)) (edges : ℕ) → along ≡ replicate edges (0, 0) → against ≡ replicate edges (0, 0) → edges ≡ length (edges_of polygons) → AreNoted polygons texture along against 0
none-noted polygons texture along against edges first second many = record {
  along_size = ap length first ∙ length-replicate edges (0, 0) ∙ many;
  against_size = ap length second ∙ length-replicate edges (0, 0) ∙ many;
  each = λ f c inside place before. absurd (omega (arith, before));
}
