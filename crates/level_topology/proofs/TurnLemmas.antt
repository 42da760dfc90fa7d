-- The lists at a point, in fan order and ascending.
use Rattle.std.proofs.Common.{subst, ◌≡◌, ℕ, ◌+◌, ◌⊎◌, inl, inr, Bool, true, false, nat_eq, List, [], ◌∷◌, ◌++◌, append-nil, length, map, arith, refl, ap, sym, ◌∙◌, if◌then◌else◌}
use Rattle.std.specs.List.{list_all}
use Rattle.std.specs.List.Sorted.{IsPermutation}
use Rattle.std.proofs.lemmas.List.Sorted.{IsPermutation-refl}
use Rattle.subdiv_model.specs.Polygons.{Polygon, has_corner, is_among, has_distinct_sides, polygon_at, has_side}
use Rattle.subdiv_model.specs.Edges.{all_sides, edges_of, faces_of_point, has_end}
use Rattle.subdiv_model.specs.Manifold.{is_simple}
use Rattle.mesh_laws.proofs.FanLemmas.{faces-among, side-start, side-end}
use Rattle.std.proofs.lemmas.Bool.{or_cases, eqb-true, eq-eqb}
use Rattle.std.proofs.lemmas.Bool.Decides.{nat_tests}
use Rattle.subdiv_model.specs.Lists.{places_from}
use Rattle.level_topology.specs.ListPlaces.{lists_with, pair_list}
use Rattle.level_topology.proofs.LawLemmas.{numbers-at}
use Rattle.level_topology.proofs.FanEdgeLemmas.{end-side, closed-fan, closed-permutation, open-fan, open-permutation}
use Rattle.level_topology.specs.Topology.{IsFan, corner_of, end_of, edge_after, edge_before, edge_numbers_at}
use Rattle.level_topology.specs.PointRows.{IsTurned, IsRow, last_face}

module _ (polygons : List Polygon) (simple : list_all is_simple polygons ≡ true) (distinct : has_distinct_sides (all_sides polygons) ≡ true) (v : ℕ) where
  -- the edges that go with it
  pub turned-edges : (is_path : Bool) (fan edges : List ℕ) → IsTurned polygons v is_path fan → edges ≡ map (edge_before polygons v) fan ++ (if is_path then edge_after polygons v (last_face fan) ∷ [] else []) → IsPermutation (edge_numbers_at polygons v) edges × IsFan polygons v fan edges
  turned-edges true fan edges is e = (
    subst (λ es. IsPermutation (edge_numbers_at polygons v) es) (sym e) (open-permutation polygons simple distinct v is.start fan is.is (is.no_predecessor refl)),
    subst (λ es. IsFan polygons v fan es) (sym e) (open-fan polygons simple distinct v is.start fan is.is (is.no_predecessor refl)),
  )
  turned-edges false fan edges is e =
      let plain : edges ≡ map (edge_before polygons v) fan = e ∙ append-nil (map (edge_before polygons v) fan) in (
        subst (λ es. IsPermutation (edge_numbers_at polygons v) es) (sym plain) (closed-permutation polygons simple distinct v is.start fan is.is (is.led refl)),
        subst (λ es. IsFan polygons v fan es) (sym plain) (closed-fan polygons simple distinct v is.start fan is.is (is.led refl)),
      )

-- without a face there is no edge
none-listed : (xs : List ℕ) → ((n : ℕ) → is_among xs n ≡ true → ⊥) → xs ≡ []
none-listed [] h = refl
none-listed (x ∷ xs) h = let self = eq-eqb x x refl in absurd (h x (grind (arith, nat_tests)))

pub edges-none : (polygons : List Polygon) (v : ℕ) → faces_of_point polygons v ≡ [] → edge_numbers_at polygons v ≡ []
edges-none polygons v none = none-listed (edge_numbers_at polygons v) (λ n there.
    let found = end-side polygons v n there in
    no-face found.face (at-either-end found.face found.side found.has (or_cases (nat_eq v found.side.0) (nat_eq v found.side.1) found.ends)))
  where
    no-face : (f : ℕ) → has_corner v (polygon_at polygons f) ≡ true → ⊥
    no-face f has = let empty : is_among [] f ≡ true = ap (λ xs. is_among xs f) (sym none) ∙ faces-among polygons v f ∙ has in cc

    at-either-end : (f : ℕ) (s : ℕ × ℕ) → has_side s (polygon_at polygons f) ≡ true → (nat_eq v s.0 ≡ true) ⊎ (nat_eq v s.1 ≡ true) → has_corner v (polygon_at polygons f) ≡ true
    at-either-end f s has (inl e) = subst (λ k. has_corner k (polygon_at polygons f) ≡ true) (sym (eqb-true _ _ e)) (side-start (polygon_at polygons f) s has)
    at-either-end f s has (inr e) = subst (λ k. has_corner k (polygon_at polygons f) ≡ true) (sym (eqb-true _ _ e)) (side-end (polygon_at polygons f) s has)

pub empty-row : (polygons : List Polygon) (v : ℕ) (complete : Bool) (faces at edges ends : List ℕ) → faces ≡ [] → faces ≡ faces_of_point polygons v → at ≡ map (corner_of polygons v) faces → edges ≡ edge_numbers_at polygons v → ends ≡ map (end_of polygons v) edges → IsRow polygons v complete faces at edges ends
empty-row polygons v complete faces at edges ends none f a e n =
    let gone : edges ≡ [] = e ∙ edges-none polygons v (sym f ∙ none) in
    record {
      faces_are = subst (λ xs. IsPermutation (faces_of_point polygons v) xs) (sym f) (IsPermutation-refl (faces_of_point polygons v));
      edges_are = subst (λ xs. IsPermutation (edge_numbers_at polygons v) xs) (sym e) (IsPermutation-refl (edge_numbers_at polygons v));
      fan = λ yes. subst (λ xs. IsFan polygons v xs edges) (sym none) (subst (λ xs. IsFan polygons v [] xs) (sym gone) empty-fan);
      plain_faces = λ no. f;
      plain_edges = λ no. e;
      corners_are = a;
      ends_are = n;
    }
  where
    empty-fan : IsFan polygons v [] []
    empty-fan = record {
      path = tt;
      before = λ i h. absurd (omega arith);
      after = λ i h k. absurd (omega arith);
      closes = λ same some. absurd (omega arith);
      count = inl refl;
    }

-- the edges at a point among the edges as lists of their ends
pub edges-listed : (polygons : List Polygon) (v : ℕ) → lists_with (map pair_list (edges_of polygons)) v ≡ edge_numbers_at polygons v
edges-listed polygons v = go 0 (edges_of polygons) ∙ sym (numbers-at polygons v)
  where
    go : (place : ℕ) (edges : List (ℕ × ℕ)) → places_from place (has_corner v) (map pair_list edges) ≡ places_from place (has_end v) edges
    go place [] = refl
    go place (s ∷ edges) =
        let same : has_corner v (pair_list s) ≡ has_end v s = grind (arith, nat_tests) in
        rw (same, go (place + 1) edges) refl

pub nothing-there : (xs : List ℕ) → length xs ≡ 0 → xs ≡ []
nothing-there [] e = refl
nothing-there (x ∷ xs) e = absurd (omega (arith, e))
