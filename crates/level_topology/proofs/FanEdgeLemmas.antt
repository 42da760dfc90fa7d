-- The edges at a point in fan order.
use Rattle.std.proofs.Common.{subst, ◌≡◌, ◌≢◌, ℕ, zero, suc, ◌+◌, ◌-◌, ◌<◌, Bool, true, false, not, ◌||◌, nat_eq, List, [], ◌∷◌, ◌++◌, length, map, get_or, arith, refl, ap, sym, ◌∙◌, ◌⊎◌, inl, inr, length-append}
use Rattle.std.specs.List.{list_any, list_all}
use Rattle.std.specs.List.Sorted.{IsPermutation}
use Rattle.std.proofs.lemmas.Bool.Decides.{nat_tests}
use Rattle.std.proofs.lemmas.Bool.{and_parts, or_cases, eqb-true, eq-eqb, not-true, false_from_ne_true}
use Rattle.std.proofs.lemmas.List.{get_or-map, length-map, get_or_append_left}
use Rattle.std.proofs.Math.Seq.{get_or-append_seam}
use Rattle.std.proofs.lemmas.List.Sums.{passes_at_first}
use Rattle.std.proofs.lemmas.List.Folds.{list_any-append}
use Rattle.subdiv_model.specs.Polygons.{Polygon, same_side, same_edge, has_side, has_corner, is_among, is_distinct, has_distinct_sides, polygon_at}
use Rattle.subdiv_model.specs.Lists.{places_from}
use Rattle.subdiv_model.specs.Edges.{all_sides, edges_of, edge_number, has_end}
use Rattle.subdiv_model.specs.Manifold.{IsSuccessor, is_simple}
use Rattle.mesh_laws.proofs.SideLemmas.{distinct-places, distinct-count, among-place}
use Rattle.mesh_laws.proofs.EdgeLemmas.{position-within, same-number}
use Rattle.mesh_laws.proofs.ClosedLemmas.{any-place}
use Rattle.mesh_laws.proofs.FanLemmas.{places-before, owner-unique, side-start, side-end}
use Rattle.mesh_laws.proofs.WalkLemmas.{same-tests}
use Rattle.mesh_laws.proofs.ChildCornerLemmas.{side-named}
use Rattle.mesh_laws.proofs.TurnedLemmas.{among-map, map-among, map-distinct}
use Rattle.mesh_laws.proofs.Laws.{listed-as-side}
use Rattle.level_topology.specs.Topology.{IsFan, edge_at, edge_after, edge_before, edge_numbers_at}
use Rattle.level_topology.specs.PointRows.{IsFanFrom, last_face}
use Rattle.level_topology.proofs.PlaceLemmas.{places-item, places-ascend}
use Rattle.level_topology.proofs.LawLemmas.{ascend-distinct, numbers-at, own-number}
use Rattle.level_topology.proofs.FanOrderLemmas.{among-at, same-permutation, path-at}
use Rattle.level_topology.proofs.FanWalkLemmas.{after-side, before-side, after-is, before-is, edge-between, predecessor-unique}

places-among : {X : Type 0} (test : X → Bool) (d : X) (place k : ℕ) (xs : List X) → k < length xs → is_among (places_from place test xs) (place + k) ≡ test (get_or xs k d)
places-among test d place k [] h = absurd (omega arith)
places-among test d place zero (x ∷ xs) h = let behind = places-before test (place + 1) (place + 0) xs (omega arith) in grind (arith, nat_tests)
places-among test d place (suc k) (x ∷ xs) h =
    let e : place + 1 + k ≡ place + suc k = omega arith in
    let behind = ap (is_among (places_from (place + 1) test xs)) (sym e) ∙ places-among test d (place + 1) k xs (omega arith) in
    grind (arith, nat_tests)

distinct-push : (xs : List ℕ) (n : ℕ) → is_distinct xs ≡ true → is_among xs n ≡ false → is_distinct (xs ++ n ∷ []) ≡ true
distinct-push [] n d h = refl
distinct-push (x ∷ xs) n d h =
    let parts = and_parts (not (is_among xs x)) (is_distinct xs) d in
    let behind = distinct-push xs n parts.1 (grind (arith, nat_tests)) in
    let gone = not-true _ parts.0 in
    let joined = list_any-append (nat_eq x) xs (n ∷ []) in
    grind (arith, nat_tests)

two-ends : (a b v : ℕ) → same_edge (a, v) (b, v) ≡ true → a ≡ b
two-ends a b v h = grind (arith, nat_tests)

turned-ends : (w u v : ℕ) → same_edge (v, w) (u, v) ≡ true → w ≡ u
turned-ends w u v h = grind (arith, nat_tests)

end-alike : (v : ℕ) (s t : ℕ × ℕ) → same_edge s t ≡ true → has_end v s ≡ true → has_end v t ≡ true
end-alike v s t h k = grind (arith, nat_tests)

same-from_number : (polygons : List Polygon) (s t : ℕ × ℕ) → list_any (same_edge s) (edges_of polygons) ≡ true → edge_number polygons s ≡ edge_number polygons t → same_edge s t ≡ true
same-from_number polygons s t named h = sym (same-number s t (edges_of polygons) named) ∙ eq-eqb _ _ h

-- the number of an edge that ends at the point is one of those there
end-among : (polygons : List Polygon) (v : ℕ) (s : ℕ × ℕ) → list_any (same_edge s) (edges_of polygons) ≡ true → has_end v s ≡ true → is_among (edge_numbers_at polygons v) (edge_number polygons s) ≡ true
end-among polygons v s named ends =
    let within = position-within s (edges_of polygons) named in
    let there = passes_at_first (same_edge s) (edges_of polygons) (0, 0) within in
    let n : 0 + edge_number polygons s ≡ edge_number polygons s = omega arith in
    ap (λ ns. is_among ns (edge_number polygons s)) (numbers-at polygons v)
    ∙ ap (is_among (places_from 0 (has_end v) (edges_of polygons))) (sym n)
    ∙ places-among (has_end v) (0, 0) 0 (edge_number polygons s) (edges_of polygons) within
    ∙ end-alike v s (get_or (edges_of polygons) (edge_number polygons s) (0, 0)) there ends

-- and each of those there is such an edge, which a face has in its direction
pub record IsEndSide (polygons : List Polygon) (v n : ℕ) : Type 0 where
  pub side : ℕ × ℕ
  pub face : ℕ
  pub has : has_side side (polygon_at polygons face) ≡ true
  pub number : edge_number polygons side ≡ n
  pub ends : has_end v side ≡ true

pub end-side : (polygons : List Polygon) (v n : ℕ) → is_among (edge_numbers_at polygons v) n ≡ true → IsEndSide polygons v n
end-side polygons v n h =
    let there : is_among (places_from 0 (has_end v) (edges_of polygons)) n ≡ true = sym (ap (λ ns. is_among ns n) (numbers-at polygons v)) ∙ h in
    let at = among-at n (places_from 0 (has_end v) (edges_of polygons)) there in
    let item = places-item (has_end v) (0, 0) 0 (edges_of polygons) at.0 at.1 in
    let place : item.0 ≡ n = omega (arith, item.2, at.2) in
    let found = any-place (same_side (edge_at polygons item.0)) polygons (listed-as-side polygons item.0 (0, 0) item.1) in
    record {
      side = edge_at polygons item.0;
      face = found.0;
      has = found.2;
      number = own-number polygons item.0 item.1 ∙ place;
      ends = item.3;
    }

module _ (polygons : List Polygon) (simple : list_all is_simple polygons ≡ true) (distinct : has_distinct_sides (all_sides polygons) ≡ true) (v : ℕ) where
  -- the edge after a face is the edge before another only where the first leads to the second
  after-before : (f g : ℕ) → has_corner v (polygon_at polygons f) ≡ true → has_corner v (polygon_at polygons g) ≡ true → edge_after polygons v f ≡ edge_before polygons v g → IsSuccessor polygons v f g
  after-before f g at_f at_g h =
      let out = after-side polygons simple distinct v f at_f in
      let into = before-side polygons simple distinct v g at_g in
      let same = same-from_number polygons (v, out.0) (into.0, v) (side-named polygons f (v, out.0) out.1) (sym out.2 ∙ h ∙ into.2) in
      let corner = turned-ends out.0 into.0 v same in
      record { corner = out.0; follows = out.1; leads_back = subst (λ n. has_side (n, v) (polygon_at polygons g) ≡ true) (sym corner) into.1 }

  before-apart : (f g : ℕ) → has_corner v (polygon_at polygons f) ≡ true → has_corner v (polygon_at polygons g) ≡ true → edge_before polygons v f ≡ edge_before polygons v g → f ≡ g
  before-apart f g at_f at_g h =
      let one = before-side polygons simple distinct v f at_f in
      let two = before-side polygons simple distinct v g at_g in
      let same = same-from_number polygons (one.0, v) (two.0, v) (side-named polygons f (one.0, v) one.1) (sym one.2 ∙ h ∙ two.2) in
      let corner = two-ends one.0 two.0 v same in
      owner-unique polygons (one.0, v) f g (distinct-count (one.0, v) (all_sides polygons) distinct) one.1 (subst (λ n. has_side (n, v) (polygon_at polygons g) ≡ true) (sym corner) two.1)

  module _ (start : ℕ) (fan : List ℕ) (is : IsFanFrom polygons v start fan) where
    face-at : (i : ℕ) → i < length fan → has_corner v (polygon_at polygons (get_or fan i 0)) ≡ true
    face-at i inside = sym (is.all (get_or fan i 0)) ∙ among-place (get_or fan i 0) fan i inside refl

    face-among : (f : ℕ) → is_among fan f ≡ true → has_corner v (polygon_at polygons f) ≡ true
    face-among f there = sym (is.all f) ∙ there

    last-there : has_corner v (polygon_at polygons (last_face fan)) ≡ true
    last-there = face-at (length fan - 1) (omega (arith, is.some))

    befores-distinct : is_distinct (map (edge_before polygons v) fan) ≡ true
    befores-distinct = map-distinct (edge_before polygons v) fan (λ f g at_f at_g h. before-apart f g (face-among f at_f) (face-among g at_g) h) is.once

    before-among : (f n : ℕ) → has_corner v (polygon_at polygons f) ≡ true → edge_before polygons v f ≡ n → is_among (map (edge_before polygons v) fan) n ≡ true
    before-among f n at h = map-among (edge_before polygons v) fan f n (is.all f ∙ at) h

    -- the edge before a face ends at the point
    before-ends : (n : ℕ) → is_among (map (edge_before polygons v) fan) n ≡ true → is_among (edge_numbers_at polygons v) n ≡ true
    before-ends n there =
        let found = among-map (edge_before polygons v) fan n there in
        let into = before-side polygons simple distinct v found.0 (face-among found.0 found.1) in
        subst (λ k. is_among (edge_numbers_at polygons v) k ≡ true) (sym into.2 ∙ found.2)
        (end-among polygons v (into.0, v) (side-named polygons found.0 (into.0, v) into.1) (grind (arith, nat_tests)))

    after-ends : is_among (edge_numbers_at polygons v) (edge_after polygons v (last_face fan)) ≡ true
    after-ends =
        let out = after-side polygons simple distinct v (last_face fan) last-there in
        subst (λ k. is_among (edge_numbers_at polygons v) k ≡ true) (sym out.2)
        (end-among polygons v (v, out.0) (side-named polygons (last_face fan) (v, out.0) out.1) (grind (arith, nat_tests)))

    -- each edge there is before a face, or after the last one
    end-cases : (n : ℕ) → is_among (edge_numbers_at polygons v) n ≡ true → (is_among (map (edge_before polygons v) fan) n ≡ true) ⊎ (edge_after polygons v (last_face fan) ≡ n)
    end-cases n there =
        let found = end-side polygons v n there in
        at-either-end found (or_cases (nat_eq v found.side.0) (nat_eq v found.side.1) found.ends)
      where
        out : (f : ℕ) → has_corner v (polygon_at polygons f) ≡ true → edge_after polygons v f ≡ n → (is_among (map (edge_before polygons v) fan) n ≡ true) ⊎ (edge_after polygons v (last_face fan) ≡ n)
        out f at after =
            let place = among-at f fan (is.all f ∙ at) in
            further place.0 place.1 place.2 (nat_eq (place.0 + 1) (length fan)) refl
          where
            further : (i : ℕ) → i < length fan → get_or fan i 0 ≡ f → (b : Bool) → nat_eq (i + 1) (length fan) ≡ b → (is_among (map (edge_before polygons v) fan) n ≡ true) ⊎ (edge_after polygons v (last_face fan) ≡ n)
            further i inside here true e =
                let last : length fan - 1 ≡ i = omega (arith, eqb-true _ _ e) in
                inr (ap (λ k. edge_after polygons v (get_or fan k 0)) last ∙ ap (edge_after polygons v) here ∙ after)
            further i inside here false e =
                let more : i + 1 < length fan = (let apart : i + 1 ≢ length fan = λ same. absurd (let yes = eq-eqb _ _ same in cc) in omega (arith, inside, apart)) in
                inl (before-among (get_or fan (i + 1) 0) n (face-at (i + 1) more)
                (edge-between polygons simple distinct v (get_or fan i 0) (get_or fan (i + 1) 0) (path-at polygons v fan i is.path more) ∙ ap (edge_after polygons v) here ∙ after))

        at-either-end : (found : IsEndSide polygons v n) → (nat_eq v found.side.0 ≡ true) ⊎ (nat_eq v found.side.1 ≡ true) → (is_among (map (edge_before polygons v) fan) n ≡ true) ⊎ (edge_after polygons v (last_face fan) ≡ n)
        at-either-end found (inl e) =
            let side : has_side (v, found.side.1) (polygon_at polygons found.face) ≡ true = subst (λ m. has_side (m, found.side.1) (polygon_at polygons found.face) ≡ true) (sym (eqb-true _ _ e)) found.has in
            let number : edge_number polygons (v, found.side.1) ≡ n = ap (λ m. edge_number polygons (m, found.side.1)) (eqb-true _ _ e) ∙ found.number in
            out found.face (side-start (polygon_at polygons found.face) (v, found.side.1) side) (after-is polygons simple distinct v found.face found.side.1 side ∙ number)
        at-either-end found (inr e) =
            let side : has_side (found.side.0, v) (polygon_at polygons found.face) ≡ true = subst (λ m. has_side (found.side.0, m) (polygon_at polygons found.face) ≡ true) (sym (eqb-true _ _ e)) found.has in
            let number : edge_number polygons (found.side.0, v) ≡ n = ap (λ m. edge_number polygons (found.side.0, m)) (eqb-true _ _ e) ∙ found.number in
            inl (before-among found.face n (side-end (polygon_at polygons found.face) (found.side.0, v) side) (before-is polygons simple distinct v found.face found.side.0 side ∙ number))

    numbers-distinct : is_distinct (edge_numbers_at polygons v) ≡ true
    numbers-distinct = rw (numbers-at polygons v) (ascend-distinct (places_from 0 (has_end v) (edges_of polygons)) (places-ascend (has_end v) (0, 0) 0 (edges_of polygons)))

    before-item : (i : ℕ) → i < length fan → get_or (map (edge_before polygons v) fan) i 0 ≡ edge_before polygons v (get_or fan i 0)
    before-item i inside = get_or-map (edge_before polygons v) fan i 0 0 inside

    before-next : (i : ℕ) → i + 1 < length fan → get_or (map (edge_before polygons v) fan) (i + 1) 0 ≡ edge_after polygons v (get_or fan i 0)
    before-next i more = before-item (i + 1) more ∙ edge-between polygons simple distinct v (get_or fan i 0) (get_or fan (i + 1) 0) (path-at polygons v fan i is.path more)

    before-count : length (map (edge_before polygons v) fan) ≡ length fan
    before-count = length-map fan (edge_before polygons v)

    -- a fan whose last face leads to its first
    pub closed-fan : IsSuccessor polygons v (last_face fan) start → IsFan polygons v fan (map (edge_before polygons v) fan)
    closed-fan leads = record {
      path = is.path;
      before = before-item;
      after = λ i more inside. before-next i (omega (arith, more, before-count));
      closes = λ same some. sym (before-item 0 is.some ∙ ap (edge_before polygons v) is.first ∙ edge-between polygons simple distinct v (last_face fan) start leads);
      count = inl before-count;
    }

    pub closed-permutation : IsSuccessor polygons v (last_face fan) start → IsPermutation (edge_numbers_at polygons v) (map (edge_before polygons v) fan)
    closed-permutation leads = same-permutation (edge_numbers_at polygons v) (map (edge_before polygons v) fan) numbers-distinct befores-distinct (λ n. same-tests _ _ (λ h. one n (end-cases n h)) (before-ends n))
      where
        one : (n : ℕ) → (is_among (map (edge_before polygons v) fan) n ≡ true) ⊎ (edge_after polygons v (last_face fan) ≡ n) → is_among (map (edge_before polygons v) fan) n ≡ true
        one n (inl h) = h
        one n (inr h) = before-among start n (ap (λ f. has_corner v (polygon_at polygons f)) (sym is.first) ∙ face-at 0 is.some) (edge-between polygons simple distinct v (last_face fan) start leads ∙ h)

    -- a fan to whose first face none leads
    module _ (no_predecessor : (f : ℕ) → IsSuccessor polygons v f start → ⊥) where
      abbrev open_edges : List ℕ
      open_edges = map (edge_before polygons v) fan ++ edge_after polygons v (last_face fan) ∷ []

      open-count : length open_edges ≡ length fan + 1
      open-count = omega (arith, before-count, length-append (map (edge_before polygons v) fan) (edge_after polygons v (last_face fan) ∷ []))

      open-item : (i : ℕ) → i < length fan → get_or open_edges i 0 ≡ get_or (map (edge_before polygons v) fan) i 0
      open-item i inside = get_or_append_left (map (edge_before polygons v) fan) (edge_after polygons v (last_face fan) ∷ []) 0 i (omega (arith, inside, before-count))

      open-after : (i : ℕ) → i + 1 < length open_edges → i < length fan → get_or open_edges (i + 1) 0 ≡ edge_after polygons v (get_or fan i 0)
      open-after i more inside = go (nat_eq (i + 1) (length fan)) refl
        where
          go : (b : Bool) → nat_eq (i + 1) (length fan) ≡ b → get_or open_edges (i + 1) 0 ≡ edge_after polygons v (get_or fan i 0)
          go true e =
              let end : i + 1 ≡ length (map (edge_before polygons v) fan) = omega (arith, eqb-true _ _ e, before-count) in
              let last : length fan - 1 ≡ i = omega (arith, eqb-true _ _ e) in
              ap (λ k. get_or open_edges k 0) end
              ∙ get_or-append_seam (map (edge_before polygons v) fan) (edge_after polygons v (last_face fan)) [] 0
              ∙ ap (λ k. edge_after polygons v (get_or fan k 0)) last
          go false e =
              let further : i + 1 < length fan = (let apart : i + 1 ≢ length fan = λ same. absurd (let yes = eq-eqb _ _ same in cc) in omega (arith, inside, apart)) in
              open-item (i + 1) further ∙ before-next i further

      pub open-fan : IsFan polygons v fan open_edges
      open-fan = record {
        path = is.path;
        before = λ i inside. open-item i inside ∙ before-item i inside;
        after = open-after;
        closes = λ same some. absurd (omega (arith, same, open-count));
        count = inr open-count;
      }

      -- the last edge is before no face
      last-apart : is_among (map (edge_before polygons v) fan) (edge_after polygons v (last_face fan)) ≡ false
      last-apart = false_from_ne_true _ (λ there.
          let found = among-map (edge_before polygons v) fan (edge_after polygons v (last_face fan)) there in
          let leads = after-before (last_face fan) found.0 last-there (face-among found.0 found.1) (sym found.2) in
          let place = among-at found.0 fan found.1 in
          absurd (clash place.0 place.1 found.0 place.2 leads))
        where
          clash : (i : ℕ) → i < length fan → (f : ℕ) → get_or fan i 0 ≡ f → IsSuccessor polygons v (last_face fan) f → ⊥
          clash zero inside f at leads = no_predecessor (last_face fan) (subst (λ (g : ℕ). IsSuccessor polygons v (last_face fan) g) (sym at ∙ is.first) leads)
          clash (suc i) inside f at leads =
              let next : i + 1 ≡ suc i = omega arith in
              let before : IsSuccessor polygons v (get_or fan i 0) f = subst (λ (g : ℕ). IsSuccessor polygons v (get_or fan i 0) g) (ap (λ k. get_or fan k 0) next ∙ at) (path-at polygons v fan i is.path (omega (arith, inside))) in
              let same = predecessor-unique polygons simple distinct v (last_face fan) (get_or fan i 0) f leads before in
              let places = distinct-places fan (length fan - 1) i is.once (omega (arith, is.some)) (omega (arith, inside)) same in
              omega (arith, places, inside)

      pub open-permutation : IsPermutation (edge_numbers_at polygons v) open_edges
      open-permutation = same-permutation (edge_numbers_at polygons v) open_edges numbers-distinct (distinct-push (map (edge_before polygons v) fan) (edge_after polygons v (last_face fan)) befores-distinct last-apart) (λ n. same-tests _ _ (λ h. there n (end-cases n h)) (λ h. back n h))
        where
          joined : (n : ℕ) → is_among open_edges n ≡ (is_among (map (edge_before polygons v) fan) n || (nat_eq n (edge_after polygons v (last_face fan)) || false))
          joined n = list_any-append (nat_eq n) (map (edge_before polygons v) fan) (edge_after polygons v (last_face fan) ∷ [])

          there : (n : ℕ) → (is_among (map (edge_before polygons v) fan) n ≡ true) ⊎ (edge_after polygons v (last_face fan) ≡ n) → is_among open_edges n ≡ true
          there n (inl h) = let j = joined n in grind (arith, nat_tests)
          there n (inr h) = let j = joined n in let e = eq-eqb n (edge_after polygons v (last_face fan)) (sym h) in grind (arith, nat_tests)

          back : (n : ℕ) → is_among open_edges n ≡ true → is_among (edge_numbers_at polygons v) n ≡ true
          back n h = which (or_cases _ _ (sym (joined n) ∙ h))
            where
              which : (is_among (map (edge_before polygons v) fan) n ≡ true) ⊎ ((nat_eq n (edge_after polygons v (last_face fan)) || false) ≡ true) → is_among (edge_numbers_at polygons v) n ≡ true
              which (inl k) = before-ends n k
              which (inr k) =
                  let e : nat_eq n (edge_after polygons v (last_face fan)) ≡ true = grind (arith, nat_tests) in
                  ap (is_among (edge_numbers_at polygons v)) (eqb-true _ _ e) ∙ after-ends
