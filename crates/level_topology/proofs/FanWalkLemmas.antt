-- The faces at a point in fan order, and the edges before and after each.
use Rattle.std.proofs.Common.{subst, ◌≡◌, ◌≢◌, ℕ, zero, suc, ◌+◌, ◌-◌, ◌<◌, Bool, true, false, nat_eq, List, [], ◌∷◌, ◌++◌, length, get_or, arith, refl, ap, sym, ◌∙◌}
use Rattle.std.specs.List.{list_any, list_all, position_or_len}
use Rattle.std.proofs.lemmas.Bool.Decides.{nat_tests}
use Rattle.std.proofs.lemmas.Bool.{eqb-true, eq-eqb, false_from_ne_true}
use Rattle.std.proofs.lemmas.List.{get_or-map}
use Rattle.std.proofs.lemmas.List.Sums.{passes_at_first}
use Rattle.std.proofs.lemmas.List.Folds.{list_any_at}
use Rattle.std.specs.List.Sorted.{IsPermutation}
use Rattle.std.proofs.lemmas.List.Sorted.{list_any-IsPermutation, IsPermutation-append_comm}
use Rattle.subdiv_model.specs.Lists.{last_of}
use Rattle.subdiv_model.specs.Polygons.{Polygon, sides_of, same_side, has_side, has_corner, is_among, is_distinct, has_distinct_sides, polygon_at}
use Rattle.subdiv_model.specs.Edges.{all_sides, edges_of, edge_number, faces_of_point}
use Rattle.subdiv_model.specs.Manifold.{IsSuccessor, IsPath, HasOneFan, is_simple}
use Rattle.level_laws.proofs.FaceLemmas.{sides_of-length}
use Rattle.mesh_laws.proofs.SideLemmas.{same_side-refl, distinct-count, distinct-places}
use Rattle.mesh_laws.proofs.EdgeLemmas.{position-alike}
use Rattle.mesh_laws.proofs.FanLemmas.{faces-among, follower-unique, leader-unique, owner-unique, distinct-at, side-start, side-end, successor-unique}
use Rattle.mesh_laws.proofs.WalkLemmas.{same-tests}
use Rattle.mesh_laws.proofs.ChildPlaceLemmas.{first-within}
use Rattle.level_topology.specs.Topology.{corner_of, corner_before, corner_after, side_at, edge_after, edge_before, face_edges_of}
use Rattle.level_topology.specs.PointRows.{IsFanFrom}
use Rattle.level_topology.proofs.PlaceLemmas.{side-there, places-ascend, distinct-permutation}
use Rattle.level_topology.proofs.LawLemmas.{ascend-distinct}
use Rattle.level_topology.proofs.FanOrderLemmas.{among-split, among-at, same-permutation, path-at, path-turned, last-at}

corner-there : (v : ℕ) (polygon : Polygon) → has_corner v polygon ≡ true → (position_or_len (nat_eq v) polygon < length polygon) × (get_or polygon (position_or_len (nat_eq v) polygon) 0 ≡ v)
corner-there v polygon has =
    let within = first-within (nat_eq v) polygon has in
    (within, sym (eqb-true _ _ (passes_at_first (nat_eq v) polygon 0 within)))

side-at-has : (polygon : Polygon) (c : ℕ) → c < length polygon → has_side (side_at polygon c) polygon ≡ true
side-at-has polygon c h =
    let within : c < length (sides_of polygon) = omega (arith, sides_of-length polygon) in
    subst (λ s. list_any (same_side s) (sides_of polygon) ≡ true) (side-there polygon c h)
    (list_any_at (same_side (get_or (sides_of polygon) c (0, 0))) (sides_of polygon) c (0, 0) within (same_side-refl (get_or (sides_of polygon) c (0, 0))))

edge-of-side : (polygons : List Polygon) (f c : ℕ) → c < length (polygon_at polygons f) → get_or (face_edges_of polygons (polygon_at polygons f)) c 0 ≡ edge_number polygons (side_at (polygon_at polygons f) c)
edge-of-side polygons f c h =
    let within : c < length (sides_of (polygon_at polygons f)) = omega (arith, sides_of-length (polygon_at polygons f)) in
    get_or-map (edge_number polygons) (sides_of (polygon_at polygons f)) c (0, 0) 0 within ∙ ap (edge_number polygons) (side-there (polygon_at polygons f) c h)

-- the corner after the one before is the corner
pub before-after : (size c : ℕ) → c < size → (corner_before size c < size) × (corner_after size (corner_before size c) ≡ c)
before-after size c h = go (nat_eq c 0) refl
  where
    go : (b : Bool) → nat_eq c 0 ≡ b → (corner_before size c < size) × (corner_after size (corner_before size c) ≡ c)
    go true e =
        let zero_c : c ≡ 0 = eqb-true _ _ e in
        let last : nat_eq (size - 1 + 1) size ≡ true = eq-eqb _ _ (omega arith) in
        (rw e (omega arith), rw (e, last) (sym zero_c))
    go false e =
        let some : c ≢ 0 = λ same. absurd (let yes = eq-eqb c 0 same in cc) in
        let inner : nat_eq (c - 1 + 1) size ≡ false = false_from_ne_true _ (λ same. absurd (omega (arith, eqb-true _ _ same, h, some))) in
        (rw e (omega arith), rw (e, inner) (omega arith))

module _ (polygons : List Polygon) (simple : list_all is_simple polygons ≡ true) (distinct : has_distinct_sides (all_sides polygons) ≡ true) (v : ℕ) where
  -- the side that leaves the point in a face, and the side that comes to it
  pub after-side : (f : ℕ) → has_corner v (polygon_at polygons f) ≡ true → (w : ℕ) × (has_side (v, w) (polygon_at polygons f) ≡ true) × (edge_after polygons v f ≡ edge_number polygons (v, w))
  after-side f has =
      let corner = corner-there v (polygon_at polygons f) has in
      let size = length (polygon_at polygons f) in
      let c = corner_of polygons v f in
      let same : side_at (polygon_at polygons f) c ≡ (v, get_or (polygon_at polygons f) (corner_after size c) 0) = ap (λ n. (n, get_or (polygon_at polygons f) (corner_after size c) 0)) corner.1 in (
        get_or (polygon_at polygons f) (corner_after size c) 0,
        subst (λ s. has_side s (polygon_at polygons f) ≡ true) same (side-at-has (polygon_at polygons f) c corner.0),
        edge-of-side polygons f c corner.0 ∙ ap (edge_number polygons) same,
      )

  pub before-side : (f : ℕ) → has_corner v (polygon_at polygons f) ≡ true → (u : ℕ) × (has_side (u, v) (polygon_at polygons f) ≡ true) × (edge_before polygons v f ≡ edge_number polygons (u, v))
  before-side f has =
      let corner = corner-there v (polygon_at polygons f) has in
      let size = length (polygon_at polygons f) in
      let b = corner_before size (corner_of polygons v f) in
      let turn = before-after size (corner_of polygons v f) corner.0 in
      let same : side_at (polygon_at polygons f) b ≡ (get_or (polygon_at polygons f) b 0, v) = ap (λ n. (get_or (polygon_at polygons f) b 0, n)) (ap (λ k. get_or (polygon_at polygons f) k 0) turn.1 ∙ corner.1) in (
        get_or (polygon_at polygons f) b 0,
        subst (λ s. has_side s (polygon_at polygons f) ≡ true) same (side-at-has (polygon_at polygons f) b turn.0),
        edge-of-side polygons f b turn.0 ∙ ap (edge_number polygons) same,
      )

  -- a side that leaves the point in a face is the edge after it there, and one that comes to it is the edge before
  pub after-is : (f w : ℕ) → has_side (v, w) (polygon_at polygons f) ≡ true → edge_after polygons v f ≡ edge_number polygons (v, w)
  after-is f w side =
      let found = after-side f (side-start (polygon_at polygons f) (v, w) side) in
      found.2 ∙ ap (λ n. edge_number polygons (v, n)) (follower-unique (polygon_at polygons f) v found.0 w (distinct-at polygons f simple) found.1 side)

  pub before-is : (f u : ℕ) → has_side (u, v) (polygon_at polygons f) ≡ true → edge_before polygons v f ≡ edge_number polygons (u, v)
  before-is f u side =
      let found = before-side f (side-end (polygon_at polygons f) (u, v) side) in
      found.2 ∙ ap (λ n. edge_number polygons (n, v)) (leader-unique (polygon_at polygons f) v found.0 u (distinct-at polygons f simple) found.1 side)

  either-direction : (a b : ℕ) → edge_number polygons (a, b) ≡ edge_number polygons (b, a)
  either-direction a b = position-alike (a, b) (b, a) (edges_of polygons) (grind (arith, nat_tests))

  -- the edge after a face is the edge before its successor
  pub edge-between : (f g : ℕ) → IsSuccessor polygons v f g → edge_before polygons v g ≡ edge_after polygons v f
  edge-between f g leads = before-is g leads.corner leads.leads_back ∙ either-direction leads.corner v ∙ sym (after-is f leads.corner leads.follows)

  -- one face leads to a face
  pub predecessor-unique : (f g next : ℕ) → IsSuccessor polygons v f next → IsSuccessor polygons v g next → f ≡ g
  predecessor-unique f g next at_f at_g =
      let same = leader-unique (polygon_at polygons next) v at_f.corner at_g.corner (distinct-at polygons next simple) at_f.leads_back at_g.leads_back in
      let also : has_side (v, at_f.corner) (polygon_at polygons g) ≡ true = ap (λ (n : ℕ). has_side (v, n) (polygon_at polygons g)) same ∙ at_g.follows in
      owner-unique polygons (v, at_f.corner) f g (distinct-count (v, at_f.corner) (all_sides polygons) distinct) at_f.follows also

  -- a face whose next corner leads back to the point is there
  pub from-corner : (f g : ℕ) → IsSuccessor polygons v f g → (has_corner v (polygon_at polygons f) ≡ true) × (has_corner v (polygon_at polygons g) ≡ true)
  from-corner f g leads = (side-start (polygon_at polygons f) (v, leads.corner) leads.follows, side-end (polygon_at polygons g) (leads.corner, v) leads.leads_back)

  -- where a face leads to the first of a fan, it is the last of it
  pub closes-last : (fan : List ℕ) (p : ℕ) → IsPath polygons v fan → is_distinct fan ≡ true → is_among fan p ≡ true → IsSuccessor polygons v p (get_or fan 0 0) → p ≡ get_or fan (length fan - 1) 0
  closes-last fan p path once there leads =
      let found = among-at p fan there in
      go found.0 found.1 found.2 (nat_eq (found.0 + 1) (length fan)) refl
    where
      go : (i : ℕ) → i < length fan → get_or fan i 0 ≡ p → (b : Bool) → nat_eq (i + 1) (length fan) ≡ b → p ≡ get_or fan (length fan - 1) 0
      go i inside at true e =
          let last : i ≡ length fan - 1 = omega (arith, eqb-true _ _ e) in
          sym at ∙ ap (λ k. get_or fan k 0) last
      go i inside at false e =
          let more : i + 1 < length fan = (let apart : i + 1 ≢ length fan = λ same. absurd (let yes = eq-eqb _ _ same in cc) in omega (arith, inside, apart)) in
          let goes : IsSuccessor polygons v p (get_or fan (i + 1) 0) = subst (λ (f : ℕ). IsSuccessor polygons v f (get_or fan (i + 1) 0)) at (path-at polygons v fan i path more) in
          let same = successor-unique polygons simple distinct v p (get_or fan (i + 1) 0) (get_or fan 0 0) goes leads in
          let clash = distinct-places fan (i + 1) 0 once more (omega (arith, inside)) same in
          absurd (omega (arith, clash))

  fan-same : (fan front : List ℕ) (start : ℕ) (back : List ℕ) → fan ≡ front ++ start ∷ back → IsPath polygons v fan → is_distinct fan ≡ true → ((f : ℕ) → is_among fan f ≡ has_corner v (polygon_at polygons f)) → ((f : ℕ) (rest : List ℕ) → front ++ start ∷ back ≡ f ∷ rest → IsSuccessor polygons v (last_of f rest) f) → IsFanFrom polygons v start ((start ∷ back) ++ front)
  fan-same fan front start back e path once all closes = record {
    path = path-turned polygons v front start back (subst (λ xs. IsPath polygons v xs) e path) closes;
    once = distinct-permutation (front ++ start ∷ back) ((start ∷ back) ++ front) (IsPermutation-append_comm front (start ∷ back)) (subst (λ xs. is_distinct xs ≡ true) e once);
    all = λ f. sym (list_any-IsPermutation (nat_eq f) (front ++ start ∷ back) ((start ∷ back) ++ front) (IsPermutation-append_comm front (start ∷ back))) ∙ ap (λ xs. is_among xs f) (sym e) ∙ all f;
    some = omega arith;
    first = refl;
  }

  pub fan-all : (is : HasOneFan polygons v) (f : ℕ) → is_among is.fan f ≡ has_corner v (polygon_at polygons f)
  fan-all is f = same-tests _ _ (is.all f).0 (is.all f).1

  -- a face to which none leads begins the fan
  pub fan-from-first : (start : ℕ) → HasOneFan polygons v → has_corner v (polygon_at polygons start) ≡ true → ((f : ℕ) → IsSuccessor polygons v f start → ⊥) → (fan : List ℕ) × IsFanFrom polygons v start fan
  fan-from-first start is has no_predecessor =
      let found = among-at start is.fan (fan-all is start ∙ has) in (
        is.fan,
        record {
          path = is.path;
          once = is.once;
          all = fan-all is;
          some = omega (arith, found.1);
          first = go found.0 found.1 found.2;
        },
      )
    where
      go : (i : ℕ) → i < length is.fan → get_or is.fan i 0 ≡ start → get_or is.fan 0 0 ≡ start
      go zero inside at = at
      go (suc i) inside at =
          let next : i + 1 ≡ suc i = omega arith in
          let leads = path-at polygons v is.fan i is.path (omega (arith, inside)) in
          absurd (no_predecessor (get_or is.fan i 0) (subst (λ (f : ℕ). IsSuccessor polygons v (get_or is.fan i 0) f) (ap (λ k. get_or is.fan k 0) next ∙ at) leads))

  -- where one leads to each face, the fan begins at any of them
  pub fan-from-any : (start : ℕ) → HasOneFan polygons v → has_corner v (polygon_at polygons start) ≡ true → ((f : ℕ) → has_corner v (polygon_at polygons f) ≡ true → (p : ℕ) × IsSuccessor polygons v p f) → (fan : List ℕ) × IsFanFrom polygons v start fan
  fan-from-any start is has leads =
      let found = among-split start is.fan (fan-all is start ∙ has) in
      ((start ∷ found.1) ++ found.0, fan-same is.fan found.0 start found.1 found.2 is.path is.once (fan-all is) (λ f rest e. closes f rest (found.2 ∙ e)))
    where
      closes : (f : ℕ) (rest : List ℕ) → is.fan ≡ f ∷ rest → IsSuccessor polygons v (last_of f rest) f
      closes f rest e =
          let self : nat_eq f f ≡ true = eq-eqb f f refl in
          let there : is_among (f ∷ rest) f ≡ true = grind (arith, nat_tests) in
          let p = leads f (sym (fan-all is f) ∙ ap (λ xs. is_among xs f) e ∙ there) in
          let among : is_among (f ∷ rest) p.0 ≡ true = ap (λ xs. is_among xs p.0) (sym e) ∙ fan-all is p.0 ∙ (from-corner p.0 f p.1).0 in
          let place : p.0 ≡ get_or (f ∷ rest) (length (f ∷ rest) - 1) 0 = closes-last (f ∷ rest) p.0 (subst (λ xs. IsPath polygons v xs) e is.path) (subst (λ xs. is_distinct xs ≡ true) e is.once) among p.1 in
          let end : length (f ∷ rest) - 1 ≡ length rest = omega arith in
          subst (λ (q : ℕ). IsSuccessor polygons v q f) (place ∙ ap (λ k. get_or (f ∷ rest) k 0) end ∙ sym (last-at f rest)) p.1

  -- the faces of a fan are a rearrangement of the faces there
  pub fan-permutation : (start : ℕ) (fan : List ℕ) → IsFanFrom polygons v start fan → IsPermutation (faces_of_point polygons v) fan
  fan-permutation start fan is =
      same-permutation (faces_of_point polygons v) fan (ascend-distinct (faces_of_point polygons v) (places-ascend (has_corner v) [] 0 polygons)) is.once (λ n. faces-among polygons v n ∙ sym (is.all n))

  -- Two fans from one face agree, place by place.
  pub fan-next : (start : ℕ) (fan : List ℕ) (i g : ℕ) → IsFanFrom polygons v start fan → i + 1 < length fan → IsSuccessor polygons v (get_or fan i 0) g → get_or fan (i + 1) 0 ≡ g
  fan-next start fan i g is inside leads = successor-unique polygons simple distinct v (get_or fan i 0) (get_or fan (i + 1) 0) g (path-at polygons v fan i is.path inside) leads
