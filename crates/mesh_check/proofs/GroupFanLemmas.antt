-- The faces at a vertex are one fan exactly where their places form one chain. The lists have the corners before and after
-- the vertex.
use Rattle.std.proofs.Common.{◌≡◌, ℕ, zero, suc, ◌+◌, ◌<◌, Bool, true, false, not, nat_eq, nat_lt, List, [], ◌∷◌, ◌++◌, length, map, take, get_or, arith, refl, ap, sym, subst, ◌∙◌}
use Rattle.std.specs.List.{list_all, position_or_len}
use Rattle.std.proofs.lemmas.Bool.Decides.{nat_tests}
use Rattle.std.proofs.lemmas.Bool.{and_from}
use Rattle.std.proofs.lemmas.List.{length-map, take_more, map-append}
use Rattle.std.proofs.lemmas.List.Sums.{passes_at_first}
use Rattle.subdiv_model.specs.Polygons.{Polygon, has_side, has_corner, is_among, is_distinct, has_distinct_sides, polygon_at}
use Rattle.subdiv_model.specs.Edges.{all_sides}
use Rattle.subdiv_model.specs.Manifold.{IsSuccessor, IsPath, HasOneFan, is_simple, has_one_fan}
use Rattle.mesh_laws.proofs.SideLemmas.{among-place, distinct-places, distinct-count}
use Rattle.mesh_laws.proofs.FanLemmas.{follower-unique, leader-unique, owner-unique, distinct-at}
use Rattle.mesh_laws.proofs.WalkLemmas.{one_fan-from_test, one_fan-test, same-tests}
use Rattle.level_topology.proofs.FanOrderLemmas.{among-at}
use Rattle.mesh_check.specs.Chain.{Links, IsOneChain}
use Rattle.mesh_check.specs.Group.{IsGroup, next_places}
use Rattle.mesh_check.proofs.GroupLemmas.{own-place, place-of, among-map, map-among, distinct-map}

-- a map at a place has the value of the item there
map-at : (f : ℕ → ℕ) (xs : List ℕ) (i d : ℕ) → i < length xs → get_or (map f xs) i d ≡ f (get_or xs i 0)
map-at f [] i d h = absurd (omega arith)
map-at f (x ∷ xs) zero d h = refl
map-at f (x ∷ xs) (suc i) d h = map-at f xs i d (omega arith)

-- the values of one more item
pub values-more : (f : ℕ → ℕ) (xs : List ℕ) (i d y : ℕ) (before after : List ℕ) → i < length xs → before ≡ map f (take i xs) → y ≡ f (get_or xs i d) → after ≡ before ++ y ∷ [] → after ≡ map f (take (i + 1) xs)
values-more f xs i d y before after h b is a =
    a ∙ ap (λ ks. ks ++ y ∷ []) b ∙ ap (λ k. map f (take i xs) ++ k ∷ []) is ∙ sym (ap (map f) (take_more xs i d h) ∙ map-append f (take i xs) (get_or xs i d ∷ []))

-- a list whose places have numbers that differ is distinct
distinct-from_places : (xs : List ℕ) → ((i j : ℕ) → i < length xs → j < length xs → get_or xs i 0 ≡ get_or xs j 0 → i ≡ j) → is_distinct xs ≡ true
distinct-from_places [] apart = refl
distinct-from_places (x ∷ xs) apart =
    and_from _ _ (out (is_among xs x) refl) (distinct-from_places xs (λ i j h k e. let same = apart (suc i) (suc j) (omega arith) (omega arith) e in omega (arith, same)))
  where
    out : (b : Bool) → is_among xs x ≡ b → not (is_among xs x) ≡ true
    out false e = ap not e
    out true e =
        let found = among-at x xs e in
        let inside = found.1 in
        let same = apart 0 (suc found.0) (omega arith) (omega arith) (sym found.2) in
        absurd (omega (arith, same))

module _ (polygons : List Polygon) (v : ℕ) (befores faces afters : List ℕ) (simple : list_all is_simple polygons ≡ true) (distinct : has_distinct_sides (all_sides polygons) ≡ true) (g : IsGroup polygons v befores faces afters) where
  -- the corners before the vertex differ
  same-before : (i j : ℕ) → i < length faces → j < length faces → get_or befores i 0 ≡ get_or befores j 0 → i ≡ j
  same-before i j h k e =
      let there : has_side (get_or befores i 0, v) (polygon_at polygons (get_or faces j 0)) ≡ true = ap (λ b. has_side (b, v) (polygon_at polygons (get_or faces j 0))) e ∙ g.leads j k in
      let owner = owner-unique polygons (get_or befores i 0, v) (get_or faces i 0) (get_or faces j 0) (distinct-count (get_or befores i 0, v) (all_sides polygons) distinct) (g.leads i h) there in
      distinct-places faces i j g.once h k owner

  pub befores-distinct : is_distinct befores ≡ true
  befores-distinct = distinct-from_places befores (λ i j h k e. same-before i j (omega (arith, h, g.same_befores)) (omega (arith, k, g.same_befores)) e)

  next-at : (i d : ℕ) → i < length faces → get_or (next_places befores afters) i d ≡ position_or_len (nat_eq (get_or afters i 0)) befores
  next-at i d h = map-at (λ a. position_or_len (nat_eq a) befores) afters i d (omega (arith, h, g.same_afters))

  next-length : length (next_places befores afters) ≡ length faces
  next-length = length-map afters (λ a. position_or_len (nat_eq a) befores) ∙ g.same_afters

  -- if the next place is that of another face, that face is the successor
  successor-from : (i j : ℕ) → i < length faces → j < length faces → get_or (next_places befores afters) i (length (next_places befores afters)) ≡ j → IsSuccessor polygons v (get_or faces i 0) (get_or faces j 0)
  successor-from i j h k e =
      let at : position_or_len (nat_eq (get_or afters i 0)) befores ≡ j = sym (next-at i (length (next_places befores afters)) h) ∙ e in
      let inside : position_or_len (nat_eq (get_or afters i 0)) befores < length befores = omega (arith, at, k, g.same_befores) in
      let here : get_or befores j 0 ≡ get_or afters i 0 = ap (λ n. get_or befores n 0) (sym at) ∙ found (get_or afters i 0) inside in
      record {
        corner = get_or afters i 0;
        follows = g.follows i h;
        leads_back = ap (λ b. has_side (b, v) (polygon_at polygons (get_or faces j 0))) (sym here) ∙ g.leads j k;
      }
    where
      found : (x : ℕ) → position_or_len (nat_eq x) befores < length befores → get_or befores (position_or_len (nat_eq x) befores) 0 ≡ x
      found x inside = let e : nat_eq x (get_or befores (position_or_len (nat_eq x) befores) 0) ≡ true = passes_at_first (nat_eq x) befores 0 inside in grind (arith, nat_tests)

  -- the successor is at the next place
  next-from : (i j : ℕ) → i < length faces → j < length faces → IsSuccessor polygons v (get_or faces i 0) (get_or faces j 0) → get_or (next_places befores afters) i (length (next_places befores afters)) ≡ j
  next-from i j h k s =
      let one = follower-unique (polygon_at polygons (get_or faces i 0)) v s.corner (get_or afters i 0) (distinct-at polygons (get_or faces i 0) simple) s.follows (g.follows i h) in
      let other = leader-unique (polygon_at polygons (get_or faces j 0)) v s.corner (get_or befores j 0) (distinct-at polygons (get_or faces j 0) simple) s.leads_back (g.leads j k) in
      next-at i (length (next_places befores afters)) h ∙ own-place befores j (get_or afters i 0) befores-distinct (omega (arith, k, g.same_befores)) (sym other ∙ one)

  path-from : (order : List ℕ) → ((i : ℕ) → is_among order i ≡ true → i < length faces) → Links (next_places befores afters) order → IsPath polygons v (map (λ i. get_or faces i 0) order)
  path-from [] inside links = tt
  path-from (i ∷ []) inside links = tt
  path-from (i ∷ (j ∷ rest)) inside links =
      (successor-from i j (inside i (grind (arith, nat_tests))) (inside j (grind (arith, nat_tests))) links.0, path-from (j ∷ rest) (λ k h. inside k (grind (arith, nat_tests))) links.1)

  -- a chain of places is a fan of faces
  fan-from_chain : IsOneChain (next_places befores afters) → HasOneFan polygons v
  fan-from_chain chain = record {
    fan = map (λ i. get_or faces i 0) chain.order;
    once = distinct-map (λ i. get_or faces i 0) chain.order (λ a b h k e. distinct-places faces a b g.once (inside a h) (inside b k) e) chain.once;
    all = λ f. (to f, back f);
    path = path-from chain.order inside chain.links;
  }
    where
      inside : (i : ℕ) → is_among chain.order i ≡ true → i < length faces
      inside i h = let e : nat_lt i (length (next_places befores afters)) ≡ true = sym (chain.all i) ∙ h in let less : i < length (next_places befores afters) = grind (arith, nat_tests) in omega (arith, less, next-length)

      to : (f : ℕ) → is_among (map (λ i. get_or faces i 0) chain.order) f ≡ true → has_corner v (polygon_at polygons f) ≡ true
      to f h =
          let found = map-among (λ i. get_or faces i 0) chain.order f h in
          sym (g.all f) ∙ among-place f faces found.0 (inside found.0 found.1) found.2

      below : (i : ℕ) → i < length (next_places befores afters) → nat_lt i (length (next_places befores afters)) ≡ true
      below i h = grind (arith, nat_tests)

      back : (f : ℕ) → has_corner v (polygon_at polygons f) ≡ true → is_among (map (λ i. get_or faces i 0) chain.order) f ≡ true
      back f h =
          let found = among-at f faces (g.all f ∙ h) in
          let there : is_among chain.order found.0 ≡ true = chain.all found.0 ∙ below found.0 (omega (arith, found.1, next-length)) in
          sym (ap (is_among (map (λ i. get_or faces i 0) chain.order)) found.2) ∙ among-map (λ i. get_or faces i 0) chain.order found.0 there

  links-from : (fan : List ℕ) → ((f : ℕ) → is_among fan f ≡ true → is_among faces f ≡ true) → IsPath polygons v fan → Links (next_places befores afters) (map (λ f. position_or_len (nat_eq f) faces) fan)
  links-from [] inside path = tt
  links-from (f ∷ []) inside path = tt
  links-from (f ∷ (h ∷ rest)) inside path =
      let at_f = place-of f faces g.once (inside f (grind (arith, nat_tests))) in
      let at_h = place-of h faces g.once (inside h (grind (arith, nat_tests))) in
      let step : IsSuccessor polygons v (get_or faces (position_or_len (nat_eq f) faces) 0) (get_or faces (position_or_len (nat_eq h) faces) 0) =
      subst (λ x. IsSuccessor polygons v x (get_or faces (position_or_len (nat_eq h) faces) 0)) (sym at_f.1) (subst (λ y. IsSuccessor polygons v f y) (sym at_h.1) path.0) in
      (next-from (position_or_len (nat_eq f) faces) (position_or_len (nat_eq h) faces) at_f.0 at_h.0 step, links-from (h ∷ rest) (λ k m. inside k (grind (arith, nat_tests))) path.1)

  -- a fan of faces is a chain of places
  chain-from_fan : HasOneFan polygons v → IsOneChain (next_places befores afters)
  chain-from_fan is = record {
    order = map (λ f. position_or_len (nat_eq f) faces) is.fan;
    once = distinct-map (λ f. position_or_len (nat_eq f) faces) is.fan (λ a b h k e. sym (place-of a faces g.once (inside a h)).1 ∙ ap (λ n. get_or faces n 0) e ∙ (place-of b faces g.once (inside b k)).1) is.once;
    all = λ i. same-tests (is_among (map (λ f. position_or_len (nat_eq f) faces) is.fan) i) (nat_lt i (length (next_places befores afters))) (to i) (back i);
    links = links-from is.fan inside is.path;
  }
    where
      inside : (f : ℕ) → is_among is.fan f ≡ true → is_among faces f ≡ true
      inside f h = g.all f ∙ (is.all f).0 h

      below : (i : ℕ) → i < length (next_places befores afters) → nat_lt i (length (next_places befores afters)) ≡ true
      below i h = grind (arith, nat_tests)

      to : (i : ℕ) → is_among (map (λ f. position_or_len (nat_eq f) faces) is.fan) i ≡ true → nat_lt i (length (next_places befores afters)) ≡ true
      to i h =
          let found = map-among (λ f. position_or_len (nat_eq f) faces) is.fan i h in
          let at = (place-of found.0 faces g.once (inside found.0 found.1)).0 in
          below i (omega (arith, at, found.2, next-length))

      back : (i : ℕ) → nat_lt i (length (next_places befores afters)) ≡ true → is_among (map (λ f. position_or_len (nat_eq f) faces) is.fan) i ≡ true
      back i h =
          let less : i < length (next_places befores afters) = grind (arith, nat_tests) in
          let within : i < length faces = omega (arith, less, next-length) in
          let there : is_among is.fan (get_or faces i 0) ≡ true = (is.all (get_or faces i 0)).1 (sym (g.all (get_or faces i 0)) ∙ among-place (get_or faces i 0) faces i within refl) in
          let place : position_or_len (nat_eq (get_or faces i 0)) faces ≡ i = own-place faces i (get_or faces i 0) g.once within refl in
          sym (ap (is_among (map (λ f. position_or_len (nat_eq f) faces) is.fan)) place) ∙ among-map (λ f. position_or_len (nat_eq f) faces) is.fan (get_or faces i 0) there

  -- a decision for the chain is one for the fan
  pub fan-decided : (b : Bool) → (b ≡ true → IsOneChain (next_places befores afters)) → (b ≡ false → IsOneChain (next_places befores afters) → ⊥) → b ≡ has_one_fan polygons v
  fan-decided true chain broken = sym (one_fan-test polygons simple distinct v (fan-from_chain (chain refl)))
  fan-decided false chain broken = go (has_one_fan polygons v) refl
    where
      go : (a : Bool) → has_one_fan polygons v ≡ a → false ≡ has_one_fan polygons v
      go false e = sym e
      go true e = absurd (broken refl (chain-from_fan (one_fan-from_test polygons v e)))
