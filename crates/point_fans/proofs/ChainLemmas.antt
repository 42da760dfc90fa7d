-- Chains of places, and the places that they give in successive lists.
use Rattle.std.proofs.Common.{subst, ◌≡◌, ◌≢◌, ℕ, zero, suc, ◌+◌, ◌*◌, ◌<◌, ◌≤◌, Bool, true, false, not, nat_eq, List, [], ◌∷◌, ◌++◌, length, map, get_or, slice_set, drop, take, replicate, arith, refl, ap, sym, ◌∙◌, append-nil, append_assoc, length-append, if◌then◌else◌}
use Rattle.std.specs.List.{list_all, position_or_len, range_with_len, sum_by}
use Rattle.std.proofs.lemmas.Bool.Decides.{nat_tests}
use Rattle.std.proofs.lemmas.Bool.{and_parts, eqb-true, eq-eqb, not-true, false_from_ne_true}
use Rattle.std.proofs.lemmas.List.{get_or_append_left, get_or-append-add, get_or-set_same, get_or-set_other, length-set, length-replicate, map-append, drop_more, take_more, get_or_default, length-take-le, take_all, get_or-map, length-map}
use Rattle.std.proofs.lemmas.List.Sums.{sum_by_more_le}
use Rattle.mesh_laws.proofs.ClosedLemmas.{all-at}
use Rattle.std.proofs.lemmas.Grind.{flat_map-append}
use Rattle.std.proofs.Math.Seq.{get_or-append_seam}
use Rattle.mesh_laws.proofs.ChildPlaceLemmas.{first-within}
use Rattle.subdiv_model.specs.Polygons.{Polygon, has_corner, is_among, is_distinct, polygon_at}
use Rattle.subdiv_model.specs.Lists.{places, places_from}
use Rattle.point_fans.specs.Chains.{ArePlaces, IsChain, Ascending, at_places, places_in}
use Rattle.level_topology.specs.ListPlaces.{lists_with, joined, pair_list}
use Rattle.level_topology.proofs.NumberingLemmas.{places-push}
use Rattle.level_topology.proofs.ListPlaceLemmas.{replicate-push, joined-length, pairs-total}

-- a link to a place below a chain leaves the chain as it is
chain-kept : (next : List ℕ) (first place : ℕ) (test : ℕ → Bool) (xs : List ℕ) (j a : ℕ) → j < place → IsChain next first (places_from place test xs) → IsChain (slice_set next j a) first (places_from place test xs)
chain-kept next first place test [] j a below is = omega (arith, is, length-set next j a)
chain-kept next first place test (x ∷ xs) j a below is = go (test x) refl (λ from. chain-kept next from (place + 1) test xs j a (omega (arith, below)))
  where
    go : (b : Bool) → test x ≡ b → ((from : ℕ) → IsChain next from (places_from (place + 1) test xs) → IsChain (slice_set next j a) from (places_from (place + 1) test xs)) → IsChain (slice_set next j a) first (places_from place test (x ∷ xs))
    go true e behind =
        let now : IsChain next first (place ∷ places_from (place + 1) test xs) = rw e at is in
        let apart : place ≢ j = λ same. absurd (omega (arith, same, below)) in
        let kept : get_or (slice_set next j a) place 0 ≡ get_or next place 0 = get_or-set_other next j place a 0 apart in
        rw e (now.0, omega (arith, now.1, length-set next j a), subst (λ from. IsChain (slice_set next j a) from (places_from (place + 1) test xs)) (sym kept) (behind (get_or next place 0) now.2))
    go false e behind =
        let now : IsChain next first (places_from (place + 1) test xs) = rw e at is in
        rw e (behind first now)

-- The chains of the numbers from a place on.
pub record AreChains (numbers firsts next : List ℕ) (limit place : ℕ) : Type 0 where
  pub first_count : length firsts ≡ limit
  pub next_count : length next ≡ length numbers
  pub chains : (v : ℕ) → v < limit → IsChain next (get_or firsts v 0) (places_from place (nat_eq v) (drop place numbers))
  pub above : (v : ℕ) → v < limit → place ≤ get_or firsts v 0
  pub ascend : Ascending next

-- a place more at the front
pub chains-link : (numbers firsts next : List ℕ) (limit place v : ℕ) → place < length numbers → v ≡ get_or numbers place 0 → v < limit → AreChains numbers firsts next limit (place + 1) → AreChains numbers (slice_set firsts v place) (slice_set next place (get_or firsts v 0)) limit place
chains-link numbers firsts next limit place v inside is-at below is = record {
  first_count = length-set firsts v place ∙ is.first_count;
  next_count = length-set next place (get_or firsts v 0) ∙ is.next_count;
  chains = λ w h. subst (λ xs. IsChain (slice_set next place (get_or firsts v 0)) (get_or (slice_set firsts v place) w 0) (places_from place (nat_eq w) xs)) (sym (drop_more numbers place 0 inside)) (chain w h (nat_eq w v) refl);
  above = λ w h. high w h (nat_eq w v) refl;
  ascend = λ k h. rise k (omega (arith, h, length-set next place (get_or firsts v 0))) (nat_eq k place) refl;
}
  where
    within : v < length firsts
    within = omega (arith, below, is.first_count)

    chain : (w : ℕ) → w < limit → (b : Bool) → nat_eq w v ≡ b → IsChain (slice_set next place (get_or firsts v 0)) (get_or (slice_set firsts v place) w 0) (places_from place (nat_eq w) (get_or numbers place 0 ∷ drop (place + 1) numbers))
    chain w h true e =
        let same : w ≡ v = eqb-true w v e in
        let here : nat_eq w (get_or numbers place 0) ≡ true = eq-eqb _ _ (same ∙ is-at) in
        let first : get_or (slice_set firsts v place) w 0 ≡ place = ap (λ k. get_or (slice_set firsts v place) k 0) same ∙ get_or-set_same firsts v place 0 within in
        let behind : IsChain (slice_set next place (get_or firsts v 0)) (get_or firsts v 0) (places_from (place + 1) (nat_eq w) (drop (place + 1) numbers)) =
        subst (λ k. IsChain (slice_set next place (get_or firsts v 0)) (get_or firsts v 0) (places_from (place + 1) (nat_eq k) (drop (place + 1) numbers))) (sym same)
        (chain-kept next (get_or firsts v 0) (place + 1) (nat_eq v) (drop (place + 1) numbers) place (get_or firsts v 0) (omega arith) (is.chains v below)) in
        let to : get_or (slice_set next place (get_or firsts v 0)) place 0 ≡ get_or firsts v 0 = get_or-set_same next place (get_or firsts v 0) 0 (omega (arith, inside, is.next_count)) in
        rw here (first, omega (arith, inside, is.next_count, length-set next place (get_or firsts v 0)), subst (λ from. IsChain (slice_set next place (get_or firsts v 0)) from (places_from (place + 1) (nat_eq w) (drop (place + 1) numbers))) (sym to) behind)
    chain w h false e =
        let apart : w ≢ v = λ same. absurd (let yes = eq-eqb w v same in cc) in
        let other : nat_eq w (get_or numbers place 0) ≡ false = false_from_ne_true _ (λ same. absurd (apart (eqb-true _ _ same ∙ sym is-at))) in
        let first : get_or (slice_set firsts v place) w 0 ≡ get_or firsts w 0 = get_or-set_other firsts v w place 0 apart in
        rw (other, first) (chain-kept next (get_or firsts w 0) (place + 1) (nat_eq w) (drop (place + 1) numbers) place (get_or firsts v 0) (omega arith) (is.chains w h))

    high : (w : ℕ) → w < limit → (b : Bool) → nat_eq w v ≡ b → place ≤ get_or (slice_set firsts v place) w 0
    high w h true e =
        let first : get_or (slice_set firsts v place) w 0 ≡ place = ap (λ k. get_or (slice_set firsts v place) k 0) (eqb-true w v e) ∙ get_or-set_same firsts v place 0 within in
        omega (arith, first)
    high w h false e =
        let apart : w ≢ v = λ same. absurd (let yes = eq-eqb w v same in cc) in
        omega (arith, is.above w h, get_or-set_other firsts v w place 0 apart)

    rise : (k : ℕ) → k < length next → (b : Bool) → nat_eq k place ≡ b → k < get_or (slice_set next place (get_or firsts v 0)) k 0
    rise k h true e =
        let to : get_or (slice_set next place (get_or firsts v 0)) k 0 ≡ get_or firsts v 0 = ap (λ i. get_or (slice_set next place (get_or firsts v 0)) i 0) (eqb-true k place e) ∙ get_or-set_same next place (get_or firsts v 0) 0 (omega (arith, inside, is.next_count)) in
        omega (arith, to, is.above v below, eqb-true k place e)
    rise k h false e =
        let apart : k ≢ place = λ same. absurd (let yes = eq-eqb k place same in cc) in
        omega (arith, is.ascend k h, get_or-set_other next place k (get_or firsts v 0) 0 apart)

-- no place is linked yet
pub chains-none : (numbers : List ℕ) (limit : ℕ) → AreChains numbers (replicate limit (length numbers)) (replicate (length numbers) (length numbers)) limit (length numbers)
chains-none numbers limit = record {
  first_count = length-replicate limit (length numbers);
  next_count = length-replicate (length numbers) (length numbers);
  chains = λ v h. rw (drop-whole numbers, filled limit (length numbers) v h) (omega (arith, length-replicate (length numbers) (length numbers)));
  above = λ v h. omega (arith, filled limit (length numbers) v h);
  ascend = λ k h. omega (arith, h, length-replicate (length numbers) (length numbers), filled (length numbers) (length numbers) k (omega (arith, h, length-replicate (length numbers) (length numbers))));
}
  where
    drop-whole : (xs : List ℕ) → drop (length xs) xs ≡ []
    drop-whole [] = refl
    drop-whole (x ∷ xs) = drop-whole xs

    filled : (n x k : ℕ) → k < n → get_or (replicate n x) k 0 ≡ x
    filled zero x k h = absurd (omega arith)
    filled (suc n) x zero h = refl
    filled (suc n) x (suc k) h = filled n x k (omega arith)

-- a list with one more
pub push-take : (before old next list : List ℕ) (c : ℕ) → c < length list → old ≡ before ++ take c list → next ≡ old ++ get_or list c 0 ∷ [] → next ≡ before ++ take (c + 1) list
push-take before old next list c inside e f =
    f ∙ ap (λ xs. xs ++ get_or list c 0 ∷ []) e ∙ append_assoc before (take c list) (get_or list c 0 ∷ []) ∙ ap (λ xs. before ++ xs) (sym (take_more list c 0 inside))

pub push-same : (before old next : List ℕ) (x c : ℕ) → old ≡ before ++ replicate c x → next ≡ old ++ x ∷ [] → next ≡ before ++ replicate (c + 1) x
push-same before old next x c e f =
    f ∙ ap (λ xs. xs ++ x ∷ []) e ∙ append_assoc before (replicate c x) (x ∷ []) ∙ ap (λ xs. before ++ xs) (sym (replicate-push c x))

-- one step of a chain, and its end
pub chain-step : (next : List ℕ) (place : ℕ) (rest : List ℕ) → IsChain next place rest → place < length next → (tail : List ℕ) × (rest ≡ place ∷ tail) × IsChain next (get_or next place 0) tail
chain-step next place [] is inside = absurd (omega (arith, is, inside))
chain-step next place (p ∷ tail) is inside = (tail, ap (λ k. k ∷ tail) (sym is.0), subst (λ k. IsChain next (get_or next k 0) tail) (sym is.0) is.2)

pub chain-end : (next : List ℕ) (place : ℕ) (rest : List ℕ) → IsChain next place rest → length next ≤ place → rest ≡ []
chain-end next place [] is past = refl
chain-end next place (p ∷ tail) is past = absurd (omega (arith, is.0, is.1, past))

pub chain-put : (values old next rest tail all : List ℕ) (place x : ℕ) → next ≡ old ++ x ∷ [] → x ≡ get_or values place x → place < length values → rest ≡ place ∷ tail → old ++ at_places values rest ≡ all → next ++ at_places values tail ≡ all
chain-put values old next rest tail all place x e f inside g h =
    let value : x ≡ get_or values place 0 = f ∙ get_or_default values place x 0 inside in
    ap (λ xs. xs ++ at_places values tail) e ∙ append_assoc old (x ∷ []) (at_places values tail)
    ∙ ap (λ k. old ++ k ∷ at_places values tail) value ∙ sym (ap (λ r. old ++ at_places values r) g) ∙ h

-- places of lists one after another
places-append : (place : ℕ) (test : ℕ → Bool) (xs ys : List ℕ) → places_from place test (xs ++ ys) ≡ places_from place test xs ++ places_from (place + length xs) test ys
places-append place test [] ys = let e : place + 0 ≡ place = omega arith in ap (λ k. places_from k test ys) (sym e)
places-append place test (x ∷ xs) ys = go (test x) refl (places-append (place + 1) test xs ys)
  where
    same : place + 1 + length xs ≡ place + length (x ∷ xs)
    same = omega arith

    go : (b : Bool) → test x ≡ b → places_from (place + 1) test (xs ++ ys) ≡ places_from (place + 1) test xs ++ places_from (place + 1 + length xs) test ys → places_from place test (x ∷ (xs ++ ys)) ≡ places_from place test (x ∷ xs) ++ places_from (place + length (x ∷ xs)) test ys
    go true e behind = rw e (ap (λ ps. place ∷ ps) (behind ∙ ap (λ k. places_from (place + 1) test xs ++ places_from k test ys) same))
    go false e behind = rw e (behind ∙ ap (λ k. places_from (place + 1) test xs ++ places_from k test ys) same)

-- The values at the places of a list stay when more values follow.
map-kept : {X Y Z : Type 0} (g : X → Y) (d : X) (values more : List X) (place : ℕ) (test : Z → Bool) (zs : List Z) → place + length zs ≤ length values → map (λ p. g (get_or (values ++ more) p d)) (places_from place test zs) ≡ map (λ p. g (get_or values p d)) (places_from place test zs)
map-kept g d values more place test [] h = refl
map-kept g d values more place test (z ∷ zs) h = go (test z) refl (map-kept g d values more (place + 1) test zs (omega (arith, h)))
  where
    go : (b : Bool) → test z ≡ b → map (λ p. g (get_or (values ++ more) p d)) (places_from (place + 1) test zs) ≡ map (λ p. g (get_or values p d)) (places_from (place + 1) test zs) → map (λ p. g (get_or (values ++ more) p d)) (places_from place test (z ∷ zs)) ≡ map (λ p. g (get_or values p d)) (places_from place test (z ∷ zs))
    go true e behind =
        let here = get_or_append_left values more d place (omega (arith, h)) in
        rw (e, here) (ap (λ ys. g (get_or values place d) ∷ ys) behind)
    go false e behind = rw e behind

-- A number has one place among distinct numbers, or none.
pub single-place : (v place : ℕ) (corners : List ℕ) → is_distinct corners ≡ true → places_from place (nat_eq v) corners ≡ (if has_corner v corners then (place + position_or_len (nat_eq v) corners) ∷ [] else [])
single-place v place [] d = refl
single-place v place (c ∷ corners) d =
    let parts = and_parts (not (is_among corners c)) (is_distinct corners) d in
    go (nat_eq v c) refl (not-true _ parts.0) (single-place v (place + 1) corners parts.1)
  where
    here : place + 0 ≡ place
    here = omega arith

    later : place + 1 + position_or_len (nat_eq v) corners ≡ place + (1 + position_or_len (nat_eq v) corners)
    later = omega arith

    go : (b : Bool) → nat_eq v c ≡ b → is_among corners c ≡ false → places_from (place + 1) (nat_eq v) corners ≡ (if has_corner v corners then (place + 1 + position_or_len (nat_eq v) corners) ∷ [] else []) → places_from place (nat_eq v) (c ∷ corners) ≡ (if has_corner v (c ∷ corners) then (place + position_or_len (nat_eq v) (c ∷ corners)) ∷ [] else [])
    go true e none behind =
        let gone : has_corner v corners ≡ false = ap (λ k. is_among corners k) (eqb-true v c e) ∙ none in
        let empty : places_from (place + 1) (nat_eq v) corners ≡ [] = behind ∙ ap (λ b. if b then (place + 1 + position_or_len (nat_eq v) corners) ∷ [] else []) gone in
        rw (e, empty, here) refl
    go false e none behind = rw e (behind ∙ ap (λ k. if has_corner v corners then k ∷ [] else []) later)

abbrev place_in : List Polygon → ℕ → ℕ → ℕ
place_in lists v f = position_or_len (nat_eq v) (polygon_at lists f)

-- one list more
pub places-list : (lists : List Polygon) (corners items owners within : List ℕ) → is_distinct corners ≡ true → ArePlaces lists items owners within → ArePlaces (lists ++ corners ∷ []) (items ++ corners) (owners ++ replicate (length corners) (length lists)) (within ++ range_with_len 0 (length corners))
places-list lists corners items owners within distinct is = record {
  items_are = ap (λ xs. xs ++ corners) is.items_are ∙ sym (flat_map-append (λ list. list) lists (corners ∷ []) ∙ ap (λ xs. joined lists ++ xs) (append-nil corners));
  owner_count = omega (arith, is.owner_count, length-append items corners, length-append owners (replicate (length corners) (length lists)), length-replicate (length corners) (length lists));
  within_count = omega (arith, is.within_count, length-append items corners, length-append within (range_with_len 0 (length corners)), range-length 0 (length corners));
  owners_are = owners-now;
  within_are = within-now;
}
  where
    range-length : (a n : ℕ) → length (range_with_len a n) ≡ n
    range-length a zero = refl
    range-length a (suc n) = ap suc (range-length (a + 1) n)

    range-at : (a n k : ℕ) → k < n → get_or (range_with_len a n) k 0 ≡ a + k
    range-at a zero k h = absurd (omega arith)
    range-at a (suc n) zero h = omega arith
    range-at a (suc n) (suc k) h = range-at (a + 1) n k (omega arith) ∙ omega arith

    same-at : (n x k : ℕ) → k < n → get_or (replicate n x) k 0 ≡ x
    same-at zero x k h = absurd (omega arith)
    same-at (suc n) x zero h = refl
    same-at (suc n) x (suc k) h = same-at n x k (omega arith)

    front : (v : ℕ) → places (nat_eq v) (items ++ corners) ≡ places (nat_eq v) items ++ places_from (length items) (nat_eq v) corners
    front v = let z : 0 + length items ≡ length items = omega arith in places-append 0 (nat_eq v) items corners ∙ ap (λ k. places (nat_eq v) items ++ places_from k (nat_eq v) corners) z

    split : (values more : List ℕ) (v : ℕ) → length items ≤ length values → at_places (values ++ more) (places (nat_eq v) (items ++ corners)) ≡ at_places values (places (nat_eq v) items) ++ at_places (values ++ more) (places_from (length items) (nat_eq v) corners)
    split values more v h =
        ap (at_places (values ++ more)) (front v)
        ∙ map-append (λ p. get_or (values ++ more) p 0) (places (nat_eq v) items) (places_from (length items) (nat_eq v) corners)
        ∙ ap (λ xs. xs ++ at_places (values ++ more) (places_from (length items) (nat_eq v) corners)) (map-kept (λ x. x) 0 values more 0 (nat_eq v) items (omega (arith, h)))

    last : (values more : List ℕ) (v : ℕ) → length values ≡ length items → at_places (values ++ more) (places_from (length items) (nat_eq v) corners) ≡ (if has_corner v corners then get_or more (position_or_len (nat_eq v) corners) 0 ∷ [] else [])
    last values more v h = ap (at_places (values ++ more)) (single-place v (length items) corners distinct) ∙ go (has_corner v corners) refl
      where
        go : (b : Bool) → has_corner v corners ≡ b → at_places (values ++ more) (if has_corner v corners then (length items + position_or_len (nat_eq v) corners) ∷ [] else []) ≡ (if has_corner v corners then get_or more (position_or_len (nat_eq v) corners) 0 ∷ [] else [])
        go true e = rw e (ap (λ k. k ∷ []) (ap (λ n. get_or (values ++ more) (n + position_or_len (nat_eq v) corners) 0) (sym h) ∙ get_or-append-add values more (position_or_len (nat_eq v) corners) 0))
        go false e = rw e refl

    at-last : polygon_at (lists ++ corners ∷ []) (0 + length lists) ≡ corners
    at-last = let z : 0 + length lists ≡ length lists = omega arith in ap (polygon_at (lists ++ corners ∷ [])) z ∙ get_or-append_seam lists corners [] []

    owners-now : (v : ℕ) → at_places (owners ++ replicate (length corners) (length lists)) (places (nat_eq v) (items ++ corners)) ≡ lists_with (lists ++ corners ∷ []) v
    owners-now v =
        split owners (replicate (length corners) (length lists)) v (omega (arith, is.owner_count))
        ∙ ap (λ xs. xs ++ at_places (owners ++ replicate (length corners) (length lists)) (places_from (length items) (nat_eq v) corners)) (is.owners_are v)
        ∙ ap (λ xs. lists_with lists v ++ xs) (last owners (replicate (length corners) (length lists)) v is.owner_count ∙ go (has_corner v corners) refl)
        ∙ sym (places-push 0 (has_corner v) lists corners)
      where
        go : (b : Bool) → has_corner v corners ≡ b → (if has_corner v corners then get_or (replicate (length corners) (length lists)) (position_or_len (nat_eq v) corners) 0 ∷ [] else []) ≡ (if has_corner v corners then (0 + length lists) ∷ [] else [])
        go true e = rw e (ap (λ k. k ∷ []) (same-at (length corners) (length lists) (position_or_len (nat_eq v) corners) (first-within (nat_eq v) corners e) ∙ omega arith))
        go false e = rw e refl

    within-now : (v : ℕ) → at_places (within ++ range_with_len 0 (length corners)) (places (nat_eq v) (items ++ corners)) ≡ places_in (lists ++ corners ∷ []) v
    within-now v =
        split within (range_with_len 0 (length corners)) v (omega (arith, is.within_count))
        ∙ ap (λ xs. xs ++ at_places (within ++ range_with_len 0 (length corners)) (places_from (length items) (nat_eq v) corners)) (is.within_are v)
        ∙ ap (λ xs. places_in lists v ++ xs) (last within (range_with_len 0 (length corners)) v is.within_count ∙ go (has_corner v corners) refl)
        ∙ ap (λ xs. xs ++ map (place_in (lists ++ corners ∷ []) v) (if has_corner v corners then (0 + length lists) ∷ [] else [])) (sym (map-kept (position_or_len (nat_eq v)) [] lists (corners ∷ []) 0 (has_corner v) lists (omega arith)))
        ∙ sym (ap (map (place_in (lists ++ corners ∷ []) v)) (places-push 0 (has_corner v) lists corners) ∙ map-append (place_in (lists ++ corners ∷ []) v) (lists_with lists v) (if has_corner v corners then (0 + length lists) ∷ [] else []))
      where
        go : (b : Bool) → has_corner v corners ≡ b → (if has_corner v corners then get_or (range_with_len 0 (length corners)) (position_or_len (nat_eq v) corners) 0 ∷ [] else []) ≡ map (place_in (lists ++ corners ∷ []) v) (if has_corner v corners then (0 + length lists) ∷ [] else [])
        go true e = rw e (ap (λ k. k ∷ []) (range-at 0 (length corners) (position_or_len (nat_eq v) corners) (first-within (nat_eq v) corners e) ∙ omega arith ∙ ap (position_or_len (nat_eq v)) (sym at-last)))
        go false e = rw e refl

pub places-none : ArePlaces [] [] [] []
places-none = record { items_are = refl; owner_count = refl; within_count = refl; owners_are = λ v. refl; within_are = λ v. refl }

-- room for one list more
pub places-fit : (lists : List Polygon) (items owners within list : List ℕ) (i : ℕ) → i < length lists → list ≡ get_or lists i [] → ArePlaces (take i lists) items owners within → length items + length list ≤ sum_by length lists
places-fit lists items owners within list i inside e is =
    omega (arith, ap length e, ap length is.items_are, joined-length (take i lists), sum_by_more_le length lists i [] inside)

-- one list more of some
pub places-more : (lists : List Polygon) (items owners within list items' owners' within' : List ℕ) (i : ℕ) → i < length lists → list ≡ get_or lists i [] → list_all is_distinct lists ≡ true → ArePlaces (take i lists) items owners within → items' ≡ items ++ list → owners' ≡ owners ++ replicate (length list) i → within' ≡ within ++ range_with_len 0 (length list) → ArePlaces (take (i + 1) lists) items' owners' within'
places-more lists items owners within list items' owners' within' i inside e distinct is a b c =
    let own : length (take i lists) ≡ i = length-take-le i lists (omega (arith, inside)) in
    let each_once : is_distinct list ≡ true = ap is_distinct e ∙ all-at is_distinct lists i [] inside distinct in
    let next : take i lists ++ list ∷ [] ≡ take (i + 1) lists = ap (λ l. take i lists ++ l ∷ []) e ∙ sym (take_more lists i [] inside) in
    let o : owners ++ replicate (length list) (length (take i lists)) ≡ owners' = ap (λ k. owners ++ replicate (length list) k) own ∙ sym b in
    subst (λ ls. ArePlaces ls items' owners' within') next
    (subst (λ xs. ArePlaces (take i lists ++ list ∷ []) xs owners' within') (sym a)
    (subst (λ xs. ArePlaces (take i lists ++ list ∷ []) (items ++ list) xs within') o
    (subst (λ xs. ArePlaces (take i lists ++ list ∷ []) (items ++ list) (owners ++ replicate (length list) (length (take i lists))) xs) (sym c)
    (places-list (take i lists) list items owners within each_once is))))

pub places-all : (lists : List Polygon) (items owners within : List ℕ) (i : ℕ) → length lists ≤ i → ArePlaces (take i lists) items owners within → ArePlaces lists items owners within
places-all lists items owners within i past is = subst (λ ls. ArePlaces ls items owners within) (take_all i lists past) is

-- The first pairs, as lists, are the first of all pairs as lists.
pub pairs-as-lists : (ends : List (ℕ × ℕ)) (i : ℕ) → map pair_list (take i ends) ≡ take i (map pair_list ends)
pairs-as-lists ends zero = refl
pairs-as-lists [] (suc i) = refl
pairs-as-lists (s ∷ ends) (suc i) = ap (λ ls. pair_list s ∷ ls) (pairs-as-lists ends i)

pub pairs-distinct : (ends : List (ℕ × ℕ)) → list_all (λ s. not (nat_eq s.0 s.1)) ends ≡ true → list_all is_distinct (map pair_list ends) ≡ true
pairs-distinct [] h = refl
pairs-distinct (s ∷ ends) h =
    let parts = and_parts (not (nat_eq s.0 s.1)) (list_all (λ t. not (nat_eq t.0 t.1)) ends) h in
    let behind = pairs-distinct ends parts.1 in
    grind (arith, nat_tests)

pub pair-fits : (ends : List (ℕ × ℕ)) (items owners within : List ℕ) (i : ℕ) → i < length ends → ArePlaces (map pair_list (take i ends)) items owners within → length items + 2 ≤ 2 * length ends
pair-fits ends items owners within i inside is =
    let inside' : i < length (map pair_list ends) = omega (arith, inside, length-map ends pair_list) in
    let fit = places-fit (map pair_list ends) items owners within (pair_list (get_or ends i (0, 0))) i inside' (sym (get_or-map pair_list ends i (0, 0) [] inside)) (subst (λ ls. ArePlaces ls items owners within) (pairs-as-lists ends i) is) in
    omega (arith, fit, pairs-total ends)

pub pair-more : (ends : List (ℕ × ℕ)) (items owners within items' owners' within' : List ℕ) (i : ℕ) → i < length ends → list_all (λ s. not (nat_eq s.0 s.1)) ends ≡ true → ArePlaces (map pair_list (take i ends)) items owners within → items' ≡ items ++ pair_list (get_or ends i (0, 0)) → owners' ≡ owners ++ replicate 2 i → within' ≡ within ++ range_with_len 0 2 → ArePlaces (map pair_list (take (i + 1) ends)) items' owners' within'
pair-more ends items owners within items' owners' within' i inside distinct is a b c =
    let inside' : i < length (map pair_list ends) = omega (arith, inside, length-map ends pair_list) in
    subst (λ ls. ArePlaces ls items' owners' within') (sym (pairs-as-lists ends (i + 1)))
    (places-more (map pair_list ends) items owners within (pair_list (get_or ends i (0, 0))) items' owners' within' i inside' (sym (get_or-map pair_list ends i (0, 0) [] inside)) (pairs-distinct ends distinct) (subst (λ ls. ArePlaces ls items owners within) (pairs-as-lists ends i) is) a b c)

pub pair-all : (ends : List (ℕ × ℕ)) (items owners within : List ℕ) (i : ℕ) → length ends ≤ i → ArePlaces (map pair_list (take i ends)) items owners within → ArePlaces (map pair_list ends) items owners within
pair-all ends items owners within i past is = subst (λ es. ArePlaces (map pair_list es) items owners within) (take_all i ends past) is
