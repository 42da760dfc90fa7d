-- A long walk from a start exists exactly where all items form one chain.
use Rattle.std.proofs.Common.{◌≡◌, ℕ, zero, suc, ◌+◌, ◌<◌, Bool, true, false, not, ◌&&◌, nat_eq, nat_le, nat_lt, List, [], ◌∷◌, ◌++◌, length, get_or, arith, refl, ap, sym, subst, ◌∙◌, inl, inr}
use Rattle.std.specs.List.{list_all, range_with_len}
use Rattle.std.proofs.lemmas.Bool.Decides.{nat_tests}
use Rattle.std.proofs.lemmas.Bool.{and_parts, and_from, eqb-true, not-true}
use Rattle.std.proofs.lemmas.Grind.{get_or_default_zero}
use Rattle.std.proofs.lemmas.List.FromFn.{length-range_with_len}
use Rattle.std.proofs.lemmas.List.Sorted.{IsPermutation-append_comm, list_any-IsPermutation}
use Rattle.subdiv_model.specs.Polygons.{is_among, is_distinct}
use Rattle.subdiv_model.specs.Lists.{last_of}
use Rattle.mesh_laws.proofs.SideLemmas.{among-place}
use Rattle.mesh_laws.proofs.WalkLemmas.{distinct-le}
use Rattle.level_topology.proofs.FanOrderLemmas.{among-split, among-at}
use Rattle.level_topology.proofs.PlaceLemmas.{distinct-permutation}
use Rattle.mesh_check.specs.Chain.{Links, IsOneChain, walked, is_long_walk, IsStart}

-- the numbers of a range
among-range : (a n k : ℕ) → is_among (range_with_len a n) k ≡ (nat_le a k && nat_lt k (a + n))
among-range a zero k = grind (arith, nat_tests)
among-range a (suc n) k = let behind = among-range (a + 1) n k in grind (arith, nat_tests)

range-distinct : (a n : ℕ) → is_distinct (range_with_len a n) ≡ true
range-distinct a zero = refl
range-distinct a (suc n) = let behind = range-distinct (a + 1) n in let out = among-range (a + 1) n a in grind (arith, nat_tests)

below-among : (d k : ℕ) → is_among (range_with_len 0 d) k ≡ nat_lt k d
below-among d k = let e = among-range 0 d k in grind (arith, nat_tests)

-- a test that all pass is one that each passes
all-among : (p : ℕ → Bool) (xs : List ℕ) (n : ℕ) → list_all p xs ≡ true → is_among xs n ≡ true → p n ≡ true
all-among p [] n h there = absurd (cc)
all-among p (x ∷ xs) n h there =
    let parts = and_parts (p x) (list_all p xs) h in
    go (nat_eq n x) refl parts.0 (λ k. all-among p xs n parts.1 k)
  where
    go : (b : Bool) → nat_eq n x ≡ b → p x ≡ true → (is_among xs n ≡ true → p n ≡ true) → p n ≡ true
    go true e first behind = ap p (eqb-true n x e) ∙ first
    go false e first behind = behind (grind (arith, nat_tests))

among-all : (p : ℕ → Bool) (xs : List ℕ) → ((n : ℕ) → is_among xs n ≡ true → p n ≡ true) → list_all p xs ≡ true
among-all p [] h = refl
among-all p (x ∷ xs) h = and_from _ _ (h x (grind (arith, nat_tests))) (among-all p xs (λ n k. h n (grind (arith, nat_tests))))

walked-length : (next : List ℕ) (n i : ℕ) → length (walked next n i) ≡ n
walked-length next zero i = refl
walked-length next (suc n) i = ap suc (walked-length next n (get_or next i (length next)))

walked-links : (next : List ℕ) (n i : ℕ) → Links next (walked next n i)
walked-links next zero i = tt
walked-links next (suc zero) i = tt
walked-links next (suc (suc n)) i = (refl, walked-links next (suc n) (get_or next i (length next)))

-- a long walk is a chain of all items
pub chain-from_walk : (next : List ℕ) (i : ℕ) → is_long_walk next i ≡ true → IsOneChain next
chain-from_walk next i h =
    let d = length next in
    let order = walked next (length next) i in
    let parts = and_parts (list_all (λ k. nat_lt k (length next)) (walked next (length next) i)) (is_distinct (walked next (length next) i)) h in
    record {
      order = walked next (length next) i;
      once = parts.1;
      all = λ k. same k (is_among (walked next (length next) i) k) refl (nat_lt k (length next)) refl parts.0 parts.1;
      links = walked-links next (length next) i;
    }
  where
    same : (k : ℕ) (a : Bool) → is_among (walked next (length next) i) k ≡ a → (b : Bool) → nat_lt k (length next) ≡ b → list_all (λ m. nat_lt m (length next)) (walked next (length next) i) ≡ true → is_distinct (walked next (length next) i) ≡ true → is_among (walked next (length next) i) k ≡ nat_lt k (length next)
    same k true e true f inside once = e ∙ sym f
    same k false e false f inside once = e ∙ sym f
    same k true e false f inside once = e ∙ sym (all-among (λ m. nat_lt m (length next)) (walked next (length next) i) k inside e)
    same k false e true f inside once =
        let apart : is_distinct (k ∷ walked next (length next) i) ≡ true = and_from _ _ (ap not e) once in
        let le = distinct-le (k ∷ walked next (length next) i) (range_with_len 0 (length next)) apart (λ n m. below-among (length next) n ∙ within n m) in
        absurd (omega (arith, le, walked-length next (length next) i, length-range_with_len 0 (length next)))
      where
        within : (n : ℕ) → is_among (k ∷ walked next (length next) i) n ≡ true → nat_lt n (length next) ≡ true
        within n m = all-among (λ j. nat_lt j (length next)) (k ∷ walked next (length next) i) n (and_from _ _ f inside) m

-- a walk follows a chain
walk-follows : (next : List ℕ) (i : ℕ) (rest : List ℕ) → Links next (i ∷ rest) → walked next (length (i ∷ rest)) i ≡ i ∷ rest
walk-follows next i [] links = refl
walk-follows next i (j ∷ rest) links = ap (λ xs. i ∷ xs) (ap (walked next (length (j ∷ rest))) links.0 ∙ walk-follows next j rest links.1)

-- a chain that begins at an item is a long walk from it
walk-from_order : (next : List ℕ) (s : ℕ) (rest : List ℕ) → Links next (s ∷ rest) → is_distinct (s ∷ rest) ≡ true → ((k : ℕ) → is_among (s ∷ rest) k ≡ nat_lt k (length next)) → is_long_walk next s ≡ true
walk-from_order next s rest links once all =
    let up = distinct-le (s ∷ rest) (range_with_len 0 (length next)) once (λ n m. below-among (length next) n ∙ sym (all n) ∙ m) in
    let down = distinct-le (range_with_len 0 (length next)) (s ∷ rest) (range-distinct 0 (length next)) (λ n m. all n ∙ sym (below-among (length next) n) ∙ m) in
    let size : length next ≡ length (s ∷ rest) = omega (arith, up, down, length-range_with_len 0 (length next)) in
    let is : walked next (length next) s ≡ s ∷ rest = ap (λ n. walked next n s) size ∙ walk-follows next s rest links in
    and_from _ _
    (ap (list_all (λ k. nat_lt k (length next))) is ∙ among-all (λ k. nat_lt k (length next)) (s ∷ rest) (λ n m. sym (all n) ∙ m))
    (ap is_distinct is ∙ once)

-- an item that another leads to
led-at : (next : List ℕ) (i j : ℕ) → i < length next → get_or next i (length next) ≡ j → is_among next j ≡ true
led-at next i j h e = among-place j next i h (sym (get_or_default_zero next i (length next) h) ∙ e)

-- an item after the first is led to
led-inside : (next : List ℕ) (i : ℕ) (rest : List ℕ) (s : ℕ) → Links next (i ∷ rest) → ((k : ℕ) → is_among (i ∷ rest) k ≡ true → k < length next) → is_among rest s ≡ true → is_among next s ≡ true
led-inside next i [] s links inside there = absurd (cc)
led-inside next i (j ∷ rest) s links inside there = go (nat_eq s j) refl (λ k. led-inside next j rest s links.1 (λ m n. inside m (grind (arith, nat_tests))) k)
  where
    go : (b : Bool) → nat_eq s j ≡ b → (is_among rest s ≡ true → is_among next s ≡ true) → is_among next s ≡ true
    go true e behind = ap (is_among next) (eqb-true s j e) ∙ led-at next i j (inside i (grind (arith, nat_tests))) links.0
    go false e behind = behind (grind (arith, nat_tests))

-- the item that leads to the first is the last
closing : (next : List ℕ) (first i : ℕ) (rest : List ℕ) (j : ℕ) → Links next (i ∷ rest) → is_among rest first ≡ false → is_among (i ∷ rest) j ≡ true → get_or next j (length next) ≡ first → last_of i rest ≡ j
closing next first i [] j links out there e = sym (eqb-true j i (grind (arith, nat_tests)))
closing next first i (g ∷ rest) j links out there e = go (nat_eq j i) refl (λ k. closing next first g rest j links.1 (grind (arith, nat_tests)) k e)
  where
    go : (b : Bool) → nat_eq j i ≡ b → (is_among (g ∷ rest) j ≡ true → last_of g rest ≡ j) → last_of g rest ≡ j
    go true f behind =
        let same : j ≡ i = eqb-true j i f in
        let meets : first ≡ g = sym e ∙ ap (λ k. get_or next k (length next)) same ∙ links.0 in
        absurd (grind (arith, nat_tests))
    go false f behind = behind (grind (arith, nat_tests))

links-right : (next front back : List ℕ) → Links next (front ++ back) → Links next back
links-right next [] back links = links
links-right next (i ∷ []) [] links = tt
links-right next (i ∷ []) (j ∷ back) links = links.1
links-right next (i ∷ (j ∷ front)) back links = links-right next (j ∷ front) back links.1

links-left : (next front back : List ℕ) → Links next (front ++ back) → Links next front
links-left next [] back links = tt
links-left next (i ∷ []) back links = tt
links-left next (i ∷ (j ∷ front)) back links = (links.0, links-left next (j ∷ front) back links.1)

links-join : (next : List ℕ) (i : ℕ) (front : List ℕ) (j : ℕ) (back : List ℕ) → Links next (i ∷ front) → Links next (j ∷ back) → get_or next (last_of i front) (length next) ≡ j → Links next ((i ∷ front) ++ (j ∷ back))
links-join next i [] j back p q leads = (leads, q)
links-join next i (k ∷ front) j back p q leads = (p.0, links-join next k front j back p.1 q leads)

last-append : (i : ℕ) (front : List ℕ) (j : ℕ) (back : List ℕ) → last_of i (front ++ j ∷ back) ≡ last_of j back
last-append i [] j back = refl
last-append i (k ∷ front) j back = last-append k front j back

-- a chain whose last item leads to its first is a long walk from each of its items
turned : (next front : List ℕ) (g : ℕ) (back : List ℕ) → Links next (front ++ g ∷ back) → is_distinct (front ++ g ∷ back) ≡ true → ((k : ℕ) → is_among (front ++ g ∷ back) k ≡ nat_lt k (length next)) → ((f : ℕ) (rest : List ℕ) → front ++ g ∷ back ≡ f ∷ rest → get_or next (last_of f rest) (length next) ≡ f) → is_long_walk next g ≡ true
turned next [] g back links once all closes = walk-from_order next g back links once all
turned next (f ∷ front) g back links once all closes =
    let lead : get_or next (last_of g back) (length next) ≡ f = subst (λ l. get_or next l (length next) ≡ f) (last-append f front g back) (closes f (front ++ g ∷ back) refl) in
    let moved = IsPermutation-append_comm (f ∷ front) (g ∷ back) in
    walk-from_order next g (back ++ f ∷ front)
    (links-join next g back f front (links-right next (f ∷ front) (g ∷ back) links) (links-left next (f ∷ front) (g ∷ back) links) lead)
    (distinct-permutation ((f ∷ front) ++ g ∷ back) ((g ∷ back) ++ f ∷ front) moved once)
    (λ k. sym (list_any-IsPermutation (nat_eq k) ((f ∷ front) ++ g ∷ back) ((g ∷ back) ++ f ∷ front) moved) ∙ all k)

-- if each item is led to, the last of a chain leads to the first
closes-of : (next : List ℕ) (f : ℕ) (rest : List ℕ) → Links next (f ∷ rest) → is_distinct (f ∷ rest) ≡ true → ((k : ℕ) → is_among (f ∷ rest) k ≡ nat_lt k (length next)) → ((j : ℕ) → j < length next → is_among next j ≡ true) → get_or next (last_of f rest) (length next) ≡ f
closes-of next f rest links once all led =
    let out : is_among rest f ≡ false = not-true (is_among rest f) (and_parts (not (is_among rest f)) (is_distinct rest) once).0 in
    let self : is_among (f ∷ rest) f ≡ true = grind (arith, nat_tests) in
    let inside : f < length next = below f (sym (all f) ∙ self) in
    let found = among-at f next (led f inside) in
    let to : get_or next found.0 (length next) ≡ f = get_or_default_zero next found.0 (length next) found.1 ∙ found.2 in
    let last : last_of f rest ≡ found.0 = closing next f f rest found.0 links out (all found.0 ∙ above found.0 found.1) to in
    ap (λ k. get_or next k (length next)) last ∙ to
  where
    below : (k : ℕ) → nat_lt k (length next) ≡ true → k < length next
    below k h = grind (arith, nat_tests)

    above : (k : ℕ) → k < length next → nat_lt k (length next) ≡ true
    above k h = grind (arith, nat_tests)

led-walk : (next order : List ℕ) → is_distinct order ≡ true → ((k : ℕ) → is_among order k ≡ nat_lt k (length next)) → Links next order → 0 < length next → ((j : ℕ) → j < length next → is_among next j ≡ true) → is_long_walk next 0 ≡ true
led-walk next order once all links some led =
    let found = among-split 0 order (all 0 ∙ first) in
    turned next found.0 0 found.1 (subst (Links next) found.2 links) (subst (λ xs. is_distinct xs ≡ true) found.2 once) (λ k. sym (ap (λ xs. is_among xs k) found.2) ∙ all k)
    (λ f rest e.
    let whole : order ≡ f ∷ rest = found.2 ∙ e in
    closes-of next f rest (subst (Links next) whole links) (subst (λ xs. is_distinct xs ≡ true) whole once) (λ k. sym (ap (λ xs. is_among xs k) whole) ∙ all k) led)
  where
    first : nat_lt 0 (length next) ≡ true
    first = grind (arith, nat_tests)

unled-walk : (next : List ℕ) (s : ℕ) (order : List ℕ) → is_distinct order ≡ true → ((k : ℕ) → is_among order k ≡ nat_lt k (length next)) → Links next order → s < length next → is_among next s ≡ false → is_long_walk next s ≡ true
unled-walk next s [] once all links h out =
    let e = all s in
    absurd (grind (arith, nat_tests))
unled-walk next s (i ∷ rest) once all links h out = go (nat_eq s i) refl
  where
    inside : (k : ℕ) → is_among (i ∷ rest) k ≡ true → k < length next
    inside k there = let e : nat_lt k (length next) ≡ true = sym (all k) ∙ there in grind (arith, nat_tests)

    go : (b : Bool) → nat_eq s i ≡ b → is_long_walk next s ≡ true
    go true e = ap (is_long_walk next) (eqb-true s i e) ∙ walk-from_order next i rest links once all
    go false e =
        let there : is_among (i ∷ rest) s ≡ true = all s ∙ (grind (arith, nat_tests)) in
        let behind : is_among rest s ≡ true = grind (arith, nat_tests) in
        let led = led-inside next i rest s links inside behind in
        absurd (cc)

-- if all items form one chain, the walk from a start is long
pub walk-from_chain : (next : List ℕ) (s : ℕ) → IsStart next s → IsOneChain next → is_long_walk next s ≡ true
walk-from_chain [] s start chain = refl
walk-from_chain (n ∷ next) s (inl start) chain = unled-walk (n ∷ next) s chain.order chain.once chain.all chain.links start.0 start.1
walk-from_chain (n ∷ next) s (inr start) chain = ap (is_long_walk (n ∷ next)) start.0 ∙ led-walk (n ∷ next) chain.order chain.once chain.all chain.links (omega arith) start.1

pub true-not-false : true ≡ false → ⊥
true-not-false h = cc
