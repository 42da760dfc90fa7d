-- Items of lists at some places.
use Rattle.std.proofs.Common.{◌≡◌, ℕ, ◌+◌, ◌<◌, ◌≤◌, Bool, true, false, not, ◌&&◌, nat_eq, nat_lt, List, [], ◌∷◌, length, map, get_or, arith, refl, ap, sym, ◌∙◌}
use Rattle.std.specs.List.{filter, list_all, range_with_len, sum_by}
use Rattle.std.proofs.lemmas.Bool.{and_parts, eq-eqb, eqb-true, ltb-true}
use Rattle.std.proofs.lemmas.List.{get_or-map, length-map}
use Rattle.std.proofs.lemmas.List.FromFn.{fill_by_all}
use Rattle.std.proofs.lemmas.List.Sums.{sum_by-cons}
use Rattle.subdiv_model.specs.Lists.{each_once_by}
use Rattle.subdiv_model.specs.Polygons.{is_among, is_distinct}
use Rattle.mesh_laws.proofs.ClosedLemmas.{all-at}
use Rattle.mesh_laws.proofs.SideLemmas.{distinct-places}
use Rattle.part_laws.proofs.ListLemmas.{map-agree, map-twice}
use Rattle.part_laws.proofs.TermLemmas.{all-true}
use Rattle.sparse_laws.specs.SparseLevels.{name_in}
use Rattle.sparse_values.specs.Uniform.{items_at}

-- functions that agree everywhere give one list
pub map-same : {X Y : Type 0} (f g : X → Y) → ((x : X) → f x ≡ g x) → (xs : List X) → map f xs ≡ map g xs
map-same f g same xs = map-agree (λ x. true) f g (λ x h. same x) xs (all-true xs)

-- all items are those at all places
pub items-all : {X : Type 0} (d : X) (xs : List X) (n : ℕ) → length xs ≡ n → items_at (range_with_len 0 n) d xs ≡ xs
items-all d xs n many = sym (fill_by_all (λ k. get_or xs k d) xs n d many (λ k h. refl))

-- the items at names are those at the places of these names
pub items-by : {X : Type 0} (d : X) (xs : List X) (names places : List ℕ) → list_all (λ p. nat_lt p (length names)) places ≡ true
    → items_at (map (name_in names) places) d xs ≡ items_at places d (items_at names d xs)
items-by d xs names places below =
    map-twice (name_in names) (λ n. get_or xs n d) places
    ∙ map-agree (λ p. nat_lt p (length names)) (λ p. get_or xs (name_in names p) d) (λ p. get_or (items_at names d xs) p d)
    (λ p h. sym (get_or-map (λ n. get_or xs n d) names p 0 d (ltb-true p (length names) h))) places below

-- a sum over items of a function of them
pub sum-mapped : {X : Type 0} (f : ℕ → X) (g : X → ℕ) (ns : List ℕ) → sum_by g (map f ns) ≡ sum_by (λ n. g (f n)) ns
sum-mapped f g [] = refl
sum-mapped f g (n ∷ ns) = omega (arith, sum_by-cons g (f n) (map f ns), sum_by-cons (λ n. g (f n)) n ns, sum-mapped f g ns)

-- A sum over distinct numbers that are all in another list.

filter-sum : (f : ℕ → ℕ) (wide narrow : ℕ → Bool) → ((n : ℕ) → narrow n ≡ true → wide n ≡ true) → (ns : List ℕ) → sum_by f (filter narrow ns) ≤ sum_by f (filter wide ns)
filter-sum f wide narrow weaker [] = omega arith
filter-sum f wide narrow weaker (n ∷ ns) = go (narrow n) (wide n) refl refl (filter-sum f wide narrow weaker ns)
  where
    go : (a b : Bool) → narrow n ≡ a → wide n ≡ b → sum_by f (filter narrow ns) ≤ sum_by f (filter wide ns) → sum_by f (filter narrow (n ∷ ns)) ≤ sum_by f (filter wide (n ∷ ns))
    go true true e g rest = rw (e, g) (omega (arith, rest, sum_by-cons f n (filter narrow ns), sum_by-cons f n (filter wide ns)))
    go true false e g rest = absurd (let yes = weaker n e in cc)
    go false true e g rest = rw (e, g) (omega (arith, rest, sum_by-cons f n (filter wide ns)))
    go false false e g rest = rw (e, g) rest

-- without a listed number the sum over the list is less by that number's part
without-one : (f : ℕ → ℕ) (keep : ℕ → Bool) (m : ℕ) → keep m ≡ true → (ns : List ℕ) → is_among ns m ≡ true
    → f m + sum_by f (filter (λ n. keep n && not (nat_eq m n)) ns) ≤ sum_by f (filter keep ns)
without-one f keep m own [] among = absurd (cc)
without-one f keep m own (n ∷ ns) among = go (nat_eq m n) (keep n) refl refl (λ there. without-one f keep m own ns there)
  where
    narrower : (k : ℕ) → (keep k && not (nat_eq m k)) ≡ true → keep k ≡ true
    narrower k h = (and_parts (keep k) (not (nat_eq m k)) h).0

    go : (a b : Bool) → nat_eq m n ≡ a → keep n ≡ b → (is_among ns m ≡ true → f m + sum_by f (filter (λ k. keep k && not (nat_eq m k)) ns) ≤ sum_by f (filter keep ns))
        → f m + sum_by f (filter (λ k. keep k && not (nat_eq m k)) (n ∷ ns)) ≤ sum_by f (filter keep (n ∷ ns))
    go true true e g behind =
        let same : m ≡ n = eqb-true m n e in
        rw (e, g) (omega (arith, ap f same, sum_by-cons f n (filter keep ns), filter-sum f keep (λ k. keep k && not (nat_eq m k)) narrower ns))
    go true false e g behind = let same : m ≡ n = eqb-true m n e in let yes = ap keep same in absurd (cc (yes, own, g))
    go false true e g behind =
        let there : is_among ns m ≡ true = sym (rw e refl) ∙ among in
        let rest = behind there in
        rw (e, g) (omega (arith, rest, sum_by-cons f n (filter keep ns), sum_by-cons f n (filter (λ k. keep k && not (nat_eq m k)) ns)))
    go false false e g behind = let there : is_among ns m ≡ true = sym (rw e refl) ∙ among in rw (e, g) (behind there)

filter-twice : (p q : ℕ → Bool) (ns : List ℕ) → filter p (filter q ns) ≡ filter (λ n. p n && q n) ns
filter-twice p q [] = refl
filter-twice p q (n ∷ ns) = go (p n) (q n) refl refl (filter-twice p q ns)
  where
    go : (a b : Bool) → p n ≡ a → q n ≡ b → filter p (filter q ns) ≡ filter (λ n. p n && q n) ns → filter p (filter q (n ∷ ns)) ≡ filter (λ n. p n && q n) (n ∷ ns)
    go true true e g rest = rw (e, g) (rw e (ap (λ l. n ∷ l) rest))
    go false true e g rest = rw (e, g) (rw e rest)
    go true false e g rest = rw (e, g) rest
    go false false e g rest = rw (e, g) rest

kept-once : (f : ℕ → ℕ) (xs others : List ℕ) → list_all (is_among others) xs ≡ true → (keep : ℕ → Bool)
    → sum_by f (filter keep (each_once_by nat_eq xs)) ≤ sum_by f (filter keep others)
kept-once f [] others all keep = omega arith
kept-once f (x ∷ xs) others all keep =
    go (keep x) refl (kept-once f xs others (and_parts (is_among others x) (list_all (is_among others) xs) all).1 (λ n. keep n && not (nat_eq x n)))
  where
    same : filter keep (filter (λ n. not (nat_eq x n)) (each_once_by nat_eq xs)) ≡ filter (λ n. keep n && not (nat_eq x n)) (each_once_by nat_eq xs)
    same = filter-twice keep (λ n. not (nat_eq x n)) (each_once_by nat_eq xs)

    go : (b : Bool) → keep x ≡ b → sum_by f (filter (λ n. keep n && not (nat_eq x n)) (each_once_by nat_eq xs)) ≤ sum_by f (filter (λ n. keep n && not (nat_eq x n)) others)
        → sum_by f (filter keep (each_once_by nat_eq (x ∷ xs))) ≤ sum_by f (filter keep others)
    go true e rest =
        rw e (omega (
          arith,
          sum_by-cons f x (filter keep (filter (λ n. not (nat_eq x n)) (each_once_by nat_eq xs))),
          ap (sum_by f) same,
          rest,
          without-one f keep x e others (and_parts (is_among others x) (list_all (is_among others) xs) all).0,
        ))
    go false e rest =
        rw e (omega (arith, ap (sum_by f) same, rest, filter-sum f keep (λ n. keep n && not (nat_eq x n)) (λ n h. (and_parts (keep n) (not (nat_eq x n)) h).0) others))

pub sum-once : (f : ℕ → ℕ) (xs others : List ℕ) → list_all (is_among others) xs ≡ true → sum_by f (each_once_by nat_eq xs) ≤ sum_by f others
sum-once f xs others all =
    omega (arith, ap (sum_by f) (kept-all (each_once_by nat_eq xs)), ap (sum_by f) (kept-all others), kept-once f xs others all (λ n. true))
  where
    kept-all : (ns : List ℕ) → filter (λ n. true) ns ≡ ns
    kept-all [] = refl
    kept-all (n ∷ ns) = ap (λ l. n ∷ l) (kept-all ns)

-- Numbers that are listed once are distinct.

among-filtered : (test : ℕ → Bool) (ns : List ℕ) (n : ℕ) → is_among (filter test ns) n ≡ true → (is_among ns n ≡ true) × (test n ≡ true)
among-filtered test [] n h = absurd (cc)
among-filtered test (m ∷ ns) n h = go (test m) (nat_eq n m) refl refl h (among-filtered test ns n)
  where
    go : (a b : Bool) → test m ≡ a → nat_eq n m ≡ b → is_among (filter test (m ∷ ns)) n ≡ true → (is_among (filter test ns) n ≡ true → (is_among ns n ≡ true) × (test n ≡ true))
        → (is_among (m ∷ ns) n ≡ true) × (test n ≡ true)
    go true true e g there rest = (rw g refl, ap test (eqb-true n m g) ∙ e)
    go true false e g there rest = let behind : is_among (filter test ns) n ≡ true = sym (rw (e, g) refl) ∙ there in (rw g (rest behind).0, (rest behind).1)
    go false true e g there rest = let behind : is_among (filter test ns) n ≡ true = sym (rw e refl) ∙ there in (rw g refl, (rest behind).1)
    go false false e g there rest = let behind : is_among (filter test ns) n ≡ true = sym (rw e refl) ∙ there in (rw g (rest behind).0, (rest behind).1)

distinct-filtered : (test : ℕ → Bool) (ns : List ℕ) → is_distinct ns ≡ true → is_distinct (filter test ns) ≡ true
distinct-filtered test [] h = refl
distinct-filtered test (n ∷ ns) h = go (test n) (is_among (filter test ns) n) refl refl (distinct-filtered test ns (and_parts (not (is_among ns n)) (is_distinct ns) h).1)
  where
    go : (a b : Bool) → test n ≡ a → is_among (filter test ns) n ≡ b → is_distinct (filter test ns) ≡ true → is_distinct (filter test (n ∷ ns)) ≡ true
    go true true e g rest = let there = (among-filtered test ns n g).0 in let none = (and_parts (not (is_among ns n)) (is_distinct ns) h).0 in absurd (cc)
    go true false e g rest = rw e (rw (g, rest) refl)
    go false b e g rest = rw e rest

pub once-distinct : (ns : List ℕ) → is_distinct (each_once_by nat_eq ns) ≡ true
once-distinct [] = refl
once-distinct (n ∷ ns) =
    go (is_among (filter (λ m. not (nat_eq n m)) (each_once_by nat_eq ns)) n) refl (distinct-filtered (λ m. not (nat_eq n m)) (each_once_by nat_eq ns) (once-distinct ns))
  where
    go : (b : Bool) → is_among (filter (λ m. not (nat_eq n m)) (each_once_by nat_eq ns)) n ≡ b → is_distinct (filter (λ m. not (nat_eq n m)) (each_once_by nat_eq ns)) ≡ true
        → is_distinct (each_once_by nat_eq (n ∷ ns)) ≡ true
    go true e rest = let other = (among-filtered (λ m. not (nat_eq n m)) (each_once_by nat_eq ns) n e).1 in let own = eq-eqb n n refl in absurd (cc)
    go false e rest = rw (e, rest) refl

-- The places of all such names, in the order of the names, are 0, 1 and so on.
pub own-places : (names places : List ℕ) → is_distinct names ≡ true → list_all (λ p. nat_lt p (length names)) places ≡ true → names ≡ map (name_in names) places
    → places ≡ range_with_len 0 (length names)
own-places names places once below same =
    fill_by_all (λ k. k) places (length names) 0 many (λ k h.
    let inside : k < length places = omega (arith, h, many) in
    let at = get_or-map (name_in names) places k 0 0 inside in
    let here : get_or names k 0 ≡ get_or names (get_or places k 0) 0 = ap (λ ns. get_or ns k 0) same ∙ at in
    distinct-places names (get_or places k 0) k once (ltb-true _ _ (all-at (λ p. nat_lt p (length names)) places k 0 inside below)) h (sym here))
    ∙ map-own (range_with_len 0 (length names))
  where
    many : length places ≡ length names
    many = sym (length-map places (name_in names)) ∙ ap length (sym same)

    map-own : (ks : List ℕ) → map (λ k. k) ks ≡ ks
    map-own [] = refl
    map-own (k ∷ ks) = ap (λ (rest : List ℕ). k ∷ rest) (map-own ks)
