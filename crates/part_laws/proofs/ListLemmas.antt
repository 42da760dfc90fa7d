-- Lists under another function, or without some items: their kept items, their places, and each item once.
use Rattle.std.proofs.Common.{◌≡◌, ℕ, zero, suc, ◌+◌, ◌<◌, Bool, true, false, not, List, [], ◌∷◌, ◌++◌, length, map, get_or, drop, arith, refl, ap, sym, ◌∙◌}
use Rattle.std.specs.List.{filter, flat_map, list_any, list_all, range_with_len}
use Rattle.std.proofs.lemmas.Bool.{and_parts}
use Rattle.std.proofs.lemmas.List.{map-append}
use Rattle.std.proofs.lemmas.List.Elements.{filter-append}
use Rattle.subdiv_model.specs.Lists.{places_from, each_once_by}

-- functions that agree on what passes give one list
pub map-agree : {X Y : Type 0} (keep : X → Bool) (f g : X → Y) → ((x : X) → keep x ≡ true → f x ≡ g x) → (xs : List X) → list_all keep xs ≡ true → map f xs ≡ map g xs
map-agree keep f g same [] h = refl
map-agree keep f g same (x ∷ xs) h =
    let parts = and_parts (keep x) (list_all keep xs) h in
    let here = same x parts.0 in
    let rest = map-agree keep f g same xs parts.1 in
    rw (here, rest) refl

pub map-twice : {X Y Z : Type 0} (f : X → Y) (g : Y → Z) (xs : List X) → map g (map f xs) ≡ map (λ x. g (f x)) xs
map-twice f g [] = refl
map-twice f g (x ∷ xs) = ap (λ l. g (f x) ∷ l) (map-twice f g xs)

pub filter-yes : {X : Type 0} (test : X → Bool) (x : X) (xs : List X) → test x ≡ true → filter test (x ∷ xs) ≡ x ∷ filter test xs
filter-yes test x xs e = rw e refl

pub filter-off : {X : Type 0} (test : X → Bool) (x : X) (xs : List X) → test x ≡ false → filter test (x ∷ xs) ≡ filter test xs
filter-off test x xs e = rw e refl

-- tests that agree find the same
pub any-mapped : {X Y : Type 0} (keep : X → Bool) (f : X → Y) (test : X → Bool) (other : Y → Bool) → ((x : X) → keep x ≡ true → other (f x) ≡ test x) → (xs : List X) → list_all keep xs ≡ true → list_any other (map f xs) ≡ list_any test xs
any-mapped keep f test other same [] h = refl
any-mapped keep f test other same (x ∷ xs) h =
    let parts = and_parts (keep x) (list_all keep xs) h in
    let here = same x parts.0 in
    let rest = any-mapped keep f test other same xs parts.1 in
    rw (here, rest) refl

-- aligned tests keep the same items
pub filter-mapped : {X Y : Type 0} (keep : X → Bool) (f : X → Y) (test : X → Bool) (other : Y → Bool) → ((x : X) → keep x ≡ true → other (f x) ≡ test x) → (xs : List X) → list_all keep xs ≡ true → filter other (map f xs) ≡ map f (filter test xs)
filter-mapped keep f test other same [] h = refl
filter-mapped keep f test other same (x ∷ xs) h =
    let parts = and_parts (keep x) (list_all keep xs) h in
    go (test x) refl (same x parts.0) (filter-mapped keep f test other same xs parts.1)
  where
    go : (b : Bool) → test x ≡ b → other (f x) ≡ test x → filter other (map f xs) ≡ map f (filter test xs) → filter other (map f (x ∷ xs)) ≡ map f (filter test (x ∷ xs))
    go true e here rest = rw (here, e) (ap (λ l. f x ∷ l) rest)
    go false e here rest = rw (here, e) rest

-- two filters commute
pub filter-swap : {X : Type 0} (p q : X → Bool) (xs : List X) → filter p (filter q xs) ≡ filter q (filter p xs)
filter-swap p q [] = refl
filter-swap p q (x ∷ xs) = go (p x) (q x) refl refl (filter-swap p q xs)
  where
    go : (a b : Bool) → p x ≡ a → q x ≡ b → filter p (filter q xs) ≡ filter q (filter p xs) → filter p (filter q (x ∷ xs)) ≡ filter q (filter p (x ∷ xs))
    go true true e f rest =
        ap (filter p) (filter-yes q x xs f) ∙ filter-yes p x (filter q xs) e ∙ ap (λ l. x ∷ l) rest
        ∙ sym (filter-yes q x (filter p xs) f) ∙ ap (filter q) (sym (filter-yes p x xs e))
    go true false e f rest =
        ap (filter p) (filter-off q x xs f) ∙ rest ∙ sym (filter-off q x (filter p xs) f) ∙ ap (filter q) (sym (filter-yes p x xs e))
    go false true e f rest =
        ap (filter p) (filter-yes q x xs f) ∙ filter-off p x (filter q xs) e ∙ rest ∙ ap (filter q) (sym (filter-off p x xs e))
    go false false e f rest = ap (filter p) (filter-off q x xs f) ∙ rest ∙ ap (filter q) (sym (filter-off p x xs e))

-- a test that passes wherever another does takes nothing away
pub filter-weaker : {X : Type 0} (p q : X → Bool) → ((x : X) → p x ≡ true → q x ≡ true) → (xs : List X) → filter p (filter q xs) ≡ filter p xs
filter-weaker p q weaker [] = refl
filter-weaker p q weaker (x ∷ xs) = go (p x) (q x) refl refl (filter-weaker p q weaker xs)
  where
    go : (a b : Bool) → p x ≡ a → q x ≡ b → filter p (filter q xs) ≡ filter p xs → filter p (filter q (x ∷ xs)) ≡ filter p (x ∷ xs)
    go true true e f rest = ap (filter p) (filter-yes q x xs f) ∙ filter-yes p x (filter q xs) e ∙ ap (λ l. x ∷ l) rest ∙ sym (filter-yes p x xs e)
    go true false e f rest = absurd (let yes = weaker x e in cc)
    go false true e f rest = ap (filter p) (filter-yes q x xs f) ∙ filter-off p x (filter q xs) e ∙ rest ∙ sym (filter-off p x xs e)
    go false false e f rest = ap (filter p) (filter-off q x xs f) ∙ rest ∙ sym (filter-off p x xs e)

-- listing each item once and filtering commute, if equal items pass alike
pub once-kept : {X : Type 0} (same : X → X → Bool) (keep : X → Bool) → ((x y : X) → same x y ≡ true → keep x ≡ keep y) → (xs : List X) → filter keep (each_once_by same xs) ≡ each_once_by same (filter keep xs)
once-kept same keep alike [] = refl
once-kept {X} same keep alike (x ∷ xs) = go (keep x) refl (once-kept same keep alike xs)
  where
    tells : keep x ≡ false → (y : X) → keep y ≡ true → (b : Bool) → same x y ≡ b → not b ≡ true
    tells off y on true e = absurd (let k = alike x y e in cc)
    tells off y on false e = refl

    go : (b : Bool) → keep x ≡ b → filter keep (each_once_by same xs) ≡ each_once_by same (filter keep xs) → filter keep (each_once_by same (x ∷ xs)) ≡ each_once_by same (filter keep (x ∷ xs))
    go true e rest = rw e (ap (λ l. x ∷ l) (filter-swap keep (λ y. not (same x y)) (each_once_by same xs) ∙ ap (filter (λ y. not (same x y))) rest))
    go false e rest = rw e (filter-weaker keep (λ y. not (same x y)) (λ y on. tells e y on (same x y) refl) (each_once_by same xs) ∙ rest)

-- a test that passes for all items passes for all kept items
pub all-filtered : {X : Type 0} (keep test : X → Bool) (xs : List X) → list_all test xs ≡ true → list_all test (filter keep xs) ≡ true
all-filtered keep test [] h = refl
all-filtered keep test (x ∷ xs) h =
    let parts = and_parts (test x) (list_all test xs) h in
    go (keep x) refl parts.0 (all-filtered keep test xs parts.1)
  where
    go : (b : Bool) → keep x ≡ b → test x ≡ true → list_all test (filter keep xs) ≡ true → list_all test (filter keep (x ∷ xs)) ≡ true
    go true e here rest = rw e (rw here rest)
    go false e here rest = rw e rest

pub all-once : {X : Type 0} (same : X → X → Bool) (test : X → Bool) (xs : List X) → list_all test xs ≡ true → list_all test (each_once_by same xs) ≡ true
all-once same test [] h = refl
all-once same test (x ∷ xs) h =
    let parts = and_parts (test x) (list_all test xs) h in
    let here = parts.0 in
    rw here (all-filtered (λ y. not (same x y)) test (each_once_by same xs) (all-once same test xs parts.1))

-- each item once, under a function that keeps different items apart
pub once-mapped : {X Y : Type 0} (keep : X → Bool) (f : X → Y) (same : X → X → Bool) (other : Y → Y → Bool) → ((x y : X) → keep x ≡ true → keep y ≡ true → other (f x) (f y) ≡ same x y) → (xs : List X) → list_all keep xs ≡ true → each_once_by other (map f xs) ≡ map f (each_once_by same xs)
once-mapped keep f same other alike [] h = refl
once-mapped keep f same other alike (x ∷ xs) h =
    let parts = and_parts (keep x) (list_all keep xs) h in
    let rest = once-mapped keep f same other alike xs parts.1 in
    ap (λ l. f x ∷ l)
    (ap (filter (λ y. not (other (f x) y))) rest
    ∙ filter-mapped keep f (λ y. not (same x y)) (λ y. not (other (f x) y)) (λ y k. ap not (alike x y parts.0 k)) (each_once_by same xs) (all-once same keep xs parts.1))

-- filtering joined lists is joining filtered lists
pub filter-joined : {X Y : Type 0} (keep : Y → Bool) (parts : X → List Y) (xs : List X) → filter keep (flat_map parts xs) ≡ flat_map (λ x. filter keep (parts x)) xs
filter-joined keep parts [] = refl
filter-joined keep parts (x ∷ xs) = filter-append keep (parts x) (flat_map parts xs) ∙ ap (λ l. filter keep (parts x) ++ l) (filter-joined keep parts xs)

pub joined-mapped : {X Y Z : Type 0} (parts : Y → List Z) (f : X → Y) (xs : List X) → flat_map parts (map f xs) ≡ flat_map (λ x. parts (f x)) xs
joined-mapped parts f [] = refl
joined-mapped parts f (x ∷ xs) = ap (λ l. parts (f x) ++ l) (joined-mapped parts f xs)

pub mapped-joined : {X Y Z : Type 0} (f : Y → Z) (parts : X → List Y) (xs : List X) → map f (flat_map parts xs) ≡ flat_map (λ x. map f (parts x)) xs
mapped-joined f parts [] = refl
mapped-joined f parts (x ∷ xs) = map-append f (parts x) (flat_map parts xs) ∙ ap (λ l. map f (parts x) ++ l) (mapped-joined f parts xs)

pub joined-agree : {X Y : Type 0} (keep : X → Bool) (f g : X → List Y) → ((x : X) → keep x ≡ true → f x ≡ g x) → (xs : List X) → list_all keep xs ≡ true → flat_map f xs ≡ flat_map g xs
joined-agree keep f g same [] h = refl
joined-agree keep f g same (x ∷ xs) h =
    let parts = and_parts (keep x) (list_all keep xs) h in
    ap (λ l. l ++ flat_map f xs) (same x parts.0) ∙ ap (λ l. g x ++ l) (joined-agree keep f g same xs parts.1)

-- nothing is kept where nothing passes
pub filter-none : {X : Type 0} (test : X → Bool) (xs : List X) → list_any test xs ≡ false → filter test xs ≡ []
filter-none test [] h = refl
filter-none test (x ∷ xs) h = go (test x) (list_any test xs) refl refl h (λ none. filter-none test xs none)
  where
    go : (a b : Bool) → test x ≡ a → list_any test xs ≡ b → list_any test (x ∷ xs) ≡ false → (list_any test xs ≡ false → filter test xs ≡ []) → filter test (x ∷ xs) ≡ []
    go true b e f none rest = absurd (let k = rw e at none in cc)
    go false true e f none rest = absurd (let k = rw (e, f) at none in cc)
    go false false e f none rest = rw e (rest f)

-- the places of what passes, where another list passes alike and is read at these places
pub read-places : {X : Type 0} (read : ℕ → ℕ) (test : X → Bool) (other : ℕ → Bool) (place : ℕ) (xs : List X) (ns : List ℕ) → map test xs ≡ map other ns → ((i : ℕ) → i < length ns → read (place + i) ≡ get_or ns i 0) → map read (places_from place test xs) ≡ filter other ns
read-places read test other place [] [] e h = refl
read-places read test other place [] (n ∷ ns) e h = absurd (let long = ap length e in omega arith)
read-places read test other place (x ∷ xs) [] e h = absurd (let long = ap length e in omega arith)
read-places read test other place (x ∷ xs) (n ∷ ns) e h =
    let first : read place ≡ n = ap read (let k : place ≡ place + 0 = omega arith in k) ∙ h 0 (omega arith) in
    let rest = read-places read test other (place + 1) xs ns (ap (drop 1) e) (λ i l. ap read (let k : place + 1 + i ≡ place + suc i = omega arith in k) ∙ h (suc i) (omega arith)) in
    go (other n) refl (ap (λ l. get_or l 0 false) e) first rest
  where
    go : (b : Bool) → other n ≡ b → test x ≡ other n → read place ≡ n → map read (places_from (place + 1) test xs) ≡ filter other ns → map read (places_from place test (x ∷ xs)) ≡ filter other (n ∷ ns)
    go true f same first rest = rw (same, f) (rw (first, rest) refl)
    go false f same first rest = rw (same, f) rest

-- the places of what passes among the values of a function at the places
pub places-of-range : {X : Type 0} (f : ℕ → X) (test : X → Bool) (a n : ℕ) → places_from a test (map f (range_with_len a n)) ≡ filter (λ i. test (f i)) (range_with_len a n)
places-of-range f test a zero = refl
places-of-range f test a (suc n) = go (test (f a)) refl (places-of-range f test (a + 1) n)
  where
    go : (b : Bool) → test (f a) ≡ b → places_from (a + 1) test (map f (range_with_len (a + 1) n)) ≡ filter (λ i. test (f i)) (range_with_len (a + 1) n) → places_from a test (map f (range_with_len a (suc n))) ≡ filter (λ i. test (f i)) (range_with_len a (suc n))
    go true e rest = rw e (ap (λ l. a ∷ l) rest)
    go false e rest = rw e rest
