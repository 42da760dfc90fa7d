-- Lists made by a function: their kept items and their places.
use Rattle.std.proofs.Common.{◌≡◌, ℕ, zero, suc, ◌+◌, ◌<◌, Bool, true, false, List, [], ◌∷◌, ◌++◌, length, map, get_or, arith, refl, ap, ◌∙◌}
use Rattle.std.specs.List.{AllZip, filter, flat_map, list_all}
use Rattle.std.proofs.lemmas.Bool.{and_parts, and_from, cond-true, cond-false}
use Rattle.std.proofs.lemmas.List.Elements.{filter-append}
use Rattle.std.proofs.lemmas.List.Folds.{list_all-append, list_all-map}
use Rattle.subdiv_model.specs.Lists.{places_from, places}
use Rattle.mesh_laws.proofs.FaultLemmas.{all-always}

pub all-made : {X Y : Type 0} (test : Y → Bool) (make : X → Y) → ((x : X) → test (make x) ≡ true) → (xs : List X) → list_all test (map make xs) ≡ true
all-made test make each xs = list_all-map test make xs ∙ all-always (λ x. test (make x)) each xs

pub all-both : {X : Type 0} (test : X → Bool) (xs ys : List X) → list_all test xs ≡ true → list_all test ys ≡ true → list_all test (xs ++ ys) ≡ true
all-both test xs ys first second = list_all-append test xs ys ∙ and_from _ _ first second

-- what passes everywhere is kept whole
pub filter-all : {X : Type 0} (test : X → Bool) (xs : List X) → list_all test xs ≡ true → filter test xs ≡ xs
filter-all test [] all = refl
filter-all test (x ∷ xs) all =
    let parts = and_parts (test x) (list_all test xs) all in cond-true (test x) _ _ parts.0 ∙ ap (λ ys. x ∷ ys) (filter-all test xs parts.1)

-- a filter keeps all items that a function makes, or none
pub kept-all : {X Y : Type 0} (test : Y → Bool) (make : X → Y) → ((x : X) → test (make x) ≡ true) → (xs : List X) → filter test (map make xs) ≡ map make xs
kept-all test make each xs = filter-all test (map make xs) (all-made test make each xs)

pub kept-none : {X Y : Type 0} (test : Y → Bool) (make : X → Y) → ((x : X) → test (make x) ≡ false) → (xs : List X) → filter test (map make xs) ≡ []
kept-none test make none [] = refl
kept-none test make none (x ∷ xs) = cond-false (test (make x)) _ _ (none x) ∙ kept-none test make none xs

-- filtering two lists one after another
pub kept-both : {X : Type 0} (test : X → Bool) (xs ys first second : List X) → filter test xs ≡ first → filter test ys ≡ second
    → filter test (xs ++ ys) ≡ first ++ second
kept-both test xs ys first second one other =
    filter-append test xs ys ∙ ap (λ kept. kept ++ filter test ys) one ∙ ap (λ kept. first ++ kept) other

-- functions that agree on what passes make one list
pub map-agree : {X Y : Type 0} (keep : X → Bool) (f g : X → Y) → ((x : X) → keep x ≡ true → f x ≡ g x) → (xs : List X) → list_all keep xs ≡ true → map f xs ≡ map g xs
map-agree keep f g same [] h = refl
map-agree keep f g same (x ∷ xs) h =
    let parts = and_parts (keep x) (list_all keep xs) h in
    ap (λ y. y ∷ map f xs) (same x parts.0) ∙ ap (λ ys. g x ∷ ys) (map-agree keep f g same xs parts.1)

pub map-twice : {X Y Z : Type 0} (f : X → Y) (g : Y → Z) (xs : List X) → map g (map f xs) ≡ map (λ x. g (f x)) xs
map-twice f g [] = refl
map-twice f g (x ∷ xs) = ap (λ l. g (f x) ∷ l) (map-twice f g xs)

-- a list for each is a list, where each has one item
pub flat-ones : {X Y : Type 0} (f : X → List Y) (g : X → Y) → ((x : X) → f x ≡ g x ∷ []) → (xs : List X) → flat_map f xs ≡ map g xs
flat-ones f g one [] = refl
flat-ones f g one (x ∷ xs) = ap (λ l. l ++ flat_map f xs) (one x) ∙ ap (λ l. g x ∷ l) (flat-ones f g one xs)

-- the items at the places of a kind are the items of that kind
places-from-map : {X Y : Type 0} (test : X → Bool) (at : ℕ → Y) (of : X → Y) (d : X) (place : ℕ) (xs : List X)
    → ((i : ℕ) → i < length xs → test (get_or xs i d) ≡ true → at (place + i) ≡ of (get_or xs i d))
    → map at (places_from place test xs) ≡ map of (filter test xs)
places-from-map test at of d place [] h = refl
places-from-map test at of d place (x ∷ xs) h =
    let rest : map at (places_from (place + 1) test xs) ≡ map of (filter test xs) =
    places-from-map test at of d (place + 1) xs (λ i low passes.
    let e : place + 1 + i ≡ place + suc i = omega arith in ap at e ∙ h (suc i) (omega arith) passes) in
    let here : place ≡ place + 0 = omega arith in
    step (test x) refl rest (λ passes. ap at here ∙ h 0 (omega arith) passes)
  where
    step : (b : Bool) → test x ≡ b → map at (places_from (place + 1) test xs) ≡ map of (filter test xs)
        → (test x ≡ true → at place ≡ of x)
        → map at (places_from place test (x ∷ xs)) ≡ map of (filter test (x ∷ xs))
    step true e rest here = rw e (ap (λ y. y ∷ map at (places_from (place + 1) test xs)) (here e) ∙ ap (λ ys. of x ∷ ys) rest)
    step false e rest here = rw e rest

pub places-map : {X Y : Type 0} (test : X → Bool) (at : ℕ → Y) (of : X → Y) (d : X) (xs : List X)
    → ((i : ℕ) → i < length xs → test (get_or xs i d) ≡ true → at i ≡ of (get_or xs i d)) → map at (places test xs) ≡ map of (filter test xs)
places-map test at of d xs h = places-from-map test at of d 0 xs (λ i low passes. let e : 0 + i ≡ i = omega arith in ap at e ∙ h i low passes)

-- a test that all items and the default pass is passed at each place
pub all-at : {X : Type 0} (test : X → Bool) (d : X) (xs : List X) (i : ℕ) → list_all test xs ≡ true → test d ≡ true → test (get_or xs i d) ≡ true
all-at test d [] i all given = given
all-at test d (x ∷ xs) zero all given = (and_parts (test x) (list_all test xs) all).0
all-at test d (x ∷ xs) (suc i) all given = all-at test d xs i (and_parts (test x) (list_all test xs) all).1 given

-- a list has as many items as one that goes with it
pub as-many : {X Y : Type 0} (R : X → Y → Type 0) (xs : List X) (ys : List Y) → AllZip R xs ys → length ys ≡ length xs
as-many R [] [] h = refl
as-many R [] (y ∷ ys) h = absurd h
as-many R (x ∷ xs) [] h = absurd h
as-many R (x ∷ xs) (y ∷ ys) h = ap suc (as-many R xs ys h.1)
