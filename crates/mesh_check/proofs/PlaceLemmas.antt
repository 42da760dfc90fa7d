-- The first place of an item that passes a test, from a place on.
use Rattle.std.proofs.Common.{◌≡◌, ℕ, zero, suc, ◌+◌, ◌≤◌, Bool, true, false, List, [], ◌∷◌, ◌++◌, length, map, drop, take, append-nil, append_assoc, if◌then◌else◌, arith, refl, ap, sym, ◌∙◌, Some, None, add-one}
use Rattle.std.specs.List.{slice_get}
use Rattle.std.proofs.lemmas.List.{take_more}
use Rattle.std.proofs.lemmas.Grind.{flat_map-append}
use Rattle.std.proofs.lemmas.Option.{get_or_from_slice_get, slice_get_within}
use Rattle.subdiv_model.specs.Polygons.{Polygon, sides_of}
use Rattle.subdiv_model.specs.Edges.{all_sides}
use Rattle.subdiv_model.specs.Lists.{first_of, places_from}

here : {X : Type 0} (xs : List X) (i : ℕ) (x : X) → slice_get xs i ≡ Some x → drop i xs ≡ x ∷ drop (suc i) xs
here [] i x h = absurd (cc)
here (y ∷ ys) zero x h = ap (λ k. k ∷ ys) (cc)
here (y ∷ ys) (suc i) x h = here ys i x h

-- the list from a place on begins with the item there
pub drop-here : {X : Type 0} (xs : List X) (i : ℕ) (x : X) → slice_get xs i ≡ Some x → drop i xs ≡ x ∷ drop (i + 1) xs
drop-here xs i x h = rw add-one (here xs i x h)

-- the item at a place passes
pub place-found : {X : Type 0} (test : X → Bool) (xs : List X) (i : ℕ) (x : X) → slice_get xs i ≡ Some x → test x ≡ true → first_of (places_from i test (drop i xs)) ≡ Some i
place-found test xs i x h t = rw (drop-here xs i x h, t) refl

-- the item at a place does not pass
pub place-passed : {X : Type 0} (test : X → Bool) (xs : List X) (i : ℕ) (x : X) → slice_get xs i ≡ Some x → test x ≡ false → first_of (places_from i test (drop i xs)) ≡ first_of (places_from (i + 1) test (drop (i + 1) xs))
place-passed test xs i x h t = rw (drop-here xs i x h, t) refl

-- there is no item at the end
pub drop-all : {X : Type 0} (xs : List X) (i : ℕ) → length xs ≤ i → drop i xs ≡ []
drop-all [] zero h = refl
drop-all [] (suc i) h = refl
drop-all (y ∷ ys) zero h = absurd (omega arith)
drop-all (y ∷ ys) (suc i) h = drop-all ys i (omega arith)

-- no place is found at the end
pub place-none : {X : Type 0} (test : X → Bool) (xs : List X) (i : ℕ) → length xs ≤ i → None ≡ first_of (places_from i test (drop i xs))
place-none test xs i h = rw (drop-all xs i h) refl

-- the item at a place is added if it passes, and those that pass after it follow
pub place-put : {X Y : Type 0} (kind : ℕ → Y) (test : X → Bool) (xs : List X) (i : ℕ) (x : X) (put : Bool) (now new all : List Y) → slice_get xs i ≡ Some x → put ≡ test x → new ≡ now ++ (if put then kind i ∷ [] else [])
    → now ++ map kind (places_from i test (drop i xs)) ≡ all → new ++ map kind (places_from (i + 1) test (drop (i + 1) xs)) ≡ all
place-put {Y = Y} kind test xs i x put now new all at passes is whole = go put passes is ∙ sym (ap (λ ys. now ++ map kind (places_from i test ys)) (drop-here xs i x at)) ∙ whole
  where
    behind : List Y
    behind = map kind (places_from (i + 1) test (drop (i + 1) xs))

    go : (b : Bool) → b ≡ test x → new ≡ now ++ (if b then kind i ∷ [] else []) → new ++ behind ≡ now ++ map kind (places_from i test (x ∷ drop (i + 1) xs))
    go true e made =
        ap (λ ys. ys ++ behind) made ∙ append_assoc now (kind i ∷ []) behind
        ∙ ap (λ b. now ++ map kind (if b then i ∷ places_from (i + 1) test (drop (i + 1) xs) else places_from (i + 1) test (drop (i + 1) xs))) e
    go false e made =
        ap (λ ys. ys ++ behind) (made ∙ append-nil now)
        ∙ ap (λ b. now ++ map kind (if b then i ∷ places_from (i + 1) test (drop (i + 1) xs) else places_from (i + 1) test (drop (i + 1) xs))) e

-- at the end all are put
pub places-end : {X Y : Type 0} (kind : ℕ → Y) (test : X → Bool) (xs : List X) (i : ℕ) (now all : List Y) → length xs ≤ i → now ++ map kind (places_from i test (drop i xs)) ≡ all → now ≡ all
places-end kind test xs i now all h whole = sym (ap (λ ys. now ++ map kind (places_from i test ys)) (drop-all xs i h) ∙ append-nil now) ∙ whole

-- the sides of one face more
pub sides-next : (polygons : List Polygon) (i : ℕ) (face : Polygon) (before after : List (ℕ × ℕ)) → slice_get polygons i ≡ Some face → before ≡ all_sides (take i polygons) → after ≡ before ++ sides_of face → after ≡ all_sides (take (i + 1) polygons)
sides-next polygons i face before after at b a =
    let more : take (i + 1) polygons ≡ take i polygons ++ face ∷ [] =
    take_more polygons i face (slice_get_within polygons i face at) ∙ ap (λ f. take i polygons ++ f ∷ []) (get_or_from_slice_get polygons i face face at) in
    a ∙ ap (λ s. s ++ sides_of face) b ∙ ap (λ s. all_sides (take i polygons) ++ s) (sym (append-nil (sides_of face))) ∙ sym (ap all_sides more ∙ flat_map-append sides_of (take i polygons) (face ∷ []))
