-- What one more line of a text adds to each part of the mesh, for readers that walk the lines.
use Rattle.std.proofs.Common.{◌≡◌, ℕ, ◌+◌, ◌<◌, Bool, true, false, cond, List, [], ◌∷◌, ◌++◌, length, map, take, get_or, arith, refl, ap, sym, ◌∙◌, append-nil}
use Rattle.std.specs.List.{filter, flat_map}
use Rattle.std.proofs.lemmas.List.{map-append, take_more, length-take}
use Rattle.std.proofs.lemmas.List.Elements.{filter-append}
use Rattle.std.proofs.lemmas.Grind.{flat_map-append}
use Rattle.subdiv_model.specs.Lists.{last_of, places}
use Rattle.obj_laws.proofs.ObjLineLemmas.{places-more}

filter-one : {X : Type 0} (kind : X → Bool) (x : X) (b : Bool) → b ≡ kind x → filter kind (x ∷ []) ≡ cond b (x ∷ []) []
filter-one kind x b e = ap (λ c. cond c (x ∷ []) []) (sym e)

map-one : {X Y : Type 0} (f : X → Y) (b : Bool) (x : X) → map f (cond b (x ∷ []) []) ≡ cond b (f x ∷ []) []
map-one f true x = refl
map-one f false x = refl

filter-take : {X : Type 0} (kind : X → Bool) (xs : List X) (n : ℕ) (d : X) → n < length xs → filter kind (take (n + 1) xs) ≡ filter kind (take n xs) ++ cond (kind (get_or xs n d)) (get_or xs n d ∷ []) []
filter-take kind xs n d h =
    ap (filter kind) (take_more xs n d h)
    ∙ filter-append kind (take n xs) (get_or xs n d ∷ [])
    ∙ ap (λ ys. filter kind (take n xs) ++ ys) (filter-one kind (get_or xs n d) (kind (get_or xs n d)) refl)

-- what each line of a kind gives
pub made-take : {X Y : Type 0} (kind : X → Bool) (f : X → Y) (xs : List X) (n : ℕ) (d : X) → n < length xs → map f (filter kind (take (n + 1) xs)) ≡ map f (filter kind (take n xs)) ++ cond (kind (get_or xs n d)) (f (get_or xs n d) ∷ []) []
made-take kind f xs n d h =
    ap (map f) (filter-take kind xs n d h)
    ∙ map-append f (filter kind (take n xs)) _
    ∙ ap (λ ys. map f (filter kind (take n xs)) ++ ys) (map-one f (kind (get_or xs n d)) (get_or xs n d))

flat-one : {X Y : Type 0} (f : X → List Y) (b : Bool) (x : X) → flat_map f (cond b (x ∷ []) []) ≡ cond b (f x) []
flat-one f true x = append-nil (f x)
flat-one f false x = refl

-- the lists that each line of a kind gives
pub flat-take : {X Y : Type 0} (kind : X → Bool) (f : X → List Y) (xs : List X) (n : ℕ) (d : X) → n < length xs → flat_map f (filter kind (take (n + 1) xs)) ≡ flat_map f (filter kind (take n xs)) ++ cond (kind (get_or xs n d)) (f (get_or xs n d)) []
flat-take kind f xs n d h =
    ap (flat_map f) (filter-take kind xs n d h)
    ∙ flat_map-append f (filter kind (take n xs)) _
    ∙ ap (λ ys. flat_map f (filter kind (take n xs)) ++ ys) (flat-one f (kind (get_or xs n d)) (get_or xs n d))

last-more : {X : Type 0} (given : X) (xs : List X) (b : Bool) (x : X) → last_of given (xs ++ cond b (x ∷ []) []) ≡ cond b x (last_of given xs)
last-more given [] true x = refl
last-more given [] false x = refl
last-more given (y ∷ xs) b x = last-more y xs b x

-- the last line of a kind
pub last-take : {X Y : Type 0} (kind : X → Bool) (f : X → Y) (given : Y) (xs : List X) (n : ℕ) (d : X) → n < length xs → last_of given (map f (filter kind (take (n + 1) xs))) ≡ cond (kind (get_or xs n d)) (f (get_or xs n d)) (last_of given (map f (filter kind (take n xs))))
last-take kind f given xs n d h =
    ap (last_of given) (made-take kind f xs n d h) ∙ last-more given (map f (filter kind (take n xs))) (kind (get_or xs n d)) (f (get_or xs n d))

-- the places of a kind
pub places-take : {X : Type 0} (kind : X → Bool) (xs : List X) (n : ℕ) (d : X) → n < length xs → places kind (take (n + 1) xs) ≡ places kind (take n xs) ++ cond (kind (get_or xs n d)) (n ∷ []) []
places-take kind xs n d h =
    let short : length (take n xs) ≡ n = let l = length-take n xs in omega (arith, l, h) in
    ap (places kind) (take_more xs n d h)
    ∙ places-more kind (take n xs) (get_or xs n d)
    ∙ ap (λ k. places kind (take n xs) ++ cond (kind (get_or xs n d)) (k ∷ []) []) short
