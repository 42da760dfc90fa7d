-- Pieces written at the front of an array, one behind the other.
use Rattle.std.proofs.Common.{◌≡◌, ℕ, ◌+◌, ◌-◌, ◌<◌, ◌≤◌, List, [], ◌∷◌, ◌++◌, length, map, take, drop, get_or, arith, refl, ap, sym, ◌∙◌}
use Rattle.std.specs.List.{flat_map, sum_by}
use Rattle.std.proofs.lemmas.List.{drop-drop, drop-map, drop_at, length-append, length-drop, length-map, length-take, map-append, take-append-drop, take-map, take_all, take_at}
use Rattle.std.proofs.lemmas.List.Sums.{sum_by-cons}
use Rattle.std.proofs.lemmas.Slice.{drop-put_mid}
use borrow.Rule.Slice.PartMut.{put_mid, post_of}
use Rattle.flat_arrays.proofs.PartLemmas.{part-written, pieces-more}
use Rattle.mesh_arrays.specs.SparseFlat.{with_front}

-- a list is its first part and its rest
by-parts : {A : Type 0} (n : ℕ) (out front rest : List A) → take n out ≡ front → drop n out ≡ rest → out ≡ front ++ rest
by-parts n out front rest e f = sym (take-append-drop n out) ∙ ap (λ xs. xs ++ drop n out) e ∙ ap (λ xs. front ++ xs) f

-- items at the front, where the rest stayed
front-of : {A : Type 0} (n : ℕ) (out items old : List A) → n ≡ length items → take n out ≡ items → drop n out ≡ drop n old → out ≡ with_front items old
front-of n out items old e written rest = by-parts n out items (drop (length items) old) written (rest ∙ ap (λ k. drop k old) e)

-- one piece more behind those at the front
front-more : {A : Type 0} (items part out old : List A) (at len : ℕ) → out ≡ with_front items old → length items ≡ at → length part ≡ len → at + len ≤ length out →
    put_mid at (at + len - at) out part ≡ with_front (items ++ part) old
front-more items part out old at len e items-len part-len fits =
    let whole : length (items ++ part) ≡ at + len = omega (arith, length-append items part, items-len, part-len) in
    let before : take at out ≡ items = ap (take at) e ∙ take_at items (drop (length items) old) at items-len in
    let written : take (at + len) (put_mid at (at + len - at) out part) ≡ items ++ part = part-written at len out part fits part-len ∙ ap (λ xs. xs ++ part) before in
    let behind : drop (at + len) out ≡ drop (at + len) old =
    sym (drop-drop len at out) ∙ ap (drop len) (ap (drop at) e ∙ drop_at items (drop (length items) old) at items-len ∙ ap (λ k. drop k old) items-len) ∙ drop-drop len at old in
    let rest : drop (at + len) (put_mid at (at + len - at) out part) ≡ drop (at + len) old =
    drop-put_mid at (at + len - at) out part (at + len) (omega arith) (omega (arith, fits)) (omega (arith, part-len)) ∙ behind in
    front-of (at + len) (put_mid at (at + len - at) out part) (items ++ part) old (sym whole) written rest

-- a part is as long as its range
pub part-size : {A : Type 0} (at len : ℕ) (out : List A) → at + len ≤ length out → length (take (at + len - at) (drop at out)) ≡ len
part-size at len out fits = omega (arith, fits, length-take (at + len - at) (drop at out), length-drop at out)

-- the length of pieces together
pub pieces-length : {X A : Type 0} (piece : X → List A) (count : X → ℕ) → ((x : X) → length (piece x) ≡ count x) → (xs : List X) → length (flat_map piece xs) ≡ sum_by count xs
pieces-length piece count same [] = refl
pieces-length piece count same (x ∷ xs) =
    omega (arith, length-append (piece x) (flat_map piece xs), same x, pieces-length piece count same xs, sum_by-cons count x xs)

-- the piece of one item more
pub front-next : {X A : Type 0} (piece : X → List A) (xs : List X) (i : ℕ) (d : X) (old out part : List A) (at len : ℕ) → i < length xs → length (flat_map piece (take i xs)) ≡ at →
    length part ≡ len → at + len ≤ length out → out ≡ with_front (flat_map piece (take i xs)) old → part ≡ piece (get_or xs i d) →
    put_mid at (at + len - at) out part ≡ with_front (flat_map piece (take (i + 1) xs)) old
front-next piece xs i d old out part at len inside items-len part-len fits written is =
    let items = flat_map piece (take i xs) in
    front-more items part out old at len written items-len part-len fits
    ∙ ap (λ ys. with_front ys old) (pieces-more piece xs i d items part (items ++ part) inside refl is refl)

-- all pieces
pub front-all : {X A : Type 0} (piece : X → List A) (xs : List X) (i : ℕ) (old out : List A) → length xs ≤ i → out ≡ with_front (flat_map piece (take i xs)) old →
    out ≡ with_front (flat_map piece xs) old
front-all piece xs i old out end written = written ∙ ap (λ ys. with_front (flat_map piece ys) old) (take_all i xs end)

-- a part that is seen as other items
map-part : {A B : Type 0} (view : A → B) (at n : ℕ) (out part : List A) → map view (put_mid at n out part) ≡ put_mid at n (map view out) (map view part)
map-part view at n out part =
    map-append view (take at out) (part ++ post_of at n out)
    ∙ ap (λ xs. xs ++ map view (part ++ post_of at n out)) (sym (take-map view at out))
    ∙ ap (λ xs. take at (map view out) ++ xs) (map-append view part (post_of at n out))
    ∙ ap (λ xs. take at (map view out) ++ (map view part ++ xs)) (sym (drop-map view n (drop at out)) ∙ ap (drop n) (sym (drop-map view at out)))

-- the piece of one item more, where the array is seen as other items
pub front-next-view : {X A B : Type 0} (view : A → B) (piece : X → List B) (xs : List X) (i : ℕ) (d : X) (old out part : List A) (at len : ℕ) → i < length xs →
    length (flat_map piece (take i xs)) ≡ at → length part ≡ len → at + len ≤ length out → map view out ≡ with_front (flat_map piece (take i xs)) (map view old) →
    map view part ≡ piece (get_or xs i d) → map view (put_mid at (at + len - at) out part) ≡ with_front (flat_map piece (take (i + 1) xs)) (map view old)
front-next-view view piece xs i d old out part at len inside items-len part-len fits written is =
    map-part view at (at + len - at) out part
    ∙ front-next piece xs i d (map view old) (map view out) (map view part) at len inside items-len (length-map part view ∙ part-len) (omega (arith, fits, length-map out view)) written is
