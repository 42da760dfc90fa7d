-- Parts written into a list one behind the other, and the pieces that they are of other lists.
use Rattle.std.proofs.Common.{◌≡◌, ℕ, ◌+◌, ◌-◌, ◌<◌, ◌≤◌, List, [], ◌∷◌, ◌++◌, length, take, drop, get_or, arith, ap, sym, ◌∙◌}
use Rattle.std.specs.List.{flat_map, sum_by}
use Rattle.std.proofs.lemmas.List.{append-nil, take_all, length-append, length-take, length-drop, take_more, drop-drop}
use Rattle.std.proofs.lemmas.List.Concat.{flat_map-append}
use Rattle.std.proofs.lemmas.List.Sums.{sum_by_more, sum_by_more_le}
use Rattle.std.proofs.lemmas.Slice.{take-put_mid, drop-put_mid}
use borrow.Rule.Slice.PartMut.{put_mid, post_of}

-- a part is written behind the first `at`
pub part-written : {A : Type 0} (at len : ℕ) (out part : List A) → at + len ≤ length out → length part ≡ len →
    take (at + len) (put_mid at (at + len - at) out part) ≡ take at out ++ part
part-written at len out part fits e = take-put_mid at (at + len - at) out part (at + len) (omega (arith, e)) (omega (arith, fits))

-- Writing a part keeps the items behind it.
pub part-rest : {A : Type 0} (n at len : ℕ) (out part old : List A) → at + len ≤ length out → at + len ≤ n → length part ≡ len → drop n out ≡ drop n old →
    drop n (put_mid at (at + len - at) out part) ≡ drop n old
part-rest n at len out part old inside fits e rest =
    drop-put_mid at (at + len - at) out part n (omega (arith, fits)) (omega (arith, inside)) (omega (arith, e)) ∙ rest

-- a part that is written leaves the length
pub part-length : {A : Type 0} (at len : ℕ) (out part : List A) → at + len ≤ length out → length part ≡ len → length (put_mid at (at + len - at) out part) ≡ length out
part-length at len out part inside e =
    length-append (take at out) (part ++ post_of at (at + len - at) out)
    ∙ omega (arith, e, inside, length-take at out, length-append part (post_of at (at + len - at) out), length-drop (at + len - at) (drop at out), length-drop at out)

-- Items kept behind one place are kept behind every later one.
pub rest-later : {A : Type 0} (m n : ℕ) (out mid old : List A) → m ≤ n → drop m out ≡ drop m mid → drop n mid ≡ drop n old → drop n out ≡ drop n old
rest-later m n out mid old h e f =
    let whole : m + (n - m) ≡ n = omega (arith, h) in
    ap (λ k. drop k out) (sym whole) ∙ sym (drop-drop (n - m) m out) ∙ ap (drop (n - m)) e ∙ drop-drop (n - m) m mid ∙ ap (λ k. drop k mid) whole ∙ f

-- the pieces of one item more
pub pieces-more : {X B : Type 0} (piece_of : X → List B) (xs : List X) (i : ℕ) (d : X) (front piece whole : List B) → i < length xs →
    front ≡ flat_map piece_of (take i xs) → piece ≡ piece_of (get_or xs i d) → whole ≡ front ++ piece → whole ≡ flat_map piece_of (take (i + 1) xs)
pieces-more piece_of xs i d front piece whole inside e f is =
    let last : flat_map piece_of (get_or xs i d ∷ []) ≡ piece = append-nil (piece_of (get_or xs i d)) ∙ sym f in
    is ∙ ap (λ ys. ys ++ piece) e ∙ ap (λ ys. flat_map piece_of (take i xs) ++ ys) (sym last)
    ∙ sym (flat_map-append piece_of (take i xs) (get_or xs i d ∷ [])) ∙ ap (flat_map piece_of) (sym (take_more xs i d inside))

-- how many there are with one item more
pub counts-more : {X : Type 0} (count : X → ℕ) (xs : List X) (i : ℕ) (d : X) (at len : ℕ) → i < length xs → at ≡ sum_by count (take i xs) → len ≡ count (get_or xs i d) →
    at + len ≡ sum_by count (take (i + 1) xs)
counts-more count xs i d at len inside e f = omega (arith, e, f, sum_by_more count xs i d inside)

-- The count up to one more item is at most the count of all items.
pub counts-room : {X : Type 0} (count : X → ℕ) (xs : List X) (i : ℕ) (d : X) (at len : ℕ) → i < length xs → at ≡ sum_by count (take i xs) → len ≡ count (get_or xs i d) →
    at + len ≤ sum_by count xs
counts-room count xs i d at len inside e f = omega (arith, e, f, sum_by_more_le count xs i d inside)

pub counts-all : {X : Type 0} (count : X → ℕ) (xs : List X) (i at : ℕ) → length xs ≤ i → at ≡ sum_by count (take i xs) → at ≡ sum_by count xs
counts-all count xs i at h e = e ∙ ap (sum_by count) (take_all i xs h)
