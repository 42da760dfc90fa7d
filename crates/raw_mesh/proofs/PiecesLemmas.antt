-- The pieces of a list.
use Rattle.std.proofs.Common.{◌≡◌, ℕ, zero, suc, ◌+◌, ◌-◌, ◌<◌, ◌≤◌, List, [], ◌∷◌, ◌++◌, length, map, get_or, arith, refl, ap, sym, ◌∙◌, slice_range, slice_get, Some, length-append, add-one}
use Rattle.std.specs.List.{sum_by, flat_map}
use Rattle.std.proofs.lemmas.Grind.{common_steps}
use Rattle.std.proofs.lemmas.List.{append_assoc}
use Rattle.std.proofs.lemmas.List.Concat.{length-flat_map}
use Rattle.std.proofs.lemmas.List.Folds.{fold-map}
use Rattle.std.proofs.lemmas.List.Sums.{sum_by-cons}
use Rattle.raw_mesh.specs.Mesh.{pieces, Ascend}

pub length-pieces : (starts xs : List ℕ) → length (pieces starts xs) ≡ length starts - 1
length-pieces [] xs = refl
length-pieces (a ∷ []) xs = refl
length-pieces (a ∷ (b ∷ places)) xs = omega (arith, length-pieces (b ∷ places) xs)

pub piece_at : (starts xs : List ℕ) (f : ℕ) → suc f < length starts
    → slice_get (pieces starts xs) f ≡ Some (slice_range xs (get_or starts f 0) (get_or starts (suc f) 0))
piece_at [] xs f h = absurd (omega arith)
piece_at (a ∷ []) xs f h = absurd (omega arith)
piece_at (a ∷ (b ∷ places)) xs zero h = refl
piece_at (a ∷ (b ∷ places)) xs (suc f) h = piece_at (b ∷ places) xs f (omega arith)

pub head_below : (y : ℕ) (places : List ℕ) (end : ℕ) → Ascend (y ∷ places) end → y ≤ end
head_below y [] end a = omega (arith, a)
head_below y (z ∷ places) end a = omega (arith, a.0, head_below z places end a.1)

pub ascend_at : (starts : List ℕ) (end f : ℕ) → Ascend starts end → suc f < length starts
    → (get_or starts f 0 ≤ get_or starts (suc f) 0) × (get_or starts (suc f) 0 ≤ end)
ascend_at [] end f a h = absurd (omega arith)
ascend_at (x ∷ []) end f a h = absurd (omega arith)
ascend_at (x ∷ (y ∷ places)) end zero a h = (a.0, head_below y places end a.1)
ascend_at (x ∷ (y ∷ places)) end (suc f) a h = ascend_at (y ∷ places) end f a.1 (omega arith)

pub Ascend-push : (starts : List ℕ) (end more : ℕ) → Ascend starts end → Ascend (starts ++ (end + more) ∷ []) (end + more)
Ascend-push [] end more a = absurd a
Ascend-push (x ∷ []) end more a = (omega (arith, a), refl)
Ascend-push (x ∷ (y ∷ places)) end more a = (a.0, Ascend-push (y ∷ places) end more a.1)

-- a range of a prefix stays when more comes after it
range-append : (xs ys : List ℕ) (a b : ℕ) → b ≤ length xs → slice_range (xs ++ ys) a b ≡ slice_range xs a b
range-append xs ys a b h = grind (arith, common_steps)

range-rest : (xs ys : List ℕ) → slice_range (xs ++ ys) (length xs) (length xs + length ys) ≡ ys
range-rest xs ys = grind (arith, common_steps)

pub pieces-push : (starts xs ys : List ℕ) → Ascend starts (length xs)
    → pieces (starts ++ (length xs + length ys) ∷ []) (xs ++ ys) ≡ pieces starts xs ++ ys ∷ []
pieces-push [] xs ys a = absurd a
pieces-push (x ∷ []) xs ys a = ap (λ p. p ∷ []) (rw a (range-rest xs ys))
pieces-push (x ∷ (y ∷ places)) xs ys a =
    cons_both (range-append xs ys x y (head_below y places (length xs) a.1)) (pieces-push (y ∷ places) xs ys a.1)
  where
    cons_both : {p q : List ℕ} {ps qs : List (List ℕ)} → p ≡ q → ps ≡ qs → (p ∷ ps) ≡ (q ∷ qs)
    cons_both e f = cc

pub length-range : (xs : List ℕ) (a b : ℕ) → a ≤ b → b ≤ length xs → length (slice_range xs a b) + a ≡ b
length-range xs a b h k = grind (arith, common_steps)

pub sum_by-pieces : (s : ℕ) (starts xs : List ℕ) → Ascend (s ∷ starts) (length xs) → sum_by length (pieces (s ∷ starts) xs) + s ≡ length xs
sum_by-pieces s [] xs a = omega (arith, a)
sum_by-pieces s (t ∷ starts) xs a =
    omega (arith, sum_by-cons length (slice_range xs s t) (pieces (t ∷ starts) xs), sum_by-pieces t starts xs a.1, length-range xs s t a.0 (head_below t starts (length xs) a.1))

cons-parts : {X : Type 0} (x y : X) (xs ys : List X) → x ∷ xs ≡ y ∷ ys → (x ≡ y) × (xs ≡ ys)
cons-parts x y xs ys e = (cc, cc)

-- equal heads before equal lists
pub join-cons : {p q : List ℕ} {ps qs : List (List ℕ)} → p ≡ q → ps ≡ qs → (p ∷ ps) ≡ (q ∷ qs)
join-cons e f = cc

range-middle : (prefix ys zs : List ℕ) (s t : ℕ) → s ≡ length prefix → t ≡ length prefix + length ys
    → slice_range ((prefix ++ ys) ++ zs) s t ≡ ys
range-middle prefix ys zs s t e h =
    let within : t ≤ length (prefix ++ ys) = omega (arith, h, length-append prefix ys) in
    range-append (prefix ++ ys) zs s t within ∙ ap (λ a. slice_range (prefix ++ ys) a t) e ∙ ap (slice_range (prefix ++ ys) (length prefix)) h ∙ range-rest prefix ys

-- Lists whose parts have the lengths of these pieces have the same places.
pieces-alike : (f g : ℕ → List ℕ) → ((i : ℕ) → length (g i) ≡ length (f i)) → (starts xs prefix is : List ℕ) → Ascend starts (length xs)
    → pieces starts xs ≡ map f is → get_or starts 0 0 ≡ length prefix → pieces starts (prefix ++ flat_map g is) ≡ map g is
pieces-alike f g same [] xs prefix is a e h = absurd a
pieces-alike f g same (s ∷ []) xs prefix [] a e h = refl
pieces-alike f g same (s ∷ []) xs prefix (i ∷ is) a e h = cc
pieces-alike f g same (s ∷ (t ∷ starts)) xs prefix [] a e h = cc
pieces-alike f g same (s ∷ (t ∷ starts)) xs prefix (i ∷ is) a e h =
    let parts : (slice_range xs s t ≡ f i) × (pieces (t ∷ starts) xs ≡ map f is) = cons-parts _ _ _ _ e in
    let size = length-range xs s t a.0 (head_below t starts (length xs) a.1) in
    let long : length (slice_range xs s t) ≡ length (f i) = ap length parts.0 in
    let alike : length (g i) ≡ length (f i) = same i in
    let place : s ≡ length prefix = h in
    let next : t ≡ length prefix + length (g i) = omega (arith, size, long, alike, place) in
    let seam : prefix ++ (g i ++ flat_map g is) ≡ (prefix ++ g i) ++ flat_map g is = sym (append_assoc prefix (g i) (flat_map g is)) in
    ap (pieces (s ∷ (t ∷ starts))) seam
    ∙ join-cons (range-middle prefix (g i) (flat_map g is) s t place next)
    (pieces-alike f g same (t ∷ starts) xs (prefix ++ g i) is a.1 parts.1 (next ∙ sym (length-append prefix (g i))))

-- the places of lists that lie one after the other
pub pieces-same : (f g : ℕ → List ℕ) → ((i : ℕ) → length (g i) ≡ length (f i)) → (starts xs is : List ℕ) → Ascend starts (length xs)
    → pieces starts xs ≡ map f is → xs ≡ flat_map f is → pieces starts (flat_map g is) ≡ map g is
pieces-same f g same [] xs is a e all = absurd a
pieces-same f g same (s ∷ starts) xs is a e all =
    let sum : sum_by length (pieces (s ∷ starts) xs) ≡ sum_by length (map f is) = ap (sum_by length) e in
    let each : sum_by length (map f is) ≡ sum_by (λ i. length (f i)) is = fold-map (λ n x. n + length x) f 0 is in
    let long : length xs ≡ sum_by (λ i. length (f i)) is = ap length all ∙ length-flat_map f is in
    pieces-alike f g same (s ∷ starts) xs [] is a e (omega (arith, sum, each, long, sum_by-pieces s starts xs a))

-- the ends of a piece, where the place after f is written f + 1
pub ascend_next : (starts : List ℕ) (end f : ℕ) → Ascend starts end → f + 1 < length starts
    → (get_or starts f 0 ≤ get_or starts (f + 1) 0) × (get_or starts (f + 1) 0 ≤ end)
ascend_next starts end f a h = rw add-one (ascend_at starts end f a (omega arith))

pub piece_next : (starts xs : List ℕ) (f : ℕ) → f + 1 < length starts
    → slice_get (pieces starts xs) f ≡ Some (slice_range xs (get_or starts f 0) (get_or starts (f + 1) 0))
piece_next starts xs f h = rw add-one (piece_at starts xs f (omega arith))
