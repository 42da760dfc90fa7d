-- The pieces of a list.
use Rattle.std.proofs.Common.{◌≡◌, ℕ, zero, suc, ◌+◌, ◌-◌, ◌<◌, ◌≤◌, List, [], ◌∷◌, ◌++◌, length, map, get_or, arith, refl, ap, slice_range, length-append, add-one}
use Rattle.std.specs.List.{sum_by}
use Rattle.std.proofs.lemmas.Grind.{common_steps}
use Rattle.std.proofs.lemmas.List.Sums.{sum_by-cons}
use Rattle.level_topology.specs.Packed.{paired, pieces, gaps, Ascend, IsPacked}

pub length-pieces : {X : Type 0} (starts : List ℕ) (xs : List X) → length (pieces starts xs) ≡ length starts - 1
length-pieces [] xs = refl
length-pieces (a ∷ []) xs = refl
length-pieces (a ∷ (b ∷ places)) xs = omega (arith, length-pieces (b ∷ places) xs)

piece_at : {X : Type 0} (starts : List ℕ) (xs : List X) (i : ℕ) → suc i < length starts → get_or (pieces starts xs) i [] ≡ slice_range xs (get_or starts i 0) (get_or starts (suc i) 0)
piece_at [] xs i h = absurd (omega arith)
piece_at (a ∷ []) xs i h = absurd (omega arith)
piece_at (a ∷ (b ∷ places)) xs zero h = refl
piece_at (a ∷ (b ∷ places)) xs (suc i) h = piece_at (b ∷ places) xs i (omega arith)

head_below : (y : ℕ) (places : List ℕ) (end : ℕ) → Ascend (y ∷ places) end → y ≤ end
head_below y [] end a = omega (arith, a)
head_below y (z ∷ places) end a = omega (arith, a.0, head_below z places end a.1)

pub ascend_at : (starts : List ℕ) (end i : ℕ) → Ascend starts end → suc i < length starts → (get_or starts i 0 ≤ get_or starts (suc i) 0) × (get_or starts (suc i) 0 ≤ end)
ascend_at [] end i a h = absurd (omega arith)
ascend_at (x ∷ []) end i a h = absurd (omega arith)
ascend_at (x ∷ (y ∷ places)) end zero a h = (a.0, head_below y places end a.1)
ascend_at (x ∷ (y ∷ places)) end (suc i) a h = ascend_at (y ∷ places) end i a.1 (omega arith)

-- there is a first place
pub ascend-some : (starts : List ℕ) (end : ℕ) → Ascend starts end → 1 ≤ length starts
ascend-some [] end a = absurd a
ascend-some (x ∷ starts) end a = omega arith

pub Ascend-push : (starts : List ℕ) (end more : ℕ) → Ascend starts end → Ascend (starts ++ (end + more) ∷ []) (end + more)
Ascend-push [] end more a = absurd a
Ascend-push (x ∷ []) end more a = (omega (arith, a), refl)
Ascend-push (x ∷ (y ∷ places)) end more a = (a.0, Ascend-push (y ∷ places) end more a.1)

-- a part of a list stays when more comes after it
range-append : {X : Type 0} (xs ys : List X) (a b : ℕ) → b ≤ length xs → slice_range (xs ++ ys) a b ≡ slice_range xs a b
range-append xs ys a b h = grind (arith, common_steps)

range-rest : {X : Type 0} (xs ys : List X) → slice_range (xs ++ ys) (length xs) (length xs + length ys) ≡ ys
range-rest xs ys = grind (arith, common_steps)

pub pieces-push : {X : Type 0} (starts : List ℕ) (xs ys : List X) → Ascend starts (length xs) → pieces (starts ++ (length xs + length ys) ∷ []) (xs ++ ys) ≡ pieces starts xs ++ ys ∷ []
pieces-push [] xs ys a = absurd a
pieces-push (x ∷ []) xs ys a = ap (λ p. p ∷ []) (rw a (range-rest xs ys))
pieces-push (x ∷ (y ∷ places)) xs ys a =
    cons_both (range-append xs ys x y (head_below y places (length xs) a.1)) (pieces-push (y ∷ places) xs ys a.1)
  where
    cons_both : {Y : Type 0} {p q : Y} {ps qs : List Y} → p ≡ q → ps ≡ qs → (p ∷ ps) ≡ (q ∷ qs)
    cons_both e f = cc

length-range : {X : Type 0} (xs : List X) (a b : ℕ) → a ≤ b → b ≤ length xs → length (slice_range xs a b) + a ≡ b
length-range xs a b h k = grind (arith, common_steps)

-- the gaps between the starts of pieces are as long as the pieces
pub gaps-pieces : {X : Type 0} (starts : List ℕ) (xs : List X) → Ascend starts (length xs) → gaps starts ≡ map length (pieces starts xs)
gaps-pieces [] xs a = refl
gaps-pieces (s ∷ []) xs a = refl
gaps-pieces (s ∷ (t ∷ starts)) xs a =
    let first : t - s ≡ length (slice_range xs s t) = omega (arith, a.0, length-range xs s t a.0 (head_below t starts (length xs) a.1)) in
    let rest = gaps-pieces (t ∷ starts) xs a.1 in
    cc

sum_by-pieces : {X : Type 0} (s : ℕ) (starts : List ℕ) (xs : List X) → Ascend (s ∷ starts) (length xs) → sum_by length (pieces (s ∷ starts) xs) + s ≡ length xs
sum_by-pieces s [] xs a = omega (arith, a)
sum_by-pieces s (t ∷ starts) xs a =
    omega (arith, sum_by-cons length (slice_range xs s t) (pieces (t ∷ starts) xs), sum_by-pieces t starts xs a.1, length-range xs s t a.0 (head_below t starts (length xs) a.1))

-- all pieces together are as long as the list
pub pieces-whole : {X : Type 0} (starts : List ℕ) (xs : List X) → Ascend starts (length xs) → get_or starts 0 0 ≡ 0 → sum_by length (pieces starts xs) ≡ length xs
pieces-whole [] xs a z = absurd a
pieces-whole (s ∷ starts) xs a z = omega (arith, sum_by-pieces s starts xs a, z)

-- The step from one place to the next, as code counts up.
pub ascend_next : (starts : List ℕ) (end i : ℕ) → Ascend starts end → i + 1 < length starts → (get_or starts i 0 ≤ get_or starts (i + 1) 0) × (get_or starts (i + 1) 0 ≤ end)
ascend_next starts end i a h = rw add-one (ascend_at starts end i a (omega arith))

pub piece_next : {X : Type 0} (starts : List ℕ) (xs : List X) (i : ℕ) → i + 1 < length starts → get_or (pieces starts xs) i [] ≡ slice_range xs (get_or starts i 0) (get_or starts (i + 1) 0)
piece_next starts xs i h = rw add-one (piece_at starts xs i (omega arith))

-- One more list, and the items beside it.
pub IsPacked-push : {X : Type 0} (starts items list : List ℕ) (beside more : List X) {list_limit item_limit a b c a' b' c' : ℕ} → IsPacked starts items beside list_limit item_limit a b c → length more ≡ length list → length (pieces starts items) < list_limit → sum_by length (pieces starts items) + length list ≤ item_limit → a ≤ a' → b ≤ b' → c ≤ c' → IsPacked (starts ++ (length items + length list) ∷ []) (items ++ list) (beside ++ more) list_limit item_limit a' b' c'
IsPacked-push [] items list beside more is equal few short ha hb hc = absurd is.ascend
IsPacked-push (s ∷ starts) items list beside more is equal few short ha hb hc = record {
  ascend = rw length-append (Ascend-push (s ∷ starts) (length items) (length list) is.ascend);
  begins = is.begins;
  equal = omega (arith, equal, is.equal, length-append beside more, length-append items list);
  lists_within = omega (arith, few, length-pieces (s ∷ starts) items, length-append starts ((length items + length list) ∷ []));
  items_within = omega (arith, short, pieces-whole (s ∷ starts) items is.ascend is.begins, length-append items list);
  list_fit = omega (arith, is.list_fit);
  item_fit = omega (arith, is.item_fit);
  beside_fit = omega (arith, is.beside_fit);
  few = is.few;
  short = is.short;
}

pub beside-push : {X : Type 0} (starts items list : List ℕ) (beside more : List X) → Ascend starts (length items) → length beside ≡ length items → length more ≡ length list → pieces (starts ++ (length items + length list) ∷ []) (beside ++ more) ≡ pieces starts beside ++ more ∷ []
beside-push starts items list beside more a e f =
    let whole : length items + length list ≡ length beside + length more = omega arith in
    let under : Ascend starts (length beside) = rw e a in
    rw whole (pieces-push starts beside more under)

pub paired-same : {X : Type 0} {a b : List (List ℕ)} {p q : List (List X)} {m n : ℕ} → a ≡ b → p ≡ q → paired a p m n ≡ paired b q m n
paired-same e f = cc
