-- The items whose number is as great as how many came before: from corner to corner, and from face to face.
use Rattle.std.proofs.Common.{◌≡◌, ℕ, suc, ◌+◌, ◌<◌, ◌≤◌, Bool, true, false, nat_eq, List, [], ◌∷◌, ◌++◌, length, get_or, drop, arith, refl, ap, sym, ◌∙◌, if◌then◌else◌}
use Rattle.std.specs.List.{flat_map, sum_by}
use Rattle.std.proofs.lemmas.List.{append-nil, append_assoc, length_push, drop_more, drop_all, at_drop_more}
use Rattle.std.proofs.lemmas.List.Sums.{sum_by-cons}
use Rattle.subdiv_model.specs.Polygons.{Polygon, polygon_at}
use Rattle.face_varying.specs.FirstOnes.{first_ones}

-- the numbers of all lists, one list after another
abbrev pub joined_lists : List Polygon → List ℕ
joined_lists lists = flat_map (λ numbers. numbers) lists

-- the number of items after a corner
pub counted : {X : Type 0} (done next : List X) (new : Bool) (x : X) → next ≡ (if new then done ++ x ∷ [] else done) → length next ≡ (if new then length done + 1 else length done)
counted done next true x step = ap length step ∙ length_push done x
counted done next false x step = ap length step

-- one more corner: the items so far and the rest together are unchanged
pub corner-round : {X : Type 0} (done next : List X) (count count' n c : ℕ) (x d : X) (numbers : List ℕ) (xs : List X)
    → c < length numbers → c < length xs → n ≡ get_or numbers c 0 → x ≡ get_or xs c d
    → next ≡ (if nat_eq n count then done ++ x ∷ [] else done) → count' ≡ (if nat_eq n count then count + 1 else count)
    → next ++ first_ones count' (drop (c + 1) numbers) (drop (c + 1) xs) ≡ done ++ first_ones count (drop c numbers) (drop c xs)
corner-round {X} done next count count' n c x d numbers xs in_numbers in_xs number item step more =
    here (nat_eq n count) refl
    ∙ ap (λ (ns : List ℕ). done ++ first_ones count ns (x ∷ drop (c + 1) xs)) (ap (λ m. m ∷ drop (c + 1) numbers) number ∙ sym (drop_more numbers c 0 in_numbers))
    ∙ ap (λ (ys : List X). done ++ first_ones count (drop c numbers) ys) (ap (λ (y : X). y ∷ drop (c + 1) xs) item ∙ sym (drop_more xs c d in_xs))
  where
    here : (b : Bool) → nat_eq n count ≡ b → next ++ first_ones count' (drop (c + 1) numbers) (drop (c + 1) xs) ≡ done ++ first_ones count (n ∷ drop (c + 1) numbers) (x ∷ drop (c + 1) xs)
    here true e =
        let is = step ∙ ap (λ b. if b then done ++ x ∷ [] else done) e in
        let counted = more ∙ ap (λ b. if b then count + 1 else count) e in
        rw (is, counted, e) (append_assoc done (x ∷ []) (first_ones (count + 1) (drop (c + 1) numbers) (drop (c + 1) xs)))
    here false e =
        let is = step ∙ ap (λ b. if b then done ++ x ∷ [] else done) e in
        let counted = more ∙ ap (λ b. if b then count + 1 else count) e in
        rw (is, counted, e) refl

-- after the last corner nothing is left
pub corners-end : {X : Type 0} (done all : List X) (count c : ℕ) (numbers : List ℕ) (xs : List X) → length xs ≤ c → done ++ first_ones count numbers (drop c xs) ≡ all → done ≡ all
corners-end {X} done all count c numbers xs end h = sym (append-nil done) ∙ ap (λ (ys : List X). done ++ first_ones count numbers ys) (sym (drop_all c xs end)) ∙ h

-- the first ones of two pieces
first-ones-append : {X : Type 0} (count : ℕ) (ns ms : List ℕ) (xs ys : List X) → length ns ≡ length xs → first_ones count (ns ++ ms) (xs ++ ys) ≡ first_ones count ns xs ++ first_ones (count + length (first_ones count ns xs)) ms ys
first-ones-append count [] ms [] ys h = ap (λ n. first_ones n ms ys) none
  where
    none : count ≡ count + 0
    none = omega arith
first-ones-append count [] ms (x ∷ xs) ys h = absurd (omega arith)
first-ones-append count (n ∷ ns) ms [] ys h = absurd (omega arith)
first-ones-append {X} count (n ∷ ns) ms (x ∷ xs) ys h = here (nat_eq n count) refl (first-ones-append (count + 1) ns ms xs ys (omega arith)) (first-ones-append count ns ms xs ys (omega arith))
  where
    one_more : count + 1 + length (first_ones (count + 1) ns xs) ≡ count + suc (length (first_ones (count + 1) ns xs))
    one_more = omega arith

    here : (b : Bool) → nat_eq n count ≡ b → first_ones (count + 1) (ns ++ ms) (xs ++ ys) ≡ first_ones (count + 1) ns xs ++ first_ones (count + 1 + length (first_ones (count + 1) ns xs)) ms ys → first_ones count (ns ++ ms) (xs ++ ys) ≡ first_ones count ns xs ++ first_ones (count + length (first_ones count ns xs)) ms ys → first_ones count ((n ∷ ns) ++ ms) ((x ∷ xs) ++ ys) ≡ first_ones count (n ∷ ns) (x ∷ xs) ++ first_ones (count + length (first_ones count (n ∷ ns) (x ∷ xs))) ms ys
    here true e first further = rw e (ap (λ (zs : List X). x ∷ zs) (first ∙ ap (λ k. first_ones (count + 1) ns xs ++ first_ones k ms ys) one_more))
    here false e first further = rw e further

-- the number of items depends only on the numbers
pub first-ones-length : {X Y : Type 0} (count : ℕ) (ns : List ℕ) (xs : List X) (ys : List Y) → length xs ≡ length ys → length (first_ones count ns xs) ≡ length (first_ones count ns ys)
first-ones-length count ns [] [] h = refl
first-ones-length count ns [] (y ∷ ys) h = absurd (omega arith)
first-ones-length count ns (x ∷ xs) [] h = absurd (omega arith)
first-ones-length count [] (x ∷ xs) (y ∷ ys) h = refl
first-ones-length count (n ∷ ns) (x ∷ xs) (y ∷ ys) h = here (nat_eq n count) refl (first-ones-length (count + 1) ns xs ys (omega arith)) (first-ones-length count ns xs ys (omega arith))
  where
    here : (b : Bool) → nat_eq n count ≡ b → length (first_ones (count + 1) ns xs) ≡ length (first_ones (count + 1) ns ys) → length (first_ones count ns xs) ≡ length (first_ones count ns ys) → length (first_ones count (n ∷ ns) (x ∷ xs)) ≡ length (first_ones count (n ∷ ns) (y ∷ ys))
    here true e first further = rw e (ap suc first)
    here false e first further = rw e further

-- one more face: the items so far and the rest together are unchanged
pub face-round : {X : Type 0} (done next : List X) (count count' : ℕ) (own others rest : List ℕ) (xs ys zs : List X)
    → rest ≡ own ++ others → length own ≡ length xs → zs ≡ xs ++ ys → next ≡ done ++ first_ones count own xs → count' ≡ count + length (first_ones count own xs)
    → next ++ first_ones count' others ys ≡ done ++ first_ones count rest zs
face-round {X} done next count count' own others rest xs ys zs split same whole step counted =
    ap (λ (ws : List X). ws ++ first_ones count' others ys) step
    ∙ append_assoc done (first_ones count own xs) (first_ones count' others ys)
    ∙ ap (λ (ws : List X). done ++ ws) (ap (λ k. first_ones count own xs ++ first_ones k others ys) counted ∙ sym (first-ones-append count own others xs ys same))
    ∙ ap (λ (ns : List ℕ). done ++ first_ones count ns (xs ++ ys)) (sym split)
    ∙ ap (λ (ws : List X). done ++ first_ones count rest ws) (sym whole)

-- the lists from a place on are the first and the others
pub joined-drop : (lists : List Polygon) (f : ℕ) → f < length lists → joined_lists (drop f lists) ≡ polygon_at lists f ++ joined_lists (drop (f + 1) lists)
joined-drop lists f inside = at_drop_more joined_lists lists f [] inside

-- after the last list nothing is left
pub joined-end : (lists : List Polygon) (f : ℕ) → length lists ≤ f → joined_lists (drop f lists) ≡ []
joined-end lists f end = ap joined_lists (drop_all f lists end)

-- the length of the lists together
pub lengths-drop : (lists : List Polygon) (f : ℕ) → f < length lists → sum_by length (drop f lists) ≡ length (polygon_at lists f) + sum_by length (drop (f + 1) lists)
lengths-drop lists f inside = at_drop_more (sum_by length) lists f [] inside ∙ sum_by-cons length (polygon_at lists f) (drop (f + 1) lists)
