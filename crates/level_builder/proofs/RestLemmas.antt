-- A loop over the rest of a list: its first item, and the others.
use Rattle.std.proofs.Common.{◌≡◌, ℕ, suc, ◌+◌, ◌-◌, ◌<◌, ◌≤◌, Bool, true, false, List, [], ◌∷◌, ◌++◌, length, map, get_or, take, drop, append-nil, append_assoc, arith, refl, ap, sym, subst, ◌∙◌, if◌then◌else◌}
use Rattle.std.specs.List.{filter}
use Rattle.std.proofs.lemmas.List.{take_all, length-take, length-drop}
use Rattle.level_builder.specs.Keys.{IsWord, AreWords}

-- all but the first
abbrev pub others : {X : Type 0} → List X → List X
others xs = take (length xs - 1) (drop 1 xs)

pub first-others : {X : Type 0} (xs : List X) (d : X) → 1 ≤ length xs → xs ≡ get_or xs 0 d ∷ others xs
first-others [] d h = absurd (omega arith)
first-others (x ∷ xs) d h = ap (λ ys. x ∷ ys) (sym (take_all (suc (length xs) - 1) xs (omega arith)))

none-left : {X : Type 0} (xs : List X) → length xs < 1 → xs ≡ []
none-left [] h = refl
none-left (x ∷ xs) h = absurd (omega arith)

-- a function of the rest is the function of its first item and the others
pub at-first : {X R : Type 0} (F : List X → R) (xs : List X) (d : X) → 1 ≤ length xs → F xs ≡ F (get_or xs 0 d ∷ others xs)
at-first F xs d h = ap F (first-others xs d h)

-- a function of a list, at its first item by name
pub at-item : {X R : Type 0} (F : List X → R) (xs : List X) (x : X) → 1 ≤ length xs → x ≡ get_or xs 0 x → F xs ≡ F (x ∷ others xs)
at-item F xs x h is = at-first F xs x h ∙ ap (λ y. F (y ∷ others xs)) (sym is)

-- a function of a list without items
pub at-none : {X R : Type 0} (F : List X → R) (xs : List X) → length xs < 1 → F xs ≡ F []
at-none F xs h = ap F (none-left xs h)

-- the value of the first item is added, and those of the others follow
pub map-put : {X Y : Type 0} (f : X → Y) (xs : List X) (d : X) (y : Y) (old new all : List Y) → 1 ≤ length xs → y ≡ f (get_or xs 0 d) → new ≡ old ++ y ∷ [] → old ++ map f xs ≡ all → new ++ map f (others xs) ≡ all
map-put f xs d y old new all some made is whole =
    ap (λ ys. ys ++ map f (others xs)) is ∙ append_assoc old (y ∷ []) (map f (others xs)) ∙ ap (λ z. old ++ z ∷ map f (others xs)) made ∙ sym (at-first (λ ys. old ++ map f ys) xs d some) ∙ whole

-- the first item is put where it passes, and those of the others that pass follow
pub kept-put : {X : Type 0} (keep : X → Bool) (xs : List X) (d : X) (put : Bool) (old new all : List X) → 1 ≤ length xs → put ≡ keep (get_or xs 0 d) → new ≡ (if put then old ++ get_or xs 0 d ∷ [] else old)
    → old ++ filter keep xs ≡ all → new ++ filter keep (others xs) ≡ all
kept-put {X = X} keep xs d put old new all some passes is whole = go put passes is ∙ sym (at-first (λ ys. old ++ filter keep ys) xs d some) ∙ whole
  where
    x : X
    x = get_or xs 0 d

    kept : List X
    kept = filter keep (others xs)

    go : (b : Bool) → b ≡ keep x → new ≡ (if b then old ++ x ∷ [] else old) → new ++ kept ≡ old ++ filter keep (x ∷ others xs)
    go true e made = ap (λ ys. ys ++ kept) made ∙ append_assoc old (x ∷ []) kept ∙ ap (λ b. old ++ (if b then x ∷ kept else kept)) e
    go false e made = ap (λ ys. ys ++ kept) made ∙ ap (λ b. old ++ (if b then x ∷ kept else kept)) e

-- at the end all is put
pub all-put : {X Y : Type 0} (F : List X → List Y) (xs : List X) (old all : List Y) → length xs < 1 → F [] ≡ [] → old ++ F xs ≡ all → old ≡ all
all-put F xs old all none nothing whole = sym (append-nil old) ∙ ap (λ ys. old ++ ys) (sym (at-none F xs none ∙ nothing)) ∙ whole

-- if the first side and the others fit 32 bits, all do
pub words-put : (sides : List (ℕ × ℕ)) (d : ℕ × ℕ) → 1 ≤ length sides → IsWord (get_or sides 0 d) → AreWords (others sides) → AreWords sides
words-put sides d some word words = subst AreWords (sym (first-others sides d some)) (word, words)

-- at the end there is none
pub words-end : (sides : List (ℕ × ℕ)) → length sides < 1 → AreWords sides
words-end [] h = tt
words-end (s ∷ sides) h = absurd (omega arith)

-- one item less is left
pub others-length : {X : Type 0} (xs : List X) → 1 ≤ length xs → length (others xs) + 1 ≡ length xs
others-length xs h = omega (arith, length-take (length xs - 1) (drop 1 xs), length-drop 1 xs, h)
