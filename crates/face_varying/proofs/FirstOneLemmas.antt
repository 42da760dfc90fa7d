-- Items numbered by first appearance: the numbers, their meaning as places, and the new items.
use Rattle.std.proofs.Common.{◌≡◌, ℕ, ◌+◌, ◌≤◌, Bool, true, false, not, ◌||◌, nat_eq, cond, List, [], ◌∷◌, ◌++◌, length, map, arith, refl, ap, sym, ◌∙◌, if◌then◌else◌}
use Rattle.std.specs.List.{filter, list_any, position_or_len}
use Rattle.std.proofs.lemmas.Bool.Decides.{nat_tests}
use Rattle.std.proofs.lemmas.Bool.{or_left, or_right, or_parts, eq-eqb, not-true, not-false, not_from_true, not_from_false}
use Rattle.std.proofs.lemmas.List.{append-nil, append_assoc, map-append, length_push}
use Rattle.std.proofs.lemmas.List.Sums.{length-filter, count_by-le-length}
use Rattle.std.proofs.lemmas.List.Folds.{list_any-append, position_or_len_push}
use Rattle.subdiv_model.specs.Lists.{each_once_by}
use Rattle.texture_laws.proofs.OnceLemmas.{first-within}
use Rattle.face_varying.specs.FirstOnes.{seen_with, seen_after, numbers_after, first_ones}

-- if no item passes, the first place is the length
pub none-place : {X : Type 0} (p : X → Bool) (xs : List X) → list_any p xs ≡ false → position_or_len p xs ≡ length xs
none-place p [] h = refl
none-place p (x ∷ xs) h =
    let parts = or_parts (p x) (list_any p xs) h in
    let behind = none-place p xs parts.1 in
    let here = parts.0 in
    rw here (omega arith)

-- the first place stays where more comes after it
pub place-kept : {X : Type 0} (p : X → Bool) (xs ys : List X) → list_any p xs ≡ true → position_or_len p (xs ++ ys) ≡ position_or_len p xs
place-kept p [] ys h = absurd (cc)
place-kept p (x ∷ xs) ys h = here (p x) refl (λ k. place-kept p xs ys k)
  where
    here : (b : Bool) → p x ≡ b → (list_any p xs ≡ true → position_or_len p (xs ++ ys) ≡ position_or_len p xs) → position_or_len p (x ∷ (xs ++ ys)) ≡ position_or_len p (x ∷ xs)
    here true e behind = rw e refl
    here false e behind =
        let further : list_any p xs ≡ true = ap (λ b. b || list_any p xs) (sym e) ∙ h in
        rw e (ap (λ n. 1 + n) (behind further))

pub or-none : (b : Bool) → (b || (false || false)) ≡ b
or-none true = refl
or-none false = refl

module _ {X : Type 0} (same : X → X → Bool) where
  pub seen-push : (seen xs : List X) (x : X) → seen_after same seen (xs ++ x ∷ []) ≡ seen_with same (seen_after same seen xs) x
  seen-push seen [] x = refl
  seen-push seen (y ∷ xs) x = seen-push (seen_with same seen y) xs x

  pub numbers-push : (seen xs : List X) (x : X) → numbers_after same seen (xs ++ x ∷ []) ≡ numbers_after same seen xs ++ position_or_len (same x) (seen_after same seen xs) ∷ []
  numbers-push seen [] x = refl
  numbers-push seen (y ∷ xs) x = ap (λ (ns : List ℕ). position_or_len (same y) seen ∷ ns) (numbers-push (seen_with same seen y) xs x)

  pub with-known : (seen : List X) (x : X) → list_any (same x) seen ≡ true → seen_with same seen x ≡ seen
  with-known seen x h = rw h refl

  pub with-new : (seen : List X) (x : X) → list_any (same x) seen ≡ false → seen_with same seen x ≡ seen ++ x ∷ []
  with-new seen x h = rw h refl

  -- an item is new exactly where its number is as great as how many were seen
  pub new-number : (seen : List X) (x : X) → nat_eq (position_or_len (same x) seen) (length seen) ≡ not (list_any (same x) seen)
  new-number seen x = here (list_any (same x) seen) refl
    where
      here : (b : Bool) → list_any (same x) seen ≡ b → nat_eq (position_or_len (same x) seen) (length seen) ≡ not (list_any (same x) seen)
      here true e = let within = first-within (same x) seen e in rw e (grind (arith, nat_tests))
      here false e = rw e (eq-eqb _ _ (none-place (same x) seen e))

  pub with-length : (seen : List X) (x : X) → length (seen_with same seen x) ≡ length seen + cond (nat_eq (position_or_len (same x) seen) (length seen)) 1 0
  with-length seen x = here (list_any (same x) seen) refl
    where
      here : (b : Bool) → list_any (same x) seen ≡ b → length (seen_with same seen x) ≡ length seen + cond (nat_eq (position_or_len (same x) seen) (length seen)) 1 0
      here true e = rw (new-number seen x, e) (omega arith)
      here false e = rw (new-number seen x, e) (length_push seen x)

  -- the items so far stay before the new ones
  pub seen-some : (seen xs : List X) → (more : List X) × (seen_after same seen xs ≡ seen ++ more)
  seen-some seen [] = ([], sym (append-nil seen))
  seen-some seen (x ∷ xs) = here (list_any (same x) seen) refl (seen-some (seen_with same seen x) xs)
    where
      here : (b : Bool) → list_any (same x) seen ≡ b → (more : List X) × (seen_after same (seen_with same seen x) xs ≡ seen_with same seen x ++ more) → (more : List X) × (seen_after same seen (x ∷ xs) ≡ seen ++ more)
      here true e behind = (behind.0, behind.1 ∙ ap (λ (ys : List X). ys ++ behind.0) (with-known seen x e))
      here false e behind = (x ∷ behind.0, behind.1 ∙ ap (λ (ys : List X). ys ++ behind.0) (with-new seen x e) ∙ append_assoc seen (x ∷ []) behind.0)

  module _ (itself : (x : X) → same x x ≡ true) where
    pub with-listed : (seen : List X) (x : X) → list_any (same x) (seen_with same seen x) ≡ true
    with-listed seen x = here (list_any (same x) seen) refl
      where
        here : (b : Bool) → list_any (same x) seen ≡ b → list_any (same x) (seen_with same seen x) ≡ true
        here true e = ap (list_any (same x)) (with-known seen x e) ∙ e
        here false e = ap (list_any (same x)) (with-new seen x e) ∙ list_any-append (same x) seen (x ∷ []) ∙ or_right _ _ (or_left _ _ (itself x))

    pub with-place : (seen : List X) (x : X) → position_or_len (same x) (seen_with same seen x) ≡ position_or_len (same x) seen
    with-place seen x = here (list_any (same x) seen) refl
      where
        here : (b : Bool) → list_any (same x) seen ≡ b → position_or_len (same x) (seen_with same seen x) ≡ position_or_len (same x) seen
        here true e = ap (position_or_len (same x)) (with-known seen x e)
        here false e =
            let last = none-place (same x) seen e in
            let there = position_or_len_push (same x) seen x in
            ap (position_or_len (same x)) (with-new seen x e) ∙ there ∙ rw (last, itself x) (grind (arith, nat_tests))

    -- the number of each item is its place among all that are seen in the end
    pub numbers-are : (seen xs : List X) → numbers_after same seen xs ≡ map (λ x. position_or_len (same x) (seen_after same seen xs)) xs
    numbers-are seen [] = refl
    numbers-are seen (x ∷ xs) =
        let next : List X = seen_with same seen x in
        let some = seen-some next xs in
        let here : position_or_len (same x) seen ≡ position_or_len (same x) (seen_after same next xs) = sym (ap (position_or_len (same x)) some.1 ∙ place-kept (same x) next some.0 (with-listed seen x) ∙ with-place seen x) in
        ap (λ (n : ℕ). n ∷ numbers_after same next xs) here ∙ ap (λ (ns : List ℕ). position_or_len (same x) (seen_after same next xs) ∷ ns) (numbers-are next xs)

  -- the new ones of the items' values are the values of the items in the end
  pub first-ones-are : {Y : Type 0} (f : X → Y) (seen xs : List X) → map f seen ++ first_ones (length seen) (numbers_after same seen xs) (map f xs) ≡ map f (seen_after same seen xs)
  first-ones-are f seen [] = append-nil (map f seen)
  first-ones-are {Y} f seen (x ∷ xs) = here (list_any (same x) seen) refl (first-ones-are f (seen_with same seen x) xs)
    where
      here : (b : Bool) → list_any (same x) seen ≡ b → map f (seen_with same seen x) ++ first_ones (length (seen_with same seen x)) (numbers_after same (seen_with same seen x) xs) (map f xs) ≡ map f (seen_after same (seen_with same seen x) xs) → map f seen ++ first_ones (length seen) (numbers_after same seen (x ∷ xs)) (map f (x ∷ xs)) ≡ map f (seen_after same seen (x ∷ xs))
      here true e behind =
          let number = new-number seen x ∙ not_from_true _ e in
          let stays = with-known seen x e in
          rw number (ap (λ (m : List X). map f m ++ first_ones (length m) (numbers_after same (seen_with same seen x) xs) (map f xs)) (sym stays) ∙ behind)
      here false e behind =
          let number = new-number seen x ∙ not_from_false _ e in
          let grows = with-new seen x e in
          let rest : List Y = first_ones (length seen + 1) (numbers_after same (seen_with same seen x) xs) (map f xs) in
          rw number
          (sym (append_assoc (map f seen) (f x ∷ []) rest)
          ∙ ap (λ (ys : List Y). ys ++ rest) (sym (map-append f seen (x ∷ [])) ∙ ap (map f) (sym grows))
          ∙ ap (λ (n : ℕ). map f (seen_with same seen x) ++ first_ones n (numbers_after same (seen_with same seen x) xs) (map f xs)) (sym (length_push seen x) ∙ ap length (sym grows))
          ∙ behind)

  -- a filter after another keeps what passes both
  filter-both : (p q r : X → Bool) → ((x : X) → q x ≡ true → p x ≡ r x) → ((x : X) → q x ≡ false → r x ≡ false) → (xs : List X) → filter p (filter q xs) ≡ filter r xs
  filter-both p q r where_true where_false [] = refl
  filter-both p q r where_true where_false (x ∷ xs) = here (q x) refl (p x) refl (filter-both p q r where_true where_false xs)
    where
      here : (a : Bool) → q x ≡ a → (b : Bool) → p x ≡ b → filter p (filter q xs) ≡ filter r xs → filter p (filter q (x ∷ xs)) ≡ filter r (x ∷ xs)
      here true e true k behind = let is = sym (where_true x e) ∙ k in rw (e, k, is) (ap (λ (ys : List X). x ∷ ys) behind)
      here true e false k behind = let is = sym (where_true x e) ∙ k in rw (e, k, is) behind
      here false e b k behind = let is = where_false x e in rw (e, is) behind

  module _ (itself : (x : X) → same x x ≡ true) (equal : (x y : X) → same x y ≡ true → x ≡ y) where
    same-swap : (x y : X) → same x y ≡ same y x
    same-swap x y = here (same x y) refl (same y x) refl
      where
        here : (a : Bool) → same x y ≡ a → (b : Bool) → same y x ≡ b → same x y ≡ same y x
        here true e b k = e ∙ sym (ap (same y) (equal x y e) ∙ itself y)
        here false e true k = (ap (same x) (equal y x k) ∙ itself x) ∙ sym k
        here false e false k = e ∙ sym k

    -- the items in the end: those so far, then the new ones of the list by first appearance
    pub seen-are : (seen xs : List X) → seen_after same seen xs ≡ seen ++ filter (λ y. not (list_any (same y) seen)) (each_once_by same xs)
    seen-are seen [] = sym (append-nil seen)
    seen-are seen (x ∷ xs) = here (list_any (same x) seen) refl (seen-are (seen_with same seen x) xs)
      where
        rest : List X
        rest = filter (λ y. not (list_any (same y) seen)) (filter (λ y. not (same x y)) (each_once_by same xs))

        here : (b : Bool) → list_any (same x) seen ≡ b → seen_after same (seen_with same seen x) xs ≡ seen_with same seen x ++ filter (λ y. not (list_any (same y) (seen_with same seen x))) (each_once_by same xs) → seen_after same seen (x ∷ xs) ≡ seen ++ filter (λ y. not (list_any (same y) seen)) (x ∷ filter (λ y. not (same x y)) (each_once_by same xs))
        here true e behind =
            let same_rest : filter (λ y. not (list_any (same y) seen)) (filter (λ y. not (same x y)) (each_once_by same xs)) ≡ filter (λ y. not (list_any (same y) seen)) (each_once_by same xs) = filter-both (λ y. not (list_any (same y) seen)) (λ y. not (same x y)) (λ y. not (list_any (same y) seen)) (λ y h. refl) (λ y h. old y (equal x y (not-false _ h))) (each_once_by same xs) in
            behind
            ∙ ap (λ (ys : List X). ys ++ filter (λ y. not (list_any (same y) ys)) (each_once_by same xs)) (with-known seen x e)
            ∙ ap (λ (ys : List X). seen ++ ys) (sym same_rest)
            ∙ sym (ap (λ b. seen ++ (if not b then x ∷ rest else rest)) e)
          where
            old : (y : X) → x ≡ y → not (list_any (same y) seen) ≡ false
            old y is = not_from_true _ (ap (λ (z : X). list_any (same z) seen) (sym is) ∙ e)
        here false e behind =
            let same_rest : filter (λ y. not (list_any (same y) seen)) (filter (λ y. not (same x y)) (each_once_by same xs)) ≡ filter (λ y. not (list_any (same y) (seen ++ x ∷ []))) (each_once_by same xs) = filter-both (λ y. not (list_any (same y) seen)) (λ y. not (same x y)) (λ y. not (list_any (same y) (seen ++ x ∷ []))) (λ y h. other y (not-true _ h)) (λ y h. not_from_true _ (ap (λ (z : X). list_any (same z) (seen ++ x ∷ [])) (sym (equal x y (not-false _ h))) ∙ list_any-append (same x) seen (x ∷ []) ∙ or_right _ _ (or_left _ _ (itself x)))) (each_once_by same xs) in
            behind
            ∙ ap (λ (ys : List X). ys ++ filter (λ y. not (list_any (same y) ys)) (each_once_by same xs)) (with-new seen x e)
            ∙ append_assoc seen (x ∷ []) (filter (λ y. not (list_any (same y) (seen ++ x ∷ []))) (each_once_by same xs))
            ∙ ap (λ (ys : List X). seen ++ x ∷ ys) (sym same_rest)
            ∙ sym (ap (λ b. seen ++ (if not b then x ∷ rest else rest)) e)
          where
            other : (y : X) → same x y ≡ false → not (list_any (same y) seen) ≡ not (list_any (same y) (seen ++ x ∷ []))
            other y h = ap not (sym (list_any-append (same y) seen (x ∷ []) ∙ ap (λ b. list_any (same y) seen || (b || false)) (sym (same-swap x y) ∙ h) ∙ or-none (list_any (same y) seen)))

    -- from nothing, the items in the end are each item once, by first appearance
    pub seen-once : (xs : List X) → seen_after same [] xs ≡ each_once_by same xs
    seen-once xs = seen-are [] xs ∙ keeps-all (each_once_by same xs)
      where
        keeps-all : (ys : List X) → filter (λ y. not (list_any (same y) [])) ys ≡ ys
        keeps-all [] = refl
        keeps-all (y ∷ ys) = ap (λ (zs : List X). y ∷ zs) (keeps-all ys)

    -- the number of each item is its place among all by first appearance
    pub numbers-once : (xs : List X) → numbers_after same [] xs ≡ map (λ x. position_or_len (same x) (each_once_by same xs)) xs
    numbers-once xs = numbers-are itself [] xs ∙ ap (λ (ys : List X). map (λ x. position_or_len (same x) ys) xs) (seen-once xs)

    -- the new ones of the items' values are the values of each item once
    pub first-ones-once : {Y : Type 0} (f : X → Y) (xs : List X) → first_ones 0 (map (λ x. position_or_len (same x) (each_once_by same xs)) xs) (map f xs) ≡ map f (each_once_by same xs)
    first-ones-once f xs = ap (λ (ns : List ℕ). first_ones 0 ns (map f xs)) (sym (numbers-once xs)) ∙ first-ones-are f [] xs ∙ ap (map f) (seen-once xs)

  -- each once is no more than all
  pub once-length : (xs : List X) → length (each_once_by same xs) ≤ length xs
  once-length [] = omega arith
  once-length (x ∷ xs) =
      let keep : X → Bool = λ y. not (same x y) in
      omega (arith, once-length xs, length-filter keep (each_once_by same xs), count_by-le-length keep (each_once_by same xs))
