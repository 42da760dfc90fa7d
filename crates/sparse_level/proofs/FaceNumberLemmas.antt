-- Points numbered by first appearance: the numbers are places among the points, each once.
use Rattle.std.proofs.Common.{◌≡◌, ℕ, suc, ◌+◌, Bool, true, false, not, ◌||◌, nat_eq, cond, List, [], ◌∷◌, ◌++◌, length, arith, refl, ap, sym, ◌∙◌, if◌then◌else◌}
use Rattle.std.specs.List.{filter, position_or_len}
use Rattle.std.proofs.lemmas.Bool.Decides.{nat_tests}
use Rattle.std.proofs.lemmas.Bool.{or_left, or_right, eq-eqb, eqb-true, not-true, not-false, not_from_true}
use Rattle.std.proofs.lemmas.List.{append-nil, append_assoc, length_push}
use Rattle.std.proofs.lemmas.List.Folds.{list_any-append, position_or_len_push}
use Rattle.subdiv_model.specs.Lists.{each_once_by}
use Rattle.subdiv_model.specs.Polygons.{is_among}
use Rattle.mesh_laws.proofs.ChildPlaceLemmas.{first-within}
use Rattle.child_slots.proofs.SlotTableLemmas.{none-number}
use Rattle.sparse_level.specs.Places.{with_point, with_points}
use Rattle.sparse_level.specs.Numbers.{places_among, numbers_of, numbers_after}

itself : (n : ℕ) → nat_eq n n ≡ true
itself n = eq-eqb n n refl

-- a point more of the list
pub points-push : (earlier list : List ℕ) (v : ℕ) → with_points earlier (list ++ v ∷ []) ≡ with_point (with_points earlier list) v
points-push earlier [] v = refl
points-push earlier (u ∷ list) v = points-push (with_point earlier u) list v

pub numbers-push : (earlier list : List ℕ) (v : ℕ) → numbers_after earlier (list ++ v ∷ []) ≡ numbers_after earlier list ++ position_or_len (nat_eq v) (with_points earlier list) ∷ []
numbers-push earlier [] v = refl
numbers-push earlier (u ∷ list) v = ap (λ (ns : List ℕ). position_or_len (nat_eq u) earlier ∷ ns) (numbers-push (with_point earlier u) list v)

pub numbers-length : (earlier list : List ℕ) → length (numbers_after earlier list) ≡ length list
numbers-length earlier [] = refl
numbers-length earlier (v ∷ list) = ap suc (numbers-length (with_point earlier v) list)

-- a point that is there adds none, and another comes last
pub with-known : (earlier : List ℕ) (v : ℕ) → is_among earlier v ≡ true → with_point earlier v ≡ earlier
with-known earlier v h = rw h refl

pub with-new : (earlier : List ℕ) (v : ℕ) → is_among earlier v ≡ false → with_point earlier v ≡ earlier ++ v ∷ []
with-new earlier v h = rw h refl

-- a point is new exactly where its number is as great as how many there are
pub with-length : (earlier : List ℕ) (v : ℕ) → length (with_point earlier v) ≡ length earlier + cond (nat_eq (position_or_len (nat_eq v) earlier) (length earlier)) 1 0
with-length earlier v = here (is_among earlier v) refl
  where
    here : (b : Bool) → is_among earlier v ≡ b → length (with_point earlier v) ≡ length earlier + cond (nat_eq (position_or_len (nat_eq v) earlier) (length earlier)) 1 0
    here true e = let within = first-within (nat_eq v) earlier e in rw e (grind (arith, nat_tests))
    here false e =
        let last = eq-eqb _ _ (none-number earlier v e) in
        rw (e, last) (length_push earlier v)

-- the first place stays where more comes after it
place-kept : (v : ℕ) (earlier more : List ℕ) → is_among earlier v ≡ true → position_or_len (nat_eq v) (earlier ++ more) ≡ position_or_len (nat_eq v) earlier
place-kept v [] more h = absurd (cc)
place-kept v (u ∷ earlier) more h = here (nat_eq v u) refl (λ k. place-kept v earlier more k)
  where
    here : (b : Bool) → nat_eq v u ≡ b → (is_among earlier v ≡ true → position_or_len (nat_eq v) (earlier ++ more) ≡ position_or_len (nat_eq v) earlier) → position_or_len (nat_eq v) (u ∷ (earlier ++ more)) ≡ position_or_len (nat_eq v) (u ∷ earlier)
    here true e behind = rw e refl
    here false e behind =
        let further : is_among earlier v ≡ true = ap (λ b. b || is_among earlier v) (sym e) ∙ h in
        rw e (ap (λ n. 1 + n) (behind further))

with-listed : (earlier : List ℕ) (v : ℕ) → is_among (with_point earlier v) v ≡ true
with-listed earlier v = here (is_among earlier v) refl
  where
    here : (b : Bool) → is_among earlier v ≡ b → is_among (with_point earlier v) v ≡ true
    here true e = ap (λ (l : List ℕ). is_among l v) (with-known earlier v e) ∙ e
    here false e = ap (λ (l : List ℕ). is_among l v) (with-new earlier v e) ∙ list_any-append (nat_eq v) earlier (v ∷ []) ∙ or_right _ _ (or_left _ _ (itself v))

with-place : (earlier : List ℕ) (v : ℕ) → position_or_len (nat_eq v) (with_point earlier v) ≡ position_or_len (nat_eq v) earlier
with-place earlier v = here (is_among earlier v) refl
  where
    here : (b : Bool) → is_among earlier v ≡ b → position_or_len (nat_eq v) (with_point earlier v) ≡ position_or_len (nat_eq v) earlier
    here true e = ap (position_or_len (nat_eq v)) (with-known earlier v e)
    here false e =
        let last = none-number earlier v e in
        let there = position_or_len_push (nat_eq v) earlier v in
        ap (position_or_len (nat_eq v)) (with-new earlier v e) ∙ there ∙ rw (last, itself v) (grind (arith, nat_tests))

-- the points so far stay before those that come
points-some : (earlier list : List ℕ) → (more : List ℕ) × (with_points earlier list ≡ earlier ++ more)
points-some earlier [] = ([], sym (append-nil earlier))
points-some earlier (v ∷ list) = here (is_among earlier v) refl (points-some (with_point earlier v) list)
  where
    here : (b : Bool) → is_among earlier v ≡ b → (more : List ℕ) × (with_points (with_point earlier v) list ≡ with_point earlier v ++ more) → (more : List ℕ) × (with_points earlier (v ∷ list) ≡ earlier ++ more)
    here true e behind = (behind.0, behind.1 ∙ ap (λ (l : List ℕ). l ++ behind.0) (with-known earlier v e))
    here false e behind = (v ∷ behind.0, behind.1 ∙ ap (λ (l : List ℕ). l ++ behind.0) (with-new earlier v e) ∙ append_assoc earlier (v ∷ []) behind.0)

-- the number of each point is its place among all in the end
numbers-are : (earlier list : List ℕ) → numbers_after earlier list ≡ places_among (with_points earlier list) list
numbers-are earlier [] = refl
numbers-are earlier (v ∷ list) =
    let next : List ℕ = with_point earlier v in
    let some = points-some next list in
    let here : position_or_len (nat_eq v) earlier ≡ position_or_len (nat_eq v) (with_points next list) = sym (ap (position_or_len (nat_eq v)) some.1 ∙ place-kept v next some.0 (with-listed earlier v) ∙ with-place earlier v) in
    ap (λ (n : ℕ). n ∷ numbers_after next list) here ∙ ap (λ (ns : List ℕ). position_or_len (nat_eq v) (with_points next list) ∷ ns) (numbers-are next list)

-- a filter after another keeps what passes both
filter-both : (p q r : ℕ → Bool) → ((n : ℕ) → q n ≡ true → p n ≡ r n) → ((n : ℕ) → q n ≡ false → r n ≡ false) → (list : List ℕ) → filter p (filter q list) ≡ filter r list
filter-both p q r where_true where_false [] = refl
filter-both p q r where_true where_false (n ∷ list) = here (q n) refl (p n) refl (filter-both p q r where_true where_false list)
  where
    here : (a : Bool) → q n ≡ a → (b : Bool) → p n ≡ b → filter p (filter q list) ≡ filter r list → filter p (filter q (n ∷ list)) ≡ filter r (n ∷ list)
    here true e true k behind = let is = sym (where_true n e) ∙ k in rw (e, k, is) (ap (λ (l : List ℕ). n ∷ l) behind)
    here true e false k behind = let is = sym (where_true n e) ∙ k in rw (e, k, is) behind
    here false e b k behind = let is = where_false n e in rw (e, is) behind

among-push : (earlier : List ℕ) (v u : ℕ) → is_among (earlier ++ v ∷ []) u ≡ (is_among earlier u || nat_eq v u)
among-push [] v u = grind (arith, nat_tests)
among-push (w ∷ earlier) v u = let behind = among-push earlier v u in grind (arith, nat_tests)

-- the points in the end: those so far, then the new ones of the list by first appearance
points-are : (earlier list : List ℕ) → with_points earlier list ≡ earlier ++ filter (λ u. not (is_among earlier u)) (each_once_by nat_eq list)
points-are earlier [] = sym (append-nil earlier)
points-are earlier (v ∷ list) = here (is_among earlier v) refl (points-are (with_point earlier v) list)
  where
    once : List ℕ
    once = each_once_by nat_eq list

    new_to : List ℕ → ℕ → Bool
    new_to l u = not (is_among l u)

    other : ℕ → Bool
    other u = not (nat_eq v u)

    here : (b : Bool) → is_among earlier v ≡ b → with_points (with_point earlier v) list ≡ with_point earlier v ++ filter (new_to (with_point earlier v)) once → with_points earlier (v ∷ list) ≡ earlier ++ filter (new_to earlier) (v ∷ filter other once)
    here true e behind =
        let old : (u : ℕ) → other u ≡ false → new_to earlier u ≡ false = λ u h. not_from_true _ (ap (is_among earlier) (sym (eqb-true v u (not-false _ h))) ∙ e) in
        let rest = filter-both (new_to earlier) other (new_to earlier) (λ u h. refl) old once in
        behind
        ∙ ap (λ (l : List ℕ). l ++ filter (new_to l) once) (with-known earlier v e)
        ∙ ap (λ (l : List ℕ). earlier ++ l) (sym rest)
        ∙ sym (ap (λ b. earlier ++ (if not b then v ∷ filter (new_to earlier) (filter other once) else filter (new_to earlier) (filter other once))) e)
    here false e behind =
        let same : (u : ℕ) → other u ≡ true → new_to earlier u ≡ new_to (earlier ++ v ∷ []) u = λ u h. let push = among-push earlier v u in let apart = not-true _ h in rw (push, apart) (or-none (is_among earlier u)) in
        let gone : (u : ℕ) → other u ≡ false → new_to (earlier ++ v ∷ []) u ≡ false = λ u h. not_from_true _ (among-push earlier v u ∙ or_right _ _ (not-false _ h)) in
        let rest = filter-both (new_to earlier) other (new_to (earlier ++ v ∷ [])) same gone once in
        behind
        ∙ ap (λ (l : List ℕ). l ++ filter (new_to l) once) (with-new earlier v e)
        ∙ append_assoc earlier (v ∷ []) (filter (new_to (earlier ++ v ∷ [])) once)
        ∙ ap (λ (l : List ℕ). earlier ++ v ∷ l) (sym rest)
        ∙ sym (ap (λ b. earlier ++ (if not b then v ∷ filter (new_to earlier) (filter other once) else filter (new_to earlier) (filter other once))) e)
      where
        or-none : (b : Bool) → not b ≡ not (b || false)
        or-none true = refl
        or-none false = refl

-- from nothing, each point once, by first appearance
pub points-once : (list : List ℕ) → with_points [] list ≡ each_once_by nat_eq list
points-once list = points-are [] list ∙ keeps-all (each_once_by nat_eq list)
  where
    keeps-all : (l : List ℕ) → filter (λ u. not (is_among [] u)) l ≡ l
    keeps-all [] = refl
    keeps-all (u ∷ l) = ap (λ (m : List ℕ). u ∷ m) (keeps-all l)

-- the numbers are those of the points
pub numbers-once : (list : List ℕ) → numbers_after [] list ≡ numbers_of list
numbers-once list = numbers-are [] list ∙ ap (λ (points : List ℕ). places_among points list) (points-once list)
