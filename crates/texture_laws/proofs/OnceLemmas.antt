-- Lists of pairs without repetition: what they hold, and at which place.
use Rattle.std.proofs.Common.{◌≡◌, ℕ, zero, suc, ◌<◌, Bool, true, false, not, List, [], ◌∷◌, length, get_or, arith, refl, ap, sym, ◌∙◌, if◌then◌else◌}
use Rattle.std.specs.List.{filter, list_any, position_or_len}
use Rattle.std.proofs.lemmas.Bool.Decides.{nat_tests}
use Rattle.std.proofs.lemmas.Bool.{and_parts, and_from, not_from_false}
use Rattle.std.proofs.lemmas.List.Sums.{passes_at_first}
use Rattle.std.proofs.lemmas.List.Folds.{list_any_at}
use Rattle.subdiv_model.specs.Lists.{each_once_by}
use Rattle.subdiv_model.specs.Polygons.{same_side, has_distinct_sides}
use Rattle.mesh_laws.proofs.SideLemmas.{same_side-refl}
use Rattle.mesh_laws.proofs.ChildClosedLemmas.{same-pair}

any-other : (s t : ℕ × ℕ) (xs : List (ℕ × ℕ)) → list_any (same_side s) (filter (λ x. not (same_side t x)) xs) ≡ (if same_side s t then false else list_any (same_side s) xs)
any-other s t [] = grind (arith, nat_tests)
any-other s t (x ∷ xs) = grind (arith, nat_tests, any-other s t xs)

-- listing each item once keeps all items
pub any-once : (s : ℕ × ℕ) (xs : List (ℕ × ℕ)) → list_any (same_side s) (each_once_by same_side xs) ≡ list_any (same_side s) xs
any-once s [] = refl
any-once s (t ∷ xs) = grind (arith, nat_tests, any-once s xs, any-other s t (each_once_by same_side xs))

any-filter-less : (p keep : ℕ × ℕ → Bool) (xs : List (ℕ × ℕ)) → list_any p xs ≡ false → list_any p (filter keep xs) ≡ false
any-filter-less p keep [] h = refl
any-filter-less p keep (x ∷ xs) h = grind (arith, nat_tests, any-filter-less p keep xs)

distinct-filter : (keep : ℕ × ℕ → Bool) (xs : List (ℕ × ℕ)) → has_distinct_sides xs ≡ true → has_distinct_sides (filter keep xs) ≡ true
distinct-filter keep [] h = refl
distinct-filter keep (x ∷ xs) h = grind (arith, nat_tests, distinct-filter keep xs, any-filter-less (same_side x) keep xs)

pub once-distinct : (xs : List (ℕ × ℕ)) → has_distinct_sides (each_once_by same_side xs) ≡ true
once-distinct [] = refl
once-distinct (x ∷ xs) =
    let gone : list_any (same_side x) (filter (λ y. not (same_side x y)) (each_once_by same_side xs)) ≡ false = any-other x x (each_once_by same_side xs) ∙ ap (λ b. if b then false else list_any (same_side x) (each_once_by same_side xs)) (same_side-refl x) in
    and_from _ _ (not_from_false _ gone) (distinct-filter (λ y. not (same_side x y)) (each_once_by same_side xs) (once-distinct xs))

-- if some item passes, the item at the first place passes
pub first-within : {X : Type 0} (p : X → Bool) (xs : List X) → list_any p xs ≡ true → position_or_len p xs < length xs
first-within p [] h = absurd (cc)
first-within p (x ∷ xs) h = here (p x) refl (λ k. first-within p xs k)
  where
    here : (b : Bool) → p x ≡ b → (list_any p xs ≡ true → position_or_len p xs < length xs) → position_or_len p (x ∷ xs) < length (x ∷ xs)
    here true e behind = rw e (omega arith)
    here false e behind =
        let more : list_any p xs ≡ true = grind (arith, nat_tests) in
        let within = behind more in
        rw e (omega arith)

pub side-at : (s : ℕ × ℕ) (xs : List (ℕ × ℕ)) → list_any (same_side s) xs ≡ true → get_or xs (position_or_len (same_side s) xs) (0, 0) ≡ s
side-at s xs h = sym (same-pair s (get_or xs (position_or_len (same_side s) xs) (0, 0)) (passes_at_first (same_side s) xs (0, 0) (first-within (same_side s) xs h)))

-- an item listed once has one place
pub distinct-side-places : (xs : List (ℕ × ℕ)) (p q : ℕ) → has_distinct_sides xs ≡ true → p < length xs → q < length xs → get_or xs p (0, 0) ≡ get_or xs q (0, 0) → p ≡ q
distinct-side-places [] p q d hp hq e = absurd (omega arith)
distinct-side-places (x ∷ xs) zero zero d hp hq e = refl
distinct-side-places (x ∷ xs) zero (suc q) d hp hq e =
    let there = list_any_at (same_side x) xs q (0, 0) (omega arith) (ap (same_side x) (sym e) ∙ same_side-refl x) in
    absurd (grind (arith, nat_tests))
distinct-side-places (x ∷ xs) (suc p) zero d hp hq e =
    let there = list_any_at (same_side x) xs p (0, 0) (omega arith) (ap (same_side x) e ∙ same_side-refl x) in
    absurd (grind (arith, nat_tests))
distinct-side-places (x ∷ xs) (suc p) (suc q) d hp hq e =
    let parts = and_parts (not (list_any (same_side x) xs)) (has_distinct_sides xs) d in
    ap suc (distinct-side-places xs p q parts.1 (omega arith) (omega arith) e)
