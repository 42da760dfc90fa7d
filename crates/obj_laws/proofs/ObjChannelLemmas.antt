-- Channels: common denominators grow line by line, and the texture channel exists if there is a face and each corner has a
-- texture value.
use Rattle.std.proofs.Common.{◌≡◌, ◌≢◌, ℕ, ◌+◌, ◌^◌, ◌<◌, ◌≤◌, Bool, true, false, ◌&&◌, nat_eq, nat_lt, List, [], ◌∷◌, ◌++◌, length, map, arith, refl, ap, sym, subst, true≢false, inl, inr, ◌⊎◌, suc, ◌∙◌, if◌then◌else◌, append-nil}
use Rattle.std.specs.Int.{◌∣◌}
use Rattle.std.specs.List.{AllByRecursion, list_all, list_any, filter, flat_map, fold, count_by}
use Rattle.std.proofs.lemmas.Bool.{cases_eq, eq-eqb, ne_eqb, lt-ltb, ltb-true}
use Rattle.std.proofs.lemmas.Grind.{flat_map-append}
use Rattle.std.proofs.lemmas.List.{map-append}
use Rattle.std.proofs.lemmas.List.Elements.{filter-append}
use Rattle.std.proofs.lemmas.List.Sums.{count_by-le-length, fold-append}
use Rattle.std.proofs.lemmas.Nat.Gcd.{le_of_dvd}
use Rattle.subdiv_model.specs.Multiples.{lcm_of}
use Rattle.subdiv_model.specs.ObjLine.{is_face_line}
use Rattle.subdiv_model.specs.ObjWord.{has_texture_part}
use Rattle.subdiv_model.specs.ReadObj.{values_of, has_texture_channel, kept_coordinates, denominator_of, common_over, passes_bound}
use Rattle.number_laws.proofs.CountLemmas.{all-flat_map, one_if, count-cons}
use Rattle.number_laws.proofs.MultipleLemmas.{fold-lcm-multiple, fold-lcm-positive}
use Rattle.obj_laws.proofs.NumeralTermsLemmas.{terms-positive}

-- a list of what those have that pass a test
abbrev pub where-passing : {X Y : Type 0} → (X → Bool) → (X → Y) → List X → List Y
where-passing P f xs = flat_map (λ x. if P x then f x ∷ [] else []) xs

-- if all items pass, the list has one item for each
pub passing-all : {X Y : Type 0} (P : X → Bool) (f : X → Y) (xs : List X) → list_all P xs ≡ true → where-passing P f xs ≡ map f xs
passing-all P f [] h = refl
passing-all P f (x ∷ xs) h = step (P x) h (passing-all P f xs)
  where
    step : (b : Bool) → b && list_all P xs ≡ true → (list_all P xs ≡ true → where-passing P f xs ≡ map f xs)
        → (if b then f x ∷ [] else []) ++ where-passing P f xs ≡ f x ∷ map f xs
    step true e rest = ap (λ ys. f x ∷ ys) (rest e)
    step false e rest = absurd (true≢false (sym e))

-- one item for each that passes, in any case
pub passing-count : {X Y : Type 0} (P : X → Bool) (f : X → Y) (xs : List X) → length (where-passing P f xs) ≡ count_by P xs
passing-count P f [] = refl
passing-count P f (x ∷ xs) = step (P x) (passing-count P f xs) ∙ sym (count-cons P x xs)
  where
    step : (b : Bool) → length (where-passing P f xs) ≡ count_by P xs
        → length ((if b then f x ∷ [] else []) ++ where-passing P f xs) ≡ one_if b + count_by P xs
    step true rest = omega (arith, rest)
    step false rest = omega (arith, rest)

-- all pass exactly where as many pass as there are
pub all-counted : {X : Type 0} (P : X → Bool) (xs : List X) → nat_eq (count_by P xs) (length xs) ≡ list_all P xs
all-counted P [] = refl
all-counted P (x ∷ xs) = ap (λ n. nat_eq n (suc (length xs))) (count-cons P x xs) ∙ step (P x) (all-counted P xs) (count_by-le-length P xs)
  where
    step : (b : Bool) → nat_eq (count_by P xs) (length xs) ≡ list_all P xs → count_by P xs ≤ length xs
        → nat_eq (one_if b + count_by P xs) (suc (length xs)) ≡ b && list_all P xs
    step true rest most = same (cases_eq (count_by P xs) (length xs)) ∙ rest
      where
        same : (count_by P xs ≡ length xs) ⊎ (count_by P xs ≢ length xs)
            → nat_eq (1 + count_by P xs) (suc (length xs)) ≡ nat_eq (count_by P xs) (length xs)
        same (inl e) = eq-eqb _ _ (omega (arith, e)) ∙ sym (eq-eqb _ _ e)
        same (inr d) = ne_eqb _ _ (λ e. d (omega (arith, e))) ∙ sym (ne_eqb _ _ d)
    step false rest most = ne_eqb _ _ (λ e. absurd (omega (arith, e, most)))

-- the corners of all face lines, as words
abbrev pub corner-words : List (List (List ℕ)) → List (List ℕ)
corner-words lines = flat_map values_of (filter is_face_line lines)

pub channel-counted : (lines : List (List (List ℕ)))
    → has_texture_channel lines ≡ list_any is_face_line lines && nat_eq (count_by has_texture_part (corner-words lines)) (length (corner-words lines))
channel-counted lines =
    ap (λ b. list_any is_face_line lines && b) (sym (all-counted has_texture_part (corner-words lines) ∙ all-flat_map has_texture_part values_of (filter is_face_line lines)))

abbrev Line : Type 0
Line = List (List ℕ)

-- the denominators of the kept coordinates of some lines
abbrev pub denominators : List Line → List ℕ
denominators lines = map denominator_of (flat_map kept_coordinates lines)

denominators-append : (lines more : List Line) → denominators (lines ++ more) ≡ denominators lines ++ denominators more
denominators-append lines more =
    ap (map denominator_of) (flat_map-append kept_coordinates lines more)
    ∙ map-append denominator_of (flat_map kept_coordinates lines) (flat_map kept_coordinates more)

-- the common denominator over further lines continues from that over the first
pub common-append : (start : ℕ) (lines more : List Line) → common_over start (lines ++ more) ≡ common_over (common_over start lines) more
common-append start lines more =
    ap (fold lcm_of start) (denominators-append lines more) ∙ fold-append lcm_of start (denominators lines) (denominators more)

-- one more line adds the denominators of its kept coordinates
pub common-more : (start : ℕ) (lines : List Line) (line : Line)
    → common_over start (lines ++ line ∷ []) ≡ fold lcm_of (common_over start lines) (map denominator_of (kept_coordinates line))
common-more start lines line =
    common-append start lines (line ∷ [])
    ∙ ap (λ words. fold lcm_of (common_over start lines) (map denominator_of words)) (append-nil (kept_coordinates line))

-- denominators are above 0
pub denominators-positive : (words : List (List ℕ)) → AllByRecursion (λ a. 0 < a) (map denominator_of words)
denominators-positive [] = tt
denominators-positive (word ∷ words) = (terms-positive word, denominators-positive words)

-- a common denominator is at least 1 where it starts so
pub common-positive : (start : ℕ) (lines : List Line) → 0 < start → 0 < common_over start lines
common-positive start lines positive =
    fold-lcm-positive start (denominators lines) positive (denominators-positive (flat_map kept_coordinates lines))

-- the common denominator is a multiple of its start and of each denominator
pub common-multiple : (start : ℕ) (lines : List Line) → start ∣ common_over start lines
common-multiple start lines = fold-lcm-multiple start (denominators lines)

-- the common denominator over more lines is a multiple of that over fewer
pub common-longer : (start : ℕ) (lines more : List Line) → common_over start lines ∣ common_over start (lines ++ more)
common-longer start lines more =
    let P : ℕ → Type 0 = λ n. common_over start lines ∣ n in
    subst P (sym (common-append start lines more)) (common-multiple (common_over start lines) more)

pub common-grows : (start : ℕ) (lines more : List Line) → 0 < start → common_over start lines ≤ common_over start (lines ++ more)
common-grows start lines more positive = le_of_dvd (common-positive start (lines ++ more) positive) (common-longer start lines more)

-- what passes the bound once passes it from there on
pub passes-longer : (kind : Line → Bool) (start : ℕ) (lines more : List Line) → 0 < start
    → passes_bound kind start lines ≡ true → passes_bound kind start (lines ++ more) ≡ true
passes-longer kind start lines more positive past =
    let grows : common_over start (filter kind lines) ≤ common_over start (filter kind lines ++ filter kind more) =
    common-grows start (filter kind lines) (filter kind more) positive in
    let far : 10 ^ 37 < common_over start (filter kind lines) = ltb-true (10 ^ 37) (common_over start (filter kind lines)) past in
    ap (λ kept. nat_lt (10 ^ 37) (common_over start kept)) (filter-append kind lines more)
    ∙ lt-ltb (10 ^ 37) (common_over start (filter kind lines ++ filter kind more)) (omega arith)
