-- Marks and their places.
use Rattle.std.proofs.Common.{◌≡◌, ℕ, zero, suc, ◌+◌, ◌<◌, Bool, true, false, cond, nat_eq, nat_lt, List, [], ◌∷◌, ◌++◌, length, map, get_or, set, Some, None, arith, refl, ap, sym, ◌∙◌, ◌||◌, if◌then◌else◌}
use Rattle.std.specs.List.{flat_map, position_or_len}
use Rattle.std.proofs.lemmas.Bool.Decides.{nat_tests}
use Rattle.std.proofs.lemmas.List.Quantifiers.{position-Some}
use Rattle.std.proofs.lemmas.List.Sums.{sum_by-cons, fails_before_first}
use Rattle.subdiv_model.specs.Lists.{places_from, places}
use Rattle.subdiv_model.specs.Polygons.{is_among}
use Rattle.stencil_session.specs.Tree.{least_mark, mark_count}
use Rattle.table_answers.specs.FrameLines.{marked}

-- marks from a test
pub places-map : {X : Type 0} (test : X → Bool) (first : ℕ) (xs : List X) → places_from first (λ is_marked. is_marked) (map test xs) ≡ places_from first test xs
places-map test first [] = refl
places-map test first (x ∷ xs) = ap (λ rest. if test x then first ∷ rest else rest) (places-map test (first + 1) xs)

-- the number of marks
pub places-count : (first : ℕ) (marks : List Bool) → mark_count marks ≡ length (places_from first (λ is_marked. is_marked) marks)
places-count first [] = refl
places-count first (true ∷ marks) = omega (arith, sum_by-cons (λ is_marked. cond is_marked 1 0) true marks, places-count (first + 1) marks)
places-count first (false ∷ marks) = omega (arith, sum_by-cons (λ is_marked. cond is_marked 1 0) false marks, places-count (first + 1) marks)

apart : true ≡ false → ⊥
apart e = cc

-- the first place, and the others after its mark is gone
first-place : (first number : ℕ) (marks : List Bool) → get_or marks number false ≡ true → ((other : ℕ) → other < number → get_or marks other false ≡ false) →
    places_from first (λ is_marked. is_marked) marks ≡ (first + number) ∷ places_from first (λ is_marked. is_marked) (set marks number false)
first-place first number [] is before = absurd (apart (sym is))
first-place first zero (true ∷ marks) is before = ap (λ n. n ∷ places_from (first + 1) (λ is_marked. is_marked) marks) (same first)
  where
    same : (n : ℕ) → n ≡ n + 0
    same n = omega arith
first-place first zero (false ∷ marks) is before = absurd (apart (sym is))
first-place first (suc number) (true ∷ marks) is before = absurd (apart (before 0 (omega arith)))
first-place first (suc number) (false ∷ marks) is before =
    first-place (first + 1) number marks is (λ other h. before (suc other) (omega (arith, h)))
    ∙ ap (λ n. n ∷ places_from (first + 1) (λ is_marked. is_marked) (set marks number false)) (moved first number)
  where
    moved : (m n : ℕ) → m + 1 + n ≡ m + suc n
    moved m n = omega arith

pub least-first : (marks : List Bool) (number : ℕ) → least_mark marks ≡ Some number → marked marks ≡ number ∷ marked (set marks number false)
least-first marks number least =
    let found = position-Some (λ is_marked. is_marked) marks number false least in
    first-place 0 number marks found.1 found.2 ∙ ap (λ n. n ∷ marked (set marks number false)) (zero-plus number)
  where
    zero-plus : (n : ℕ) → 0 + n ≡ n
    zero-plus n = omega arith

-- without a least mark there is none
some-or : (test : Bool) (place : ℕ) → cond test (Some place) None ≡ None → test ≡ false
some-or true place e = absurd (cc)
some-or false place e = refl

none-at : (marks : List Bool) → least_mark marks ≡ None → (number : ℕ) → number < length marks → get_or marks number false ≡ false
none-at marks least number inside =
    let past = some-or (nat_lt (position_or_len (λ is_marked. is_marked) marks) (length marks)) (position_or_len (λ is_marked. is_marked) marks) least in
    fails_before_first (λ is_marked. is_marked) marks number false (grind (arith, nat_tests, past))

no-place : (first : ℕ) (marks : List Bool) → ((number : ℕ) → number < length marks → get_or marks number false ≡ false) →
    (places_from first (λ is_marked. is_marked) marks ≡ []) × (marks ≡ map (λ is_marked. false) marks)
no-place first [] none = (refl, refl)
no-place first (true ∷ marks) none = absurd (apart (none 0 (omega arith)))
no-place first (false ∷ marks) none =
    let behind = no-place (first + 1) marks (λ number h. none (suc number) (omega (arith, h))) in
    (behind.0, ap (λ rest. false ∷ rest) behind.1)

pub none-marked : (marks : List Bool) → least_mark marks ≡ None → marked marks ≡ []
none-marked marks least = (no-place 0 marks (none-at marks least)).0

-- as many marks as places, and none of them left
pub all-gone : (marks others : List Bool) → least_mark marks ≡ None → length marks ≡ length others → marks ≡ map (λ is_marked. false) others
all-gone marks others least long = (no-place 0 marks (none-at marks least)).1 ∙ same marks others long
  where
    same : (xs ys : List Bool) → length xs ≡ length ys → map (λ is_marked. false) xs ≡ map (λ is_marked. false) ys
    same [] [] long = refl
    same [] (y ∷ ys) long = absurd (omega (arith, long))
    same (x ∷ xs) [] long = absurd (omega (arith, long))
    same (x ∷ xs) (y ∷ ys) long = ap (λ rest. false ∷ rest) (same xs ys (omega (arith, long)))

-- texts of the places, which are the same at each
pub places-texts : (f g : ℕ → List ℕ) (first : ℕ) (marks : List Bool) → ((number : ℕ) → number < length marks → f (first + number) ≡ g (first + number)) →
    flat_map f (places_from first (λ is_marked. is_marked) marks) ≡ flat_map g (places_from first (λ is_marked. is_marked) marks)
places-texts f g first [] same = refl
places-texts f g first (mark ∷ marks) same =
    let behind = places-texts f g (first + 1) marks (λ number h. ap f (moved first number) ∙ same (suc number) (omega (arith, h)) ∙ sym (ap g (moved first number))) in
    one mark (ap f (zero-plus first) ∙ same 0 (omega arith) ∙ sym (ap g (zero-plus first))) behind
  where
    zero-plus : (n : ℕ) → n ≡ n + 0
    zero-plus n = omega arith

    moved : (m n : ℕ) → m + 1 + n ≡ m + suc n
    moved m n = omega arith

    one : (b : Bool) → f first ≡ g first → flat_map f (places_from (first + 1) (λ is_marked. is_marked) marks) ≡ flat_map g (places_from (first + 1) (λ is_marked. is_marked) marks) →
        flat_map f (if b then first ∷ places_from (first + 1) (λ is_marked. is_marked) marks else places_from (first + 1) (λ is_marked. is_marked) marks)
        ≡ flat_map g (if b then first ∷ places_from (first + 1) (λ is_marked. is_marked) marks else places_from (first + 1) (λ is_marked. is_marked) marks)
    one true here behind = ap (λ t. t ++ flat_map f (places_from (first + 1) (λ is_marked. is_marked) marks)) here ∙ ap (λ t. g first ++ t) behind
    one false here behind = behind

-- no place is before the first
places-after : {X : Type 0} (test : X → Bool) (first number : ℕ) (xs : List X) → number < first → is_among (places_from first test xs) number ≡ false
places-after test first number [] below = refl
places-after {X} test first number (x ∷ xs) below = one (test x) (places-after test (first + 1) number xs (omega (arith, below)))
  where
    one : (b : Bool) → is_among (places_from (first + 1) test xs) number ≡ false →
        is_among (if b then first ∷ places_from (first + 1) test xs else places_from (first + 1) test xs) number ≡ false
    one true behind = ap (λ b. nat_eq number first || b) behind ∙ grind (arith, nat_tests)
    one false behind = behind

-- a place is marked exactly if its item passes the test
places-at : {X : Type 0} (test : X → Bool) (none : X) → test none ≡ false → (first number : ℕ) (xs : List X) →
    is_among (places_from first test xs) (first + number) ≡ test (get_or xs number none)
places-at test none fails first number [] = sym fails
places-at {X} test none fails first zero (x ∷ xs) = one (test x)
  where
    here : (m : ℕ) (b : Bool) → (nat_eq (m + 0) m || b) ≡ true
    here m b = grind (arith, nat_tests)

    one : (b : Bool) → is_among (if b then first ∷ places_from (first + 1) test xs else places_from (first + 1) test xs) (first + 0) ≡ b
    one true = here first (is_among (places_from (first + 1) test xs) (first + 0))
    one false = places-after test (first + 1) (first + 0) xs (omega arith)
places-at {X} test none fails first (suc number) (x ∷ xs) =
    one (test x) (ap (is_among (places_from (first + 1) test xs)) (moved first number) ∙ places-at test none fails (first + 1) number xs)
  where
    moved : (m n : ℕ) → m + suc n ≡ m + 1 + n
    moved m n = omega arith

    other : (m n : ℕ) (b : Bool) → (nat_eq (m + suc n) m || b) ≡ b
    other m n b = grind (arith, nat_tests)

    one : (b : Bool) → is_among (places_from (first + 1) test xs) (first + suc number) ≡ test (get_or xs number none) →
        is_among (if b then first ∷ places_from (first + 1) test xs else places_from (first + 1) test xs) (first + suc number) ≡ test (get_or xs number none)
    one true behind = other first number (is_among (places_from (first + 1) test xs) (first + suc number)) ∙ behind
    one false behind = behind

pub places-has : {X : Type 0} (test : X → Bool) (none : X) → test none ≡ false → (number : ℕ) (xs : List X) →
    is_among (places test xs) number ≡ test (get_or xs number none)
places-has test none fails number xs = ap (is_among (places test xs)) (zero-plus number) ∙ places-at test none fails 0 number xs
  where
    zero-plus : (n : ℕ) → n ≡ 0 + n
    zero-plus n = omega arith
