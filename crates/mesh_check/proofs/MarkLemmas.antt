-- A list whose numbers are marked as they are seen has none twice where none was marked before.
use Rattle.std.proofs.Common.{◌≡◌, ℕ, zero, suc, ◌+◌, ◌<◌, ◌≤◌, ◌≢◌, Bool, true, false, not, ◌&&◌, ◌||◌, nat_eq, List, [], ◌∷◌, length, drop, replicate, get_or, slice_set, arith, refl, ap, sym, subst, ◌∙◌, get_or-set_other, get_or-set_same, Some}
use Rattle.std.specs.List.{All, list_all, slice_get}
use Rattle.std.proofs.lemmas.Bool.Decides.{nat_tests}
use Rattle.std.proofs.lemmas.Bool.{eqb-true, eq-eqb}
use Rattle.std.proofs.lemmas.Grind.{get_or-set_at}
use Rattle.std.proofs.lemmas.List.{length-set, length-replicate}
use Rattle.std.proofs.lemmas.Option.{slice_get-get_or, get_or_from_slice_get, slice_get_within}
use Rattle.subdiv_model.specs.Polygons.{Polygon, is_among, is_distinct}
use Rattle.mesh_laws.proofs.FaultLemmas.{all-always}
use Rattle.mesh_check.proofs.PlaceLemmas.{drop-here, drop-all}
use Rattle.mesh_check.specs.Marks.{is_new}

-- one number more is marked
marked-with : (marks : List ℕ) (v mark w : ℕ) → v < length marks → nat_eq (get_or (slice_set marks v mark) w 0) mark ≡ (nat_eq v w || nat_eq (get_or marks w 0) mark)
marked-with marks v mark w h = go (nat_eq v w) refl
  where
    go : (b : Bool) → nat_eq v w ≡ b → nat_eq (get_or (slice_set marks v mark) w 0) mark ≡ (nat_eq v w || nat_eq (get_or marks w 0) mark)
    go true e =
        let same : v ≡ w = grind (arith, nat_tests) in
        let at : get_or (slice_set marks v mark) w 0 ≡ mark = subst (λ k. get_or (slice_set marks v mark) k 0 ≡ mark) same (get_or-set_same marks v mark 0 h) in
        grind (arith, nat_tests)
    go false e =
        let apart : w ≢ v = λ k. grind (arith, nat_tests) in
        let at : get_or (slice_set marks v mark) w 0 ≡ get_or marks w 0 = get_or-set_other marks v w mark 0 apart in
        grind (arith, nat_tests)

marked-all : (marks : List ℕ) (v mark : ℕ) (rest : List ℕ) → v < length marks → list_all (λ w. not (nat_eq (get_or (slice_set marks v mark) w 0) mark)) rest ≡ (not (is_among rest v) && list_all (λ w. not (nat_eq (get_or marks w 0) mark)) rest)
marked-all marks v mark [] h = refl
marked-all marks v mark (w ∷ rest) h = rw (marked-with marks v mark w h, marked-all marks v mark rest h) (mixed (nat_eq v w) (nat_eq (get_or marks w 0) mark) (is_among rest v) (list_all (λ u. not (nat_eq (get_or marks u 0) mark)) rest))
  where
    mixed : (a b c d : Bool) → (not (a || b) && (not c && d)) ≡ (not (a || c) && (not b && d))
    mixed true b c d = refl
    mixed false true true d = refl
    mixed false true false d = refl
    mixed false false c d = refl

-- the numbers differ, and none of them was marked
new-split : (mark : ℕ) (marks rest : List ℕ) → All (λ v. v < length marks) rest → is_new mark marks rest ≡ (is_distinct rest && list_all (λ w. not (nat_eq (get_or marks w 0) mark)) rest)
new-split mark marks [] inside = refl
new-split mark marks (v ∷ rest) inside =
    let here : v < length marks = inside 0 0 (omega arith) in
    let behind = new-split mark (slice_set marks v mark) rest (λ k d h. omega (arith, inside (suc k) d (omega (arith, h)), length-set marks v mark)) in
    rw (behind, marked-all marks v mark rest here) (mixed (nat_eq (get_or marks v 0) mark) (is_distinct rest) (is_among rest v) (list_all (λ u. not (nat_eq (get_or marks u 0) mark)) rest))
  where
    mixed : (a b c d : Bool) → (not a && (b && (not c && d))) ≡ ((not c && b) && (not a && d))
    mixed true true true d = refl
    mixed true true false d = refl
    mixed true false true d = refl
    mixed true false false d = refl
    mixed false true true d = refl
    mixed false true false d = refl
    mixed false false true d = refl
    mixed false false false d = refl

-- if no number is marked, the numbers are distinct exactly where each is new
pub new-distinct : (mark : ℕ) (marks face : List ℕ) → All (λ v. v < length marks) face → ((v : ℕ) → get_or marks v 0 < mark) → is_new mark marks face ≡ is_distinct face
new-distinct mark marks face inside fresh =
    new-split mark marks face inside ∙ ap (λ b. is_distinct face && b) (all-always (λ w. not (nat_eq (get_or marks w 0) mark)) (λ w. below (get_or marks w 0) (fresh w)) face) ∙ and-true (is_distinct face)
  where
    below : (n : ℕ) → n < mark → not (nat_eq n mark) ≡ true
    below n h = grind (arith, nat_tests)

    and-true : (b : Bool) → (b && true) ≡ b
    and-true true = refl
    and-true false = refl

dropped : (face : List ℕ) (i : ℕ) → i < length face → drop i face ≡ get_or face i 0 ∷ drop (i + 1) face
dropped face i h = drop-here face i (get_or face i 0) (slice_get-get_or face i 0 h)

-- a number that is already marked occurs twice
pub new-seen : (mark : ℕ) (start marks face : List ℕ) (i : ℕ) → i < length face → is_new mark marks (drop i face) ≡ is_new mark start face → nat_eq (get_or marks (get_or face i 0) 0) mark ≡ true → is_new mark start face ≡ false
new-seen mark start marks face i h decides seen =
    sym decides ∙ ap (is_new mark marks) (dropped face i h) ∙ ap (λ b. not b && is_new mark (slice_set marks (get_or face i 0) mark) (drop (i + 1) face)) seen

-- a number that is new is marked, and the others decide
pub new-passed : (mark : ℕ) (start marks face : List ℕ) (i : ℕ) → i < length face → is_new mark marks (drop i face) ≡ is_new mark start face → nat_eq (get_or marks (get_or face i 0) 0) mark ≡ false → is_new mark (slice_set marks (get_or face i 0) mark) (drop (i + 1) face) ≡ is_new mark start face
new-passed mark start marks face i h decides seen =
    sym (ap (λ b. not b && is_new mark (slice_set marks (get_or face i 0) mark) (drop (i + 1) face)) seen) ∙ sym (ap (is_new mark marks) (dropped face i h)) ∙ decides

-- at the end all were new
pub new-end : (mark : ℕ) (start marks face : List ℕ) (i : ℕ) → length face ≤ i → is_new mark marks (drop i face) ≡ is_new mark start face → is_new mark start face ≡ true
new-end mark start marks face i h decides = sym decides ∙ ap (is_new mark marks) (drop-all face i h)

-- no mark is above one that is set
pub low-with : (marks : List ℕ) (v mark : ℕ) → ((w : ℕ) → get_or marks w 0 ≤ mark) → v < length marks → (w : ℕ) → get_or (slice_set marks v mark) w 0 ≤ mark
low-with marks v mark low h w = go (nat_eq v w) refl
  where
    go : (b : Bool) → nat_eq v w ≡ b → get_or (slice_set marks v mark) w 0 ≤ mark
    go true e =
        let same : v ≡ w = grind (arith, nat_tests) in
        let at : get_or (slice_set marks v mark) w 0 ≡ mark = subst (λ k. get_or (slice_set marks v mark) k 0 ≡ mark) same (get_or-set_same marks v mark 0 h) in
        omega (arith, at)
    go false e =
        let apart : w ≢ v = λ k. grind (arith, nat_tests) in
        omega (arith, get_or-set_other marks v w mark 0 apart, low w)

abbrev pub no_marks : ℕ → List ℕ
no_marks n = replicate n 0

-- without marks, each number has no mark
pub none-marked : (n v : ℕ) → get_or (no_marks n) v 0 ≡ 0
none-marked zero v = refl
none-marked (suc n) zero = refl
none-marked (suc n) (suc v) = none-marked n v

-- a number below one length is below an equal one
pub inside-at : (face : List ℕ) (m n i : ℕ) → All (λ v. v < m) face → n ≡ m → i < length face → get_or face i 0 < n
inside-at face m n i inside e h = omega (arith, inside i 0 h, e)

-- none of these marks is set
pub none-set : (marks : List ℕ) (n v : ℕ) → marks ≡ no_marks n → get_or marks v 0 ≡ 0
none-set marks n v is = ap (λ ms. get_or ms v 0) is ∙ none-marked n v

-- there are as many marks as points
pub as-many : (marks : List ℕ) (n m : ℕ) → marks ≡ no_marks n → n ≡ m → length marks ≡ m
as-many marks n m is same = ap length is ∙ length-replicate n 0 ∙ same

-- the corners of a face are inside, where there are as many marks as points
pub face-inside : (polygons : List Polygon) (f n m : ℕ) (face : Polygon) → All (λ polygon. All (λ v. v < n) polygon) polygons → slice_get polygons f ≡ Some face → m ≡ n → All (λ v. v < m) face
face-inside polygons f n m face inside at same =
    let corners : All (λ v. v < n) face = subst (All (λ v. v < n)) (get_or_from_slice_get polygons f face face at) (inside f face (slice_get_within polygons f face at)) in
    subst (λ k. All (λ v. v < k) face) (sym same) corners

-- the mark 1 is set at a place, and the others are as they were
pub set-one : (marks new : List ℕ) (v w : ℕ) → w < length marks → new ≡ slice_set marks v 1 → nat_eq (get_or new w 0) 1 ≡ (nat_eq w v || nat_eq (get_or marks w 0) 1)
set-one marks new v w h is = ap (λ ms. nat_eq (get_or ms w 0) 1) is ∙ go (nat_eq w v) refl
  where
    go : (b : Bool) → nat_eq w v ≡ b → nat_eq (get_or (slice_set marks v 1) w 0) 1 ≡ (b || nat_eq (get_or marks w 0) 1)
    go true e =
        let same : w ≡ v = eqb-true w v e in
        eq-eqb _ 1 (get_or-set_at marks v w 1 0 same (omega arith))
    go false e = ap (λ n. nat_eq n 1) (get_or-set_other marks v w 1 0 (λ k. grind (arith, nat_tests)))

-- a place is marked or passes among the others exactly where it was marked or passes among all
pub marked-next : (marks new : List ℕ) (v w : ℕ) (rest : Bool) → w < length marks → new ≡ slice_set marks v 1 → (nat_eq (get_or new w 0) 1 || rest) ≡ (nat_eq (get_or marks w 0) 1 || (nat_eq w v || rest))
marked-next marks new v w rest h is = ap (λ b. b || rest) (set-one marks new v w h is) ∙ turn (nat_eq w v) (nat_eq (get_or marks w 0) 1)
  where
    turn : (a b : Bool) → ((a || b) || rest) ≡ (b || (a || rest))
    turn true true = refl
    turn true false = refl
    turn false true = refl
    turn false false = refl

pub either : (a b c : Bool) → ((a || b) || c) ≡ (a || (b || c))
either true b c = refl
either false b c = refl

-- or nothing more
pub or-none : (a : Bool) → a ≡ (a || false)
or-none true = refl
or-none false = refl
