-- A walk about a point meets all faces exactly where they are one fan.
use Rattle.std.proofs.Common.{◌≡◌, ℕ, zero, suc, ◌+◌, ◌<◌, ◌≤◌, Bool, true, false, cond, not, ◌&&◌, ◌||◌, nat_eq, List, [], ◌∷◌, length, arith, refl, ap, sym, ◌∙◌, ◌⊎◌, inl, inr, Option, Some, None, IsTrue, ◌↔◌}
use Rattle.std.specs.List.{list_any, list_all, find, range_with_len}
use Rattle.std.proofs.lemmas.Bool.Decides.{nat_tests}
use Rattle.std.proofs.lemmas.Bool.{and_parts, and_from, or_cases, or_right, not-true, eqb-true, eq-eqb, false_from_ne_true}
use Rattle.std.proofs.lemmas.List.Sums.{list_all-from_AllPass, AllPass-from_list_all}
use Rattle.subdiv_model.specs.Polygons.{Polygon, has_corner, is_among, is_distinct, has_distinct_sides, polygon_at}
use Rattle.subdiv_model.specs.Edges.{all_sides, faces_of_point}
use Rattle.subdiv_model.specs.Manifold.{IsSuccessor, IsPath, HasOneFan, IsManifold, is_successor, without, left_after, none_left, walk_meets_all, has_one_fan, is_simple, is_manifold}
use Rattle.mesh_laws.proofs.FanLemmas.{faces-among, any-number, number-any, successor-from_test, successor-test, successor-unique}

among-without : (n m : ℕ) (numbers : List ℕ) → is_among (without n numbers) m ≡ (not (nat_eq n m) && is_among numbers m)
among-without n m [] = grind (arith, nat_tests)
among-without n m (k ∷ numbers) = grind (arith, nat_tests, among-without n m numbers)

without-le : (n : ℕ) (numbers : List ℕ) → length (without n numbers) ≤ length numbers
without-le n [] = omega arith
without-le n (k ∷ numbers) = grind (arith, nat_tests, without-le n numbers)

without-lt : (n : ℕ) (numbers : List ℕ) → is_among numbers n ≡ true → length (without n numbers) < length numbers
without-lt n [] h = absurd (cc)
without-lt n (k ∷ numbers) h = grind (arith, nat_tests, without-le n numbers, without-lt n numbers)

-- distinct numbers that are all in another list are no more than it has
pub distinct-le : (xs ys : List ℕ) → is_distinct xs ≡ true → ((n : ℕ) → is_among xs n ≡ true → is_among ys n ≡ true) → length xs ≤ length ys
distinct-le [] ys d within = omega arith
distinct-le (x ∷ xs) ys d within =
    let parts = and_parts (not (is_among xs x)) (is_distinct xs) d in
    let there : is_among ys x ≡ true = within x (grind (arith, nat_tests)) in
    let less = without-lt x ys there in
    let behind = distinct-le xs (without x ys) parts.1 (λ n h. among-without x n ys ∙ and_from _ _ (other n h parts.0) (within n (grind (arith, nat_tests)))) in
    omega arith
  where
    other : (n : ℕ) → is_among xs n ≡ true → not (is_among xs x) ≡ true → not (nat_eq x n) ≡ true
    other n h gone = here (nat_eq x n) refl
      where
        here : (b : Bool) → nat_eq x n ≡ b → not (nat_eq x n) ≡ true
        here false e = ap not e
        here true e = let same : is_among xs x ≡ true = ap (is_among xs) (eqb-true x n e) ∙ h in absurd (grind (arith, nat_tests))

nat_eq-swap : (m n : ℕ) → nat_eq m n ≡ nat_eq n m
nat_eq-swap m n = grind (arith, nat_tests)

none-besides : (face n : ℕ) → (not (nat_eq face n) && is_among (face ∷ []) n) ≡ false
none-besides face n = grind (arith, nat_tests)

none-among : (numbers : List ℕ) → ((n : ℕ) → is_among numbers n ≡ false) → numbers ≡ []
none-among [] none = refl
none-among (n ∷ numbers) none = let here = none n in absurd (grind (arith, nat_tests))

find-Some : (p : ℕ → Bool) (numbers : List ℕ) (n : ℕ) → find p numbers ≡ Some n → (p n ≡ true) × (is_among numbers n ≡ true)
find-Some p [] n h = absurd (cc)
find-Some p (m ∷ numbers) n h = here (p m) refl (λ k. find-Some p numbers n k)
  where
    here : (b : Bool) → p m ≡ b → (find p numbers ≡ Some n → (p n ≡ true) × (is_among numbers n ≡ true)) → (p n ≡ true) × (is_among (m ∷ numbers) n ≡ true)
    here true e behind =
        let found : Some m ≡ Some n = sym (ap (λ b. cond b (Some m) (find p numbers)) e) ∙ h in
        let same : m ≡ n = cc in
        (ap p (sym same) ∙ e, grind (arith, nat_tests))
    here false e behind =
        let more = behind (sym (ap (λ b. cond b (Some m) (find p numbers)) e) ∙ h) in
        (more.0, let there = more.1 in grind (arith, nat_tests))

find-only : (p : ℕ → Bool) (numbers : List ℕ) (n : ℕ) → p n ≡ true → ((m : ℕ) → p m ≡ true → m ≡ n) → is_among numbers n ≡ true → find p numbers ≡ Some n
find-only p [] n h only there = absurd (cc)
find-only p (m ∷ numbers) n h only there = here (p m) refl (λ k. find-only p numbers n h only k)
  where
    here : (b : Bool) → p m ≡ b → (is_among numbers n ≡ true → find p numbers ≡ Some n) → find p (m ∷ numbers) ≡ Some n
    here true e behind = ap (λ b. cond b (Some m) (find p numbers)) e ∙ ap Some (only m e)
    here false e behind =
        let other : nat_eq n m ≡ false = false_from_ne_true _ (λ same. let no : p n ≡ false = ap p (eqb-true n m same) ∙ e in cc) in
        let more : is_among numbers n ≡ true = grind (arith, nat_tests) in
        ap (λ b. cond b (Some m) (find p numbers)) e ∙ behind more

module _ (polygons : List Polygon) (v : ℕ) where
  left-none : (steps : ℕ) (faces : List ℕ) → left_after steps polygons v None faces ≡ faces
  left-none zero faces = refl
  left-none (suc steps) faces = refl

  -- the faces from this one on form a path of all faces
  pub record IsWalk (face : ℕ) (faces : List ℕ) : Type 0 where
    pub rest : List ℕ
    pub path : IsPath polygons v (face ∷ rest)
    pub once : is_distinct (face ∷ rest) ≡ true
    pub all : (n : ℕ) → is_among (face ∷ rest) n ≡ is_among faces n

  -- a walk that leaves no face has listed all faces
  walk-sound : (steps face : ℕ) (faces : List ℕ) → left_after steps polygons v (Some face) faces ≡ [] → is_among faces face ≡ true → IsWalk face faces
  walk-sound zero face faces left there = let none : is_among faces face ≡ false = ap (λ xs. is_among xs face) left in absurd (cc)
  walk-sound (suc steps) face faces left there = go (find (is_successor polygons v face) (without face faces)) refl (λ next k h. walk-sound steps next (without face faces) k h)
    where
      same : (b : Bool) (n : ℕ) → nat_eq face n ≡ b → (b ≡ true → is_among faces n ≡ true)
      same b n e h = ap (is_among faces) (sym (eqb-true face n (e ∙ h))) ∙ there

      joined : (n : ℕ) (here : Bool) → nat_eq face n ≡ here → nat_eq n face ≡ here → (nat_eq n face || (not (nat_eq face n) && is_among faces n)) ≡ is_among faces n
      joined n true e e' = let found = same true n e refl in grind (arith, nat_tests)
      joined n false e e' = grind (arith, nat_tests)

      go : (found : Option ℕ) → find (is_successor polygons v face) (without face faces) ≡ found → ((next : ℕ) → left_after steps polygons v (Some next) (without face faces) ≡ [] → is_among (without face faces) next ≡ true → IsWalk next (without face faces)) → IsWalk face faces
      go None e behind =
          let none : without face faces ≡ [] = sym (left-none steps (without face faces)) ∙ ap (λ o. left_after steps polygons v o (without face faces)) (sym e) ∙ left in
          record {
            rest = [];
            path = tt;
            once = refl;
            all = λ n.
                let gone : (not (nat_eq face n) && is_among faces n) ≡ false = sym (among-without face n faces) ∙ ap (λ xs. is_among xs n) none in
                ap (λ b. nat_eq n face || b) (sym gone) ∙ joined n (nat_eq face n) refl (nat_eq-swap n face);
          }
      go (Some next) e behind =
          let found = find-Some (is_successor polygons v face) (without face faces) next e in
          let further = behind next (ap (λ o. left_after steps polygons v o (without face faces)) (sym e) ∙ left) found.1 in
          let self : nat_eq face face ≡ true = eq-eqb face face refl in
          let gone : is_among (next ∷ further.rest) face ≡ false = further.all face ∙ among-without face face faces ∙ ap (λ b. not b && is_among faces face) self in
          record {
            rest = next ∷ further.rest;
            path = (successor-from_test polygons v face next found.0, further.path);
            once = and_from _ _ (ap not gone) further.once;
            all = λ n. ap (λ b. nat_eq n face || b) (further.all n ∙ among-without face n faces) ∙ joined n (nat_eq face n) refl (nat_eq-swap n face);
          }

  -- a path of all faces is the walk, which leaves none
  walk-complete : ((face f g : ℕ) → IsSuccessor polygons v face f → IsSuccessor polygons v face g → f ≡ g) → (rest : List ℕ) (steps face : ℕ) (faces : List ℕ) → IsPath polygons v (face ∷ rest) → is_distinct (face ∷ rest) ≡ true → ((n : ℕ) → is_among (face ∷ rest) n ≡ is_among faces n) → length (face ∷ rest) ≤ steps → left_after steps polygons v (Some face) faces ≡ []
  walk-complete unique rest zero face faces path once all enough = absurd (omega arith)
  walk-complete unique [] (suc steps) face faces path once all enough =
      let none : without face faces ≡ [] = none-among (without face faces) (λ n. among-without face n faces ∙ ap (λ b. not (nat_eq face n) && b) (sym (all n)) ∙ none-besides face n) in
      ap (λ xs. left_after steps polygons v (find (is_successor polygons v face) xs) xs) none ∙ left-none steps []
  walk-complete unique (next ∷ rest) (suc steps) face faces path once all enough =
      let parts = and_parts (not (is_among (next ∷ rest) face)) (is_distinct (next ∷ rest)) once in
      let others : (n : ℕ) → is_among (next ∷ rest) n ≡ is_among (without face faces) n = λ n. others-at n (nat_eq face n) refl parts.0 in
      let self : nat_eq next next ≡ true = eq-eqb next next refl in
      let there : is_among (without face faces) next ≡ true = sym (others next) ∙ ap (λ b. b || is_among rest next) self in
      let found : find (is_successor polygons v face) (without face faces) ≡ Some next = find-only (is_successor polygons v face) (without face faces) next (successor-test polygons v face next path.0) (λ m h. unique face m next (successor-from_test polygons v face m h) path.0) there in
      ap (λ o. left_after steps polygons v o (without face faces)) found ∙ walk-complete unique rest steps next (without face faces) path.1 parts.1 others (omega arith)
    where
      others-at : (n : ℕ) (b : Bool) → nat_eq face n ≡ b → not (is_among (next ∷ rest) face) ≡ true → is_among (next ∷ rest) n ≡ is_among (without face faces) n
      others-at n true e gone =
          let same : is_among (next ∷ rest) n ≡ is_among (next ∷ rest) face = ap (is_among (next ∷ rest)) (sym (eqb-true face n e)) in
          let no : is_among (next ∷ rest) face ≡ false = not-true (is_among (next ∷ rest) face) gone in
          same ∙ no ∙ sym (among-without face n faces ∙ ap (λ b. not b && is_among faces n) e)
      others-at n false e gone =
          let e' : nat_eq n face ≡ false = nat_eq-swap n face ∙ e in
          sym (ap (λ b. b || is_among (next ∷ rest) n) e') ∙ all n ∙ sym (among-without face n faces ∙ ap (λ b. not b && is_among faces n) e)

none_left-none : (faces : List ℕ) → none_left faces ≡ true → faces ≡ []
none_left-none [] h = refl
none_left-none (face ∷ faces) h = cc

pub same-tests : (a b : Bool) → (a ≡ true → b ≡ true) → (b ≡ true → a ≡ true) → a ≡ b
same-tests true b f g = sym (f refl)
same-tests false true f g = g refl
same-tests false false f g = refl

-- the test for one fan is sound
pub one_fan-from_test : (polygons : List Polygon) (v : ℕ) → has_one_fan polygons v ≡ true → HasOneFan polygons v
one_fan-from_test polygons v h = go (or_cases (none_left (faces_of_point polygons v)) (list_any (walk_meets_all polygons v (faces_of_point polygons v)) (faces_of_point polygons v)) h)
  where
    go : (none_left (faces_of_point polygons v) ≡ true) ⊎ (list_any (walk_meets_all polygons v (faces_of_point polygons v)) (faces_of_point polygons v) ≡ true) → HasOneFan polygons v
    go (inl none) =
        let no = none_left-none (faces_of_point polygons v) none in
        record {
          fan = [];
          once = refl;
          all = λ face.
              let e : is_among [] face ≡ has_corner v (polygon_at polygons face) = ap (λ xs. is_among xs face) (sym no) ∙ faces-among polygons v face in
              (λ k. sym e ∙ k, λ k. e ∙ k);
          path = tt;
        }
    go (inr some) =
        let found = any-number (walk_meets_all polygons v (faces_of_point polygons v)) (faces_of_point polygons v) some in
        let left = none_left-none (left_after (length (faces_of_point polygons v)) polygons v (Some found.0) (faces_of_point polygons v)) found.1 in
        let walk = walk-sound polygons v (length (faces_of_point polygons v)) found.0 (faces_of_point polygons v) left found.2 in
        record {
          fan = found.0 ∷ walk.rest;
          once = walk.once;
          all = λ face.
              let e = walk.all face ∙ faces-among polygons v face in
              (λ k. sym e ∙ k, λ k. e ∙ k);
          path = walk.path;
        }

-- a fan passes the test, if the polygons are simple and no side occurs twice
pub one_fan-test : (polygons : List Polygon) → list_all is_simple polygons ≡ true → has_distinct_sides (all_sides polygons) ≡ true → (v : ℕ) → HasOneFan polygons v → has_one_fan polygons v ≡ true
one_fan-test polygons simple distinct v is = go is.fan is.once is.all is.path
  where
    none : (faces : List ℕ) (b : Bool) → faces ≡ [] → (none_left faces || b) ≡ true
    none faces b e = ap (λ xs. none_left xs || b) e

    go : (fan : List ℕ) → IsTrue (is_distinct fan) → ((face : ℕ) → IsTrue (is_among fan face) ↔ IsTrue (has_corner v (polygon_at polygons face))) → IsPath polygons v fan → has_one_fan polygons v ≡ true
    go [] once all path =
        none (faces_of_point polygons v) _ (none-among (faces_of_point polygons v) (λ n. faces-among polygons v n ∙ sym (same-tests _ _ (all n).0 (all n).1)))
    go (face ∷ rest) once all path =
        let same : (n : ℕ) → is_among (face ∷ rest) n ≡ is_among (faces_of_point polygons v) n = λ n. same-tests (is_among (face ∷ rest) n) (has_corner v (polygon_at polygons n)) (all n).0 (all n).1 ∙ sym (faces-among polygons v n) in
        let enough : length (face ∷ rest) ≤ length (faces_of_point polygons v) = distinct-le (face ∷ rest) (faces_of_point polygons v) once (λ n h. sym (same n) ∙ h) in
        let left = walk-complete polygons v (successor-unique polygons simple distinct v) rest (length (faces_of_point polygons v)) face (faces_of_point polygons v) path once same enough in
        let meets : walk_meets_all polygons v (faces_of_point polygons v) face ≡ true = ap none_left left in
        let self : nat_eq face face ≡ true = eq-eqb face face refl in
        let there : is_among (faces_of_point polygons v) face ≡ true = sym (same face) ∙ ap (λ b. b || is_among rest face) self in
        let some = number-any (walk_meets_all polygons v (faces_of_point polygons v)) (faces_of_point polygons v) face meets there in
        ap (λ b. none_left (faces_of_point polygons v) || b) some ∙ or_right (none_left (faces_of_point polygons v)) true refl

-- what passes at each of the numbers from a on
pub range-at : (test : ℕ → Bool) (a n v : ℕ) → list_all test (range_with_len a n) ≡ true → a ≤ v → v < a + n → test v ≡ true
range-at test a zero v h low high = absurd (omega arith)
range-at test a (suc n) v h low high = go (nat_eq a v) refl (λ k. range-at test (a + 1) n v (and_parts (test a) (list_all test (range_with_len (a + 1) n)) h).1 k (omega arith))
  where
    go : (b : Bool) → nat_eq a v ≡ b → (a + 1 ≤ v → test v ≡ true) → test v ≡ true
    go true e behind = ap test (sym (eqb-true a v e)) ∙ (and_parts (test a) (list_all test (range_with_len (a + 1) n)) h).0
    go false e behind = behind (grind (arith, nat_tests))

pub range-all : (test : ℕ → Bool) (a n : ℕ) → ((v : ℕ) → v < a + n → test v ≡ true) → list_all test (range_with_len a n) ≡ true
range-all test a zero each = refl
range-all test a (suc n) each = and_from _ _ (each a (omega arith)) (range-all test (a + 1) n (λ v h. each v (omega arith)))

-- the test for a manifold decides the manifold
pub manifold-decides : (points : ℕ) (polygons : List Polygon) → IsTrue (is_manifold points polygons) ↔ IsManifold points polygons
manifold-decides points polygons = (there, back)
  where
    there : IsTrue (is_manifold points polygons) → IsManifold points polygons
    there h =
        let outer = and_parts (list_all is_simple polygons && has_distinct_sides (all_sides polygons)) (list_all (has_one_fan polygons) (range_with_len 0 points)) h in
        let inner = and_parts (list_all is_simple polygons) (has_distinct_sides (all_sides polygons)) outer.0 in
        record {
          simple = AllPass-from_list_all is_simple polygons inner.0;
          sides_once = inner.1;
          fans = λ v k. one_fan-from_test polygons v (range-at (has_one_fan polygons) 0 points v outer.1 (omega arith) (omega arith));
        }

    back : IsManifold points polygons → IsTrue (is_manifold points polygons)
    back is =
        let simple = list_all-from_AllPass is_simple polygons is.simple in
        and_from _ _ (and_from _ _ simple is.sides_once) (range-all (has_one_fan polygons) 0 points (λ v k. one_fan-test polygons simple is.sides_once v (is.fans v (omega arith))))
