-- A search for faces by their numbers.
use Rattle.std.proofs.Common.{◌≡◌, ℕ, zero, suc, ◌+◌, ◌<◌, ◌≤◌, Bool, true, false, cond, not, nat_eq, nat_le, List, [], ◌∷◌, length, map, get_or, Some, None, arith, refl, ap, sym, subst, ◌∙◌, inl, inr, ◌&&◌, nat_lt, ltb-true}
use Rattle.std.specs.Prelude.{option_map, find}
use Rattle.std.specs.List.Sorted.{IsStrictlyIncreasing}
use Rattle.std.proofs.lemmas.Bool.{and_parts, cases_lt, eqb-false}
use Rattle.std.proofs.lemmas.Bool.Decides.{nat_tests}
use Rattle.std.proofs.lemmas.List.{get_or-map, length-map}
use Rattle.std.proofs.lemmas.List.Kept.{AllPairs-from_increasing}
use Rattle.std.proofs.lemmas.List.Sums.{fails_before_first, passes_at_first, position_or_len_is, prefix_len-le-length}
use Rattle.subdiv_model.specs.SparseText.{WrittenLevel}
use Rattle.subdiv_model.specs.SparseTexture.{corners_of_face}
use Rattle.sparse_level.specs.Faces.{face_at}
use Rattle.far_text.specs.TexturedLines.{place_in}
use Rattle.far_text.proofs.SparseLemmas.{no_face}

-- The first item of a list that passes, by its place, or none.
module _ {X : Type 0} (p : X → Bool) where
  pub find-is : (xs : List X) (i : ℕ) (d : X) → i < length xs → ((k : ℕ) → k < i → p (get_or xs k d) ≡ false) → p (get_or xs i d) ≡ true → find p xs ≡ Some (get_or xs i d)
  find-is [] i d within fails passes = absurd (omega arith)
  find-is (x ∷ xs) zero d within fails passes = ap (λ b. cond b (Some x) (find p xs)) passes
  find-is (x ∷ xs) (suc i) d within fails passes =
      ap (λ b. cond b (Some x) (find p xs)) (fails zero (omega arith))
      ∙ find-is xs i d (omega (arith, within)) (λ k h. fails (suc k) (omega (arith, h))) passes

  pub find-none : (xs : List X) (d : X) → ((k : ℕ) → k < length xs → p (get_or xs k d) ≡ false) → find p xs ≡ None
  find-none [] d fails = refl
  find-none (x ∷ xs) d fails =
      ap (λ b. cond b (Some x) (find p xs)) (fails zero (omega arith))
      ∙ find-none xs d (λ k h. fails (suc k) (omega (arith, h)))

not-eq : (a b : ℕ) → b < a → nat_eq a b ≡ false
not-eq a b h = grind (arith, nat_tests)

not-eq-above : (a b : ℕ) → a < b → nat_eq a b ≡ false
not-eq-above a b h = grind (arith, nat_tests)

le-true : (a b : ℕ) → a ≤ b → nat_le a b ≡ true
le-true a b h = grind (arith, nat_tests)

true-le : (a b : ℕ) → nat_le a b ≡ true → a ≤ b
true-le a b h = grind (arith, nat_tests)

false-le : (a b : ℕ) → nat_le a b ≡ false → b < a
false-le a b h = grind (arith, nat_tests)

module _ (level : WrittenLevel) where
  -- the place of a number is inside, or at the end
  pub place-within : (number : ℕ) → place_in level number ≤ length level.faces
  place-within number = prefix_len-le-length (λ face. not (nat_le number face.number)) level.faces

  -- a face before the place has a number below, and that at it has none below
  before-place : (number k : ℕ) → k < place_in level number → (face_at level k).number < number
  before-place number k h = false-le number (face_at level k).number (fails_before_first (λ face. nat_le number face.number) level.faces k no_face h)

  at-place : (number : ℕ) → place_in level number < length level.faces → number ≤ (face_at level (place_in level number)).number
  at-place number h = true-le number (face_at level (place_in level number)).number (passes_at_first (λ face. nat_le number face.number) level.faces no_face h)

  -- a face with a lower number is before the place
  pub next-place : (number place : ℕ) → place ≤ place_in level number → place < length level.faces → (face_at level place).number < number
      → place + 1 ≤ place_in level number
  next-place number place low within below = elim (cases_lt place (place_in level number)) [
    | inl less ↦ omega (arith, less)
    | inr past ↦
        let same : place_in level number ≡ place = omega (arith, low, past) in
        let high : number ≤ (face_at level place).number =
        subst (λ k. number ≤ (face_at level k).number) same (at-place number (omega (arith, same, within))) in
        absurd (omega (arith, high, below))
  ]

  -- a face whose number is not below is at the place, if none before it is so
  pub stopped-place : (number place : ℕ) → place ≤ place_in level number → (place < length level.faces → number ≤ (face_at level place).number)
      → place ≡ place_in level number
  stopped-place number place low high =
      sym (position_or_len_is (λ face. nat_le number face.number) level.faces place no_face (omega (arith, low, place-within number))
      (λ k h. fails_before_first (λ face. nat_le number face.number) level.faces k no_face (omega (arith, low, h)))
      (λ within. le-true number (face_at level place).number (high within)))

  -- a greater number has no earlier place
  pub place-rises : (m n : ℕ) → m ≤ n → place_in level m ≤ place_in level n
  place-rises m n h = elim (cases_lt (place_in level n) (place_in level m)) [
    | inl less ↦
        let below = before-place m (place_in level n) less in
        let high = at-place n (omega (arith, less, place-within m)) in
        absurd (omega (arith, below, high, h))
    | inr past ↦ past
  ]

  -- the face at this place exists and has the number
  abbrev is_numbered : ℕ → ℕ → Bool
  is_numbered place number = nat_lt place (length level.faces) && nat_eq number (face_at level place).number

  -- the face at the place of a number has that number or a greater one
  above : (number place : ℕ) → place ≡ place_in level number → is_numbered place number ≡ false → place < length level.faces → number < (face_at level place).number
  above number place is missing within = go (nat_eq number (face_at level place).number) refl
    where
      high : number ≤ (face_at level place).number
      high = subst (λ k. number ≤ (face_at level k).number) (sym is) (at-place number (omega (arith, is, within)))

      go : (b : Bool) → nat_eq number (face_at level place).number ≡ b → number < (face_at level place).number
      go true same = absurd (
          let inside : nat_lt place (length level.faces) ≡ true = grind (arith, nat_tests, within) in
          let wrong : true ≡ false = sym (ap (λ b. b && true) inside) ∙ ap (λ b. nat_lt place (length level.faces) && b) (sym same) ∙ missing in
          cc)
      go false other = let unequal = eqb-false number (face_at level place).number other in omega (arith, high, unequal)

  -- the face with the number is at its place
  pub face-there : (number place : ℕ) → place ≡ place_in level number → is_numbered place number ≡ true
      → Some (face_at level place).corners ≡ corners_of_face level number
  face-there number place is there =
      let both = and_parts (nat_lt place (length level.faces)) (nat_eq number (face_at level place).number) there in
      let within : place < length level.faces = ltb-true _ _ both.0 in
      sym (ap (option_map (λ face. face.corners))
      (find-is (λ face. nat_eq number face.number) level.faces place no_face within
      (λ k h. not-eq number (face_at level k).number (before-place number k (omega (arith, is, h))))
      both.1))

  -- the face does not exist, if the numbers ascend
  pub face-missing : (number place : ℕ) → IsStrictlyIncreasing (map (λ face. face.number) level.faces) → place ≡ place_in level number
      → is_numbered place number ≡ false → None ≡ corners_of_face level number
  face-missing number place ascending is missing =
      sym (ap (option_map (λ face. face.corners)) (find-none (λ face. nat_eq number face.number) level.faces no_face each))
    where
      numbers : List ℕ
      numbers = map (λ face. face.number) level.faces

      rises : (i j : ℕ) → i < j → j < length level.faces → (face_at level i).number < (face_at level j).number
      rises i j less within =
          let up : get_or numbers i 0 < get_or numbers j 0 = AllPairs-from_increasing numbers ascending i j 0 less (omega (arith, within, length-map level.faces (λ face. face.number))) in
          let first : get_or numbers i 0 ≡ (face_at level i).number = get_or-map (λ face. face.number) level.faces i no_face 0 (omega (arith, less, within)) in
          let second : get_or numbers j 0 ≡ (face_at level j).number = get_or-map (λ face. face.number) level.faces j no_face 0 within in
          omega (arith, up, first, second)

      each : (k : ℕ) → k < length level.faces → nat_eq number (face_at level k).number ≡ false
      each k within = elim (cases_lt k place) [
        | inl less ↦ not-eq number (face_at level k).number (before-place number k (omega (arith, is, less)))
        | inr past ↦ not-eq-above number (face_at level k).number (elim (cases_lt place k) [
          | inl further ↦ omega (arith, above number place is missing (omega (arith, further, within)), rises place k further within)
          | inr here ↦
              let same : place ≡ k = omega (arith, past, here) in
              subst (λ i. number < (face_at level i).number) same (above number place is missing (omega (arith, same, within)))
        ])
      ]

-- the number of a later face is greater
pub numbers-rise : (level : WrittenLevel) → IsStrictlyIncreasing (map (λ face. face.number) level.faces) → (f : ℕ) → f + 1 < length level.faces
    → (face_at level f).number ≤ (face_at level (f + 1)).number
numbers-rise level ascending f within =
    let numbers : List ℕ = map (λ face. face.number) level.faces in
    let up : get_or numbers f 0 < get_or numbers (f + 1) 0 =
    AllPairs-from_increasing numbers ascending f (f + 1) 0 (omega arith) (omega (arith, within, length-map level.faces (λ face. face.number))) in
    let first : get_or numbers f 0 ≡ (face_at level f).number = get_or-map (λ face. face.number) level.faces f no_face 0 (omega (arith, within)) in
    let second : get_or numbers (f + 1) 0 ≡ (face_at level (f + 1)).number = get_or-map (λ face. face.number) level.faces (f + 1) no_face 0 within in
    omega (arith, up, first, second)
