-- Numbers by first appearance depend on nothing but which items are equal: labels have the numbers of the items that they label.
use Rattle.std.proofs.Common.{◌≡◌, ℕ, ◌+◌, ◌<◌, Bool, true, false, not, nat_eq, nat_lt, List, [], ◌∷◌, length, map, get_or, arith, refl, ap, sym, ◌∙◌}
use Rattle.std.specs.List.{filter, list_all, position_or_len, range_with_len}
use Rattle.std.proofs.lemmas.Bool.{and_parts, and_from, ltb-true, lt-ltb, eq-eqb, eqb-true}
use Rattle.std.proofs.lemmas.List.FromFn.{fill_by_all}
use Rattle.subdiv_model.specs.Lists.{each_once_by}
use Rattle.subdiv_model.specs.Polygons.{same_side}
use Rattle.subdiv_model.specs.ObjMesh.{ObjMesh}
use Rattle.number_laws.proofs.ListLemmas.{all-kept}
use Rattle.mesh_laws.proofs.SideLemmas.{same_side-refl}
use Rattle.mesh_laws.proofs.ChildClosedLemmas.{same-pair}
use Rattle.mesh_laws.proofs.WalkLemmas.{range-all}
use Rattle.texture_laws.proofs.ReachLemmas.{same-tests}
use Rattle.face_varying.specs.Corners.{AreLabels, corner_points, corner_numbers, numbers_of}

-- the place of each item among all by first appearance
abbrev numbers_by : {X : Type 0} → (X → X → Bool) → List X → List ℕ
numbers_by same xs = map (λ x. position_or_len (same x) (each_once_by same xs)) xs

module _ {X Y : Type 0} (same : Y → Y → Bool) (f : X → Y) where
  abbrev same_at : X → X → Bool
  same_at i j = same (f i) (f j)

  filter-at : (p : Y → Bool) (xs : List X) → filter p (map f xs) ≡ map f (filter (λ x. p (f x)) xs)
  filter-at p [] = refl
  filter-at p (x ∷ xs) = here (p (f x)) refl (filter-at p xs)
    where
      here : (b : Bool) → p (f x) ≡ b → filter p (map f xs) ≡ map f (filter (λ y. p (f y)) xs) → filter p (map f (x ∷ xs)) ≡ map f (filter (λ y. p (f y)) (x ∷ xs))
      here true e behind = rw e (ap (λ (ys : List Y). f x ∷ ys) behind)
      here false e behind = rw e behind

  once-at : (xs : List X) → each_once_by same (map f xs) ≡ map f (each_once_by same_at xs)
  once-at [] = refl
  once-at (x ∷ xs) =
      ap (λ (ys : List Y). f x ∷ filter (λ y. not (same (f x) y)) ys) (once-at xs) ∙ ap (λ (ys : List Y). f x ∷ ys) (filter-at (λ y. not (same (f x) y)) (each_once_by same_at xs))

  place-at : (p : Y → Bool) (xs : List X) → position_or_len p (map f xs) ≡ position_or_len (λ x. p (f x)) xs
  place-at p [] = refl
  place-at p (x ∷ xs) = here (p (f x)) refl (place-at p xs)
    where
      here : (b : Bool) → p (f x) ≡ b → position_or_len p (map f xs) ≡ position_or_len (λ y. p (f y)) xs → position_or_len p (map f (x ∷ xs)) ≡ position_or_len (λ y. p (f y)) (x ∷ xs)
      here true e behind = rw e refl
      here false e behind = rw e (ap (λ n. 1 + n) behind)

  places-at : (once xs : List X) → map (λ y. position_or_len (same y) (map f once)) (map f xs) ≡ map (λ x. position_or_len (same_at x) once) xs
  places-at once [] = refl
  places-at once (x ∷ xs) =
      ap (λ (n : ℕ). n ∷ map (λ y. position_or_len (same y) (map f once)) (map f xs)) (place-at (same (f x)) once) ∙ ap (λ (ns : List ℕ). position_or_len (same_at x) once ∷ ns) (places-at once xs)

  -- the numbers of the items' values are those of the items, by the test of the values
  numbers-at : (xs : List X) → numbers_by same (map f xs) ≡ numbers_by same_at xs
  numbers-at xs = ap (λ (once : List Y). map (λ y. position_or_len (same y) once) (map f xs)) (once-at xs) ∙ places-at (each_once_by same_at xs) xs

-- two tests that agree below a number
module _ (n : ℕ) (s t : ℕ → ℕ → Bool) (agree : (i j : ℕ) → i < n → j < n → s i j ≡ t i j) where
  abbrev are_below : List ℕ → Bool
  are_below xs = list_all (λ i. nat_lt i n) xs

  filter-agree : (i : ℕ) (xs : List ℕ) → i < n → are_below xs ≡ true → filter (λ j. not (s i j)) xs ≡ filter (λ j. not (t i j)) xs
  filter-agree i [] inside below = refl
  filter-agree i (x ∷ xs) inside below =
      let parts = and_parts (nat_lt x n) (are_below xs) below in
      here (t i x) refl (agree i x inside (ltb-true x n parts.0)) (filter-agree i xs inside parts.1)
    where
      here : (b : Bool) → t i x ≡ b → s i x ≡ t i x → filter (λ j. not (s i j)) xs ≡ filter (λ j. not (t i j)) xs → filter (λ j. not (s i j)) (x ∷ xs) ≡ filter (λ j. not (t i j)) (x ∷ xs)
      here true e same behind = let other = same ∙ e in rw (other, e) behind
      here false e same behind = let other = same ∙ e in rw (other, e) (ap (λ (ys : List ℕ). x ∷ ys) behind)

  place-agree : (i : ℕ) (xs : List ℕ) → i < n → are_below xs ≡ true → position_or_len (s i) xs ≡ position_or_len (t i) xs
  place-agree i [] inside below = refl
  place-agree i (x ∷ xs) inside below =
      let parts = and_parts (nat_lt x n) (are_below xs) below in
      here (t i x) refl (agree i x inside (ltb-true x n parts.0)) (place-agree i xs inside parts.1)
    where
      here : (b : Bool) → t i x ≡ b → s i x ≡ t i x → position_or_len (s i) xs ≡ position_or_len (t i) xs → position_or_len (s i) (x ∷ xs) ≡ position_or_len (t i) (x ∷ xs)
      here true e same behind = let other = same ∙ e in rw (other, e) refl
      here false e same behind = let other = same ∙ e in rw (other, e) (ap (λ k. 1 + k) behind)

  once-below : (xs : List ℕ) → are_below xs ≡ true → are_below (each_once_by t xs) ≡ true
  once-below [] below = refl
  once-below (x ∷ xs) below =
      let parts = and_parts (nat_lt x n) (are_below xs) below in
      and_from _ _ parts.0 (all-kept (λ y. not (t x y)) (λ i. nat_lt i n) (each_once_by t xs) (once-below xs parts.1))

  once-agree : (xs : List ℕ) → are_below xs ≡ true → each_once_by s xs ≡ each_once_by t xs
  once-agree [] below = refl
  once-agree (x ∷ xs) below =
      let parts = and_parts (nat_lt x n) (are_below xs) below in
      ap (λ (ys : List ℕ). x ∷ filter (λ y. not (s x y)) ys) (once-agree xs parts.1)
      ∙ ap (λ (ys : List ℕ). x ∷ ys) (filter-agree x (each_once_by t xs) (ltb-true x n parts.0) (once-below xs parts.1))

  places-agree : (once xs : List ℕ) → are_below once ≡ true → are_below xs ≡ true → map (λ x. position_or_len (s x) once) xs ≡ map (λ x. position_or_len (t x) once) xs
  places-agree once [] all below = refl
  places-agree once (x ∷ xs) all below =
      let parts = and_parts (nat_lt x n) (are_below xs) below in
      ap (λ (k : ℕ). k ∷ map (λ y. position_or_len (s y) once) xs) (place-agree x once (ltb-true x n parts.0) all) ∙ ap (λ (ns : List ℕ). position_or_len (t x) once ∷ ns) (places-agree once xs all parts.1)

  numbers-agree : (xs : List ℕ) → are_below xs ≡ true → numbers_by s xs ≡ numbers_by t xs
  numbers-agree xs below = ap (λ (once : List ℕ). map (λ x. position_or_len (s x) once) xs) (once-agree xs below) ∙ places-agree (each_once_by t xs) xs (once-below xs below) below

-- labels have the numbers of the items that they label
label-numbers : (items : List (ℕ × ℕ)) (labels : List ℕ) → AreLabels items labels → numbers_of labels ≡ map (λ item. position_or_len (same_side item) (each_once_by same_side items)) items
label-numbers items labels are =
    let n : ℕ = length items in
    let label : ℕ → ℕ = λ (i : ℕ). get_or labels i 0 in
    let item : ℕ → ℕ × ℕ = λ (i : ℕ). get_or items i (0, 0) in
    let range : List ℕ = range_with_len 0 n in
    let labels_are : labels ≡ map label range = fill_by_all label labels n 0 are.each (λ k h. refl) in
    let items_are : items ≡ map item range = fill_by_all item items n (0, 0) refl (λ k h. refl) in
    let agree : (i j : ℕ) → i < n → j < n → nat_eq (label i) (label j) ≡ same_side (item i) (item j) = λ i j h k.
    same-tests _ _ (λ e. same-is _ _ ((are.same i j h k).0 (eqb-true _ _ e))) (λ e. eq-eqb _ _ ((are.same i j h k).1 (same-pair _ _ e))) in
    ap (numbers_by nat_eq) labels_are
    ∙ numbers-at nat_eq label range
    ∙ numbers-agree n (λ i j. nat_eq (label i) (label j)) (λ i j. same_side (item i) (item j)) agree range (range-all (λ i. nat_lt i n) 0 n (λ i h. lt-ltb i n (omega (arith, h))))
    ∙ sym (numbers-at same_side item range)
    ∙ sym (ap (numbers_by same_side) items_are)
  where
    same-is : (p q : ℕ × ℕ) → p ≡ q → same_side p q ≡ true
    same-is p q e = ap (same_side p) (sym e) ∙ same_side-refl p

-- numbers by the labels of all corners are numbers by their channel points
pub labelled-numbers : (mesh : ObjMesh) (labels slice numbers : List ℕ) → AreLabels (corner_points mesh) labels → slice ≡ labels → numbers ≡ numbers_of slice → numbers ≡ corner_numbers mesh
labelled-numbers mesh labels slice numbers are same is = is ∙ ap numbers_of same ∙ label-numbers (corner_points mesh) labels are
