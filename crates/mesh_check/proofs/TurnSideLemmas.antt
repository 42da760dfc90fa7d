-- The sides that come to the corners of faces are the sides of the faces: where no two sorted corners have one key, none occurs twice.
use Rattle.std.proofs.Common.{◌≡◌, ℕ, ◌+◌, ◌-◌, ◌≤◌, Bool, true, false, nat_eq, nat_lt, List, [], ◌∷◌, length, map, get_or, cond, arith, refl, ap, sym, ◌∙◌}
use Rattle.std.specs.List.{count_by}
use Rattle.std.proofs.lemmas.Bool.Decides.{nat_tests}
use Rattle.std.proofs.lemmas.Bool.{and_parts, or_parts, eqb-true, eq-eqb}
use Rattle.std.proofs.lemmas.List.Sorted.{sum_by-IsPermutation}
use Rattle.subdiv_model.specs.Polygons.{Polygon, same_side, sides_of, sides_back_to, is_among}
use Rattle.subdiv_model.specs.Lists.{last_of}
use Rattle.subdiv_model.specs.Edges.{all_sides, reversed}
use Rattle.number_laws.proofs.CountLemmas.{one_if, count-cons, count-append}
use Rattle.level_topology.proofs.FanOrderLemmas.{last-at}
use Rattle.mesh_check.specs.declared.turns.Turn.{Turn}
use Rattle.level_builder.specs.Keys.{side_key, Rises, is_again, repeats, has_equal_after, has_equal_neighbours}
use Rattle.mesh_check.specs.Turns.{turns_from, turns_of, turns_after, turn_key, AreSortedTurns}
use Rattle.level_builder.proofs.KeyLemmas.{repeats-count}

-- the side comes to this corner
abbrev comes : ℕ × ℕ → Turn → Bool
comes s t = same_side s (t.before, t.vertex)

-- along a path the sides that come are those that leave, but for the first and the last
path-sides : (s : ℕ × ℕ) (face first before v : ℕ) (rest : Polygon) → count_by (comes s) (turns_from face first before (v ∷ rest)) + one_if (same_side s (last_of v rest, first)) ≡ one_if (same_side s (before, v)) + count_by (same_side s) (sides_back_to first (v ∷ rest))
path-sides s face first before v [] =
    let t : Turn = record { vertex = v; before = before; face = face; after = first } in
    omega (arith, count-cons (comes s) t [], count-cons (same_side s) (v, first) [])
path-sides s face first before v (w ∷ rest) =
    let t : Turn = record { vertex = v; before = before; face = face; after = w } in
    omega (arith, count-cons (comes s) t (turns_from face first v (w ∷ rest)), count-cons (same_side s) (v, w) (sides_back_to first (w ∷ rest)), path-sides s face first v w rest)

-- about a face the sides that come are the sides that go
face-sides : (s : ℕ × ℕ) (face : ℕ) (polygon : Polygon) → count_by (comes s) (turns_of face polygon) ≡ count_by (same_side s) (sides_of polygon)
face-sides s face [] = refl
face-sides s face (v ∷ rest) =
    ap (λ before. count_by (comes s) (turns_from face v before (v ∷ rest))) last ∙ around _ _ (one_if (same_side s (last_of v rest, v))) (path-sides s face v (last_of v rest) v rest)
  where
    last : get_or (v ∷ rest) (length (v ∷ rest) - 1) 0 ≡ last_of v rest
    last = let one : length (v ∷ rest) - 1 ≡ length rest = omega arith in ap (λ n. get_or (v ∷ rest) n 0) one ∙ sym (last-at v rest)

    around : (m n k : ℕ) → m + k ≡ k + n → m ≡ n
    around m n k h = omega (arith, h)

-- a side occurs as often as it comes to a corner
turn-sides : (s : ℕ × ℕ) (k : ℕ) (polygons : List Polygon) → count_by (comes s) (turns_after k polygons) ≡ count_by (same_side s) (all_sides polygons)
turn-sides s k [] = refl
turn-sides s k (polygon ∷ polygons) =
    omega (arith, count-append (comes s) (turns_of k polygon) (turns_after (k + 1) polygons), count-append (same_side s) (sides_of polygon) (all_sides polygons), face-sides s k polygon, turn-sides s (k + 1) polygons)

-- a side comes to at most as many corners as have its number as their key
comes-key : (s : ℕ × ℕ) (turns : List Turn) → count_by (comes s) turns ≤ count_by (nat_eq (side_key (reversed s))) (map turn_key turns)
comes-key s [] = omega arith
comes-key s (t ∷ turns) =
    omega (arith, count-cons (comes s) t turns, count-cons (nat_eq (side_key (reversed s))) (turn_key t) (map turn_key turns), here (comes s t) refl, comes-key s turns)
  where
    here : (b : Bool) → comes s t ≡ b → one_if (comes s t) ≤ one_if (nat_eq (side_key (reversed s)) (turn_key t))
    here false e = rw e (omega arith)
    here true e =
        let parts = and_parts (nat_eq s.0 t.before) (nat_eq s.1 t.vertex) e in
        let one : s.0 ≡ t.before = eqb-true s.0 t.before parts.0 in
        let other : s.1 ≡ t.vertex = eqb-true s.1 t.vertex parts.1 in
        let same : side_key (reversed s) ≡ turn_key t = omega (arith, one, other) in
        rw (e, eq-eqb (side_key (reversed s)) (turn_key t) same) (omega arith)

-- without equal neighbours no number equals the next
none-again : (n : ℕ) (xs : List ℕ) → has_equal_after n xs ≡ false → repeats 1 (n ∷ xs) ≡ []
none-again n [] h = refl
none-again n (m ∷ xs) h =
    let parts = or_parts (nat_eq n m) (has_equal_after m xs) h in
    let last : is_again 1 (n ∷ m ∷ xs) n ≡ false = apart parts.0 in
    rw last (none-again m xs parts.1)
  where
    apart : nat_eq n m ≡ false → is_again 1 (n ∷ m ∷ xs) n ≡ false
    apart e = grind (arith, nat_tests)

none-repeats : (xs : List ℕ) → has_equal_neighbours xs ≡ false → repeats 1 xs ≡ []
none-repeats [] h = refl
none-repeats (n ∷ xs) h = none-again n xs h

-- each of some ascending numbers without equal neighbours occurs once
stands-once : (n : ℕ) (xs : List ℕ) → Rises xs → has_equal_neighbours xs ≡ false → count_by (nat_eq n) xs ≤ 1
stands-once n xs rises h = low (count_by (nat_eq n) xs) (sym (repeats-count 1 n xs rises) ∙ ap (λ ys. is_among ys n) (none-repeats xs h))
  where
    low : (k : ℕ) → nat_lt 1 k ≡ false → k ≤ 1
    low k e = grind (arith, nat_tests)

-- if no side comes to two neighbours among all sorted corners, each side occurs at most once
pub sides-once : (polygons : List Polygon) (turns : List Turn) → AreSortedTurns polygons turns → has_equal_neighbours (map turn_key turns) ≡ false → (s : ℕ × ℕ) → count_by (same_side s) (all_sides polygons) ≤ 1
sides-once polygons turns sorted h s =
    let moved : count_by (comes s) turns ≡ count_by (comes s) (turns_after 0 polygons) = sum_by-IsPermutation (λ t. cond (comes s t) 1 0) (turns_after 0 polygons) turns sorted.moved in
    omega (arith, turn-sides s 0 polygons, moved, comes-key s turns, stands-once (side_key (reversed s)) (map turn_key turns) sorted.keys h)
