-- The number of edges that end at a point, from the numbers of the edges.
use Rattle.std.proofs.Common.{◌≡◌, ℕ, suc, ◌+◌, ◌*◌, ◌/◌, ◌%◌, ◌<◌, ◌≤◌, ◌^◌, Bool, true, false, not, nat_eq, nat_le, nat_lt, List, [], ◌∷◌, length, map, arith, refl, ap, sym, ◌∙◌, get_or, subst, take, drop, ◌⊎◌, inl, inr, if◌then◌else◌}
use Rattle.std.specs.List.{All, list_all, list_any, count_by, sum_by}
use Rattle.std.specs.List.Sorted.{IsPermutation}
use Rattle.std.proofs.lemmas.Bool.Decides.{nat_tests}
use Rattle.std.proofs.lemmas.Bool.{and_from, and_parts, or_cases, eqb-true, eq-eqb, false_from_ne_true}
use Rattle.std.proofs.lemmas.List.{length-map, take_all}
use Rattle.std.proofs.lemmas.List.Sorted.{sum_by-IsPermutation, length_permutation}
use Rattle.std.proofs.lemmas.List.Sums.{AllPass-from_list_all, count_by-le-length, length-filter, list_all-from_AllPass, sum_by-cons}
use Rattle.std.proofs.lemmas.List.Folds.{list_any_at}
use Rattle.subdiv_model.specs.Polygons.{Polygon, same_side, same_edge, sides_of, is_among, is_over}
use Rattle.subdiv_model.specs.Edges.{all_sides, edges_of, edges_of_point, first_named, has_end}
use Rattle.subdiv_model.specs.Manifold.{is_simple}
use Rattle.number_laws.proofs.CountLemmas.{any-count, any-weaker, all-flat_map, all-weaker, count-cons, one_if}
use Rattle.number_laws.proofs.ListLemmas.{all-kept}
use Rattle.mesh_laws.proofs.ChildCountLemmas.{is_inside, sides-inside}
use Rattle.mesh_laws.proofs.PointLemmas.{among-themselves}
use Rattle.mesh_laws.proofs.SideLemmas.{no-side-back}
use Rattle.level_topology.proofs.ChildLemmas.{edges-corners}
use Rattle.level_topology.proofs.FanOrderLemmas.{same-permutation}
use Rattle.level_builder.specs.NumberedEdges.{low_first}
use Rattle.level_builder.specs.Keys.{IsWord, AreWords, AreEdgeKeys, edge_key, ends_of_key, is_again, each_once}
use Rattle.mesh_check.proofs.OnceLemmas.{once-among, once-distinct, named-among, named-distinct, words-named}

-- the numbers of edges, each once, are those of the edges by first appearance in another order
pub edges-once : (sides : List (ℕ × ℕ)) (keys : List ℕ) → AreEdgeKeys sides keys → IsPermutation (map edge_key (first_named sides)) (each_once keys)
edges-once sides keys are =
    same-permutation (map edge_key (first_named sides)) (each_once keys) (named-distinct sides are.words) (once-distinct keys are.rises) (λ n.
    named-among n sides are.words
    ∙ any-count (nat_eq n) (map edge_key sides) ∙ ap (nat_lt 0) (sym (are.often n)) ∙ sym (any-count (nat_eq n) keys)
    ∙ sym (once-among keys n))

-- the two ends differ
abbrev pub is_open : ℕ × ℕ → Bool
is_open s = not (nat_eq s.0 s.1)

-- a side of a simple face has two ends
sides-open : (polygons : List Polygon) → list_all is_simple polygons ≡ true → list_all is_open (all_sides polygons) ≡ true
sides-open polygons simple = all-flat_map is_open sides_of polygons ∙ all-weaker is_simple (λ p. list_all is_open (sides_of p)) face polygons simple
  where
    side : (p : Polygon) → is_simple p ≡ true → (s : ℕ × ℕ) → list_any (same_side s) (sides_of p) ≡ true → is_open s ≡ true
    side p one s h = ap not (false_from_ne_true (nat_eq s.0 s.1) (λ same. absurd (clash same)))
      where
        back : nat_eq s.0 s.1 ≡ true → (t : ℕ × ℕ) → same_side s t ≡ true → same_side (s.1, s.0) t ≡ true
        back same t k = grind (arith, nat_tests)

        clash : nat_eq s.0 s.1 ≡ true → ⊥
        clash same = no-side-back p s.0 s.1 one h (any-weaker (same_side s) (same_side (s.1, s.0)) (back same) (sides_of p) h)

    face : (p : Polygon) → is_simple p ≡ true → list_all is_open (sides_of p) ≡ true
    face p one = all-weaker (λ s. list_any (same_side s) (sides_of p)) is_open (side p one) (sides_of p) (among-themselves (sides_of p))

open-named : (sides : List (ℕ × ℕ)) → list_all is_open sides ≡ true → list_all is_open (first_named sides) ≡ true
open-named [] h = refl
open-named (s ∷ sides) h =
    let parts = and_parts (is_open s) (list_all is_open sides) h in
    and_from _ _ parts.0 (all-kept (λ x. not (same_edge s x)) is_open (first_named sides) (open-named sides parts.1))

-- how often a point is an end of the edge with a number
abbrev pub ends_at : ℕ → ℕ → ℕ
ends_at v key = count_by (nat_eq v) (ends_of_key key)

low-ends : (s : ℕ × ℕ) → IsWord s → ((edge_key s) / 2 ^ 32 ≡ (low_first s).0) × ((edge_key s) % 2 ^ 32 ≡ (low_first s).1)
low-ends s word = go (nat_le s.0 s.1) refl
  where
    low : (a b : ℕ) → b < 2 ^ 32 → (a * 2 ^ 32 + b) / 2 ^ 32 ≡ a
    low a b h = omega arith

    high : (a b : ℕ) → b < 2 ^ 32 → (a * 2 ^ 32 + b) % 2 ^ 32 ≡ b
    high a b h = omega arith

    go : (b : Bool) → nat_le s.0 s.1 ≡ b → ((edge_key s) / 2 ^ 32 ≡ (low_first s).0) × ((edge_key s) % 2 ^ 32 ≡ (low_first s).1)
    go true e = rw e (low s.0 s.1 word.1, high s.0 s.1 word.1)
    go false e = rw e (low s.1 s.0 word.0, high s.1 s.0 word.0)

-- an edge of two ends is counted once at each
key-ends : (v : ℕ) (s : ℕ × ℕ) → IsWord s → is_open s ≡ true → ends_at v (edge_key s) ≡ one_if (has_end v s)
key-ends v s word apart =
    let halves = low-ends s word in
    ap (λ a. count_by (nat_eq v) (a ∷ (edge_key s % 2 ^ 32) ∷ [])) halves.0
    ∙ ap (λ b. count_by (nat_eq v) ((low_first s).0 ∷ b ∷ [])) halves.1
    ∙ go (nat_le s.0 s.1) refl (nat_eq v s.0) refl (nat_eq v s.1) refl
  where
    both : nat_eq v s.0 ≡ true → nat_eq v s.1 ≡ true → ⊥
    both p q = grind (arith, nat_tests)

    go : (b : Bool) → nat_le s.0 s.1 ≡ b → (c : Bool) → nat_eq v s.0 ≡ c → (d : Bool) → nat_eq v s.1 ≡ d → count_by (nat_eq v) ((low_first s).0 ∷ (low_first s).1 ∷ []) ≡ one_if (has_end v s)
    go b e true f true g = absurd (both f g)
    go true e true f false g = rw (e, f, g) refl
    go true e false f true g = rw (e, f, g) refl
    go true e false f false g = rw (e, f, g) refl
    go false e true f false g = rw (e, f, g) refl
    go false e false f true g = rw (e, f, g) refl
    go false e false f false g = rw (e, f, g) refl

keys-ends : (v : ℕ) (edges : List (ℕ × ℕ)) → AreWords edges → list_all is_open edges ≡ true → sum_by (ends_at v) (map edge_key edges) ≡ count_by (has_end v) edges
keys-ends v [] words h = refl
keys-ends v (s ∷ edges) words h =
    let parts = and_parts (is_open s) (list_all is_open edges) h in
    omega (arith, sum_by-cons (ends_at v) (edge_key s) (map edge_key edges), count-cons (has_end v) s edges, key-ends v s words.0 parts.0, keys-ends v edges words.1 parts.1)

-- at each point as many ends are counted as edges end there
pub ends-counted : (polygons : List Polygon) (keys : List ℕ) (v : ℕ) → list_all is_simple polygons ≡ true → AreEdgeKeys (all_sides polygons) keys → sum_by (ends_at v) (each_once keys) ≡ length (edges_of_point polygons v)
ends-counted polygons keys v simple are =
    sum_by-IsPermutation (ends_at v) (map edge_key (edges_of polygons)) (each_once keys) (edges-once (all_sides polygons) keys are)
    ∙ keys-ends v (edges_of polygons) (words-named (all_sides polygons) are.words) (open-named (all_sides polygons) (sides-open polygons simple))
    ∙ sym (length-filter (has_end v) (edges_of polygons))

-- there are no more edges than corners
pub once-few : (polygons : List Polygon) (keys : List ℕ) → AreEdgeKeys (all_sides polygons) keys → length (each_once keys) ≤ sum_by length polygons
once-few polygons keys are =
    omega (
      arith,
      length_permutation (map edge_key (edges_of polygons)) (each_once keys) (edges-once (all_sides polygons) keys are),
      length-map (edges_of polygons) edge_key,
      edges-corners polygons,
    )

-- both ends of the edge that a number names are points
abbrev pub is_key_inside : ℕ → ℕ → Bool
is_key_inside points key = list_all (λ v. nat_lt v points) (ends_of_key key)

key-inside : (points : ℕ) (s : ℕ × ℕ) → IsWord s → is_inside points s ≡ true → is_key_inside points (edge_key s) ≡ true
key-inside points s word h =
    let halves = low-ends s word in
    ap (λ a. list_all (λ v. nat_lt v points) (a ∷ (edge_key s % 2 ^ 32) ∷ [])) halves.0
    ∙ ap (λ b. list_all (λ v. nat_lt v points) ((low_first s).0 ∷ b ∷ [])) halves.1
    ∙ go (nat_le s.0 s.1) refl (and_parts (nat_lt s.0 points) (nat_lt s.1 points) h)
  where
    go : (b : Bool) → nat_le s.0 s.1 ≡ b → (nat_lt s.0 points ≡ true) × (nat_lt s.1 points ≡ true) → list_all (λ v. nat_lt v points) ((low_first s).0 ∷ (low_first s).1 ∷ []) ≡ true
    go true e ends = let p = ends.0 in let q = ends.1 in rw (e, p, q) refl
    go false e ends = let p = ends.0 in let q = ends.1 in rw (e, p, q) refl

member-inside : (points n : ℕ) (sides : List (ℕ × ℕ)) → AreWords sides → list_all (is_inside points) sides ≡ true → is_among (map edge_key sides) n ≡ true → is_key_inside points n ≡ true
member-inside points n [] words h there = absurd (cc)
member-inside points n (s ∷ sides) words h there =
    let parts = and_parts (is_inside points s) (list_all (is_inside points) sides) h in
    go (or_cases (nat_eq n (edge_key s)) (is_among (map edge_key sides) n) there) parts.0 (member-inside points n sides words.1 parts.1)
  where
    go : (nat_eq n (edge_key s) ≡ true) ⊎ (is_among (map edge_key sides) n ≡ true) → is_inside points s ≡ true → (is_among (map edge_key sides) n ≡ true → is_key_inside points n ≡ true) → is_key_inside points n ≡ true
    go (inl same) inside behind = ap (is_key_inside points) (eqb-true n (edge_key s) same) ∙ key-inside points s words.0 inside
    go (inr later) inside behind = behind later

-- the numbers of the edges of faces over points name points
pub keys-inside : (points : ℕ) (polygons : List Polygon) (keys : List ℕ) → All (λ face. All (λ v. v < points) face) polygons → AreEdgeKeys (all_sides polygons) keys → All (λ key. All (λ v. v < points) (ends_of_key key)) keys
keys-inside points polygons keys within are k d h i e j =
    least (get_or (ends_of_key (get_or keys k d)) i e)
    (AllPass-from_list_all (λ v. nat_lt v points) (ends_of_key (get_or keys k d)) (member-inside points (get_or keys k d) (all_sides polygons) are.words (sides-inside points polygons over) there) i e j)
  where
    least : (n : ℕ) → nat_lt n points ≡ true → n < points
    least n p = grind (arith, nat_tests)

    most : (n : ℕ) → n < points → nat_lt n points ≡ true
    most n p = grind (arith, nat_tests)

    over : is_over points polygons ≡ true
    over = list_all-from_AllPass (list_all (λ v. nat_lt v points)) polygons (λ f c x. list_all-from_AllPass (λ v. nat_lt v points) (get_or polygons f c) (λ a b y. most _ (within f c x a b y)))

    there : is_among (map edge_key (all_sides polygons)) (get_or keys k d) ≡ true
    there =
        any-count (nat_eq (get_or keys k d)) (map edge_key (all_sides polygons)) ∙ ap (nat_lt 0) (sym (are.often (get_or keys k d))) ∙ sym (any-count (nat_eq (get_or keys k d)) keys)
        ∙ list_any_at (nat_eq (get_or keys k d)) keys k d h (eq-eqb (get_or keys k d) (get_or keys k d) refl)

-- a list with at least one number is its first and at most n others
pub first-split : (rest : List ℕ) (n : ℕ) → 1 ≤ length rest → length rest ≤ n + 1 → rest ≡ get_or rest 0 0 ∷ take n (drop 1 rest)
first-split [] n h k = absurd (omega arith)
first-split (x ∷ rest) n h k = ap (λ xs. x ∷ xs) (sym (take_all n rest (omega arith)))

module _ (v key : ℕ) (others rest : List ℕ) (old new : ℕ) (again : Bool) (whole : rest ≡ key ∷ others) (is : again ≡ is_again 1 rest key) (counted : new ≡ old + (if again then 0 else ends_at v key)) where
  here : again ≡ is_again 1 (key ∷ others) key
  here = is ∙ ap (λ (xs : List ℕ). is_again 1 xs key) whole

  -- the ends of one edge more are counted, where its number does not come again
  pub ends-more : (total : ℕ) → old + sum_by (ends_at v) (each_once rest) ≡ total → new + sum_by (ends_at v) (each_once others) ≡ total
  ends-more total h = go again here counted (ap (λ xs. old + sum_by (ends_at v) (each_once xs)) (sym whole) ∙ h)
    where
      go : (b : Bool) → b ≡ is_again 1 (key ∷ others) key → new ≡ old + (if b then 0 else ends_at v key) → old + sum_by (ends_at v) (each_once (key ∷ others)) ≡ total → new + sum_by (ends_at v) (each_once others) ≡ total
      go true e n k =
          let same : sum_by (ends_at v) (each_once (key ∷ others)) ≡ sum_by (ends_at v) (each_once others) = rw (sym e) refl in
          omega (arith, same, n, k)
      go false e n k =
          let more : sum_by (ends_at v) (each_once (key ∷ others)) ≡ ends_at v key + sum_by (ends_at v) (each_once others) = rw (sym e) (sum_by-cons (ends_at v) key (each_once others)) in
          omega (arith, more, n, k)

  -- the counts stay small
  pub ends-room : (total : ℕ) → old + 2 * length (each_once rest) ≤ total → new + 2 * length (each_once others) ≤ total
  ends-room total h = go again here counted (omega (arith, h, ap (λ xs. length (each_once xs)) whole))
    where
      go : (b : Bool) → b ≡ is_again 1 (key ∷ others) key → new ≡ old + (if b then 0 else ends_at v key) → old + 2 * length (each_once (key ∷ others)) ≤ total → new + 2 * length (each_once others) ≤ total
      go true e n k =
          let same : length (each_once (key ∷ others)) ≡ length (each_once others) = rw (sym e) refl in
          omega (arith, same, n, k)
      go false e n k =
          let more : length (each_once (key ∷ others)) ≡ suc (length (each_once others)) = rw (sym e) refl in
          let two : ends_at v key ≤ 2 = count_by-le-length (nat_eq v) (ends_of_key key) in
          omega (arith, more, n, k, two)

-- the ends of all edges are points, so the ends of the edges after the first are points too
pub inside-more : (points key : ℕ) (others rest : List ℕ) → rest ≡ key ∷ others → All (λ key. All (λ v. v < points) (ends_of_key key)) rest → All (λ key. All (λ v. v < points) (ends_of_key key)) others
inside-more points key others rest whole h k d i = (subst (All (λ key. All (λ v. v < points) (ends_of_key key))) whole h) (suc k) d (omega arith)
