-- Each edge once, by first appearance: of the sides that pass a test, and with a mark at the number of each edge that is listed.
use Rattle.std.proofs.Common.{◌≡◌, ℕ, ◌<◌, Bool, true, false, not, ◌&&◌, ◌||◌, nat_eq, nat_le, List, [], ◌∷◌, ◌++◌, length, map, get_or, slice_set, append_assoc, append-nil, nat_lt, ◌≤◌, subst, arith, Result, Ok, Err, refl, ap, sym, ◌∙◌, get_or-set_other, get_or-set_same, if◌then◌else◌}
use Rattle.std.specs.List.{filter, count_by, position_or_len}
use Rattle.std.specs.List.Sorted.{IsBinarySearchResult}
use Rattle.std.specs.Ordering.{nat_cmp}
use Rattle.std.specs.Result.{MatchResult, is_ok}
use Rattle.std.proofs.lemmas.Bool.Decides.{nat_tests}
use Rattle.std.proofs.lemmas.Bool.{eqb-true, eq-eqb}
use Rattle.std.proofs.lemmas.List.Sums.{passes_at_first}
use Rattle.std.proofs.lemmas.List.{set_past}
use Rattle.subdiv_model.specs.Polygons.{Polygon, same_side, same_edge, is_among, is_distinct}
use Rattle.subdiv_model.specs.Edges.{all_sides, first_named, reversed}
use Rattle.subdiv_model.specs.MeshFault.{is_crowded, is_clashing, crowded_edges, clashing_edges}
use Rattle.number_laws.proofs.CountLemmas.{any-count}
use Rattle.level_builder.specs.Keys.{IsWord, AreWords, AreEdgeKeys, Rises, edge_key, each_once, is_unmarked}
use Rattle.level_builder.proofs.KeyLemmas.{edge-key-same}
use Rattle.mesh_check.proofs.EdgeFaultLemmas.{filter-without, crowded-alike, clashing-alike}
use Rattle.mesh_check.proofs.GroupLemmas.{place-of, place-searched}
use Rattle.mesh_check.proofs.MarkLemmas.{no_marks, none-set}
use Rattle.mesh_check.proofs.OnceLemmas.{once-among, words-named, named-among}
use Rattle.level_builder.proofs.SearchLemmas.{search-known}
use Rattle.level_builder.proofs.RestLemmas.{others, first-others, at-first}

-- two filters commute
filter-swap : (p q : ℕ × ℕ → Bool) (xs : List (ℕ × ℕ)) → filter p (filter q xs) ≡ filter q (filter p xs)
filter-swap p q [] = refl
filter-swap p q (x ∷ xs) = go (p x) refl (q x) refl (filter-swap p q xs)
  where
    go : (a : Bool) → p x ≡ a → (b : Bool) → q x ≡ b → filter p (filter q xs) ≡ filter q (filter p xs) → filter p (filter q (x ∷ xs)) ≡ filter q (filter p (x ∷ xs))
    go true e true f behind = rw (f, e, f) (ap (λ ys. x ∷ ys) behind)
    go true e false f behind = rw (f, e, f) behind
    go false e true f behind = rw (f, e) behind
    go false e false f behind = rw (f, e) behind

-- the edges of the sides that pass are the edges that pass, where the sides of an edge pass alike
pub named-kept : (test : ℕ × ℕ → Bool) → ((s t : ℕ × ℕ) → same_edge s t ≡ true → test s ≡ test t) → (sides : List (ℕ × ℕ)) → first_named (filter test sides) ≡ filter test (first_named sides)
named-kept test alike [] = refl
named-kept test alike (s ∷ sides) = go (test s) refl (named-kept test alike sides)
  where
    go : (b : Bool) → test s ≡ b → first_named (filter test sides) ≡ filter test (first_named sides) → first_named (filter test (s ∷ sides)) ≡ filter test (first_named (s ∷ sides))
    go true e behind = rw e (ap (λ ys. s ∷ filter (λ y. not (same_edge s y)) ys) behind ∙ ap (λ ys. s ∷ ys) (filter-swap (λ y. not (same_edge s y)) test (first_named sides)))
    go false e behind = rw e (behind ∙ sym (filter-without test alike s e (first_named sides)))

and-false : (b : Bool) → (b && false) ≡ false
and-false true = refl
and-false false = refl

and-true : (b : Bool) → (b && true) ≡ b
and-true true = refl
and-true false = refl

module _ (keys marks : List ℕ) (once : is_distinct keys ≡ true) (size : length marks ≡ length keys) where
  -- the marks with one more, at the place of a number
  abbrev marked : ℕ → List ℕ
  marked k = slice_set marks (position_or_len (nat_eq k) keys) 1

  -- the number whose place is marked is no more one without a mark, and the others are as they were
  unmarked-set : (k n : ℕ) → is_unmarked keys (marked k) n ≡ (is_unmarked keys marks n && not (nat_eq k n))
  unmarked-set k n = go (is_among keys n) refl (nat_eq k n) refl
    where
      go : (a : Bool) → is_among keys n ≡ a → (b : Bool) → nat_eq k n ≡ b → is_unmarked keys (marked k) n ≡ (is_unmarked keys marks n && not b)
      go false e b f = rw e refl
      go true e true f =
          let same : k ≡ n = eqb-true k n f in
          let there = place-of n keys once e in
          let at : get_or (marked n) (position_or_len (nat_eq n) keys) 0 ≡ 1 = get_or-set_same marks (position_or_len (nat_eq n) keys) 1 0 (omega (arith, there.0, size)) in
          ap (λ m. is_unmarked keys (marked m) n) same
          ∙ ap (λ m. is_among keys n && not (nat_eq m 1)) at
          ∙ and-false (is_among keys n)
          ∙ sym (and-false (is_unmarked keys marks n))
      go true e false f =
          let there = place-of n keys once e in
          let apart = λ (h : position_or_len (nat_eq n) keys ≡ position_or_len (nat_eq k) keys). other h there.0 there.1 in
          ap (λ m. is_among keys n && not (nat_eq m 1)) (get_or-set_other marks (position_or_len (nat_eq k) keys) (position_or_len (nat_eq n) keys) 1 0 apart)
          ∙ sym (and-true (is_unmarked keys marks n))
        where
          other : position_or_len (nat_eq n) keys ≡ position_or_len (nat_eq k) keys → position_or_len (nat_eq n) keys < length keys → get_or keys (position_or_len (nat_eq n) keys) 0 ≡ n → ⊥
          other h inside is =
              let passes : nat_eq k (get_or keys (position_or_len (nat_eq k) keys) 0) ≡ true = passes_at_first (nat_eq k) keys 0 (omega (arith, h, inside)) in
              let same : get_or keys (position_or_len (nat_eq k) keys) 0 ≡ n = ap (λ p. get_or keys p 0) (sym h) ∙ is in
              let both : nat_eq k n ≡ true = ap (nat_eq k) (sym same) ∙ passes in
              absurd (cc)

  -- the edges that are listed after a side are those of other sides that have no mark once that of the side is set
  unmarked-rest : (s : ℕ × ℕ) (xs : List (ℕ × ℕ)) → IsWord s → AreWords xs → filter (λ t. is_unmarked keys marks (edge_key t)) (filter (λ t. not (same_edge s t)) xs) ≡ filter (λ t. is_unmarked keys (marked (edge_key s)) (edge_key t)) xs
  unmarked-rest s [] word words = refl
  unmarked-rest s (t ∷ xs) word words = go (same_edge s t) refl (unmarked-rest s xs word words.1)
    where
      here : (b : Bool) → same_edge s t ≡ b → is_unmarked keys (marked (edge_key s)) (edge_key t) ≡ (is_unmarked keys marks (edge_key t) && not b)
      here b e = unmarked-set (edge_key s) (edge_key t) ∙ ap (λ c. is_unmarked keys marks (edge_key t) && not c) (edge-key-same s t word words.0 ∙ e)

      go : (b : Bool) → same_edge s t ≡ b → filter (λ u. is_unmarked keys marks (edge_key u)) (filter (λ u. not (same_edge s u)) xs) ≡ filter (λ u. is_unmarked keys (marked (edge_key s)) (edge_key u)) xs
          → filter (λ u. is_unmarked keys marks (edge_key u)) (filter (λ u. not (same_edge s u)) (t ∷ xs)) ≡ filter (λ u. is_unmarked keys (marked (edge_key s)) (edge_key u)) (t ∷ xs)
      go true e behind = rw (e, here true e ∙ and-false (is_unmarked keys marks (edge_key t))) behind
      go false e behind =
          rw (e, here false e ∙ and-true (is_unmarked keys marks (edge_key t)))
          (ap (λ ys. if is_unmarked keys marks (edge_key t) then t ∷ ys else ys) behind)

-- a side is listed where its edge has no mark, and the others are listed behind it
pub named-put : (keys marks : List ℕ) (rest : List (ℕ × ℕ)) (d : ℕ × ℕ) (put : Bool) (now new all : List (ℕ × ℕ)) (after : List ℕ)
    → is_distinct keys ≡ true → length marks ≡ length keys → AreWords rest → 1 ≤ length rest
    → put ≡ is_unmarked keys marks (edge_key (get_or rest 0 d))
    → after ≡ slice_set marks (position_or_len (nat_eq (edge_key (get_or rest 0 d))) keys) 1
    → new ≡ (if put then now ++ get_or rest 0 d ∷ [] else now)
    → now ++ filter (λ s. is_unmarked keys marks (edge_key s)) (first_named rest) ≡ all
    → new ++ filter (λ s. is_unmarked keys after (edge_key s)) (first_named (others rest)) ≡ all
named-put keys marks rest d put now new all after once size words some passes set is whole =
    ap (λ ms. new ++ filter (λ t. is_unmarked keys ms (edge_key t)) (first_named (others rest))) set
    ∙ ap (λ ys. new ++ ys) (sym (unmarked-rest keys marks once size s (first_named (others rest)) both.0 (words-named (others rest) both.1)))
    ∙ go put passes is
    ∙ sym (at-first (λ ys. now ++ filter (λ t. is_unmarked keys marks (edge_key t)) (first_named ys)) rest d some)
    ∙ whole
  where
    s : ℕ × ℕ
    s = get_or rest 0 d

    behind : List (ℕ × ℕ)
    behind = filter (λ t. is_unmarked keys marks (edge_key t)) (filter (λ t. not (same_edge s t)) (first_named (others rest)))

    both : AreWords (s ∷ others rest)
    both = subst AreWords (first-others rest d some) words

    go : (b : Bool) → b ≡ is_unmarked keys marks (edge_key s) → new ≡ (if b then now ++ s ∷ [] else now) → new ++ behind ≡ now ++ filter (λ t. is_unmarked keys marks (edge_key t)) (first_named (s ∷ others rest))
    go true e made = ap (λ ys. ys ++ behind) made ∙ append_assoc now (s ∷ []) behind ∙ ap (λ b. now ++ (if b then s ∷ behind else behind)) e
    go false e made = ap (λ ys. ys ++ behind) made ∙ ap (λ b. now ++ (if b then s ∷ behind else behind)) e

-- if the number of each side passes, all are kept
kept-all : (test : ℕ → Bool) (sides : List (ℕ × ℕ)) → ((n : ℕ) → is_among (map edge_key sides) n ≡ true → test n ≡ true) → filter (λ s. test (edge_key s)) sides ≡ sides
kept-all test [] passes = refl
kept-all test (s ∷ sides) passes =
    let here : test (edge_key s) ≡ true = passes (edge_key s) (ap (λ b. b || is_among (map edge_key sides) (edge_key s)) (eq-eqb (edge_key s) (edge_key s) refl)) in
    rw here (ap (λ ys. s ∷ ys) (kept-all test sides (λ n h. passes n (more n h))))
  where
    more : (n : ℕ) → is_among (map edge_key sides) n ≡ true → (nat_eq n (edge_key s) || is_among (map edge_key sides) n) ≡ true
    more n h = grind (arith, nat_tests)

-- the numbers of all edges, each once, have no mark at the start
pub named-start : (sides : List (ℕ × ℕ)) (edges keys marks : List ℕ) (n : ℕ) → AreEdgeKeys sides edges → keys ≡ each_once edges → marks ≡ no_marks n → filter (λ s. is_unmarked keys marks (edge_key s)) (first_named sides) ≡ first_named sides
named-start sides edges keys marks n are is none = kept-all (is_unmarked keys marks) (first_named sides) (λ m h.
    let known : is_among keys m ≡ true =
    ap (λ ks. is_among ks m) is ∙ once-among edges m ∙ any-count (nat_eq m) edges ∙ ap (nat_lt 0) (are.often m) ∙ sym (any-count (nat_eq m) (map edge_key sides)) ∙ sym (named-among m sides are.words) ∙ h in
    let bare : get_or marks (position_or_len (nat_eq m) keys) 0 ≡ 0 = none-set marks n (position_or_len (nat_eq m) keys) none in
    ap (λ b. b && not (nat_eq (get_or marks (position_or_len (nat_eq m) keys) 0) 1)) known ∙ ap (λ k. not (nat_eq k 1)) bare)

-- at the end all are listed
pub named-end : (keys marks : List ℕ) (rest now all : List (ℕ × ℕ)) → length rest < 1 → now ++ filter (λ s. is_unmarked keys marks (edge_key s)) (first_named rest) ≡ all → now ≡ all
named-end keys marks [] now all none whole = sym (append-nil now) ∙ whole
named-end keys marks (s ∷ rest) now all none whole = absurd (omega arith)

-- a number that is searched and found has no mark where its place has none
pub found-new : (keys marks : List ℕ) (n place : ℕ) (r : Result ℕ ℕ) (was : Bool) → IsBinarySearchResult (λ y. nat_cmp y n) keys r → r ≡ Ok place → Rises keys → is_distinct keys ≡ true
    → was ≡ nat_eq (get_or marks place 0) 1 → (not was ≡ is_unmarked keys marks n) × (place ≡ position_or_len (nat_eq n) keys)
found-new keys marks n place r was found is rises once at =
    let there : place ≡ position_or_len (nat_eq n) keys = subst (λ s. MatchResult s (λ i. i ≡ position_or_len (nat_eq n) keys) (λ i. length keys ≡ position_or_len (nat_eq n) keys)) is (place-searched keys n r found rises once) in
    let known : true ≡ is_among keys n = search-known keys n r true found rises (sym (ap is_ok is)) in
    (ap not (at ∙ ap (λ p. nat_eq (get_or marks p 0) 1) there) ∙ ap (λ b. b && not (nat_eq (get_or marks (position_or_len (nat_eq n) keys) 0) 1)) known, there)

-- one that is not found is none of them, and no place is marked
pub missed-new : (keys marks : List ℕ) (n place : ℕ) (r : Result ℕ ℕ) → IsBinarySearchResult (λ y. nat_cmp y n) keys r → r ≡ Err place → Rises keys → is_distinct keys ≡ true
    → length marks ≡ length keys → (false ≡ is_unmarked keys marks n) × (marks ≡ slice_set marks (position_or_len (nat_eq n) keys) 1)
missed-new keys marks n place r found is rises once size =
    let none : length keys ≡ position_or_len (nat_eq n) keys = subst (λ s. MatchResult s (λ i. i ≡ position_or_len (nat_eq n) keys) (λ i. length keys ≡ position_or_len (nat_eq n) keys)) is (place-searched keys n r found rises once) in
    let off : false ≡ is_among keys n = search-known keys n r false found rises (sym (ap is_ok is)) in
    (ap (λ b. b && not (nat_eq (get_or marks (position_or_len (nat_eq n) keys) 0) 1)) off, sym (set_past marks (position_or_len (nat_eq n) keys) 1 (omega (arith, none, size))))

-- behind a side there are words, where all are
pub words-behind : (rest : List (ℕ × ℕ)) (d : ℕ × ℕ) → 1 ≤ length rest → AreWords rest → AreWords (others rest)
words-behind rest d some words = let both : AreWords (get_or rest 0 d ∷ others rest) = subst AreWords (first-others rest d some) words in both.1

-- the sides of crowded edges that name their edges first are the crowded edges
pub crowded-listed : (polygons : List Polygon) (slice named found : List (ℕ × ℕ)) → slice ≡ all_sides polygons → named ≡ filter (λ s. nat_le 3 (count_by (same_edge s) slice)) slice → found ≡ first_named named → found ≡ crowded_edges polygons
crowded-listed polygons slice named found at kept is =
    is ∙ ap first_named (kept ∙ ap (λ ss. filter (λ s. nat_le 3 (count_by (same_edge s) ss)) ss) at)
    ∙ named-kept (is_crowded polygons) (crowded-alike polygons) (all_sides polygons)

-- the sides of clashing edges that name their edges first are the clashing edges
pub clashing-listed : (polygons : List Polygon) (slice named found : List (ℕ × ℕ)) → slice ≡ all_sides polygons → named ≡ filter (λ s. nat_le 2 (count_by (same_side s) slice) || nat_le 2 (count_by (same_side (reversed s)) slice)) slice → found ≡ first_named named → found ≡ clashing_edges polygons
clashing-listed polygons slice named found at kept is =
    is ∙ ap first_named (kept ∙ ap (λ ss. filter (λ s. nat_le 2 (count_by (same_side s) ss) || nat_le 2 (count_by (same_side (reversed s)) ss)) ss) at)
    ∙ named-kept (is_clashing polygons) (clashing-alike polygons) (all_sides polygons)
