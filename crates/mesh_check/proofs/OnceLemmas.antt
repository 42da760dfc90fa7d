-- Numbers that ascend, each once.
use Rattle.std.proofs.Common.{◌≡◌, ℕ, ◌+◌, ◌≤◌, Bool, true, false, not, ◌||◌, nat_eq, nat_le, nat_lt, List, [], ◌∷◌, map, arith, refl, ap, sym, ◌∙◌}
use Rattle.std.specs.List.{filter, list_all, count_by}
use Rattle.std.proofs.lemmas.Bool.Decides.{nat_tests}
use Rattle.std.proofs.lemmas.Bool.{and_parts, and_from, eqb-true, eq-eqb}
use Rattle.subdiv_model.specs.Polygons.{same_edge, is_among, is_distinct}
use Rattle.subdiv_model.specs.Edges.{first_named}
use Rattle.number_laws.proofs.CountLemmas.{any-count, count-cons, one_if, one-yes}
use Rattle.mesh_laws.proofs.EdgeLemmas.{first_named-once}
use Rattle.mesh_laws.proofs.SideLemmas.{same_edge-refl}
use Rattle.level_builder.specs.Keys.{IsWord, AreWords, edge_key, Rises, is_again, each_once}
use Rattle.level_builder.proofs.KeyLemmas.{again-count, count-keys, edge-key-same}

-- a number that comes again is behind
again-there : (n : ℕ) (xs : List ℕ) → is_again 1 (n ∷ xs) n ≡ true → is_among xs n ≡ true
again-there n [] h = absurd (cc)
again-there n (x ∷ xs) h = let same : nat_eq n x ≡ true = grind (arith, nat_tests) in grind (arith, nat_tests)

-- no number is lost
pub once-among : (xs : List ℕ) (m : ℕ) → is_among (each_once xs) m ≡ is_among xs m
once-among [] m = refl
once-among (n ∷ xs) m = go (is_again 1 (n ∷ xs) n) refl (once-among xs m) (nat_eq m n) refl
  where
    go : (b : Bool) → is_again 1 (n ∷ xs) n ≡ b → is_among (each_once xs) m ≡ is_among xs m → (c : Bool) → nat_eq m n ≡ c → is_among (each_once (n ∷ xs)) m ≡ is_among (n ∷ xs) m
    go true e behind true f =
        let same : m ≡ n = eqb-true m n f in
        let there : is_among xs m ≡ true = ap (is_among xs) same ∙ again-there n xs e in
        rw (e, f) (behind ∙ there)
    go true e behind false f = rw (e, f) behind
    go false e behind c f = rw e (ap (λ b. nat_eq m n || b) behind)

-- a number that is not the next one does not occur again
not-behind : (n : ℕ) (xs : List ℕ) → Rises (n ∷ xs) → is_again 1 (n ∷ xs) n ≡ false → is_among xs n ≡ false
not-behind n xs rises e =
    let itself : nat_le n n ≡ true = grind (arith, nat_tests) in
    let counted = again-count 1 n (n ∷ xs) (and_from _ _ itself rises.0) rises in
    let self : one_if (nat_eq n n) ≡ 1 = one-yes _ (eq-eqb n n refl) in
    any-count (nat_eq n) xs ∙ few (count_by (nat_eq n) xs) (count_by (nat_eq n) (n ∷ xs)) (omega (arith, count-cons (nat_eq n) n xs, self)) (sym counted ∙ e)
  where
    few : (k m : ℕ) → m ≡ 1 + k → nat_lt 1 m ≡ false → nat_lt 0 k ≡ false
    few k m is h = grind (arith, nat_tests)

-- each number occurs once
pub once-distinct : (xs : List ℕ) → Rises xs → is_distinct (each_once xs) ≡ true
once-distinct [] rises = refl
once-distinct (n ∷ xs) rises = go (is_again 1 (n ∷ xs) n) refl (once-distinct xs rises.1)
  where
    go : (b : Bool) → is_again 1 (n ∷ xs) n ≡ b → is_distinct (each_once xs) ≡ true → is_distinct (each_once (n ∷ xs)) ≡ true
    go true e behind = rw e behind
    go false e behind = rw e (and_from _ _ (ap not (once-among xs n ∙ not-behind n xs rises e)) behind)

-- a number below all is below the kept ones
below-once : (n : ℕ) (xs : List ℕ) → list_all (nat_le n) xs ≡ true → list_all (nat_le n) (each_once xs) ≡ true
below-once n [] h = refl
below-once n (x ∷ xs) h =
    let parts = and_parts (nat_le n x) (list_all (nat_le n) xs) h in
    go (is_again 1 (x ∷ xs) x) refl parts.0 (below-once n xs parts.1)
  where
    go : (b : Bool) → is_again 1 (x ∷ xs) x ≡ b → nat_le n x ≡ true → list_all (nat_le n) (each_once xs) ≡ true → list_all (nat_le n) (each_once (x ∷ xs)) ≡ true
    go true e first behind = rw e behind
    go false e first behind = rw e (and_from _ _ first behind)

-- the kept numbers ascend
pub once-rise : (xs : List ℕ) → Rises xs → Rises (each_once xs)
once-rise [] rises = rises
once-rise (x ∷ xs) rises = go (is_again 1 (x ∷ xs) x) refl (below-once x xs rises.0) (once-rise xs rises.1)
  where
    go : (b : Bool) → is_again 1 (x ∷ xs) x ≡ b → list_all (nat_le x) (each_once xs) ≡ true → Rises (each_once xs) → Rises (each_once (x ∷ xs))
    go true e below behind = rw e behind
    go false e below behind = rw e (below, behind)

-- the numbers of edges that are all different
keys-distinct : (edges : List (ℕ × ℕ)) → AreWords edges → ((s : ℕ × ℕ) → count_by (same_edge s) edges ≤ 1) → is_distinct (map edge_key edges) ≡ true
keys-distinct [] words once = refl
keys-distinct (e ∷ edges) words once =
    let self : one_if (same_edge e e) ≡ 1 = one-yes _ (same_edge-refl e) in
    let only : count_by (nat_eq (edge_key e)) (map edge_key edges) ≡ count_by (same_edge e) edges = count-keys edge_key same_edge edge-key-same e words.0 edges words.1 in
    let none : is_among (map edge_key edges) (edge_key e) ≡ false = any-count (nat_eq (edge_key e)) (map edge_key edges) ∙ zero-none _ (omega (arith, only, self, count-cons (same_edge e) e edges, once e)) in
    and_from _ _ (ap not none) (keys-distinct edges words.1 (λ s. omega (arith, count-cons (same_edge s) e edges, once s)))
  where
    zero-none : (k : ℕ) → k ≤ 0 → nat_lt 0 k ≡ false
    zero-none k h = grind (arith, nat_tests)

-- the kept sides fit 32 bits if all do
words-kept : (keep : ℕ × ℕ → Bool) (sides : List (ℕ × ℕ)) → AreWords sides → AreWords (filter keep sides)
words-kept keep [] words = tt
words-kept keep (s ∷ sides) words = go (keep s) refl (words-kept keep sides words.1)
  where
    go : (b : Bool) → keep s ≡ b → AreWords (filter keep sides) → AreWords (filter keep (s ∷ sides))
    go true e behind = rw e (words.0, behind)
    go false e behind = rw e behind

pub words-named : (sides : List (ℕ × ℕ)) → AreWords sides → AreWords (first_named sides)
words-named [] words = tt
words-named (s ∷ sides) words = (words.0, words-kept (λ x. not (same_edge s x)) (first_named sides) (words-named sides words.1))

-- the numbers of edges occur once each
pub named-distinct : (sides : List (ℕ × ℕ)) → AreWords sides → is_distinct (map edge_key (first_named sides)) ≡ true
named-distinct sides words = keys-distinct (first_named sides) (words-named sides words) (λ s. first_named-once s sides)

-- another number is not lost with the sides of an edge
among-without : (n : ℕ) (s : ℕ × ℕ) (xs : List (ℕ × ℕ)) → IsWord s → AreWords xs → nat_eq n (edge_key s) ≡ false → is_among (map edge_key (filter (λ x. not (same_edge s x)) xs)) n ≡ is_among (map edge_key xs) n
among-without n s [] word words h = refl
among-without n s (x ∷ xs) word words h = go (same_edge s x) refl (among-without n s xs word words.1 h)
  where
    other : same_edge s x ≡ true → nat_eq n (edge_key x) ≡ false
    other e = ap (nat_eq n) (sym (eqb-true (edge_key s) (edge_key x) (edge-key-same s x word words.0 ∙ e))) ∙ h

    go : (b : Bool) → same_edge s x ≡ b → is_among (map edge_key (filter (λ x. not (same_edge s x)) xs)) n ≡ is_among (map edge_key xs) n → is_among (map edge_key (filter (λ x. not (same_edge s x)) (x ∷ xs))) n ≡ is_among (map edge_key (x ∷ xs)) n
    go true e behind = let o = other e in rw (e, o) behind
    go false e behind = rw e (ap (λ b. nat_eq n (edge_key x) || b) behind)

-- the edges have the numbers of the sides
pub named-among : (n : ℕ) (sides : List (ℕ × ℕ)) → AreWords sides → is_among (map edge_key (first_named sides)) n ≡ is_among (map edge_key sides) n
named-among n [] words = refl
named-among n (s ∷ sides) words = go (nat_eq n (edge_key s)) refl (named-among n sides words.1)
  where
    go : (b : Bool) → nat_eq n (edge_key s) ≡ b → is_among (map edge_key (first_named sides)) n ≡ is_among (map edge_key sides) n → is_among (map edge_key (first_named (s ∷ sides))) n ≡ is_among (map edge_key (s ∷ sides)) n
    go true e behind = rw e refl
    go false e behind = rw e (among-without n s (first_named sides) words.0 (words-named sides words.1) e ∙ behind)
