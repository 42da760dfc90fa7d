-- All vertices whose faces are not one fan are those among the vertices of sorted corners, each once.
use Rattle.std.proofs.Common.{◌≡◌, ℕ, zero, suc, ◌+◌, ◌<◌, ◌≤◌, Bool, true, false, not, ◌&&◌, ◌||◌, nat_eq, nat_le, List, [], ◌∷◌, ◌++◌, length, map, append_assoc, append-nil, arith, refl, ap, sym, ◌∙◌, if◌then◌else◌}
use Rattle.std.specs.List.{All, filter, list_all, range_with_len}
use Rattle.std.proofs.lemmas.Bool.Decides.{nat_tests}
use Rattle.std.proofs.lemmas.Bool.{and_parts, and_from, eqb-true, eq-eqb, not-true}
use Rattle.std.proofs.lemmas.List.FromFn.{length-range_with_len, get_or-range_with_len}
use Rattle.std.proofs.lemmas.Map.Views.{any-filter_same}
use Rattle.number_laws.proofs.ListLemmas.{all-kept}
use Rattle.level_topology.proofs.FanOrderLemmas.{among-at}
use Rattle.subdiv_model.specs.Polygons.{Polygon, is_among, is_distinct}
use Rattle.subdiv_model.specs.Manifold.{has_one_fan}
use Rattle.subdiv_model.specs.MeshFault.{MeshFault, SplitVertex, split_vertices}
use Rattle.mesh_check.specs.declared.turns.Turn.{Turn}
use Rattle.level_builder.specs.Keys.{Rises, is_again, each_once}
use Rattle.mesh_check.specs.Turns.{turns_after, AreSortedTurns}
use Rattle.mesh_check.specs.Groups.{vertices, first_vertex, turns_off, AreGroups, IsFirstGroup}
use Rattle.level_builder.proofs.SearchLemmas.{rise-at}
use Rattle.mesh_check.proofs.SplitLemmas.{above-off}
use Rattle.mesh_check.proofs.OnceLemmas.{once-among, once-distinct, once-rise}
use Rattle.mesh_check.proofs.VertexLemmas.{split-corner, corner-vertex, moved-vertex, corner-inside, range-rises, range-among}

-- the kept numbers ascend
rises-kept : (p : ℕ → Bool) (xs : List ℕ) → Rises xs → Rises (filter p xs)
rises-kept p [] rises = rises
rises-kept p (x ∷ xs) rises = go (p x) refl (all-kept p (nat_le x) xs rises.0) (rises-kept p xs rises.1)
  where
    go : (b : Bool) → p x ≡ b → list_all (nat_le x) (filter p xs) ≡ true → Rises (filter p xs) → Rises (filter p (x ∷ xs))
    go true e below behind = rw e (below, behind)
    go false e below behind = rw e behind

-- a number is kept where it passes
among-kept : (p : ℕ → Bool) (n : ℕ) (xs : List ℕ) → is_among (filter p xs) n ≡ (p n && is_among xs n)
among-kept p n xs = any-filter_same (nat_eq n) p (p n) (λ k h. ap p (sym (eqb-true n k h))) xs

and-false : (b : Bool) → (b && false) ≡ false
and-false true = refl
and-false false = refl

-- numbers that differ do so when some are left out
distinct-kept : (p : ℕ → Bool) (xs : List ℕ) → is_distinct xs ≡ true → is_distinct (filter p xs) ≡ true
distinct-kept p [] once = refl
distinct-kept p (x ∷ xs) once =
    let parts = and_parts (not (is_among xs x)) (is_distinct xs) once in
    go (p x) refl (not-true (is_among xs x) parts.0) (distinct-kept p xs parts.1)
  where
    go : (b : Bool) → p x ≡ b → is_among xs x ≡ false → is_distinct (filter p xs) ≡ true → is_distinct (filter p (x ∷ xs)) ≡ true
    go true e none behind = rw e (and_from _ _ (ap not (among-kept p x xs ∙ ap (λ b. p x && b) none ∙ and-false (p x))) behind)
    go false e none behind = rw e behind

-- the least of numbers that ascend is not above one of them
least-first : (x n : ℕ) (xs : List ℕ) → Rises (x ∷ xs) → is_among (x ∷ xs) n ≡ true → x ≤ n
least-first x n xs rises there =
    let at = among-at n (x ∷ xs) there in
    omega (arith, rise-at (x ∷ xs) rises 0 at.0 (omega arith) at.1, at.2)

-- ascending lists of distinct numbers are equal if they have the same numbers
pub same-list : (xs ys : List ℕ) → Rises xs → is_distinct xs ≡ true → Rises ys → is_distinct ys ≡ true → ((n : ℕ) → is_among xs n ≡ is_among ys n) → xs ≡ ys
same-list [] [] rises once climbs single same = refl
same-list [] (y ∷ ys) rises once climbs single same = absurd (let there = same y ∙ ap (λ b. b || is_among ys y) (eq-eqb y y refl) in cc)
same-list (x ∷ xs) [] rises once climbs single same = absurd (let there = sym (same x) ∙ ap (λ b. b || is_among xs x) (eq-eqb x x refl) in cc)
same-list (x ∷ xs) (y ∷ ys) rises once climbs single same =
    let low = least-first y x ys climbs (sym (same x) ∙ ap (λ b. b || is_among xs x) (eq-eqb x x refl)) in
    let high = least-first x y xs rises (same y ∙ ap (λ b. b || is_among ys y) (eq-eqb y y refl)) in
    let first : x ≡ y = omega (arith, low, high) in
    let one = and_parts (not (is_among xs x)) (is_distinct xs) once in
    let other = and_parts (not (is_among ys y)) (is_distinct ys) single in
    let behind = same-list xs ys rises.1 one.1 climbs.1 other.1 (λ n. rest n first (not-true (is_among xs x) one.0) (not-true (is_among ys y) other.0) (nat_eq n x) refl) in
    ap (λ z. z ∷ xs) first ∙ ap (λ zs. y ∷ zs) behind
  where
    rest : (n : ℕ) → x ≡ y → is_among xs x ≡ false → is_among ys y ≡ false → (b : Bool) → nat_eq n x ≡ b → is_among xs n ≡ is_among ys n
    rest n first none nothing true e =
        let is : n ≡ x = eqb-true n x e in
        ap (is_among xs) is ∙ none ∙ sym (ap (is_among ys) (is ∙ first) ∙ nothing)
    rest n first none nothing false e =
        let apart : nat_eq n y ≡ false = ap (nat_eq n) (sym first) ∙ e in
        sym (ap (λ b. b || is_among xs n) e) ∙ same n ∙ ap (λ b. b || is_among ys n) apart

-- numbers one after another differ
range-distinct : (a n : ℕ) → is_distinct (range_with_len a n) ≡ true
range-distinct a zero = refl
range-distinct a (suc n) = and_from _ _ (apart (is_among (range_with_len (a + 1) n) a) refl) (range-distinct (a + 1) n)
  where
    apart : (b : Bool) → is_among (range_with_len (a + 1) n) a ≡ b → not (is_among (range_with_len (a + 1) n) a) ≡ true
    apart false e = ap not e
    apart true e =
        let at = among-at a (range_with_len (a + 1) n) e in
        let inside : at.0 < n = omega (arith, at.1, length-range_with_len (a + 1) n) in
        absurd (omega (arith, at.2, get_or-range_with_len (a + 1) n at.0 0 inside))

-- the vertices of sorted corners that are not one fan are all such vertices
pub split-all : (points : ℕ) (polygons : List Polygon) (turns : List Turn) → All (λ face. All (λ w. w < points) face) polygons → AreSortedTurns polygons turns → filter (λ v. not (has_one_fan polygons v)) (each_once (vertices turns)) ≡ split_vertices points polygons
split-all points polygons turns within sorted = same-list _ _
    (rises-kept split (each_once (vertices turns)) (once-rise (vertices turns) sorted.vertices))
    (distinct-kept split (each_once (vertices turns)) (once-distinct (vertices turns) sorted.vertices))
    (rises-kept split (range_with_len 0 points) (range-rises points))
    (distinct-kept split (range_with_len 0 points) (range-distinct 0 points))
    (λ v. among-kept split v (each_once (vertices turns)) ∙ ap (λ b. split v && b) (once-among (vertices turns) v) ∙ both v (split v) refl ∙ sym (among-kept split v (range_with_len 0 points)))
  where
    split : ℕ → Bool
    split v = not (has_one_fan polygons v)

    both : (v : ℕ) (b : Bool) → not (has_one_fan polygons v) ≡ b → (b && is_among (vertices turns) v) ≡ (b && is_among (range_with_len 0 points) v)
    both v true e =
        let corner = split-corner polygons v e in
        sym (moved-vertex v (turns_after 0 polygons) turns sorted.moved) ∙ corner-vertex v 0 polygons ∙ corner
        ∙ sym (range-among points v (corner-inside points v polygons within corner))
    both v false e = refl

-- the vertices of groups are the first one and those behind its group
once-off : (t : Turn) (turns : List Turn) → Rises (vertices (t ∷ turns)) → each_once (vertices (t ∷ turns)) ≡ t.vertex ∷ each_once (vertices (turns_off t.vertex (t ∷ turns)))
once-off t [] rises = rw (eq-eqb t.vertex t.vertex refl) refl
once-off t (u ∷ turns) rises = go (nat_eq u.vertex t.vertex) refl (once-off u turns rises.1)
  where
    self : nat_eq t.vertex t.vertex ≡ true
    self = eq-eqb t.vertex t.vertex refl

    again : is_again 1 (vertices (t ∷ (u ∷ turns))) t.vertex ≡ nat_eq u.vertex t.vertex
    again = grind (arith, nat_tests)

    go : (b : Bool) → nat_eq u.vertex t.vertex ≡ b → each_once (vertices (u ∷ turns)) ≡ u.vertex ∷ each_once (vertices (turns_off u.vertex (u ∷ turns)))
        → each_once (vertices (t ∷ (u ∷ turns))) ≡ t.vertex ∷ each_once (vertices (turns_off t.vertex (t ∷ (u ∷ turns))))
    go true e behind =
        ap (λ b. if b then each_once (vertices (u ∷ turns)) else t.vertex ∷ each_once (vertices (u ∷ turns))) (again ∙ e)
        ∙ behind
        ∙ ap (λ v. v ∷ each_once (vertices (turns_off v (u ∷ turns)))) (eqb-true u.vertex t.vertex e)
        ∙ ap (λ b. t.vertex ∷ each_once (vertices (if not b then t ∷ turns_off t.vertex (u ∷ turns) else turns_off t.vertex (u ∷ turns)))) (sym self)
    go false e behind =
        let least : nat_le u.vertex u.vertex ≡ true = grind (arith, nat_tests) in
        let up = (and_parts (nat_le t.vertex u.vertex) (list_all (nat_le t.vertex) (vertices turns)) rises.0).0 in
        let less : t.vertex < u.vertex = grind (arith, nat_tests) in
        let off = (above-off t.vertex u.vertex (u ∷ turns) less (and_from _ _ least rises.1.0)).1 in
        ap (λ b. if b then each_once (vertices (u ∷ turns)) else t.vertex ∷ each_once (vertices (u ∷ turns))) (again ∙ e)
        ∙ ap (λ ts. t.vertex ∷ each_once (vertices ts)) (sym off)
        ∙ ap (λ b. t.vertex ∷ each_once (vertices (if not b then t ∷ turns_off t.vertex (u ∷ turns) else turns_off t.vertex (u ∷ turns)))) (sym self)

first-once : (turns : List Turn) → 1 ≤ length turns → Rises (vertices turns) → each_once (vertices turns) ≡ first_vertex turns ∷ each_once (vertices (turns_off (first_vertex turns) turns))
first-once [] some rises = absurd (omega arith)
first-once (t ∷ turns) some rises = once-off t turns rises

-- the vertices that are not one fan, of those of corners
abbrev split_of : List Polygon → List Turn → List MeshFault
split_of polygons turns = map SplitVertex (filter (λ v. not (has_one_fan polygons v)) (each_once (vertices turns)))

-- the first vertex is put where it is not one fan, and those of the others follow
pub split-put : (polygons : List Polygon) (rest others : List Turn) (is : Bool) (size : ℕ) (now new all : List MeshFault) → AreGroups polygons rest → 1 ≤ length rest → IsFirstGroup polygons rest is size
    → others ≡ turns_off (first_vertex rest) rest → new ≡ now ++ (if not is then SplitVertex (first_vertex rest) ∷ [] else []) → now ++ split_of polygons rest ≡ all → new ++ split_of polygons others ≡ all
split-put polygons rest others is size now new all groups some first at made whole =
    ap (λ ts. new ++ split_of polygons ts) at
    ∙ go (not is) (ap not first.fan) made
    ∙ sym (ap (λ vs. now ++ map SplitVertex (filter (λ v. not (has_one_fan polygons v)) vs)) (first-once rest some groups.vertices_rise))
    ∙ whole
  where
    v : ℕ
    v = first_vertex rest

    behind : List ℕ
    behind = filter (λ w. not (has_one_fan polygons w)) (each_once (vertices (turns_off v rest)))

    go : (b : Bool) → b ≡ not (has_one_fan polygons v) → new ≡ now ++ (if b then SplitVertex v ∷ [] else []) → new ++ map SplitVertex behind ≡ now ++ map SplitVertex (filter (λ w. not (has_one_fan polygons w)) (v ∷ each_once (vertices (turns_off v rest))))
    go true e put = ap (λ ys. ys ++ map SplitVertex behind) put ∙ append_assoc now (SplitVertex v ∷ []) (map SplitVertex behind) ∙ ap (λ b. now ++ map SplitVertex (if b then v ∷ behind else behind)) e
    go false e put = ap (λ ys. ys ++ map SplitVertex behind) (put ∙ append-nil now) ∙ ap (λ b. now ++ map SplitVertex (if b then v ∷ behind else behind)) e

-- at the end all are put
pub split-end : (polygons : List Polygon) (rest : List Turn) (now all : List MeshFault) → length rest < 1 → now ++ split_of polygons rest ≡ all → now ≡ all
split-end polygons [] now all none whole = sym (append-nil now) ∙ whole
split-end polygons (t ∷ rest) now all none whole = absurd (omega arith)
