-- The corners of faces at a vertex, in any order, have each face there with the corners before and after the vertex.
use Rattle.std.proofs.Common.{◌≡◌, ℕ, zero, suc, ◌+◌, ◌-◌, ◌<◌, ◌≤◌, Bool, true, false, not, ◌&&◌, nat_eq, nat_lt, List, [], ◌∷◌, length, map, get_or, cond, arith, refl, ap, sym, ◌∙◌, zero-add}
use Rattle.std.specs.List.{filter, list_all, count_by}
use Rattle.std.specs.List.Sorted.{IsPermutation}
use Rattle.std.proofs.lemmas.Bool.Decides.{nat_tests}
use Rattle.std.proofs.lemmas.Bool.{and_parts, and_from, eqb-true, eq-eqb}
use Rattle.std.proofs.lemmas.List.{length-map, get_or-map}
use Rattle.std.proofs.lemmas.List.Sums.{AllPass-from_list_all, list_all-from_AllPass}
use Rattle.std.proofs.lemmas.List.Folds.{list_all-append}
use Rattle.std.proofs.lemmas.List.Sorted.{sum_by-IsPermutation, All-permutation}
use Rattle.subdiv_model.specs.Polygons.{Polygon, has_side, is_among, is_distinct, polygon_at}
use Rattle.subdiv_model.specs.Manifold.{is_simple}
use Rattle.number_laws.proofs.CountLemmas.{count-cons, count-append, any-count, one_if}
use Rattle.mesh_laws.proofs.SideLemmas.{distinct-number-count}
use Rattle.mesh_laws.proofs.FanLemmas.{distinct-at}
use Rattle.mesh_check.specs.declared.turns.Turn.{Turn}
use Rattle.mesh_check.specs.Turns.{turns_from, turns_of, turns_after, turns_at}
use Rattle.mesh_check.specs.Group.{IsGroup}
use Rattle.mesh_check.specs.Groups.{no_turn}
use Rattle.mesh_check.proofs.TurnLemmas.{is_turn, face-turns}

-- the corner is at this vertex in this face
abbrev is_at : ℕ → ℕ → Turn → Bool
is_at v f t = nat_eq v t.vertex && nat_eq f t.face

-- both sides of the corner are sides of its face
abbrev is_right : List Polygon → Turn → Bool
is_right polygons t = is_turn (polygon_at polygons t.face) t

right-from : (polygons : List Polygon) (k first before : ℕ) (polygon rest : Polygon) → polygon_at polygons k ≡ polygon → list_all (is_turn polygon) (turns_from k first before rest) ≡ true → list_all (is_right polygons) (turns_from k first before rest) ≡ true
right-from polygons k first before polygon [] e h = refl
right-from polygons k first before polygon (v ∷ rest) e h =
    let t : Turn = record { vertex = v; before = before; face = k; after = get_or rest 0 first } in
    let parts = and_parts (is_turn polygon t) (list_all (is_turn polygon) (turns_from k first v rest)) h in
    and_from _ _ (ap (λ p. is_turn p t) e ∙ parts.0) (right-from polygons k first v polygon rest e parts.1)

right-after : (whole : List Polygon) (k : ℕ) (polygons : List Polygon) → ((i : ℕ) → polygon_at whole (k + i) ≡ get_or polygons i []) → list_all (is_right whole) (turns_after k polygons) ≡ true
right-after whole k [] at = refl
right-after whole k (polygon ∷ polygons) at =
    let zeroth : k + 0 ≡ k = omega arith in
    let here : polygon_at whole k ≡ polygon = ap (polygon_at whole) (sym zeroth) ∙ at 0 in
    list_all-append (is_right whole) (turns_of k polygon) (turns_after (k + 1) polygons)
    ∙ and_from _ _
    (right-from whole k (get_or polygon 0 0) _ polygon polygon here (face-turns k polygon))
    (right-after whole (k + 1) polygons (λ i. let next : (k + 1) + i ≡ k + suc i = omega arith in ap (polygon_at whole) next ∙ at (suc i)))

count-same : (v f k first before : ℕ) (rest : Polygon) → nat_eq f k ≡ true → count_by (is_at v f) (turns_from k first before rest) ≡ count_by (nat_eq v) rest
count-same v f k first before [] e = refl
count-same v f k first before (x ∷ rest) e =
    let t : Turn = record { vertex = x; before = before; face = k; after = get_or rest 0 first } in
    let one : one_if (is_at v f t) ≡ one_if (nat_eq v x) = ap one_if (ap (λ b. nat_eq v x && b) e ∙ kept (nat_eq v x)) in
    omega (arith, count-cons (is_at v f) t (turns_from k first x rest), count-cons (nat_eq v) x rest, one, count-same v f k first x rest e)
  where
    kept : (b : Bool) → (b && true) ≡ b
    kept true = refl
    kept false = refl

count-other : (v f k first before : ℕ) (rest : Polygon) → nat_eq f k ≡ false → count_by (is_at v f) (turns_from k first before rest) ≡ 0
count-other v f k first before [] e = refl
count-other v f k first before (x ∷ rest) e =
    let t : Turn = record { vertex = x; before = before; face = k; after = get_or rest 0 first } in
    let one : one_if (is_at v f t) ≡ 0 = ap one_if (ap (λ b. nat_eq v x && b) e ∙ none (nat_eq v x)) in
    omega (arith, count-cons (is_at v f) t (turns_from k first x rest), one, count-other v f k first x rest e)
  where
    none : (b : Bool) → (b && false) ≡ false
    none true = refl
    none false = refl

count-below : (v f k : ℕ) (polygons : List Polygon) → f < k → count_by (is_at v f) (turns_after k polygons) ≡ 0
count-below v f k [] h = refl
count-below v f k (polygon ∷ polygons) h =
    let apart : nat_eq f k ≡ false = grind (arith, nat_tests) in
    omega (arith, count-append (is_at v f) (turns_of k polygon) (turns_after (k + 1) polygons), count-other v f k (get_or polygon 0 0) (get_or polygon (length polygon - 1) 0) polygon apart, count-below v f (k + 1) polygons (omega arith))

-- at a vertex the corners of a face are as many as the face has there
count-at : (v k j : ℕ) (polygons : List Polygon) → count_by (is_at v (k + j)) (turns_after k polygons) ≡ count_by (nat_eq v) (get_or polygons j [])
count-at v k j [] = refl
count-at v k zero (polygon ∷ polygons) =
    let same : nat_eq (k + zero) k ≡ true = grind (arith, nat_tests) in
    omega (arith, count-append (is_at v (k + zero)) (turns_of k polygon) (turns_after (k + 1) polygons), count-same v (k + zero) k (get_or polygon 0 0) (get_or polygon (length polygon - 1) 0) polygon same, count-below v (k + zero) (k + 1) polygons (omega arith))
count-at v k (suc j) (polygon ∷ polygons) =
    let apart : nat_eq (k + suc j) k ≡ false = grind (arith, nat_tests) in
    let next : (k + 1) + j ≡ k + suc j = omega arith in
    let behind : count_by (is_at v (k + suc j)) (turns_after (k + 1) polygons) ≡ count_by (nat_eq v) (get_or polygons j []) = ap (λ f. count_by (is_at v f) (turns_after (k + 1) polygons)) (sym next) ∙ count-at v (k + 1) j polygons in
    omega (arith, count-append (is_at v (k + suc j)) (turns_of k polygon) (turns_after (k + 1) polygons), count-other v (k + suc j) k (get_or polygon 0 0) (get_or polygon (length polygon - 1) 0) polygon apart, behind)

group-count : (v f : ℕ) (turns : List Turn) → count_by (nat_eq f) (map (λ (t : Turn). t.face) (turns_at v turns)) ≡ count_by (is_at v f) turns
group-count v f [] = refl
group-count v f (t ∷ turns) = go (nat_eq v t.vertex) refl (group-count v f turns)
  where
    go : (b : Bool) → nat_eq v t.vertex ≡ b → count_by (nat_eq f) (map (λ (u : Turn). u.face) (turns_at v turns)) ≡ count_by (is_at v f) turns → count_by (nat_eq f) (map (λ (u : Turn). u.face) (turns_at v (t ∷ turns))) ≡ count_by (is_at v f) (t ∷ turns)
    go true e behind =
        let keep : turns_at v (t ∷ turns) ≡ t ∷ turns_at v turns = ap (λ b. cond b (t ∷ turns_at v turns) (turns_at v turns)) e in
        let one : one_if (is_at v f t) ≡ one_if (nat_eq f t.face) = ap (λ b. one_if (b && nat_eq f t.face)) e in
        let sum : count_by (nat_eq f) (t.face ∷ map (λ (u : Turn). u.face) (turns_at v turns)) ≡ count_by (is_at v f) (t ∷ turns) =
        omega (arith, count-cons (nat_eq f) t.face (map (λ (u : Turn). u.face) (turns_at v turns)), count-cons (is_at v f) t turns, one, behind) in
        ap (λ ts. count_by (nat_eq f) (map (λ (u : Turn). u.face) ts)) keep ∙ sum
    go false e behind =
        let keep : turns_at v (t ∷ turns) ≡ turns_at v turns = ap (λ b. cond b (t ∷ turns_at v turns) (turns_at v turns)) e in
        let one : one_if (is_at v f t) ≡ 0 = ap (λ b. one_if (b && nat_eq f t.face)) e in
        let sum : count_by (nat_eq f) (map (λ (u : Turn). u.face) (turns_at v turns)) ≡ count_by (is_at v f) (t ∷ turns) = omega (arith, count-cons (is_at v f) t turns, one, behind) in
        ap (λ ts. count_by (nat_eq f) (map (λ (u : Turn). u.face) ts)) keep ∙ sum

-- numbers that occur at most once each are distinct
counts-distinct : (xs : List ℕ) → ((n : ℕ) → count_by (nat_eq n) xs ≤ 1) → is_distinct xs ≡ true
counts-distinct [] h = refl
counts-distinct (x ∷ xs) h =
    let self : one_if (nat_eq x x) ≡ 1 = ap one_if (eq-eqb x x refl) in
    let none : count_by (nat_eq x) xs ≡ 0 = omega (arith, count-cons (nat_eq x) x xs, self, h x) in
    let out : is_among xs x ≡ false = any-count (nat_eq x) xs ∙ ap (nat_lt 0) none in
    and_from _ _ (ap not out) (counts-distinct xs (λ n. omega (arith, count-cons (nat_eq n) x xs, h n)))

all-kept : (p q : Turn → Bool) (turns : List Turn) → list_all p turns ≡ true → list_all (λ t. p t && q t) (filter q turns) ≡ true
all-kept p q [] h = refl
all-kept p q (t ∷ turns) h =
    let parts = and_parts (p t) (list_all p turns) h in
    go (q t) refl parts.0 (all-kept p q turns parts.1)
  where
    go : (b : Bool) → q t ≡ b → p t ≡ true → list_all (λ u. p u && q u) (filter q turns) ≡ true → list_all (λ u. p u && q u) (filter q (t ∷ turns)) ≡ true
    go true e first behind = rw e (and_from _ _ (and_from _ _ first e) behind)
    go false e first behind = rw e behind

module _ (polygons : List Polygon) (simple : list_all is_simple polygons ≡ true) (v : ℕ) (turns : List Turn) (moved : IsPermutation (turns_after 0 polygons) turns) where
  right : list_all (λ t. is_right polygons t && nat_eq v t.vertex) (turns_at v turns) ≡ true
  right = all-kept (is_right polygons) (λ t. nat_eq v t.vertex) turns
      (list_all-from_AllPass (is_right polygons) turns (All-permutation (λ t. is_right polygons t ≡ true) (turns_after 0 polygons) turns moved (AllPass-from_list_all (is_right polygons) (turns_after 0 polygons) (right-after polygons 0 polygons (λ i. ap (polygon_at polygons) (zero-add i))))))

  right-at : (i : ℕ) → i < length (turns_at v turns) → (is_right polygons (get_or (turns_at v turns) i no_turn) ≡ true) × (v ≡ (get_or (turns_at v turns) i no_turn).vertex)
  right-at i h =
      let parts = and_parts (is_right polygons (get_or (turns_at v turns) i no_turn)) (nat_eq v (get_or (turns_at v turns) i no_turn).vertex) (AllPass-from_list_all (λ t. is_right polygons t && nat_eq v t.vertex) (turns_at v turns) right i no_turn h) in
      (parts.0, eqb-true v (get_or (turns_at v turns) i no_turn).vertex parts.1)

  face-count : (f : ℕ) → count_by (nat_eq f) (map (λ (t : Turn). t.face) (turns_at v turns)) ≡ count_by (nat_eq v) (polygon_at polygons f)
  face-count f =
      group-count v f turns
      ∙ sum_by-IsPermutation (λ t. cond (is_at v f t) 1 0) (turns_after 0 polygons) turns moved
      ∙ ap (λ k. count_by (is_at v k) (turns_after 0 polygons)) (sym (zero-add f))
      ∙ count-at v 0 f polygons

  -- the corners at a vertex are a group there
  pub group-of : IsGroup polygons v (map (λ (t : Turn). t.before) (turns_at v turns)) (map (λ (t : Turn). t.face) (turns_at v turns)) (map (λ (t : Turn). t.after) (turns_at v turns))
  group-of = record {
    same_befores = length-map (turns_at v turns) (λ (t : Turn). t.before) ∙ sym (length-map (turns_at v turns) (λ (t : Turn). t.face));
    same_afters = length-map (turns_at v turns) (λ (t : Turn). t.after) ∙ sym (length-map (turns_at v turns) (λ (t : Turn). t.face));
    leads = λ i h. leads i (inside i h);
    follows = λ i h. follows i (inside i h);
    once = counts-distinct (map (λ (t : Turn). t.face) (turns_at v turns)) (λ f. let some = distinct-number-count v (polygon_at polygons f) (distinct-at polygons f simple) in omega (arith, face-count f, some));
    all = λ f. any-count (nat_eq f) (map (λ (t : Turn). t.face) (turns_at v turns)) ∙ ap (nat_lt 0) (face-count f) ∙ sym (any-count (nat_eq v) (polygon_at polygons f));
  }
    where
      inside : (i : ℕ) → i < length (map (λ (t : Turn). t.face) (turns_at v turns)) → i < length (turns_at v turns)
      inside i h = omega (arith, h, length-map (turns_at v turns) (λ (t : Turn). t.face))

      leads : (i : ℕ) → i < length (turns_at v turns) → has_side (get_or (map (λ (t : Turn). t.before) (turns_at v turns)) i 0, v) (polygon_at polygons (get_or (map (λ (t : Turn). t.face) (turns_at v turns)) i 0)) ≡ true
      leads i h =
          let facts = right-at i h in
          ap (λ b. has_side (b, v) (polygon_at polygons (get_or (map (λ (t : Turn). t.face) (turns_at v turns)) i 0))) (get_or-map (λ (t : Turn). t.before) (turns_at v turns) i no_turn 0 h)
          ∙ ap (λ f. has_side ((get_or (turns_at v turns) i no_turn).before, v) (polygon_at polygons f)) (get_or-map (λ (t : Turn). t.face) (turns_at v turns) i no_turn 0 h)
          ∙ ap (λ w. has_side ((get_or (turns_at v turns) i no_turn).before, w) (polygon_at polygons (get_or (turns_at v turns) i no_turn).face)) facts.1
          ∙ (and_parts (has_side ((get_or (turns_at v turns) i no_turn).before, (get_or (turns_at v turns) i no_turn).vertex) (polygon_at polygons (get_or (turns_at v turns) i no_turn).face)) _ facts.0).0

      follows : (i : ℕ) → i < length (turns_at v turns) → has_side (v, get_or (map (λ (t : Turn). t.after) (turns_at v turns)) i 0) (polygon_at polygons (get_or (map (λ (t : Turn). t.face) (turns_at v turns)) i 0)) ≡ true
      follows i h =
          let facts = right-at i h in
          ap (λ b. has_side (v, b) (polygon_at polygons (get_or (map (λ (t : Turn). t.face) (turns_at v turns)) i 0))) (get_or-map (λ (t : Turn). t.after) (turns_at v turns) i no_turn 0 h)
          ∙ ap (λ f. has_side (v, (get_or (turns_at v turns) i no_turn).after) (polygon_at polygons f)) (get_or-map (λ (t : Turn). t.face) (turns_at v turns) i no_turn 0 h)
          ∙ ap (λ w. has_side (w, (get_or (turns_at v turns) i no_turn).after) (polygon_at polygons (get_or (turns_at v turns) i no_turn).face)) facts.1
          ∙ (and_parts (has_side ((get_or (turns_at v turns) i no_turn).before, (get_or (turns_at v turns) i no_turn).vertex) (polygon_at polygons (get_or (turns_at v turns) i no_turn).face)) _ facts.0).1
