-- Corners sorted by vertex: those at the first vertex come first, and the rest are all corners at the other vertices.
use Rattle.std.proofs.Common.{◌≡◌, ℕ, zero, suc, ◌<◌, ◌≤◌, Bool, true, false, ◌||◌, nat_eq, nat_le, List, [], ◌∷◌, length, map, get_or, take, drop, cond, arith, refl, ap, sym, subst, ◌∙◌, ◌⊎◌, inl, inr, Some, one-add}
use Rattle.std.specs.List.{list_all, prefix_len, find}
use Rattle.std.specs.List.Sorted.{IsNonDecreasingBy}
use Rattle.std.proofs.lemmas.Bool.Decides.{nat_tests}
use Rattle.std.proofs.lemmas.Bool.{and_parts, and_from, or_cases, eqb-true, eq-eqb}
use Rattle.std.proofs.lemmas.List.{length-map, length-drop, get_or-map}
use Rattle.std.proofs.lemmas.List.Sums.{prefix_len-le-length}
use Rattle.subdiv_model.specs.Polygons.{Polygon, is_among}
use Rattle.subdiv_model.specs.Manifold.{has_one_fan}
use Rattle.mesh_check.specs.declared.turns.Turn.{Turn}
use Rattle.level_builder.specs.Keys.{Rises}
use Rattle.mesh_check.specs.Turns.{turn_key, turns_at}
use Rattle.mesh_check.specs.Groups.{no_turn, vertices, first_vertex, turns_off, IsGroupOf, AreGroups, IsFirstGroup}
use Rattle.level_builder.proofs.SearchLemmas.{rises-from}

-- a vertex before all others has no corner among theirs
pub above-off : (v m : ℕ) (turns : List Turn) → v < m → list_all (nat_le m) (vertices turns) ≡ true → (turns_at v turns ≡ []) × (turns_off v turns ≡ turns)
above-off v m [] less h = (refl, refl)
above-off v m (t ∷ turns) less h =
    let parts = and_parts (nat_le m t.vertex) (list_all (nat_le m) (vertices turns)) h in
    let apart : nat_eq v t.vertex ≡ false = differ t.vertex parts.0 in
    let behind = above-off v m turns less parts.1 in
    (rw apart behind.0, rw apart (ap (λ ts. t ∷ ts) behind.1))
  where
    differ : (w : ℕ) → nat_le m w ≡ true → nat_eq v w ≡ false
    differ w h = grind (arith, nat_tests)

-- the corners at the first vertex are those in front, and the others are those behind
pub front-group : (v : ℕ) (turns : List Turn) → Rises (vertices turns) → list_all (nat_le v) (vertices turns) ≡ true → (take (prefix_len (λ t. nat_eq v t.vertex) turns) turns ≡ turns_at v turns) × (drop (prefix_len (λ t. nat_eq v t.vertex) turns) turns ≡ turns_off v turns)
front-group v [] rises least = (refl, refl)
front-group v (t ∷ turns) rises least =
    let parts = and_parts (nat_le v t.vertex) (list_all (nat_le v) (vertices turns)) least in
    go (nat_eq v t.vertex) refl parts.0 (front-group v turns rises.1 parts.1)
  where
    go : (b : Bool) → nat_eq v t.vertex ≡ b → nat_le v t.vertex ≡ true → (take (prefix_len (λ u. nat_eq v u.vertex) turns) turns ≡ turns_at v turns) × (drop (prefix_len (λ u. nat_eq v u.vertex) turns) turns ≡ turns_off v turns) → (take (prefix_len (λ u. nat_eq v u.vertex) (t ∷ turns)) (t ∷ turns) ≡ turns_at v (t ∷ turns)) × (drop (prefix_len (λ u. nat_eq v u.vertex) (t ∷ turns)) (t ∷ turns) ≡ turns_off v (t ∷ turns))
    go true e first behind = rw (e, one-add) (ap (λ ts. t ∷ ts) behind.0, behind.1)
    go false e first behind =
        let less : v < t.vertex = grind (arith, nat_tests) in
        let none = above-off v t.vertex turns less rises.0 in
        rw e (sym none.0, sym (ap (λ ts. t ∷ ts) none.1))

-- the corners at another vertex are all behind
pub at-off : (v w : ℕ) (turns : List Turn) → nat_eq w v ≡ false → turns_at w (turns_off v turns) ≡ turns_at w turns
at-off v w [] apart = refl
at-off v w (t ∷ turns) apart = go (nat_eq v t.vertex) refl (at-off v w turns apart)
  where
    go : (b : Bool) → nat_eq v t.vertex ≡ b → turns_at w (turns_off v turns) ≡ turns_at w turns → turns_at w (turns_off v (t ∷ turns)) ≡ turns_at w (t ∷ turns)
    go true e behind = let other : nat_eq w t.vertex ≡ false = grind (arith, nat_tests) in rw (e, other) behind
    go false e behind = rw e (ap (λ ts. cond (nat_eq w t.vertex) (t ∷ ts) ts) behind)

-- a vertex of those behind is another one, and one of the whole
pub off-vertex : (v w : ℕ) (turns : List Turn) → is_among (vertices (turns_off v turns)) w ≡ true → (nat_eq w v ≡ false) × (is_among (vertices turns) w ≡ true)
off-vertex v w [] h = absurd (cc)
off-vertex v w (t ∷ turns) h = go (nat_eq v t.vertex) refl (λ k. off-vertex v w turns k)
  where
    go : (b : Bool) → nat_eq v t.vertex ≡ b → (is_among (vertices (turns_off v turns)) w ≡ true → (nat_eq w v ≡ false) × (is_among (vertices turns) w ≡ true)) → (nat_eq w v ≡ false) × (is_among (vertices (t ∷ turns)) w ≡ true)
    go true e behind =
        let found = behind (rw e at h) in
        (found.0, (let more : is_among (vertices turns) w ≡ true = found.1 in grind (arith, nat_tests)))
    go false e behind = pick (or_cases (nat_eq w t.vertex) (is_among (vertices (turns_off v turns)) w) (rw e at h))
      where
        pick : (nat_eq w t.vertex ≡ true) ⊎ (is_among (vertices (turns_off v turns)) w ≡ true) → (nat_eq w v ≡ false) × (is_among (vertices (t ∷ turns)) w ≡ true)
        pick (inl k) = (grind (arith, nat_tests), ap (λ b. b || is_among (vertices turns) w) k)
        pick (inr k) =
            let found = behind k in
            (found.0, (let more : is_among (vertices turns) w ≡ true = found.1 in grind (arith, nat_tests)))

-- a vertex that does not pass may be left out of a search
pub find-off : (test : ℕ → Bool) (v : ℕ) (turns : List Turn) → test v ≡ false → find test (vertices (turns_off v turns)) ≡ find test (vertices turns)
find-off test v [] fails = refl
find-off test v (t ∷ turns) fails = go (nat_eq v t.vertex) refl (find-off test v turns fails)
  where
    go : (b : Bool) → nat_eq v t.vertex ≡ b → find test (vertices (turns_off v turns)) ≡ find test (vertices turns) → find test (vertices (turns_off v (t ∷ turns))) ≡ find test (vertices (t ∷ turns))
    go true e behind = let same : test t.vertex ≡ false = ap test (sym (eqb-true v t.vertex e)) ∙ fails in rw (e, same) behind
    go false e behind = rw e (ap (λ found. cond (test t.vertex) (Some t.vertex) found) behind)

-- the rest of an ascending list ascends
pub drop-rises : (f : Turn → ℕ) (n : ℕ) (turns : List Turn) → Rises (map f turns) → Rises (map f (drop n turns))
drop-rises f zero turns rises = rises
drop-rises f (suc n) [] rises = rises
drop-rises f (suc n) (t ∷ turns) rises = drop-rises f n turns rises.1

-- the corners at a vertex ascend by the corner before it
pub group-rises : (v : ℕ) (turns : List Turn) → Rises (map turn_key turns) → Rises (map (λ (t : Turn). t.before) (turns_at v turns))
group-rises v [] rises = rises
group-rises v (t ∷ turns) rises = go (nat_eq v t.vertex) refl (group-rises v turns rises.1)
  where
    least : (others : List Turn) → v ≡ t.vertex → list_all (nat_le (turn_key t)) (map turn_key others) ≡ true → list_all (nat_le t.before) (map (λ (u : Turn). u.before) (turns_at v others)) ≡ true
    least [] same h = refl
    least (u ∷ others) same h =
        let parts = and_parts (nat_le (turn_key t) (turn_key u)) (list_all (nat_le (turn_key t)) (map turn_key others)) h in
        here (nat_eq v u.vertex) refl parts.0 (least others same parts.1)
      where
        here : (b : Bool) → nat_eq v u.vertex ≡ b → nat_le (turn_key t) (turn_key u) ≡ true → list_all (nat_le t.before) (map (λ (w : Turn). w.before) (turns_at v others)) ≡ true → list_all (nat_le t.before) (map (λ (w : Turn). w.before) (turns_at v (u ∷ others))) ≡ true
        here true e first behind = let up : nat_le t.before u.before ≡ true = grind (arith, nat_tests) in rw e (and_from _ _ up behind)
        here false e first behind = rw e behind

    go : (b : Bool) → nat_eq v t.vertex ≡ b → Rises (map (λ (u : Turn). u.before) (turns_at v turns)) → Rises (map (λ (u : Turn). u.before) (turns_at v (t ∷ turns)))
    go true e behind = rw e (least turns (eqb-true v t.vertex e) rises.0, behind)
    go false e behind = rw e behind

-- a sorted list ascends
pub turns-rise : (f : Turn → ℕ) (turns : List Turn) → IsNonDecreasingBy f turns → Rises (map f turns)
turns-rise f turns h = rises-from (map f turns) (λ i j low inside.
    let within : j < length turns = omega (arith, inside, length-map turns f) in
    let first : get_or (map f turns) i 0 ≡ f (get_or turns i no_turn) = get_or-map f turns i no_turn 0 (omega arith) in
    let second : get_or (map f turns) j 0 ≡ f (get_or turns j no_turn) = get_or-map f turns j no_turn 0 within in
    omega (arith, first, second, h i j no_turn low within))

-- the first vertex is one of them
pub first-among : (turns : List Turn) → 1 ≤ length turns → is_among (vertices turns) (first_vertex turns) ≡ true
first-among [] h = absurd (omega arith)
first-among (t ∷ turns) h = ap (λ b. b || is_among (vertices turns) t.vertex) (eq-eqb t.vertex t.vertex refl)

-- if the first vertex passes, a search finds it
pub first-found : (test : ℕ → Bool) (turns : List Turn) → 1 ≤ length turns → test (first_vertex turns) ≡ true → find test (vertices turns) ≡ Some (first_vertex turns)
first-found test [] h passes = absurd (omega arith)
first-found test (t ∷ turns) h passes = rw passes refl

-- the first vertex is the least
first-least : (turns : List Turn) → Rises (vertices turns) → list_all (nat_le (first_vertex turns)) (vertices turns) ≡ true
first-least [] rises = refl
first-least (t ∷ turns) rises = and_from _ _ (self t.vertex) rises.0
  where
    self : (n : ℕ) → nat_le n n ≡ true
    self n = grind (arith, nat_tests)

module _ (rest : List Turn) (size : ℕ) (is : size ≡ prefix_len (λ t. nat_eq (first_vertex rest) t.vertex) rest) (rises : Rises (vertices rest)) where
  -- the list is at least as long as the first group
  pub front-within : size ≤ length rest
  front-within = omega (arith, is, prefix_len-le-length (λ (t : Turn). nat_eq (first_vertex rest) t.vertex) rest)

  -- the corners in front are those at the first vertex
  pub front-is : (group : List Turn) → group ≡ take size rest → group ≡ turns_at (first_vertex rest) rest
  front-is group at = at ∙ ap (λ n. take n rest) is ∙ (front-group (first_vertex rest) rest rises (first-least rest rises)).0

  -- the other corners are those behind the group
  pub back-is : (others : List Turn) → others ≡ drop size rest → others ≡ turns_off (first_vertex rest) rest
  back-is others at = at ∙ ap (λ n. drop n rest) is ∙ (front-group (first_vertex rest) rest rises (first-least rest rises)).1

-- the corners behind a group are all corners at their vertices, where the whole are
pub off-groups : (polygons : List Polygon) (v : ℕ) (rest others : List Turn) → others ≡ turns_off v rest → ((w : ℕ) → is_among (vertices rest) w ≡ true → IsGroupOf polygons w (turns_at w rest)) → (w : ℕ) → is_among (vertices others) w ≡ true → IsGroupOf polygons w (turns_at w others)
off-groups polygons v rest others is groups w there =
    let found = off-vertex v w rest (sym (ap (λ ts. is_among (vertices ts) w) is) ∙ there) in
    subst (λ ts. IsGroupOf polygons w ts) (sym (ap (turns_at w) is ∙ at-off v w rest found.0)) (groups w found.1)

-- the first corner is one of its group
first-counted : (turns : List Turn) → 1 ≤ length turns → 0 < prefix_len (λ t. nat_eq (first_vertex turns) t.vertex) turns
first-counted [] h = absurd (omega arith)
first-counted (t ∷ turns) h = rw (eq-eqb t.vertex t.vertex refl) (omega arith)

module _ (polygons : List Polygon) (rest : List Turn) (size : ℕ) (groups : AreGroups polygons rest) (some : 1 ≤ length rest) (counted : size ≡ prefix_len (λ t. nat_eq (first_vertex rest) t.vertex) rest) where
  -- the first corners of the list are those at the first vertex
  pub front-group-is : take size rest ≡ turns_at (first_vertex rest) rest
  front-group-is = front-is rest size counted groups.vertices_rise (take size rest) refl

  -- the first corners of the list are a group
  pub front-group-of : IsGroupOf polygons (first_vertex rest) (take size rest)
  front-group-of = subst (λ ts. IsGroupOf polygons (first_vertex rest) ts) (sym front-group-is) (groups.groups (first_vertex rest) (first-among rest some))

  -- the first group ascends by the corner before the vertex
  pub front-group-rises : Rises (map (λ (t : Turn). t.before) (take size rest))
  front-group-rises = subst (λ ts. Rises (map (λ (t : Turn). t.before) ts)) (sym front-group-is) (group-rises (first_vertex rest) rest groups.keys)

  -- the decision for the first vertex is known, and the others are still groups
  pub first-group-is : (is : Bool) → is ≡ has_one_fan polygons (first_vertex rest) → IsFirstGroup polygons rest is size
  first-group-is is fan =
      let behind = back-is rest size counted groups.vertices_rise (drop size rest) refl in
      record {
        fan = fan;
        some = omega (arith, counted, first-counted rest some);
        within = front-within rest size counted groups.vertices_rise;
        behind = behind;
        others = record {
          keys = drop-rises turn_key size rest groups.keys;
          vertices_rise = drop-rises (λ (t : Turn). t.vertex) size rest groups.vertices_rise;
          short = omega (arith, length-drop size rest, groups.short);
          groups = off-groups polygons (first_vertex rest) rest (drop size rest) behind groups.groups;
        };
      }
