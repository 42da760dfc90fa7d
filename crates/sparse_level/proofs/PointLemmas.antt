-- Points numbered by first appearance, and the table of their numbers.
use Rattle.std.proofs.Common.{◌≡◌, ℕ, ◌+◌, ◌<◌, ◌≤◌, ◌^◌, ◌-◌, Bool, true, false, not, nat_eq, nat_lt, List, [], ◌∷◌, ◌++◌, append-nil, length, take, get_or, set, replicate, arith, refl, ap, subst, sym, ◌∙◌, if◌then◌else◌}
use Rattle.std.specs.List.{All, flat_map, position_or_len}
use Rattle.std.proofs.lemmas.Bool.{eqb-true, eqb-false, ltb-true, ltb-false}
use Rattle.std.proofs.lemmas.Grind.{flat_map-append}
use Rattle.std.proofs.lemmas.List.{get_or_default, get_or_append_left, get_or_push, length_push, length-set, take_more}
use Rattle.subdiv_model.specs.Child.{child_points}
use Rattle.subdiv_model.specs.Level.{Level}
use Rattle.subdiv_model.specs.Lists.{each_once_by}
use Rattle.subdiv_model.specs.Polygons.{polygon_at, is_among, is_distinct}
use Rattle.level_topology.specs.ChildTables.{IsInverse}
use Rattle.level_topology.specs.Topology.{Topology, IsTopology}
use Rattle.level_topology.proofs.ChildTableLemmas.{inverse-more, inverse-none}
use Rattle.level_topology.proofs.FactLemmas.{corners-exist}
use Rattle.level_topology.proofs.LawLemmas.{edge-exists}
use Rattle.child_slots.specs.Slots.{before_in, quad_at}
use Rattle.child_slots.proofs.QuadLemmas.{all-four, face-below}
use Rattle.child_slots.proofs.SlotLemmas.{before-within, few-edges}
use Rattle.child_slots.proofs.SlotTableLemmas.{entry-none, entry-some, entry-of, none-number}
use Rattle.sparse_level.specs.Places.{with_point, with_points, points_at, ArePointsIn}
use Rattle.sparse_level.proofs.OnceLemmas.{once-distinct, once-more, distinct-few, place-of}

-- each point has its place in the table
pub point-below : (points table : List ℕ) (n : ℕ) → ArePointsIn points table → is_among points n ≡ true → n < length table
point-below points table n is h =
    let place = place-of points n h in
    omega (arith, place.1, is.below (position_or_len (nat_eq n) points) place.0)

module _ (points table : List ℕ) (n e : ℕ) (is : ArePointsIn points table) (inside : n < length table) (read : e ≡ get_or table n e) where
  there : e ≡ get_or table n 0
  there = read ∙ get_or_default table n e 0 inside

  -- the table has a number exactly where the point is in the list
  pub point-found : not (nat_eq e (2 ^ 32 - 1)) ≡ is_among points n
  point-found = go (nat_eq e (2 ^ 32 - 1)) refl
    where
      go : (b : Bool) → nat_eq e (2 ^ 32 - 1) ≡ b → not (nat_eq e (2 ^ 32 - 1)) ≡ is_among points n
      go true q = ap not q ∙ sym (entry-none points table n e is.inverse inside is.few there (eqb-true _ _ q))
      go false q = ap not q ∙ sym (entry-some points table n e is.inverse inside is.few there (eqb-false _ _ q))

  -- the number in the table is the place of the point
  pub point-number : is_among points n ≡ true → e ≡ position_or_len (nat_eq n) points
  point-number h = entry-of points table n e is.inverse inside is.few there h

-- no point is there yet
pub points-none : (table : List ℕ) (count : ℕ) → table ≡ replicate count (2 ^ 32 - 1) → ArePointsIn [] table
points-none table count e = record {
  inverse = subst (λ xs. IsInverse [] xs) (sym e) (inverse-none count);
  below = λ i h. absurd (omega (arith, h));
  few = omega arith;
}

module _ (points table : List ℕ) (n e : ℕ) (is : ArePointsIn points table) (inside : n < length table) (read : e ≡ get_or table n e) (found : Bool) (is_there : found ≡ not (nat_eq e (2 ^ 32 - 1))) where
  among : found ≡ is_among points n
  among = is_there ∙ point-found points table n e is inside read

  -- a point that is there
  pub point-kept : found ≡ true → points ≡ with_point points n
  point-kept known = let there = sym among ∙ known in sym (ap (λ b. if b then points else points ++ n ∷ []) there)

  -- a point that is new
  module _ (unknown : found ≡ false) (new : List ℕ) (put : new ≡ points ++ n ∷ []) where
    absent : is_among points n ≡ false
    absent = sym among ∙ unknown

    pub point-new : new ≡ with_point points n
    point-new = put ∙ sym (ap (λ b. if b then points else points ++ n ∷ []) absent)

    pub table-new : (number : ℕ) → number ≡ length points → length points < 2 ^ 31 → ArePointsIn new (set table n number)
    table-new number at few = subst (λ k. ArePointsIn new (set table n k)) (sym at) (subst (λ xs. ArePointsIn xs (set table n (length points))) (sym put) (record {
      inverse = inverse-more points table n is.inverse inside (none-number points n absent);
      below = λ i h. go i (nat_lt i (length points)) refl h;
      few = omega (arith, length_push points n, few);
    }))
      where
        go : (i : ℕ) → (b : Bool) → nat_lt i (length points) ≡ b → i < length (points ++ n ∷ []) → get_or (points ++ n ∷ []) i 0 < length (set table n (length points))
        go i true e h =
            let old = ltb-true i (length points) e in
            omega (arith, get_or_append_left points (n ∷ []) 0 i old, is.below i old, length-set table n (length points))
        go i false e h =
            let last : length points ≡ i = omega (arith, ltb-false i (length points) e, h, length_push points n) in
            omega (arith, get_or_push points n 0 i last, inside, length-set table n (length points))

-- the points are no more than the table is long, so the numbers of four more fit
pub points-few : (t : Topology) → IsTopology t → (xs points table : List ℕ) → points ≡ each_once_by nat_eq xs → ArePointsIn points table → length table ≡ child_points t.level.point_count t.level.polygons → length points + 4 ≤ 2 ^ 31
points-few t whole xs points table so is long =
    let once : is_distinct points ≡ true = ap is_distinct so ∙ once-distinct xs in
    omega (arith, distinct-few points (length table) once (λ n h. point-below points table n is h), long, few-edges t whole, whole.small.points, whole.small.faces)

-- the corners of a child face are points of the whole next level
pub quad-below : (t : Topology) → IsTopology t → (f c count : ℕ) (quad : List ℕ) → quad ≡ quad_at t.level.point_count t.level.polygons f c → c < length (polygon_at t.level.polygons f) → count ≡ child_points t.level.point_count t.level.polygons → All (λ n. n < count) quad
quad-below t whole f c count quad q h long = subst (λ xs. All (λ n. n < count) xs) (sym q) (
    let below = face-below t.level.polygons f c h in
    let corner = corners-exist t whole f below c 0 h in
    let after = edge-exists t.level.polygons f c h in
    let before = edge-exists t.level.polygons f (before_in t.level.polygons f c) (before-within t.level.polygons f c h) in
    all-four (λ n. n < count) _ _ _ _ (omega (arith, corner, long)) (omega (arith, after, long)) (omega (arith, below, long)) (omega (arith, before, long)))

-- the child face of a place more
pub points-more : (level : Level) (places : List (ℕ × ℕ)) (i : ℕ) (now new quad : List ℕ) → i < length places → now ≡ points_at level (take i places) → quad ≡ quad_at level.point_count level.polygons (get_or places i (0, 0)).0 (get_or places i (0, 0)).1
    → new ≡ with_points now quad → new ≡ points_at level (take (i + 1) places)
points-more level places i now new quad h so q put =
    let corners : ℕ × ℕ → List ℕ = λ place. quad_at level.point_count level.polygons place.0 place.1 in
    put ∙ ap (λ xs. with_points xs quad) so ∙ ap (with_points (points_at level (take i places))) q ∙ sym (once-more (flat_map corners (take i places)) (corners (get_or places i (0, 0))))
    ∙ ap (each_once_by nat_eq) (sym (ap (flat_map corners) (take_more places i (0, 0) h) ∙ flat_map-append corners (take i places) (get_or places i (0, 0) ∷ []) ∙ ap (λ l. flat_map corners (take i places) ++ l) (append-nil (corners (get_or places i (0, 0))))))
