-- A boundary that is refined as linear refinement does: what one level keeps of it, and how the next level keeps it.
use Rattle.std.proofs.Common.{◌≡◌, ℕ, ◌*◌, ◌<◌, true, ◌||◌, nat_eq, nat_lt, ℤ, pos, ◌+ℤ◌, ◌*ℤ◌, List, arith, ap, sym, ◌∙◌, subst, ◌⊎◌, inl, inr}
use Rattle.std.proofs.lemmas.Bool.{eqb-true, ltb-true, or_cases}
use Rattle.std.proofs.lemmas.Bool.Decides.{nat_tests}
use Rattle.std.proofs.Math.IntN.{+ℤ_comm}
use Rattle.std.proofs.lemmas.Int.{ints}
use Rattle.subdiv_model.specs.Polygons.{same_edge}
use Rattle.subdiv_model.specs.Edges.{has_end, is_boundary}
use Rattle.subdiv_model.specs.Sharpness.{Infinite, uniform_child}
use Rattle.subdiv_model.specs.Level.{Level, edge_sharpness_of, vertex_sharpness_of}
use Rattle.subdiv_model.specs.Child.{child_level}
use Rattle.subdiv_model.specs.Mask.{CatmullClark, Linear, Mask, vertex_mask, crease_mask, sharp_edge_mask}
use Rattle.subdiv_model.specs.Value.{Value}
use Rattle.subdiv_model.specs.Refined.{mask_value, point_value, source_value, child_values}
use Rattle.number_laws.proofs.WholeNumberLemmas.{pos-distrib}
use Rattle.mesh_laws.proofs.ChildBoundaryLemmas.{IsBoundaryHalf, child-boundary}
use Rattle.mesh_laws.proofs.PointLemmas.{boundary-alike}
use Rattle.level_laws.proofs.HalfLemmas.{point_of, is_edge}
use Rattle.level_laws.proofs.NewPointLemmas.{old-uniform}
use Rattle.mask_laws.proofs.BoundaryLemmas.{IsSharpAtBoundary, is-infinite, sharp-at, sharp-child}
use Rattle.limit_laws.proofs.HalfEdgeLemmas.{edge-of-one}
use Rattle.limit_laws.proofs.CreaseLemmas.{IsCrease, first-end, second-end, end-inside, new-crease, old-crease}
use Rattle.limit_laws.proofs.RuleLemmas.{kept-vertex, middle-edge, crease-vertex}
use Rattle.limit_laws.proofs.NumberLemmas.{IsNumber, corner-number, middle-number, crease-number}
use Rattle.limit_laws.proofs.ChildValueLemmas.{listed, listed-same, value-old, value-new, next_number, number-old, number-listed, number-new}

-- the point is a crease, and the middle of its two neighbours on the boundary
pub record IsMidway (level : Level) (number : ℕ → ℤ) (p : ℕ) : Type 0 where
  pub a : ℕ
  pub b : ℕ
  pub crease : IsCrease level p a b
  pub middle : number a +ℤ number b ≡ pos 2 *ℤ number p

-- both values of the point are its number over m
pub record HasBoth (m : ℕ) (n : ℤ) (x y : Value) : Type 0 where
  pub first : IsNumber m n x
  pub second : IsNumber m n y

-- At each end of a boundary edge the values xs, of Catmull and Clark's scheme, and ys, of linear refinement, are one number over m.
-- Each of these ends is infinitely sharp, or is a crease and the middle of its two neighbours on the boundary.
pub record IsStraight (level : Level) (m : ℕ) (number : ℕ → ℤ) (xs ys : List Value) : Type 0 where
  pub positive : 0 < m
  pub is : IsSharpAtBoundary level
  pub both : (t : ℕ × ℕ) (p : ℕ) → is_boundary level.polygons t ≡ true → has_end p t ≡ true
      → HasBoth m (number p) (point_value xs p) (point_value ys p)
  pub point : (t : ℕ × ℕ) (p : ℕ) → is_boundary level.polygons t ≡ true → has_end p t ≡ true
      → (vertex_sharpness_of level p ≡ Infinite) ⊎ IsMidway level number p

-- an end of the pair is one of the two
half-ends : (p v n : ℕ) (t : ℕ × ℕ) → has_end p t ≡ true → same_edge t (v, n) ≡ true → (nat_eq p v || nat_eq p n) ≡ true
half-ends p v n t at same = grind (arith, nat_tests)

-- two sums with the point itself have twice as much in all as twice the point
twice-both : (p a b : ℤ) → a +ℤ b ≡ p +ℤ p → (p +ℤ a) +ℤ (p +ℤ b) ≡ (p +ℤ p) +ℤ (p +ℤ p)
twice-both p a b h = omega (arith, ints)

-- twice a number
two-times : (x : ℤ) → pos 2 *ℤ x ≡ x +ℤ x
two-times x = omega (arith, ints)

module _ (level : Level) (m : ℕ) (number : ℕ → ℤ) (xs ys : List Value) (st : IsStraight level m number xs ys) where
  -- the numbers and the values of the next level
  abbrev next : ℕ → ℤ
  next = next_number level number

  abbrev xs_next : List Value
  xs_next = child_values level CatmullClark xs

  abbrev ys_next : List Value
  ys_next = child_values level Linear ys

  -- A point of the level.

  module _ (e : ℕ × ℕ) (v : ℕ) (on_boundary : is_boundary level.polygons e ≡ true) (at : has_end v e ≡ true) where
    -- an end of a boundary edge is a point of the level
    old-below : nat_lt v level.point_count ≡ true
    old-below = end-inside level.point_count v e (edge-of-one level.point_count level.polygons st.is.over st.is.simple e on_boundary).inside at

    -- both values of an end of a boundary edge are its number over m
    own : HasBoth m (number v) (point_value xs v) (point_value ys v)
    own = st.both e v on_boundary at

    -- the mask gives twice the number over twice the denominator
    abbrev Over : Mask → Type 0
    Over mask = IsNumber (2 * m) (pos 2 *ℤ number v) (mask_value (source_value level xs) mask)

    -- the vertex mask gives what the scheme's own corner or crease gives
    old-mask : Over (vertex_mask level CatmullClark v)
    old-mask = here (st.point e v on_boundary at)
      where
        on_crease : (c : IsMidway level number v) → (vertex_mask level CatmullClark v ≡ crease_mask v c.a c.b) ⊎ (vertex_mask level CatmullClark v ≡ crease_mask v c.b c.a)
            → Over (vertex_mask level CatmullClark v)
        on_crease c (inl h) =
            let first = (st.both (v, c.a) c.a c.crease.to_a (second-end (v, c.a))).first in
            let second = (st.both (v, c.b) c.b c.crease.to_b (second-end (v, c.b))).first in
            subst Over (sym h) (crease-number m (source_value level xs) number v c.a c.b own.first first second c.middle)
        on_crease c (inr h) =
            let first = (st.both (v, c.a) c.a c.crease.to_a (second-end (v, c.a))).first in
            let second = (st.both (v, c.b) c.b c.crease.to_b (second-end (v, c.b))).first in
            subst Over (sym h) (crease-number m (source_value level xs) number v c.b c.a own.first second first (+ℤ_comm (number c.b) (number c.a) ∙ c.middle))

        here : (vertex_sharpness_of level v ≡ Infinite) ⊎ IsMidway level number v → Over (vertex_mask level CatmullClark v)
        here (inl h) = subst Over (sym (kept-vertex level v h)) (corner-number m (source_value level xs) number v own.first)
        here (inr c) = on_crease c (crease-vertex level st.is v c.a c.b c.crease)

    -- an old point has its number in the next level
    old-both : HasBoth (2 * m) (next v) (point_value xs_next v) (point_value ys_next v)
    old-both =
        let P : Value → ℤ → Type 0 = λ x n. IsNumber (2 * m) n x in
        let number_is = sym (number-old level number v old-below) in
        record {
          first = subst (λ n. P (point_value xs_next v) n) number_is
              (subst (λ x. P x (pos 2 *ℤ number v)) (sym (value-old level CatmullClark xs v old-below)) old-mask);
          second = subst (λ n. P (point_value ys_next v) n) number_is
              (subst (λ x. P x (pos 2 *ℤ number v)) (sym (value-old level Linear ys v old-below)) (corner-number m (source_value level ys) number v own.second));
        }

    -- a point between its old neighbours is between its new ones
    old-midway : IsMidway level number v → IsMidway (child_level level) next v
    old-midway c =
        let at_a = (edge-of-one level.point_count level.polygons st.is.over st.is.simple (v, c.a) c.crease.to_a).named in
        let at_b = (edge-of-one level.point_count level.polygons st.is.over st.is.simple (v, c.b) c.crease.to_b).named in
        let itself = number-old level number v old-below in
        let sums : next (point_of level (v, c.a)) +ℤ next (point_of level (v, c.b)) ≡ (number v +ℤ number c.a) +ℤ (number v +ℤ number c.b) =
        ap (λ z. z +ℤ next (point_of level (v, c.b))) (number-new level number (v, c.a) at_a)
        ∙ ap (λ z. (number v +ℤ number c.a) +ℤ z) (number-new level number (v, c.b) at_b) in
        let twice : next v ≡ number v +ℤ number v = itself ∙ two-times (number v) in
        record {
          a = point_of level (v, c.a);
          b = point_of level (v, c.b);
          crease = old-crease level st.is v c.a c.b old-below c.crease;
          middle =
              sums
              ∙ twice-both (number v) (number c.a) (number c.b) (c.middle ∙ two-times (number v))
              ∙ sym (two-times (next v) ∙ ap (λ z. z +ℤ z) twice);
        }

    -- an old point stays infinitely sharp or between its neighbours
    old-point : (vertex_sharpness_of (child_level level) v ≡ Infinite) ⊎ IsMidway (child_level level) next v
    old-point = here (st.point e v on_boundary at)
      where
        here : (vertex_sharpness_of level v ≡ Infinite) ⊎ IsMidway level number v
            → (vertex_sharpness_of (child_level level) v ≡ Infinite) ⊎ IsMidway (child_level level) next v
        here (inl h) = inl (old-uniform level v (ltb-true v level.point_count old-below) ∙ ap uniform_child h)
        here (inr c) = inr (old-midway c)

  -- The new point of a boundary edge.

  module _ (e : ℕ × ℕ) (on_boundary : is_boundary level.polygons e ≡ true) where
    -- the edge as it is listed
    abbrev as_listed : ℕ × ℕ
    as_listed = listed level e

    -- the edge is listed
    named : is_edge level e ≡ true
    named = (edge-of-one level.point_count level.polygons st.is.over st.is.simple e on_boundary).named

    -- the edge has one face, named in its listed direction
    listed-boundary : is_boundary level.polygons as_listed ≡ true
    listed-boundary = sym (boundary-alike level.polygons st.is.simple e as_listed (listed-same level e named)) ∙ on_boundary

    -- the new point of the edge has its number in the next level
    new-both : HasBoth (2 * m) (next (point_of level e)) (point_value xs_next (point_of level e)) (point_value ys_next (point_of level e))
    new-both =
        let P : Value → ℤ → Type 0 = λ x n. IsNumber (2 * m) n x in
        let sum : ℤ = number as_listed.0 +ℤ number as_listed.1 in
        let number_is = sym (number-listed level number e) in
        let first = st.both as_listed as_listed.0 listed-boundary (first-end as_listed) in
        let second = st.both as_listed as_listed.1 listed-boundary (second-end as_listed) in
        let infinite = is-infinite (edge_sharpness_of level as_listed) (sharp-at level st.is.simple st.is.sharp as_listed listed-boundary) in
        let middle : point_value xs_next (point_of level e) ≡ mask_value (source_value level xs) (sharp_edge_mask as_listed) =
        value-new level CatmullClark xs e named ∙ ap (mask_value (source_value level xs)) (middle-edge level as_listed infinite) in
        record {
          first = subst (λ n. P (point_value xs_next (point_of level e)) n) number_is
              (subst (λ x. P x sum) (sym middle) (middle-number m (source_value level xs) number as_listed first.first second.first));
          second = subst (λ n. P (point_value ys_next (point_of level e)) n) number_is
              (subst (λ x. P x sum) (sym (value-new level Linear ys e named)) (middle-number m (source_value level ys) number as_listed first.second second.second));
        }

    -- a new point is between the ends of its edge
    new-midway : IsMidway (child_level level) next (point_of level e)
    new-midway =
        let inside = (edge-of-one level.point_count level.polygons st.is.over st.is.simple e on_boundary).inside in
        let sums : next e.0 +ℤ next e.1 ≡ pos 2 *ℤ number e.0 +ℤ pos 2 *ℤ number e.1 =
        ap (λ z. z +ℤ next e.1) (number-old level number e.0 (end-inside level.point_count e.0 e inside (first-end e)))
        ∙ ap (λ z. pos 2 *ℤ number e.0 +ℤ z) (number-old level number e.1 (end-inside level.point_count e.1 e inside (second-end e))) in
        record {
          a = e.0;
          b = e.1;
          crease = new-crease level st.is e on_boundary;
          middle = sums ∙ sym (pos-distrib 2 (number e.0) (number e.1)) ∙ ap (λ z. pos 2 *ℤ z) (sym (number-new level number e named));
        }

  -- Both kinds of points.

  -- a fact of each end of a boundary edge of the next level, from facts of the old ends and of the new points
  ends-next : (P : ℕ → Type 0) → ((e : ℕ × ℕ) (v : ℕ) → is_boundary level.polygons e ≡ true → has_end v e ≡ true → P v)
      → ((e : ℕ × ℕ) → is_boundary level.polygons e ≡ true → P (point_of level e))
      → (t : ℕ × ℕ) (p : ℕ) → is_boundary (child_level level).polygons t ≡ true → has_end p t ≡ true → P p
  ends-next P old new t p on_boundary at = here (child-boundary level.point_count level.polygons st.is.over st.is.simple st.is.distinct t on_boundary)
    where
      here : IsBoundaryHalf level.point_count level.polygons t → P p
      here from = which (or_cases _ _ (half-ends p from.end (point_of level from.edge) t at from.half))
        where
          which : (nat_eq p from.end ≡ true) ⊎ (nat_eq p (point_of level from.edge) ≡ true) → P p
          which (inl h) = subst P (sym (eqb-true p from.end h)) (old from.edge from.end from.on_boundary from.at_end)
          which (inr h) = subst P (sym (eqb-true p (point_of level from.edge) h)) (new from.edge from.on_boundary)

  -- the boundary of the next level is straight
  pub straight-child : IsStraight (child_level level) (2 * m) next xs_next ys_next
  straight-child = record {
    positive = omega (arith, st.positive);
    is = sharp-child level st.is;
    both = ends-next (λ p. HasBoth (2 * m) (next p) (point_value xs_next p) (point_value ys_next p)) old-both new-both;
    point = ends-next (λ p. (vertex_sharpness_of (child_level level) p ≡ Infinite) ⊎ IsMidway (child_level level) next p) old-point
        (λ e on_boundary. inr (new-midway e on_boundary));
  }
