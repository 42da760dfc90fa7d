-- A map of the definitions finds the leaf of each location.
use Rattle.std.proofs.Common.{◌≡◌, ℕ, zero, suc, ◌+◌, ◌<◌, ◌≤◌, Bool, true, false, nat_eq, nat_le, List, [], ◌∷◌, length, get_or, Some, None, arith, refl, ap, sym, ◌∙◌, subst}
use Rattle.std.specs.List.{position_or_len}
use Rattle.std.specs.Option.{option_map_or}
use Rattle.std.proofs.lemmas.Bool.{eqb-true, ltb-true}
use Rattle.std.proofs.lemmas.List.{get_or-map}
use Rattle.std.proofs.lemmas.List.FromFn.{length-range_with_len, get_or-range_with_len}
use Rattle.subdiv_model.specs.Polygons.{polygon_at, is_among}
use Rattle.subdiv_model.specs.Level.{Level}
use Rattle.subdiv_model.specs.Child.{refined_level}
use Rattle.subdiv_model.specs.Sparse.{FacePredicate, child_number, selected, present}
use Rattle.subdiv_model.specs.Leaf.{Location, base_location, is_corner_of, is_quad_at, pair_at, child_at, leaf_of}
use Rattle.leaf_laws.specs.FirstLeaf.{IsInGrid, first_with, first_corner, first_leaf}
use Rattle.leaf_laws.proofs.PairLemmas.{first-below}
use Rattle.leaf_laws.proofs.FirstLemmas.{corner-first, leaf-first}
use Rattle.patch_map.specs.Map.{MapLevel, LevelMap}
use Rattle.patch_map.specs.Found.{corner_in, pair_in, face_at, leaf_below, leaf_in}
use Rattle.patch_map.specs.Is.{IsAfter, IsMapOf, first_in}
use Rattle.patch_map.proofs.MapLemmas.{map-faces, map-size}
use Rattle.patch_map.proofs.PresentLemmas.{present-below, child-stands, quad-after}

plus-one : (k : ℕ) → k + 1 ≡ suc k
plus-one k = omega arith

-- the pair in the child is that of the definitions
pair-same : (grid : ℕ) (level : Level) (at : Location) (q : Bool) → is_quad_at level at ≡ q → pair_in grid (is_quad_at level at) at ≡ pair_at grid level at (first_corner grid level at)
pair-same grid level at true e = rw e refl
pair-same grid level at false e = rw e refl

location-same : (level other number same : ℕ) (pair twin : ℕ × ℕ) → level ≡ other → number ≡ same → pair ≡ twin
    → (let at : Location = record { level = level; number = number; corner = 0; s = pair.0; t = pair.1 } in at) ≡ (let at : Location = record { level = other; number = same; corner = 0; s = twin.0; t = twin.1 } in at)
location-same level other number same pair twin e f g =
    let made : ℕ → ℕ → ℕ × ℕ → Location = λ l n p. record { level = l; number = n; corner = 0; s = p.0; t = p.1 } in
    ap (λ l. made l number pair) e ∙ ap (λ n. made other n pair) f ∙ ap (made other same) g

module _ (grid : ℕ) (base : Level) (predicate : FacePredicate) where
  -- a location on the face at a place among the present faces of a depth
  pub record IsOn (k place : ℕ) (at : Location) : Type 0 where
    pub there : place < length (present base predicate k)
    pub number_is : at.number ≡ get_or (present base predicate k) place 0
    pub inside : IsInGrid grid at
    pub corner : is_quad_at (refined_level base k) at ≡ false → at.corner < length (polygon_at (refined_level base k).polygons at.number)

  module _ (place : ℕ) (at : Location) (is : IsOn at.level place at) where
    abbrev here : Level
    here = refined_level base at.level

    abbrev corner : ℕ
    corner = first_corner grid here at

    abbrev child : Location
    child = child_at grid here at corner

    abbrev first_place : ℕ
    first_place = position_or_len (nat_le (child_number here.polygons (at.number, 0))) (present base predicate (suc at.level))

    pub face-below : at.number < length here.polygons
    face-below = let below = present-below base predicate at.level place 0 is.there in omega (arith, below, is.number_is)

    -- the corner belongs to the face
    corner-below : (q : Bool) → is_quad_at here at ≡ q → corner < length (polygon_at here.polygons at.number)
    corner-below true e =
        let taken : corner ≡ first_with grid (at.s, at.t) = rw e refl in
        omega (arith, taken, first-below grid at.s at.t is.inside.s is.inside.t, eqb-true (length (polygon_at here.polygons at.number)) 4 e)
    corner-below false e = let taken : corner ≡ at.corner = rw e refl in omega (arith, taken, is.corner e)

    module _ (chosen : is_among (selected base predicate at.level) at.number ≡ true) where
      -- the place of a child after that of the first one
      pub stands : (first_place + corner < length (present base predicate (suc at.level)))
          × (get_or (present base predicate (suc at.level)) (first_place + corner) 0 ≡ child_number here.polygons (at.number, corner))
      stands = child-stands base predicate at.level at.number corner chosen face-below (corner-below (is_quad_at here at) refl)

      pub child-quad : is_quad_at (refined_level base (suc at.level)) child ≡ true
      child-quad =
          let below = present-below base predicate (suc at.level) (first_place + corner) 0 stands.0 in
          quad-after base predicate at.level child.number (omega (arith, below, stands.1))

      pub child-on : IsOn (suc at.level) (first_place + corner) child
      child-on = record {
        there = stands.0;
        number_is = sym stands.1;
        inside = (corner-first grid here at is.inside).inside;
        corner = λ no. let yes = child-quad in absurd (cc);
      }

      pub face-child : (level : MapLevel) → IsAfter base predicate at.level level → face_at level (first_place + corner) (pair_in grid (is_quad_at here at) at) ≡ child
      face-child level after =
          location-same level.depth (at.level + 1) (get_or level.numbers (first_place + corner) 0) child.number
          (pair_in grid (is_quad_at here at) at) (pair_at grid here at corner)
          (after.depth_is ∙ sym (plus-one at.level))
          (ap (λ numbers. get_or numbers (first_place + corner) 0) after.numbers ∙ stands.1)
          (pair-same grid here at (is_quad_at here at) refl)

    -- the place of the first child
    pub first-known : (level : MapLevel) → IsAfter base predicate at.level level → get_or level.firsts place None ≡ first_in base predicate at.level at.number
    first-known level after =
        ap (λ firsts. get_or firsts place None) after.firsts
        ∙ get_or-map (first_in base predicate at.level) (present base predicate at.level) place 0 None is.there
        ∙ ap (first_in base predicate at.level) (sym is.number_is)

  -- the leaf of the descent is the one of the definitions
  pub below-first : (further place : ℕ) (levels : List MapLevel) (at : Location) → length levels ≡ further
      → ((j : ℕ) (d : MapLevel) → j < further → IsAfter base predicate (at.level + j) (get_or levels j d)) → IsOn at.level place at
      → leaf_below grid levels (is_quad_at (refined_level base at.level) at) place at ≡ first_leaf grid further base predicate at
  below-first zero place [] at many each is = refl
  below-first zero place (level ∷ levels) at many each is = absurd (omega (arith, many))
  below-first (suc further) place [] at many each is = absurd (omega (arith, many))
  below-first (suc further) place (level ∷ levels) at many each is =
      let after : IsAfter base predicate at.level level = subst (λ k. IsAfter base predicate k level) (let e : at.level + 0 ≡ at.level = omega arith in e) (each 0 level (omega arith)) in
      go (is_among (selected base predicate at.level) at.number) refl after (λ p on. below-first further p levels (child place at is) (omega (arith, many)) (λ j d h.
      let same : at.level + suc j ≡ at.level + 1 + j = omega arith in
      subst (λ k. IsAfter base predicate k (get_or levels j d)) same (each (suc j) d (omega (arith, h)))) on)
    where
      go : (b : Bool) → is_among (selected base predicate at.level) at.number ≡ b → IsAfter base predicate at.level level
          → ((p : ℕ) → IsOn (at.level + 1) p (child place at is) → leaf_below grid levels (is_quad_at (refined_level base (at.level + 1)) (child place at is)) p (child place at is) ≡ first_leaf grid further base predicate (child place at is))
          → leaf_below grid (level ∷ levels) (is_quad_at (refined_level base at.level) at) place at ≡ first_leaf grid (suc further) base predicate at
      go true e after behind =
          let q = is_quad_at (refined_level base at.level) at in
          let p = first_place place at is + corner place at is in
          let below : ℕ → Location = λ first. leaf_below grid levels true (first + corner_in grid q at) (face_at level (first + corner_in grid q at) (pair_in grid q at)) in
          let some : get_or level.firsts place None ≡ Some (first_place place at is) = first-known place at is level after ∙ rw e refl in
          let on : IsOn (at.level + 1) p (child place at is) = subst (λ k. IsOn k p (child place at is)) (sym (plus-one at.level)) (child-on place at is e) in
          let quad : is_quad_at (refined_level base (at.level + 1)) (child place at is) ≡ true = ap (λ k. is_quad_at (refined_level base k) (child place at is)) (plus-one at.level) ∙ child-quad place at is e in
          let found : first_leaf grid (suc further) base predicate at ≡ first_leaf grid further base predicate (child place at is) = rw e refl in
          ap (λ o. option_map_or below o at) some
          ∙ ap (leaf_below grid levels true p) (face-child place at is e level after)
          ∙ ap (λ b. leaf_below grid levels b p (child place at is)) (sym quad)
          ∙ behind p on
          ∙ sym found
      go false e after behind =
          let q = is_quad_at (refined_level base at.level) at in
          let below : ℕ → Location = λ first. leaf_below grid levels true (first + corner_in grid q at) (face_at level (first + corner_in grid q at) (pair_in grid q at)) in
          let none : get_or level.firsts place None ≡ None = first-known place at is level after ∙ rw e refl in
          let found : first_leaf grid (suc further) base predicate at ≡ at = rw e refl in
          ap (λ o. option_map_or below o at) none ∙ sym found

-- the map finds the leaf of each place of a face of level 0
pub map-finds : (base : Level) (predicate : FacePredicate) (depth : ℕ) (levels : LevelMap) → IsMapOf base predicate depth levels → (face corner i j grid : ℕ) → face < length levels.sizes → is_corner_of (get_or levels.sizes face 0) corner ≡ true
    → i ≤ grid → j ≤ grid → leaf_in levels grid (base_location face corner (i, j)) ≡ leaf_of grid depth base predicate (base_location face corner (i, j))
map-finds base predicate depth levels is face corner i j grid exists fits low high =
    let at = base_location face corner (i, j) in
    let inside : IsInGrid grid at = record { s = low; t = high } in
    ap (λ n. leaf_below grid levels.levels (nat_eq n 4) face at) size
    ∙ below-first grid base predicate depth face levels.levels at is.count (λ k d h. subst (λ n. IsAfter base predicate n (get_or levels.levels k d)) (let e : k ≡ 0 + k = omega arith in e) (is.each k d h)) (record {
      there = omega (arith, below, length-range_with_len 0 (length base.polygons));
      number_is = sym (get_or-range_with_len 0 (length base.polygons) face 0 below ∙ (let e : 0 + face ≡ face = omega arith in e));
      inside = inside;
      corner = λ other. fitting (subst (λ n. is_corner_of n corner ≡ true) size fits) other;
    })
    ∙ sym (leaf-first grid depth base predicate at inside)
  where
    below : face < length base.polygons
    below = omega (arith, exists, map-faces base predicate depth levels is)

    size : get_or levels.sizes face 0 ≡ length (polygon_at base.polygons face)
    size = map-size base predicate depth levels is face below

    fitting : is_corner_of (length (polygon_at base.polygons face)) corner ≡ true → nat_eq (length (polygon_at base.polygons face)) 4 ≡ false → corner < length (polygon_at base.polygons face)
    fitting fits other = ltb-true corner (length (polygon_at base.polygons face)) (rw other at fits)
