-- Vertices that have a child point.
use Rattle.std.proofs.Common.{◌≡◌, ℕ, suc, ◌+◌, Bool, true, false, not, ◌||◌, cond, nat_lt, List, [], ◌∷◌, length, Option, Some, None, arith, refl, ap, sym, ◌∙◌}
use Rattle.std.specs.List.{list_any, position, position_or_len}
use Rattle.std.specs.Option.{is_some}
use Rattle.std.proofs.lemmas.Bool.Decides.{nat_tests}
use Rattle.level_topology.specs.Child.{PointOrigin, same_origin}
use Rattle.child_masks.specs.Masks.{has_origin}

-- one passes where the first that does is within the list
any-first : {X : Type 0} (p : X → Bool) (xs : List X) → list_any p xs ≡ nat_lt (position_or_len p xs) (length xs)
any-first p [] = refl
any-first p (x ∷ xs) = either (p x) (any-first p xs)
  where
    either : (b : Bool) → list_any p xs ≡ nat_lt (position_or_len p xs) (length xs)
        → (b || list_any p xs) ≡ nat_lt (cond (not b) (1 + position_or_len p xs) 0) (suc (length xs))
    either true h = grind (arith, nat_tests)
    either false h = grind (arith, nat_tests)

-- a list has an item that passes exactly where it has a first one
any-position : {X : Type 0} (p : X → Bool) (xs : List X) → is_some (position p xs) ≡ list_any p xs
any-position p xs = either (nat_lt (position_or_len p xs) (length xs)) ∙ sym (any-first p xs)
  where
    either : (b : Bool) → is_some (cond b (Some (position_or_len p xs)) None) ≡ b
    either true = refl
    either false = refl

-- a part of the parent is an origin where a point comes from it
pub has-point : (origins : List PointOrigin) (origin : PointOrigin) (r : Option ℕ) (none : Bool) → is_some r ≡ not none → r ≡ position (same_origin origin) origins
    → has_origin origins origin ≡ not none
has-point origins origin r none h e = sym (any-position (same_origin origin) origins) ∙ ap is_some (sym e) ∙ h

-- a part from which no point comes has no first point
pub no-point : (origins : List PointOrigin) (origin : PointOrigin) (r : Option ℕ) (none : Bool) → is_some r ≡ not none → r ≡ position (same_origin origin) origins
    → none ≡ true → has_origin origins origin ≡ true → ⊥
no-point origins origin r none h e is has = different (sym has ∙ has-point origins origin r none h e ∙ ap not is)
  where
    different : true ≡ false → ⊥
    different e = cc
