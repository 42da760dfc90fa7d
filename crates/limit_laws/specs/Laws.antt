-- Limit masks and their values at a level and at later levels, for the laws of limit points.
-- Source: Drillolive.
use Rattle.std.specs.Prelude.{◌≡◌, ℕ, ◌+◌, ◌<◌, ℤ, List, Ok, IsTrue}
use Rattle.std.specs.List.{All}
use Rattle.subdiv_model.specs.Level.{Level}
use Rattle.subdiv_model.specs.Child.{refined_level}
use Rattle.subdiv_model.specs.Mask.{CatmullClark, Mask}
use Rattle.subdiv_model.specs.Value.{Value, IsSameValue}
use Rattle.subdiv_model.specs.Refined.{mask_value, point_value, source_value, control_values, refined_values}
use Rattle.subdiv_model.specs.Limit.{has_quads, limit_of, limit_values}
use Rattle.mask_laws.specs.Laws.{IsManifoldWithSharpBoundary}

-- the value of a mask over the points and faces of a level
abbrev pub value_in : Level → List Value → Mask → Value
value_in level values mask = mask_value (source_value level values) mask

-- Point v has this limit mask in a manifold of quads whose boundary is infinitely sharp. The values of the points are over
-- denominators above 0.
pub record LimitPoint : Type 0 where
  pub level : Level
  pub well : IsManifoldWithSharpBoundary level
  pub quads : IsTrue (has_quads level)
  pub values : List Value
  pub above_zero : All (λ x. 0 < x.den) values
  pub v : ℕ
  pub inside : v < level.point_count
  pub mask : Mask
  pub is : limit_of level v ≡ Ok mask

-- Point v has this limit mask after k steps from a manifold whose boundary is infinitely sharp, in a level of quads. The values
-- are refined from control numbers.
pub record RefinedLimitPoint : Type 0 where
  pub base : Level
  pub well : IsManifoldWithSharpBoundary base
  pub controls : List ℤ
  pub k : ℕ
  pub quads : IsTrue (has_quads (refined_level base k))
  pub v : ℕ
  pub inside : v < (refined_level base k).point_count
  pub mask : Mask
  pub is : limit_of (refined_level base k) v ≡ Ok mask

-- the values that control numbers are refined to after a number of steps
abbrev pub values_after : Level → List ℤ → ℕ → List Value
values_after base controls k = refined_values base CatmullClark (control_values controls) k

-- the value listed as the limit of a point after a number of steps
abbrev pub limit_after : Level → List ℤ → ℕ → ℕ → Value
limit_after base controls k v = point_value (limit_values (refined_level base k) (values_after base controls k)) v

-- Point v has a limit mask in this level that gives the value x. Both values are over denominators above 0.
pub record HasLimit (level : Level) (values : List Value) (v : ℕ) (x : Value) : Type 0 where
  pub mask : Mask
  pub is : limit_of level v ≡ Ok mask
  pub same : IsSameValue x (value_in level values mask)
  pub above_zero : (0 < x.den) × (0 < (value_in level values mask).den)

-- after j further steps the point has a limit mask, and it gives the value of the first limit mask
abbrev pub KeepsLimit : RefinedLimitPoint → ℕ → Type 0
KeepsLimit point j =
    HasLimit (refined_level point.base (point.k + j)) (values_after point.base point.controls (point.k + j)) point.v
    (value_in (refined_level point.base point.k) (values_after point.base point.controls point.k) point.mask)
