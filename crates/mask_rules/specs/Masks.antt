-- The relation between a mask of the code and a defined mask. The order of the terms is free.
use Rattle.std.specs.Prelude.{◌≡◌, ℕ, ◌+◌, ◌-◌, ◌*◌, ◌<◌, ◌≤◌, ◌⊎◌, Bool, true, false, nat_le, Option, Some, None, [], ◌∷◌, ◌++◌, IsTrue}
use Rattle.std.specs.List.{sum_by}
use Rattle.subdiv_model.specs.Polygons.{Polygon}
use Rattle.subdiv_model.specs.Sharpness.{Sharpness, Smooth, Semi, Infinite}
use Rattle.subdiv_model.specs.Mask.{Mask, SourcePoint, Scheme, CatmullClark, Linear, weigh_points, weigh_faces, is_mean, vertex_mask}
use Rattle.subdiv_model.specs.Level.{Level}
use Rattle.subdiv_model.specs.Channel.{transition_overflows_at}
use Rattle.sharpness_laws.specs.SameWeights.{HaveSameWeights, is_joined}
use Rattle.mask_rules.specs.declared.vertex.VertexMask.{VertexMask}
use Rattle.mask_rules.specs.View.{seen_vertex}

-- Both masks have one denominator, and each source has one weight in both. The mask lists each of its sources once; its
-- weights are above 0 and sum to the denominator.
pub record IsMask (mask defined : Mask) : Type 0 where
  pub same : HaveSameWeights mask defined
  pub joined : IsTrue (is_joined mask)
  pub mean : IsTrue (is_mean mask)

-- both masks have one denominator, and each source has one weight in both; the sum of the weights is free
pub record IsJoinedAs (mask defined : Mask) : Type 0 where
  pub same : HaveSameWeights mask defined
  pub joined : IsTrue (is_joined mask)

-- the weights of a mask times the numbers of their sources, summed
abbrev pub weighted_sum : (SourcePoint → ℕ) → Mask → ℕ
weighted_sum number mask = sum_by (λ t. t.weight * number t.source) mask.terms

-- the mask is the defined one of a vertex under a scheme, and the weight between its rules is not refused
abbrev pub IsVertexMask : Level → Scheme → ℕ → VertexMask → Type 0
IsVertexMask level scheme v mask = IsMask (seen_vertex mask) (vertex_mask level scheme v) × (transition_overflows_at level scheme v ≡ false)

-- the weight 1 for each corner
abbrev pub corners_over : Polygon → ℕ → Mask
corners_over corners size = record { terms = weigh_points 1 corners; denominator = size }

-- the weight 1 for each end
abbrev pub ends_over : ℕ × ℕ → Mask
ends_over ends = record { terms = weigh_points 1 (ends.0 ∷ ends.1 ∷ []); denominator = 2 }

-- the ends and the two faces of an edge with a sharpness x/y below 1
abbrev pub around_over : ℕ → ℕ → ℕ × ℕ → ℕ × ℕ → Mask
around_over x y ends faces = record {
  terms = weigh_points (y + x) (ends.0 ∷ ends.1 ∷ []) ++ weigh_faces (y - x) (faces.0 ∷ faces.1 ∷ []);
  denominator = 4 * y;
}

abbrev pub is_at_least_one : Sharpness → Bool
is_at_least_one Smooth = false
is_at_least_one (Semi num den) = nat_le den num
is_at_least_one Infinite = true

-- the fraction of a sharpness below 1, with 0 as 0/1
abbrev pub IsBelowOne : Sharpness → Option (ℕ × ℕ) → Type 0
IsBelowOne Smooth part = part ≡ Some (0, 1)
IsBelowOne (Semi num den) part = ((num < den) × (part ≡ Some (num, den))) ⊎ ((den ≤ num) × (part ≡ None))
IsBelowOne Infinite part = part ≡ None

-- the fraction of an edge whose faces have weights, and `None` where only its ends have weights
abbrev pub IsPartBelowOne : Scheme → Sharpness → Option (ℕ × ℕ) → Type 0
IsPartBelowOne CatmullClark s part = IsBelowOne s part
IsPartBelowOne Linear s part = part ≡ None
