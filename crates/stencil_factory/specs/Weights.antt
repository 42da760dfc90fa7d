-- A mask as weights of the level's points. A face point becomes weights of the corners of its face.
use Rattle.std.specs.Prelude.{ℕ, ◌≡◌, ◌*◌, ◌<◌, ℤ, nat_eq, Bool, List, length}
use Rattle.std.specs.List.{All, list_any, sum_by}
use Rattle.std.specs.Prelude.{get_or}
use Rattle.subdiv_model.specs.Polygons.{is_among, polygon_at}
use Rattle.subdiv_model.specs.Level.{Level}
use Rattle.subdiv_model.specs.Value.{Value}
use Rattle.subdiv_model.specs.Mask.{SourcePoint, OfPoint, OfFace, Mask}
use Rattle.subdiv_model.specs.Refined.{mask_value, source_value, mask_denominator, source_denominator}
use Rattle.mask_laws.proofs.SumLemmas.{IsOver}
use Rattle.stencil_apply.specs.Table.{Share}
use Rattle.stencil_factory.specs.Rows.{support_of, share_sum, values_over, AreSameValues}

-- Whether the source names point `v`: the source is the point, or a face with the point as a corner.
abbrev pub names_point : Level → ℕ → SourcePoint → Bool
names_point level v (OfPoint u) = nat_eq u v
names_point level v (OfFace f) = is_among (polygon_at level.polygons f) v

-- Whether a source of the mask names point `v`.
abbrev pub is_named : Level → Mask → ℕ → Bool
is_named level mask v = list_any (λ t. names_point level v t.source) mask.terms

-- The shares are the points that the mask names, each with a weight above 0, in any order. For all values of the points, the weights
-- times the numerators of these values sum to the mask's value over its common denominator. The weights times the denominators of
-- the points sum to that common denominator.
pub record AreWeights (level : Level) (dens : List ℕ) (mask : Mask) (shares : List Share) : Type 0 where
  pub inside : All (λ share. share.0 < level.point_count) shares
  pub each : All (λ share. 0 < share.1) shares
  pub total : sum_by (λ share. share.1 * get_or dens share.0 1) shares ≡ mask_denominator (source_denominator level dens) mask
  pub named : (v : ℕ) → is_among (support_of shares) v ≡ is_named level mask v
  pub value : (numbers : List ℤ) (values : List Value) → length numbers ≡ length dens → AreSameValues values (values_over dens numbers)
      → IsOver (mask_denominator (source_denominator level dens) mask) (mask_value (source_value level values) mask) (share_sum numbers shares)
