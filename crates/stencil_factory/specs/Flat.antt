-- The terms of a mask as weights of the level's points. A face point becomes equal weights of the corners of its face.
use Rattle.std.specs.Prelude.{ℕ, ◌≡◌, ◌+◌, ◌*◌, ◌/◌, ◌<◌, ◌≤◌, List, [], ◌∷◌, length, map, get_or}
use Rattle.std.specs.List.{AllByRecursion, flat_map}
use Rattle.subdiv_model.specs.Polygons.{polygon_at}
use Rattle.subdiv_model.specs.Level.{Level}
use Rattle.subdiv_model.specs.Mask.{SourcePoint, OfPoint, OfFace, Term, Mask}
use Rattle.subdiv_model.specs.Channel.{number_bound}
use Rattle.stencil_apply.specs.Table.{Share, total_of}
use Rattle.place_sums.specs.Sums.{sum_of, AreSharesOf}
use Rattle.stencil_factory.specs.Weights.{AreWeights}

-- Each corner with `factor` times `multiple` over the corner's denominator.
abbrev pub corner_shares : List ℕ → ℕ → ℕ → List ℕ → List Share
corner_shares dens factor multiple corners = map (λ v. (v, factor * (multiple / get_or dens v 1))) corners

-- The weights over `m` that one source gives: of the point, or of the corners of the face.
abbrev pub source_shares : Level → List ℕ → List ℕ → ℕ → ℕ → SourcePoint → List Share
source_shares level dens faces m weight (OfPoint v) = (v, weight * (m / get_or dens v 1)) ∷ []
source_shares level dens faces m weight (OfFace f) =
    corner_shares dens (weight * (m / get_or faces f 1)) (get_or faces f 1 / length (polygon_at level.polygons f)) (polygon_at level.polygons f)

-- The weights over `m` that one term gives.
abbrev pub term_shares : Level → List ℕ → List ℕ → ℕ → Term → List Share
term_shares level dens faces m t = source_shares level dens faces m t.weight t.source

-- The weights over `m` that all terms give, in their order.
abbrev pub flat_shares : Level → List ℕ → List ℕ → ℕ → List Term → List Share
flat_shares level dens faces m terms = flat_map (term_shares level dens faces m) terms

-- Each amount is above 0 and has a place. All sums together stay at most `most` and at most the bound of numbers.
pub record CanAddAll (most : ℕ) (shares : List Share) (sums : List ℕ) : Type 0 where
  pub inside : AllByRecursion (λ share. share.0 < length sums) shares
  pub each : AllByRecursion (λ share. 0 < share.1) shares
  pub short : sum_of sums + total_of shares ≤ number_bound
  pub fits : sum_of sums + total_of shares ≤ most

-- The source has a denominator, and its weight over `m` is at most the bound of numbers.
abbrev pub CanWeigh : Level → List ℕ → List ℕ → ℕ → ℕ → SourcePoint → Type 0
CanWeigh level dens faces m weight (OfPoint v) = (v < length dens) × (weight * (m / get_or dens v 1) ≤ number_bound)
CanWeigh level dens faces m weight (OfFace f) =
    (f < length level.polygons) × (f < length faces) × (0 < get_or faces f 1) × (weight * (m / get_or faces f 1) ≤ number_bound)

-- `CanWeigh` for the source and the weight of a term.
abbrev pub CanWeighTerm : Level → List ℕ → List ℕ → ℕ → Term → Type 0
CanWeighTerm level dens faces m t = CanWeigh level dens faces m t.weight t.source

-- There is one sum for each point of the level. The sums that are not 0 are the weights of the mask, in any order.
pub record IsWeighed (level : Level) (dens : List ℕ) (mask : Mask) (sums : List ℕ) : Type 0 where
  pub count : length sums ≡ level.point_count
  pub weights : (shares : List Share) → AreSharesOf sums shares → AreWeights level dens mask shares
