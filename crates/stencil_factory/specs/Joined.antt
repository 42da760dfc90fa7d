-- The weights that a caller gives for a mask, and the mask with one term for each point.
use Rattle.std.specs.Prelude.{ℕ, ◌≡◌, ◌*◌, ◌/◌, ◌<◌, nat_lt, true, List, map, get_or}
use Rattle.std.specs.List.{All, filter}
use Rattle.subdiv_model.specs.Mask.{OfPoint, Term, Mask, weigh}
use Rattle.sharpness_laws.specs.SameWeights.{is_joined}
use Rattle.mask_rules.specs.Masks.{IsMask}
use Rattle.stencil_apply.specs.Table.{Share}

-- Points with their weights, as terms of a mask.
abbrev pub terms_of_shares : List Share → List Term
terms_of_shares shares = map (λ share. weigh share.1 (OfPoint share.0)) shares

-- Points with their weights over a denominator, as a mask.
abbrev pub mask_of_shares : ℕ → List Share → Mask
mask_of_shares denominator shares = record { terms = terms_of_shares shares; denominator = denominator }

-- The weights that are above 0.
abbrev pub weighing : List Share → List Share
weighing shares = filter (λ share. nat_lt 0 share.1) shares

-- Each weight times `m` over the denominator of its point.
abbrev pub amounts_of : List ℕ → ℕ → List Share → List Share
amounts_of dens m shares = map (λ share. (share.0, share.1 * (m / get_or dens share.0 1))) shares

-- The shares are the points of the mask, all below `count`, each once, with their weights over the denominator.
pub record AreJoined (count : ℕ) (mask : Mask) (denominator : ℕ) (shares : List Share) : Type 0 where
  pub same : IsMask (mask_of_shares denominator shares) mask
  pub joined : is_joined mask ≡ true
  pub inside : All (λ share. share.0 < count) shares
