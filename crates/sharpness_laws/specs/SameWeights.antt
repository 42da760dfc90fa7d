-- Masks that give each source the same weight, in whatever order of terms.
use Rattle.std.specs.Prelude.{◌≡◌, Bool, ◌&&◌, nat_lt, IsTrue}
use Rattle.std.specs.List.{list_all}
use Rattle.subdiv_model.specs.Mask.{SourcePoint, Mask, weight_in, has_distinct_sources}

-- both masks have the same denominator and give each source the same weight, which is 0 for a source not in the mask
pub record HaveSameWeights (m n : Mask) : Type 0 where
  pub denominator : m.denominator ≡ n.denominator
  pub weights : (source : SourcePoint) → weight_in m.terms source ≡ weight_in n.terms source

-- each source is in one term, and no weight is 0
abbrev pub is_joined : Mask → Bool
is_joined mask = has_distinct_sources mask.terms && list_all (λ t. nat_lt 0 t.weight) mask.terms

-- the mask lists each source once, with a weight above 0
abbrev pub IsJoined : Mask → Type 0
IsJoined mask = IsTrue (is_joined mask)
