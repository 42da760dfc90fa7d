-- A sharpness for each of many items, most of them smooth: a code for each item, and the values of the codes.
use Rattle.std.specs.Prelude.{ℕ, ◌≡◌, ◌+◌, ◌^◌, ◌<◌, ◌≤◌, List, length, map, get_or}
use Rattle.subdiv_model.specs.Sharpness.{Sharpness, Smooth, Infinite}

-- The sharpness of each item, and the greatest number of items.
pub record Kept : Type 0 where
  pub sharpness : List Sharpness
  pub limit : ℕ

-- A list of sharpness with its limit.
abbrev pub kept : List Sharpness → ℕ → Kept
kept sharpness limit = record { sharpness = sharpness; limit = limit }

-- The values of the codes.
abbrev pub decoded : List Sharpness → List ℕ → List Sharpness
decoded values codes = map (λ code. get_or values code Smooth) codes

-- The first value is the smooth one, each code has a value, and there is room for every item.
pub record IsCoded (values : List Sharpness) (codes : List ℕ) (limit value_capacity code_capacity : ℕ) : Type 0 where
  pub some : 0 < length values
  pub first : get_or values 0 Infinite ≡ Smooth
  pub each : (k : ℕ) → k < length codes → get_or codes k 0 < length values
  pub few_values : length values ≤ length codes + 1
  pub within : length codes ≤ limit
  pub code_fit : limit ≤ code_capacity
  pub value_fit : length values + limit ≤ value_capacity + length codes
  pub few : limit < 2 ^ 32
