-- The sharp edges of a ring.
use Rattle.std.specs.Prelude.{◌≡◌, ℕ, ◌+◌, ◌<◌, List, ◌∷◌, length, map, drop}
use Rattle.subdiv_model.specs.Lists.{places_from}
use Rattle.subdiv_model.specs.Sharpness.{is_sharp}
use Rattle.sharpness_rules.specs.declared.sharpness.Sharpness.{Sharpness}
use Rattle.sharpness_rules.specs.View.{sharpness_of}

-- The places of the sharp edges from a place on, ascending.
abbrev pub sharp_places_from : ℕ → List Sharpness → List ℕ
sharp_places_from from ring = places_from from is_sharp (drop from (map sharpness_of ring))

-- The first sharp edge from a place on stands at this place.
abbrev pub IsFirstSharp : ℕ → List Sharpness → ℕ → Type 0
IsFirstSharp from ring place = (place < length ring) × (sharp_places_from from ring ≡ place ∷ sharp_places_from (place + 1) ring)
