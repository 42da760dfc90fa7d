-- The places of the values of faces in the new list: the child points come first, then the hidden faces.
use Rattle.std.specs.Prelude.{ℕ, ◌≡◌, ◌<◌, Bool, true, false, not, ◌&&◌, List, ◌++◌, length, map, get_or}
use Rattle.level_topology.specs.Child.{PointOrigin, FromFace}
use Rattle.child_masks.specs.Masks.{has_origin, origin_at}

-- some mask uses the face, and no point comes from it
abbrev pub is_hidden : List PointOrigin → List Bool → ℕ → Bool
is_hidden origins named f = get_or named f false && not (has_origin origins (FromFace f))

-- the origins of all new values
abbrev pub all_origins : List PointOrigin → List ℕ → List PointOrigin
all_origins origins hidden = origins ++ map FromFace hidden

-- if some mask uses the face, its value is at the place
pub record IsPlace (origins : List PointOrigin) (hidden : List ℕ) (f : ℕ) (named : Bool) (place : ℕ) : Type 0 where
  pub inside : named ≡ true → place < length (all_origins origins hidden)
  pub there : named ≡ true → origin_at (all_origins origins hidden) place ≡ FromFace f

pub record ArePlaces (origins : List PointOrigin) (named : List Bool) (hidden : List ℕ) (count : ℕ) (places : List ℕ) : Type 0 where
  pub counted : length places ≡ count
  pub each : (f : ℕ) → f < count → IsPlace origins hidden f (get_or named f false) (get_or places f 0)
