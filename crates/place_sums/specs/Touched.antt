-- The list of places whose sum is not 0, and the sums that are read from places and cleared.
use Rattle.std.specs.Prelude.{ℕ, ◌≡◌, ◌+◌, true, nat_eq, nat_lt, List, [], ◌∷◌, ◌++◌, length, get_or, set, take, if◌then◌else◌}
use Rattle.subdiv_model.specs.Polygons.{is_among, is_distinct}
use Rattle.stencil_apply.specs.Table.{Share}

-- `touched` lists the places whose sum is not 0, each once.
pub record AreTouched (touched sums : List ℕ) : Type 0 where
  pub once : is_distinct touched ≡ true
  pub named : (v : ℕ) → is_among touched v ≡ nat_lt 0 (get_or sums v 0)

-- The first `count` numbers are the places whose sum is not 0, each once. There is one number more than there are places.
pub record StartWithTouched (numbers : List ℕ) (count : ℕ) (sums : List ℕ) : Type 0 where
  pub long : length numbers ≡ length sums + 1
  pub touched : AreTouched (take count numbers) sums

-- The list with a further place, if the place's sum was 0.
abbrev pub touched_with : ℕ → ℕ → List ℕ → List ℕ
touched_with place sum touched = if nat_eq sum 0 then touched ++ place ∷ [] else touched

-- Each place with its sum. Reading a sum writes 0 at its place before the next is read.
abbrev pub moved : List ℕ → List ℕ → List Share
moved [] sums = []
moved (place ∷ places) sums = (place, get_or sums place 0) ∷ moved places (set sums place 0)

-- The sums with 0 at each of the places.
abbrev pub cleared : List ℕ → List ℕ → List ℕ
cleared [] sums = sums
cleared (place ∷ places) sums = cleared places (set sums place 0)
