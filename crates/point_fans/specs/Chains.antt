-- The places of each number in a sequence of lists, as chains.
use Rattle.std.specs.Prelude.{ℕ, ◌≡◌, ◌<◌, ◌≤◌, nat_eq, List, [], ◌∷◌, length, map, get_or}
use Rattle.std.specs.List.{position_or_len}
use Rattle.subdiv_model.specs.Polygons.{Polygon, polygon_at}
use Rattle.subdiv_model.specs.Lists.{places}
use Rattle.level_topology.specs.ListPlaces.{joined, lists_with}

-- The place of a number in each list that contains it.
abbrev pub places_in : List Polygon → ℕ → List ℕ
places_in lists v = map (λ f. position_or_len (nat_eq v) (polygon_at lists f)) (lists_with lists v)

-- The values at these places.
abbrev pub at_places : List ℕ → List ℕ → List ℕ
at_places values chain = map (λ p. get_or values p 0) chain

-- The items, with the number of the list of each and its place there.
pub record ArePlaces (lists : List Polygon) (items owners within : List ℕ) : Type 0 where
  pub items_are : items ≡ joined lists
  pub owner_count : length owners ≡ length items
  pub within_count : length within ≡ length items
  pub owners_are : (v : ℕ) → at_places owners (places (nat_eq v) items) ≡ lists_with lists v
  pub within_are : (v : ℕ) → at_places within (places (nat_eq v) items) ≡ places_in lists v

-- The places of a chain in order, from a first one on. A number that is not a place ends it.
abbrev pub IsChain : List ℕ → ℕ → List ℕ → Type 0
IsChain next first [] = length next ≤ first
IsChain next first (p ∷ chain) = (first ≡ p) × (p < length next) × IsChain next (get_or next p 0) chain

-- Every chain ascends.
abbrev pub Ascending : List ℕ → Type 0
Ascending next = (k : ℕ) → k < length next → k < get_or next k 0

-- The places of lists of numbers below a limit, with the chains of all these numbers.
pub record AreChained (lists : List Polygon) (limit : ℕ) (items owners within firsts next : List ℕ) : Type 0 where
  pub placed : ArePlaces lists items owners within
  pub first_count : length firsts ≡ limit
  pub next_count : length next ≡ length items
  pub ascend : Ascending next
  pub chains : (v : ℕ) → v < limit → IsChain next (get_or firsts v 0) (places (nat_eq v) items)
