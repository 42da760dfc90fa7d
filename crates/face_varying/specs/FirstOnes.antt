-- Items numbered by first appearance, one after another.
use Rattle.std.specs.Prelude.{ℕ, ◌≡◌, ◌<◌, ◌+◌, ◌-◌, ◌^◌, Bool, nat_eq, List, [], ◌∷◌, ◌++◌, length, get_or, if◌then◌else◌}
use Rattle.std.specs.List.{list_any, position_or_len}
use Rattle.subdiv_model.specs.Polygons.{is_among}

-- the items so far, with one more at the end if it is new
abbrev pub seen_with : {X : Type 0} → (X → X → Bool) → List X → X → List X
seen_with same seen x = if list_any (same x) seen then seen else seen ++ x ∷ []

-- the items so far, with the new items of a list at the end
abbrev pub seen_after : {X : Type 0} → (X → X → Bool) → List X → List X → List X
seen_after same seen [] = seen
seen_after same seen (x ∷ xs) = seen_after same (seen_with same seen x) xs

-- the number of each item: its place among the items before, or their number if it is new
abbrev pub numbers_after : {X : Type 0} → (X → X → Bool) → List X → List X → List ℕ
numbers_after same seen [] = []
numbers_after same seen (x ∷ xs) = position_or_len (same x) seen ∷ numbers_after same (seen_with same seen x) xs

-- a list, with one more item at the end if its number equals the number of items so far
abbrev pub with_first : {X : Type 0} → ℕ → ℕ → List X → X → List X
with_first count number xs x = if nat_eq number count then xs ++ x ∷ [] else xs

-- the items whose number equals the number of items before them
abbrev pub first_ones : {X : Type 0} → ℕ → List ℕ → List X → List X
first_ones count numbers [] = []
first_ones count [] (x ∷ xs) = []
first_ones count (n ∷ numbers) (x ∷ xs) = if nat_eq n count then x ∷ first_ones (count + 1) numbers xs else first_ones count numbers xs

-- for each label its number, or the greatest 32-bit number if it has none
pub record AreKnown (seen known : List ℕ) : Type 0 where
  pub entries : (label : ℕ) → label < length known → get_or known label 0 ≡ (if is_among seen label then position_or_len (nat_eq label) seen else 2 ^ 32 - 1)
