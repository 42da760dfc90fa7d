-- Lists of lists as one list and the places where each begins.
use Rattle.std.specs.Prelude.{ℕ, ◌≡◌, ◌+◌, ◌-◌, ◌^◌, ◌<◌, ◌≤◌, List, [], ◌∷◌, length, slice_range, get_or}

-- Lists of numbers, each beside a list of equal length, and the greatest numbers of lists and items.
pub record Paired (X : Type 0) : Type 0 where
  pub lists : List (List ℕ)
  pub beside : List (List X)
  pub list_limit : ℕ
  pub item_limit : ℕ

-- The lists with these limits.
abbrev pub paired : {X : Type 0} → List (List ℕ) → List (List X) → ℕ → ℕ → Paired X
paired lists beside list_limit item_limit = record { lists = lists; beside = beside; list_limit = list_limit; item_limit = item_limit }

-- The parts of a list between each place and the next.
abbrev pub pieces : {X : Type 0} → List ℕ → List X → List (List X)
pieces [] xs = []
pieces (a ∷ []) xs = []
pieces (a ∷ (b ∷ places)) xs = slice_range xs a b ∷ pieces (b ∷ places) xs

-- The differences between each place and the next.
abbrev pub gaps : List ℕ → List ℕ
gaps [] = []
gaps (a ∷ []) = []
gaps (a ∷ (b ∷ places)) = (b - a) ∷ gaps (b ∷ places)

-- The places ascend, and the last one is `end`.
abbrev pub Ascend : List ℕ → ℕ → Type 0
Ascend [] end = ⊥
Ascend (a ∷ []) end = a ≡ end
Ascend (a ∷ (b ∷ places)) end = (a ≤ b) × Ascend (b ∷ places) end

-- The places split both lists from the start, and there is room for every list and item.
pub record IsPacked {X : Type 0} (starts items : List ℕ) (beside : List X) (list_limit item_limit list_room item_room beside_room : ℕ) : Type 0 where
  pub ascend : Ascend starts (length items)
  pub begins : get_or starts 0 0 ≡ 0
  pub equal : length beside ≡ length items
  pub lists_within : length starts ≤ list_limit + 1
  pub items_within : length items ≤ item_limit
  pub list_fit : list_limit + 1 ≤ list_room
  pub item_fit : item_limit ≤ item_room
  pub beside_fit : item_limit ≤ beside_room
  pub few : list_limit < 2 ^ 32
  pub short : item_limit < 2 ^ 32
