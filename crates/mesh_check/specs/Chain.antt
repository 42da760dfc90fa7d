-- Items that each lead to at most one other, and the test whether all form one chain. An item is a place in a list; the list
-- has there the item it leads to, or no item.
use Rattle.std.specs.Prelude.{ℕ, zero, suc, ◌≡◌, ◌<◌, ◌⊎◌, Bool, true, false, not, ◌&&◌, nat_eq, nat_lt, List, [], ◌∷◌, length, get_or, slice_set}
use Rattle.std.specs.List.{list_all}
use Rattle.subdiv_model.specs.Polygons.{is_among, is_distinct}

-- each leads to the one after it
abbrev pub Links : List ℕ → List ℕ → Type 0
Links next [] = Unit {0}
Links next (i ∷ []) = Unit {0}
Links next (i ∷ (j ∷ rest)) = (get_or next i (length next) ≡ j) × Links next (j ∷ rest)

-- some list of all items has each lead to the one after it; the last may lead to the first
pub record IsOneChain (next : List ℕ) : Type 0 where
  pub order : List ℕ
  pub once : is_distinct order ≡ true
  pub all : (i : ℕ) → is_among order i ≡ nat_lt i (length next)
  pub links : Links next order

-- the items of a walk of this many steps, each led to by the one before
abbrev pub walked : List ℕ → ℕ → ℕ → List ℕ
walked next zero i = []
walked next (suc steps) i = i ∷ walked next steps (get_or next i (length next))

-- a walk of as many steps as there are items visits only items, and none of them twice
abbrev pub is_long_walk : List ℕ → ℕ → Bool
is_long_walk next i = list_all (λ k. nat_lt k (length next)) (walked next (length next) i) && is_distinct (walked next (length next) i)

-- an item at which a chain can begin: the item that no item leads to, or any if each is led to
abbrev pub IsStart : List ℕ → ℕ → Type 0
IsStart next s = ((s < length next) × (is_among next s ≡ false)) ⊎ ((s ≡ 0) × ((j : ℕ) → j < length next → is_among next j ≡ true))

-- the rest of a walk visits only items, and none that is marked
abbrev pub goes_on : ℕ → List ℕ → List ℕ → ℕ → ℕ → Bool
goes_on mark next marks zero i = true
goes_on mark next marks (suc steps) i =
    nat_lt i (length next) && (not (nat_eq (get_or marks i 0) mark) && goes_on mark next (slice_set marks i mark) steps (get_or next i (length next)))
