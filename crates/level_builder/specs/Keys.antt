-- Sides and edges as numbers, and the numbers that occur often among ascending numbers.
use Rattle.std.specs.Prelude.{◌≡◌, ℕ, ◌+◌, ◌*◌, ◌/◌, ◌%◌, ◌^◌, ◌<◌, Bool, true, false, not, ◌&&◌, ◌||◌, nat_eq, nat_le, nat_lt, List, [], ◌∷◌, length, map, get_or, IsTrue, if◌then◌else◌}
use Rattle.std.specs.List.{list_all, count_by, position_or_len}
use Rattle.subdiv_model.specs.Polygons.{is_among}
use Rattle.subdiv_model.specs.Edges.{reversed}
use Rattle.level_builder.specs.NumberedEdges.{low_first}

-- both ends fit 32 bits
abbrev pub IsWord : ℕ × ℕ → Type 0
IsWord s = (s.0 < 2 ^ 32) × (s.1 < 2 ^ 32)

-- both ends of each side fit 32 bits
abbrev pub AreWords : List (ℕ × ℕ) → Type 0
AreWords [] = Unit {0}
AreWords (s ∷ sides) = IsWord s × AreWords sides

-- a side as one number: its first end is the high half
abbrev pub side_key : ℕ × ℕ → ℕ
side_key s = s.0 * 2 ^ 32 + s.1

-- an edge as one number, the same in both directions
abbrev pub edge_key : ℕ × ℕ → ℕ
edge_key s = side_key (low_first s)

-- the number of a side, or that of its edge if directions do not count
abbrev pub key_by : Bool → ℕ × ℕ → ℕ
key_by directed s = if directed then side_key s else edge_key s

-- the numbers ascend, and some may be equal
abbrev pub Rises : List ℕ → Type 0
Rises [] = Unit {0}
Rises (n ∷ numbers) = IsTrue (list_all (nat_le n) numbers) × Rises numbers

-- the number `gap` places after the first is n
abbrev pub is_again : ℕ → List ℕ → ℕ → Bool
is_again gap numbers n = nat_lt gap (length numbers) && nat_eq (get_or numbers gap 0) n

-- the numbers that occur again `gap` places later; among ascending numbers, those that occur more than `gap` times
abbrev pub repeats : ℕ → List ℕ → List ℕ
repeats gap [] = []
repeats gap (n ∷ numbers) = if is_again gap (n ∷ numbers) n then n ∷ repeats gap numbers else repeats gap numbers

-- one of the numbers equals the one before it; the first argument comes before the list
abbrev pub has_equal_after : ℕ → List ℕ → Bool
has_equal_after n [] = false
has_equal_after n (m ∷ numbers) = nat_eq n m || has_equal_after m numbers

-- two neighbours are equal; among ascending numbers, one occurs twice
abbrev pub has_equal_neighbours : List ℕ → Bool
has_equal_neighbours [] = false
has_equal_neighbours (n ∷ numbers) = has_equal_after n numbers

-- the numbers that equal neither neighbour; the first argument says whether the first number equals the one before it. Among
-- ascending numbers these occur once.
abbrev pub unrepeated_after : Bool → List ℕ → List ℕ
unrepeated_after again [] = []
unrepeated_after again (n ∷ numbers) = if not again && not (is_again 1 (n ∷ numbers) n) then n ∷ unrepeated_after (is_again 1 (n ∷ numbers) n) numbers else unrepeated_after (is_again 1 (n ∷ numbers) n) numbers

-- the ends of the edge with a number
abbrev pub ends_of_key : ℕ → List ℕ
ends_of_key key = key / 2 ^ 32 ∷ key % 2 ^ 32 ∷ []

-- the numbers that differ from the one after them; of ascending numbers, each once
abbrev pub each_once : List ℕ → List ℕ
each_once [] = []
each_once (n ∷ numbers) = if is_again 1 (n ∷ numbers) n then each_once numbers else n ∷ each_once numbers

-- the numbers of the edges of sides, ascending; an edge occurs once for each of its sides
pub record AreEdgeKeys (sides : List (ℕ × ℕ)) (keys : List ℕ) : Type 0 where
  pub words : AreWords sides
  pub rises : Rises keys
  pub often : (n : ℕ) → count_by (nat_eq n) keys ≡ count_by (nat_eq n) (map edge_key sides)

-- the side or its reverse is among the known numbers of sides; if directions do not count, its edge is among those of edges
abbrev pub is_named : Bool → List ℕ → ℕ × ℕ → Bool
is_named true known s = is_among known (side_key s) || is_among known (side_key (reversed s))
is_named false known s = is_among known (edge_key s)

-- the number is one of the keys, and the mark at its place is not 1
abbrev pub is_unmarked : List ℕ → List ℕ → ℕ → Bool
is_unmarked keys marks n = is_among keys n && not (nat_eq (get_or marks (position_or_len (nat_eq n) keys) 0) 1)
