-- Marks in a list, and a tree over them: the root is node 1, and node i has the children 2i and 2i + 1.
use Rattle.std.specs.Prelude.{ℕ, ◌≡◌, ◌+◌, ◌*◌, ◌<◌, ◌≤◌, ◌^◌, Bool, true, false, ◌||◌, List, length, get_or, take, drop, Option}
use Rattle.std.specs.List.{count_by, position}
use Rattle.std.specs.Int.{IsPowerOfTwo}

-- The least marked number.
abbrev pub least_mark : List Bool → Option ℕ
least_mark marks = position (λ is_marked. is_marked) marks

-- How many numbers are marked.
abbrev pub mark_count : List Bool → ℕ
mark_count marks = count_by (λ is_marked. is_marked) marks

-- A node is marked exactly if one of its children is.
abbrev pub IsJoined : List Bool → ℕ → Type 0
IsJoined tree node = get_or tree node false ≡ (get_or tree (2 * node) false || get_or tree (2 * node + 1) false)

-- A tree over `leaves` leaves in which every node but `broken` agrees with its children.
pub record IsTreeBut (broken leaves : ℕ) (tree : List Bool) : Type 0 where
  pub power : IsPowerOfTwo leaves
  pub long : length tree ≡ 2 * leaves
  pub joined : (node : ℕ) → 0 < node → node < leaves → (node ≡ broken → ⊥) → IsJoined tree node

-- A tree in which every node agrees with its children; no node has the number 0.
abbrev pub IsTree : ℕ → List Bool → Type 0
IsTree leaves tree = IsTreeBut 0 leaves tree

-- The first `len` leaves are the marks of the numbers, and no other leaf is marked.
pub record AreMarks (len leaves marked : ℕ) (tree : List Bool) : Type 0 where
  pub nodes : IsTree leaves tree
  pub small : len < 2 ^ 32
  pub fits : len ≤ leaves
  pub past : (number : ℕ) → len ≤ number → get_or (drop leaves tree) number false ≡ false
  pub counted : marked ≡ mark_count (take len (drop leaves tree))

-- The node is the first marked one of its row. The row begins at node `first`, `height` rows above the leaves.
pub record IsFirstInRow (leaves node : ℕ) (tree : List Bool) : Type 0 where
  pub first : ℕ
  pub height : ℕ
  pub row : leaves ≡ first * 2 ^ height
  pub low : first ≤ node
  pub high : node < 2 * first
  pub marked : get_or tree node false ≡ true
  pub before : (other : ℕ) → first ≤ other → other < node → get_or tree other false ≡ false
