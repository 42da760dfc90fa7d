-- Sparse levels in the terms of contracts.
use Rattle.std.specs.Prelude.{ℕ, ◌≡◌, ◌*◌, ◌^◌, ◌<◌, ◌≤◌, Bool, true, List, length, replicate}
use Rattle.std.specs.List.{All, range_with_len}
use Rattle.level_topology.specs.Topology.{Topology}
use Rattle.level_topology.specs.Child.{ChildTopology}
use Rattle.sparse_laws.specs.SparseLevels.{SparseLevel, AreInnerComplete}

-- Some faces of a level. Each has its number in the uniform level, and a mark whether its parent is selected. `depth` is the
-- number of steps from level 0.
pub record SparseTopology : Type 0 where
  pub topology : Topology
  pub numbers : List ℕ
  pub inner : List Bool
  pub depth : ℕ

abbrev pub sparse_topology : Topology → List ℕ → List Bool → ℕ → SparseTopology
sparse_topology topology numbers inner depth = record { topology = topology; numbers = numbers; inner = inner; depth = depth }

-- the sparse level of the definitions
abbrev pub level_of : SparseTopology → SparseLevel
level_of t = record { level = t.topology.level; complete = t.topology.complete; numbers = t.numbers; inner = t.inner; depth = t.depth }

-- the next sparse level as a child, and the marks of the selected faces of the level before
pub record SparseChild : Type 0 where
  pub child : ChildTopology
  pub selected : List Bool
  pub numbers : List ℕ
  pub inner : List Bool
  pub depth : ℕ

abbrev pub sparse_child : ChildTopology → List Bool → List ℕ → List Bool → ℕ → SparseChild
sparse_child child selected numbers inner depth = record { child = child; selected = selected; numbers = numbers; inner = inner; depth = depth }

-- the next sparse level without its tables
abbrev pub next_of : SparseChild → SparseTopology
next_of c = sparse_topology c.child.topology c.numbers c.inner c.depth

-- Each face has a number and a mark, and the corners of inner faces are complete. After level 0 all faces are quads, so each
-- number is below 2^28 * 4^depth: level 0 has fewer than 2^28 corners.
pub record IsSparseTopology (t : SparseTopology) : Type 0 where
  pub numbers_listed : length t.numbers ≡ length t.topology.level.polygons
  pub inner_listed : length t.inner ≡ length t.topology.level.polygons
  pub inside : AreInnerComplete (level_of t)
  pub deep : t.depth ≤ 10
  pub small : All (λ n. n < 2 ^ 28 * 4 ^ t.depth) t.numbers
  pub quads : 1 ≤ t.depth → All (λ polygon. length polygon ≡ 4) t.topology.level.polygons

-- sparse level 0, which has the whole level
abbrev pub base_of : Topology → SparseTopology
base_of t = sparse_topology t (range_with_len 0 (length t.level.polygons)) (replicate (length t.level.polygons) true) 0
