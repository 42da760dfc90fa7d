-- The lines of sparse levels.
use Rattle.std.specs.Prelude.{ℕ, ◌+◌, ◌≤◌, List, map, Option, IfSome}
use Rattle.std.specs.List.{All, flat_map, enumerate_from, range_with_len}
use Rattle.subdiv_model.specs.Level.{Level}
use Rattle.subdiv_model.specs.Refined.{Point}
use Rattle.subdiv_model.specs.Sparse.{FacePredicate}
use Rattle.subdiv_model.specs.SparseText.{WrittenLevel, points_with, sparse_level_text, written_level, written_points}
use Rattle.ratio128.specs.declared.point.Point3.{Point3}
use Rattle.sparse_level.specs.declared.values.SparseValues.{SparseValues}
use Rattle.far_text.specs.Points.{CanBeWritten, points_of}
use Rattle.far_text.specs.declared.sparse.SparseMesh.{SparseMesh}

-- the written part of a level, and its points
pub record PointedLevel : Type 0 where
  pub written : WrittenLevel
  pub points : List Point

-- a written level with its points
abbrev pub pointed : WrittenLevel → List Point → PointedLevel
pointed written points = record { written = written; points = points }

-- the written part of each level up to a depth, with its points
abbrev pub pointed_levels : (ℕ → List Point) → Level → FacePredicate → ℕ → List PointedLevel
pointed_levels points base predicate depth =
    map (λ j. pointed (written_level base predicate j) (points_with (points j) (written_points base predicate j))) (range_with_len 0 (depth + 1))

-- the lines of a numbered sparse level
abbrev pub numbered_level : Option ℕ → ℕ × PointedLevel → List ℕ
numbered_level decimals level = sparse_level_text decimals level.0 level.1.written level.1.points

-- the lines of sparse levels, numbered from the first number
abbrev pub sparse_lines : Option ℕ → ℕ → List PointedLevel → List ℕ
sparse_lines decimals first levels = flat_map (numbered_level decimals) (enumerate_from first levels)

-- the levels of a mesh with their points over a common denominator
abbrev pub level_over : ℕ → SparseValues Point3 → PointedLevel
level_over common level = pointed level.faces (points_of common level.values.items)

-- the text of the sparse levels of a mesh
abbrev pub sparse_mesh_text : SparseMesh → List ℕ
sparse_mesh_text mesh = sparse_lines mesh.decimals 0 (map (level_over mesh.common) mesh.levels.items)

-- all numbers of the mesh can be written
pub record CanSparseBePut (mesh : SparseMesh) : Type 0 where
  pub written : All (λ level. All (CanBeWritten mesh.common) level.values.items) mesh.levels.items
  pub decimals : IfSome mesh.decimals (λ digits. digits ≤ 18)
