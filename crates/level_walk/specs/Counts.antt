-- The counts of a level, and of all levels to a depth.
use Rattle.std.specs.Prelude.{ℕ, ◌+◌, ℤ, List, length, map}
use Rattle.std.specs.List.{range_with_len}
use Rattle.subdiv_model.specs.Edges.{edges_of}
use Rattle.subdiv_model.specs.Level.{Level}
use Rattle.subdiv_model.specs.Child.{refined_level}
use Rattle.subdiv_model.specs.LevelText.{euler_number, boundary_edges, hole_count, sharp_edges, extraordinary_vertices}

pub record Counts : Type 0 where
  pub points : ℕ
  pub edges : ℕ
  pub faces : ℕ
  pub euler : ℤ
  pub boundary : ℕ
  pub holes : ℕ
  pub sharp : ℕ
  pub extraordinary : ℕ

abbrev pub counts_of : Level → Counts
counts_of level = record {
  points = level.point_count;
  edges = length (edges_of level.polygons);
  faces = length level.polygons;
  euler = euler_number level;
  boundary = boundary_edges level;
  holes = hole_count level;
  sharp = sharp_edges level;
  extraordinary = extraordinary_vertices level;
}

-- the counts of the levels from 0 to a depth
abbrev pub counts_to : Level → ℕ → List Counts
counts_to base depth = map (λ k. counts_of (refined_level base k)) (range_with_len 0 (depth + 1))
