-- The counts of this crate in the terms of the definitions.
use Rattle.level_walk.specs.declared.counts.LevelCounts.{LevelCounts}
use Rattle.level_walk.specs.Counts.{Counts}

abbrev pub seen_counts : LevelCounts → Counts
seen_counts c = record {
  points = c.points;
  edges = c.edges;
  faces = c.faces;
  euler = c.euler;
  boundary = c.boundary;
  holes = c.holes;
  sharp = c.sharp;
  extraordinary = c.extraordinary;
}
