-- The arrays of a caller for a level: their lengths, and their contents after the write.
use Rattle.std.specs.Prelude.{◌≡◌, ◌*◌, ◌&&◌, Bool, nat_le, length, map, take, drop}
use Rattle.std.specs.List.{sum_by}
use Rattle.subdiv_model.specs.Edges.{edges_of}
use Rattle.subdiv_model.specs.Level as model
use Rattle.level_topology.specs.Topology.{Topology}
use Rattle.mesh_arrays.specs.Flat.{corners_of, ends_of, marks_of}
use Rattle.mesh_arrays.specs.declared.level_counts.LevelCounts.{LevelCounts}
use Rattle.mesh_arrays.specs.declared.level_places.LevelPlaces.{LevelPlaces}

-- The numbers of points, edges, faces and corners of a level.
abbrev pub counts_of : Topology → LevelCounts
counts_of level = record {
  points = level.level.point_count;
  edges = length (edges_of level.level.polygons);
  faces = length level.level.polygons;
  corners = sum_by length level.level.polygons;
}

-- Whether each array has a place for each item, with two places for each edge.
abbrev pub are_long_enough : LevelCounts → LevelPlaces → Bool
are_long_enough counts places =
    nat_le counts.faces (length places.face_sizes.now)
    && (nat_le counts.corners (length places.corners.now)
    && (nat_le (2 * counts.edges) (length places.edges.now) && nat_le counts.faces (length places.holes.now)))

-- The arrays begin with the sizes of the faces, their corners, the ends of the edges, and the marks of holes.
pub record IsWritten (level : model.Level) (places : LevelPlaces) : Type 0 where
  pub face_sizes : take (length level.polygons) places.face_sizes.now ≡ map length level.polygons
  pub corners : take (sum_by length level.polygons) places.corners.now ≡ corners_of level.polygons
  pub edges : take (2 * length (edges_of level.polygons)) places.edges.now ≡ ends_of (edges_of level.polygons)
  pub holes : take (length level.polygons) places.holes.now ≡ marks_of level.holes

-- Behind the places of these items the arrays keep their contents.
pub record IsRestKept (counts : LevelCounts) (old new : LevelPlaces) : Type 0 where
  pub face_sizes : drop counts.faces new.face_sizes.now ≡ drop counts.faces old.face_sizes.now
  pub corners : drop counts.corners new.corners.now ≡ drop counts.corners old.corners.now
  pub edges : drop (2 * counts.edges) new.edges.now ≡ drop (2 * counts.edges) old.edges.now
  pub holes : drop counts.faces new.holes.now ≡ drop counts.faces old.holes.now
