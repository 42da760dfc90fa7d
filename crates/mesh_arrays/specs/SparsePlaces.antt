-- Sparse levels in a caller's arrays: the lengths of the arrays, and what they contain.
use Rattle.std.specs.Prelude.{ℕ, ◌≡◌, ◌*◌, ◌&&◌, Bool, List, nat_le, length, map}
use Rattle.std.specs.List.{All, sum_by}
use Rattle.ratio128.specs.declared.point.Point3.{Point3}
use Rattle.sparse_level.specs.declared.values.SparseValues.{SparseValues}
use Rattle.flat_arrays.specs.Places.{IsSameArray}
use Rattle.flat_arrays.specs.Words.{integer_of, natural_of}
use Rattle.mesh_arrays.specs.Points.{CanBePut}
use Rattle.mesh_arrays.specs.SparseFlat.{with_front, point_count, face_count, corner_count, kinds_of, numbers_of, sizes_of, corners_of, numerators_of, denominators_of}
use Rattle.mesh_arrays.specs.declared.sparse_counts.SparseCounts.{SparseCounts}
use Rattle.mesh_arrays.specs.declared.sparse_places.SparsePlaces.{SparsePlaces}

-- the number of levels, and the number of their points, faces and corners
abbrev pub counts_of : List (SparseValues Point3) → SparseCounts
counts_of levels = record {
  levels = length levels;
  points = sum_by point_count levels;
  faces = sum_by face_count levels;
  corners = sum_by corner_count levels;
}

-- the arrays are long enough for these sizes; each point needs three numerators
abbrev pub are_long_enough : SparseCounts → SparsePlaces → Bool
are_long_enough counts places =
    nat_le counts.levels (length places.level_points.now)
    && (nat_le counts.levels (length places.level_faces.now)
    && (nat_le counts.faces (length places.kinds.now)
    && (nat_le counts.faces (length places.numbers.now)
    && (nat_le counts.faces (length places.sizes.now)
    && (nat_le counts.corners (length places.corners.now)
    && (nat_le (3 * counts.points) (length places.numerators.now)
    && nat_le counts.points (length places.denominators.now)))))))

-- the level has a value for each of its points, and the values are within their bounds
pub record CanLevelBePut (common : ℕ) (level : SparseValues Point3) : Type 0 where
  pub valued : length level.values.items ≡ level.faces.point_count
  pub put : All (CanBePut common) level.values.items

-- the arrays have the levels at their front, and later places are unchanged
pub record IsWritten (levels : List (SparseValues Point3)) (common : ℕ) (old new : SparsePlaces) : Type 0 where
  pub level_points : new.level_points.now ≡ with_front (map point_count levels) old.level_points.now
  pub level_faces : new.level_faces.now ≡ with_front (map face_count levels) old.level_faces.now
  pub kinds : new.kinds.now ≡ with_front (kinds_of levels) old.kinds.now
  pub numbers : new.numbers.now ≡ with_front (numbers_of levels) old.numbers.now
  pub sizes : new.sizes.now ≡ with_front (sizes_of levels) old.sizes.now
  pub corners : new.corners.now ≡ with_front (corners_of levels) old.corners.now
  pub numerators : map integer_of new.numerators.now ≡ with_front (numerators_of levels) (map integer_of old.numerators.now)
  pub denominators : map natural_of new.denominators.now ≡ with_front (denominators_of common levels) (map natural_of old.denominators.now)

-- the arrays are the same arrays, with the same lengths
pub record AreSamePlaces (old new : SparsePlaces) : Type 0 where
  pub level_points : IsSameArray old.level_points new.level_points
  pub level_faces : IsSameArray old.level_faces new.level_faces
  pub kinds : IsSameArray old.kinds new.kinds
  pub numbers : IsSameArray old.numbers new.numbers
  pub sizes : IsSameArray old.sizes new.sizes
  pub corners : IsSameArray old.corners new.corners
  pub numerators : IsSameArray old.numerators new.numerators
  pub denominators : IsSameArray old.denominators new.denominators
