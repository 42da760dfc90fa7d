use Rattle.std.proofs.Common.{◌≡◌, length, map, take}
use Rattle.std.specs.List.{sum_by}
use Rattle.flat_arrays.specs.Words.{integer_of, natural_of}
use Rattle.mesh_arrays.specs.SparseFlat.{denominators_of, numerators_of, value_count, with_front}
use Rattle.mesh_arrays.proofs.sparse_points.put_points.Given as goal

-- the points of the levels so far
abbrev pub invariant-loop-level : goal.invariant-loop-level
invariant-loop-level l = record {
  at : l.at ≡ sum_by value_count (take l.level-index l.levels);
  numerators : map integer_of l.numerators ≡ with_front (numerators_of (take l.level-index l.levels)) (map integer_of l.fn.numerators);
  denominators : map natural_of l.denominators ≡ with_front (denominators_of l.common (take l.level-index l.levels)) (map natural_of l.fn.denominators);
  len : length l.numerators ≡ length l.fn.numerators;
  dens_len : length l.denominators ≡ length l.fn.denominators;
}
