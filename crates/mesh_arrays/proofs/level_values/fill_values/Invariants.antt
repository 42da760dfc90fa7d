use Rattle.std.proofs.Common.{◌≡◌, ◌*◌, map, take}
use Rattle.flat_arrays.specs.Words.{integer_of}
use Rattle.mesh_arrays.specs.Values.{all_value_numerators}
use Rattle.mesh_arrays.proofs.level_values.fill_values.Given as goal

-- the numerators of the values before this one are written
abbrev pub invariant-loop-place : goal.invariant-loop-place
invariant-loop-place l = map integer_of (take (2 * l.place) l.out) ≡ all_value_numerators (take l.place l.values)
