use Rattle.std.proofs.Common.{◌≡◌, ◌≤◌, map, vec_len}
use Rattle.std.specs.List.{range_with_len}
use Rattle.std.specs.Vec.{vec_capacity}
use Rattle.sparse_laws.specs.Written.{kind_in}
use Rattle.sparse_level.specs.View.{level_of}
use Rattle.sparse_level.specs.Places.{marked}
use Rattle.sparse_level.specs.Faces.{kind_of}
use Rattle.sparse_level.proofs.kind.put_kinds.Given as goal

-- the kinds of the faces so far
abbrev pub invariant-loop-f : goal.invariant-loop-f
invariant-loop-f l = record {
  kinds : map kind_of l.kinds.items ≡ map (kind_in (level_of l.sparse) (marked l.selected)) (range_with_len 0 l.f);
  put : vec_len l.kinds ≡ l.f;
  room : l.faces ≤ vec_capacity l.kinds;
}
