-- The growth of a map by the levels of a walk.
use Rattle.std.specs.Prelude.{◌≡◌, nat_eq, if◌then◌else◌}
use Rattle.patch_map.specs.Map.{LevelMap, Rises, grown}
use Rattle.sparse_walk.specs.View.{Walked}

-- the map after one more level of the walk; it has level 0 already
abbrev pub with_level : LevelMap → Walked → LevelMap
with_level before walked =
    if nat_eq walked.sparse.depth 0 then before else grown before walked.before walked.sparse.depth walked.sparse.numbers

-- the map has one more level, and the numbers of its first children never decrease
abbrev pub IsWithLevel : LevelMap → Walked → LevelMap → Type 0
IsWithLevel before walked after = Rises before.starts → after ≡ with_level before walked
