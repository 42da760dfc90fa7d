use Rattle.std.proofs.Common.{◌≡◌, ◌++◌, ◌+◌, take, replicate, vec_len}
use Rattle.std.specs.Vec.{vec_capacity}
use Rattle.std.specs.List.{range_with_len}
use Rattle.point_fans.proofs.places.Places.add.Given as goal

-- the items before this one are put
abbrev pub invariant-loop-c : goal.invariant-loop-c
invariant-loop-c l = record {
  items : l.self.items.items ≡ l.fn.self.items.items ++ take l.c l.list;
  owners : l.self.owners.items ≡ l.fn.self.owners.items ++ replicate l.c l.owner;
  within : l.self.within.items ≡ l.fn.self.within.items ++ range_with_len 0 l.c;
  item_count : vec_len l.self.items ≡ vec_len l.fn.self.items + l.c;
  owner_count : vec_len l.self.owners ≡ vec_len l.fn.self.owners + l.c;
  place_count : vec_len l.self.within ≡ vec_len l.fn.self.within + l.c;
  item_capacity : vec_capacity l.self.items ≡ vec_capacity l.fn.self.items;
  owner_capacity : vec_capacity l.self.owners ≡ vec_capacity l.fn.self.owners;
  place_capacity : vec_capacity l.self.within ≡ vec_capacity l.fn.self.within;
}
