use Rattle.std.proofs.Common.{◌≤◌, length, take}
use Rattle.std.specs.List.{sum_by}
use Rattle.std.specs.Vec.{vec_capacity}
use Rattle.point_fans.specs.Chains.{ArePlaces}
use Rattle.point_fans.proofs.rows.places_of.Given as goal

-- the lists before this one are placed, and there is room for all
abbrev pub invariant-loop-i : goal.invariant-loop-i
invariant-loop-i l = record {
  placed : ArePlaces (take l.i l.lists.lists) l.places.items.items l.places.owners.items l.places.within.items;
  items_fit : sum_by length l.lists.lists ≤ vec_capacity l.places.items;
  owners_fit : sum_by length l.lists.lists ≤ vec_capacity l.places.owners;
  places_fit : sum_by length l.lists.lists ≤ vec_capacity l.places.within;
}
