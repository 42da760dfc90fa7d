use Rattle.std.proofs.Common.{◌≤◌, ◌*◌, length, take, map}
use Rattle.std.specs.Vec.{vec_capacity}
use Rattle.point_fans.specs.Chains.{ArePlaces}
use Rattle.level_topology.specs.ListPlaces.{pair_list}
use Rattle.point_fans.proofs.rows.places_of_ends.Given as goal

-- the pairs before this one are placed, and there is room for all
abbrev pub invariant-loop-e : goal.invariant-loop-e
invariant-loop-e l = record {
  placed : ArePlaces (map pair_list (take l.e l.ends)) l.places.items.items l.places.owners.items l.places.within.items;
  items_fit : 2 * length l.ends ≤ vec_capacity l.places.items;
  owners_fit : 2 * length l.ends ≤ vec_capacity l.places.owners;
  places_fit : 2 * length l.ends ≤ vec_capacity l.places.within;
}
