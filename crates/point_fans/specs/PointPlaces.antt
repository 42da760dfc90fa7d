-- The places of the points of a level among the corners of its faces and the ends of its edges.
use Rattle.std.specs.Prelude.{ℕ, List, map}
use Rattle.subdiv_model.specs.Polygons.{Polygon}
use Rattle.subdiv_model.specs.Edges.{edges_of}
use Rattle.point_fans.specs.declared.places.Chained.{Chained}
use Rattle.point_fans.specs.declared.finish.PointPlaces.{PointPlaces}
use Rattle.point_fans.specs.Chains.{AreChained}
use Rattle.level_topology.specs.ListPlaces.{pair_list}
use Rattle.point_fans.specs.Built.{Built}

-- The places of these lists, with the chains of all numbers below a limit.
abbrev pub AreChainedIn : List Polygon → ℕ → Chained → Type 0
AreChainedIn lists limit c = AreChained lists limit c.places.items.items c.places.owners.items c.places.within.items c.chains.firsts.items c.chains.next.items

-- The places of all points, among the corners of faces and among the ends of edges.
pub record ArePointPlaces (built : Built) (places : PointPlaces) : Type 0 where
  pub corners : AreChainedIn built.level.polygons built.level.point_count places.faces
  pub ends : AreChainedIn (map pair_list (edges_of built.level.polygons)) built.level.point_count places.edges
