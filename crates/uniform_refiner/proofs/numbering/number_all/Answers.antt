use Rattle.std.proofs.Common.{map}
use Rattle.level_topology.specs.ChildTables.{place_of}
use Rattle.uniform_refiner.proofs.WholeEdgeLemmas.{listed-part}
use Rattle.uniform_refiner.proofs.numbering.number_all.Goals as goal

pub number_edges-requires-clause-part : goal.number_edges-requires-clause-part
number_edges-requires-clause-part c = listed-part c.args.level.now.level.point_count c.args.level.now.level.polygons (map place_of c.args.places.now) c.requires.places
