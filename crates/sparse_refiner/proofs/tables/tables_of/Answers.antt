use Rattle.sparse_refiner.proofs.PutLemmas.{places-within}
use Rattle.sparse_refiner.proofs.tables.tables_of.Goals as goal

pub hole_marks-requires : goal.hole_marks-requires
hole_marks-requires g c = places-within c.args.shape.now.level.now.level.polygons c.args.shape.now.places.now c.requires.edges.part.within
