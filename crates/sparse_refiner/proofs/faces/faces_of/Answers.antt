use Rattle.std.proofs.Common.{◌∙◌, map, sym}
use Rattle.std.proofs.lemmas.List.{length-map}
use Rattle.level_topology.specs.ChildTables.{place_of}
use Rattle.child_slots.specs.Parts.{part}
use Rattle.sparse_refiner.proofs.PutLemmas.{no-faces}
use Rattle.sparse_refiner.proofs.faces.faces_of.Goals as goal

pub put_faces-requires-clause-none : goal.put_faces-requires-clause-none
put_faces-requires-clause-none g c =
    let places = map place_of c.args.shape.now.places.now in
    let p = part places (g.P.ChildPoints.has c.args.shape.now.points.now) (g.P.ChildPoints.number c.args.shape.now.points.now) in
    c.in_ok-faces.ensures ∙ no-faces c.args.shape.now.level.now.level p _ (sym (length-map c.args.shape.now.places.now place_of))
