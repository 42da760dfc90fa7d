use Rattle.raw_mesh.proofs.QuadLemmas.{quads-kept, quads-mesh}
use Rattle.raw_mesh.proofs.mesh.RawMesh.of_quads.Goals as goal

pub invariant_of-result : goal.invariant_of-result
invariant_of-result c =
    quads-kept c.args.points.items c.args.corners.items c.args.creases.items _ _ _ c.coordinates.ensures c.in_ok-faces.ensures c.tags.ensures c.requires.short c.requires.quads
    c.requires.few c.requires.vertices c.requires.crease_ends

pub returns : goal.returns
returns c =
    quads-mesh c.args.points.items c.args.corners.items c.args.creases.items _ _ _ c.coordinates.ensures c.in_ok-faces.ensures c.tags.ensures c.requires.quads
