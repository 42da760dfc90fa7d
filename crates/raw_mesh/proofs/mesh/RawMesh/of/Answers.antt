use Rattle.raw_mesh.proofs.LawLemmas.{whole-mesh}
use Rattle.raw_mesh.proofs.mesh.RawMesh.of.Goals as goal

pub invariant_of-result : goal.invariant_of-result
invariant_of-result c = record {
  short = c.requires.short;
  whole = whole-mesh _ _ _ c.args.faces c.args.tags c.requires.whole c.has_texture-has_texture.ensures;
}
