use Rattle.mesh_arrays.proofs.MeshLemmas.{good-creases, good-corner-tags}
use Rattle.mesh_arrays.proofs.mesh.tags_of.Goals as goal

pub creases_of-requires : goal.creases_of-requires
creases_of-requires c = good-creases c.args.arrays.now c.requires

pub corner_tags_of-requires : goal.corner_tags_of-requires
corner_tags_of-requires c = good-corner-tags c.args.arrays.now c.requires
