-- The second of the two meshes goes on from level 1 of the first.
use Rattle.std.proofs.Common.{arith, refl}
use Rattle.subdiv_model.specs.Mask.{CatmullClark}
use Rattle.mesh_laws.proofs.WalkLemmas.{manifold-decides}
use Rattle.level_laws.specs.Tags.{HasProperTags}
use Rattle.mask_laws.specs.Laws.{IsManifoldMesh, mesh_level}
use Rattle.continued_laws.specs.Laws.{HasTagsOf, IsContinuation}
use Rattle.continued_laws.specs.Examples.{tagged_quads, quads_after_a_step}

manifold : IsManifoldMesh tagged_quads
manifold = record { manifold = (manifold-decides 6 tagged_quads.faces).0 refl; over_points = refl }

proper : HasProperTags tagged_quads
proper = record { creases = refl; corner_tags = refl }

tags : HasTagsOf (mesh_level tagged_quads 1) quads_after_a_step
tags = record { points = refl; faces = refl; creases = refl; corner_tags = refl; holes = refl; boundary = refl; method = refl }

pub quads-go-on : IsContinuation CatmullClark 1 tagged_quads quads_after_a_step
quads-go-on = record {
  manifold = manifold;
  proper = proper;
  first_common = omega arith;
  second_common = omega arith;
  tags = tags;
  points = (record { x = refl; y = refl; z = refl }, (record { x = refl; y = refl; z = refl }, (record { x = refl; y = refl; z = refl }, (record { x = refl; y = refl; z = refl }, (record { x = refl; y = refl; z = refl }, (record { x = refl; y = refl; z = refl }, (record { x = refl; y = refl; z = refl }, (record { x = refl; y = refl; z = refl }, (record { x = refl; y = refl; z = refl }, (record { x = refl; y = refl; z = refl }, (record { x = refl; y = refl; z = refl }, (record { x = refl; y = refl; z = refl }, (record { x = refl; y = refl; z = refl }, (record { x = refl; y = refl; z = refl }, (record { x = refl; y = refl; z = refl }, tt)))))))))))))));
}
